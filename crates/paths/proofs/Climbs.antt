-- One step up from a node, and what a known path says. Assumes nothing.
use Rattle.std.proofs.Common.{◌≡◌, ℕ, suc, ◌+◌, ◌<◌, ◌≤◌, true, false, ◌⊎◌, List, [], ◌∷◌, ◌++◌, length, drop, set, Some, sym, refl, ap, ◌∙◌, inl, inr, append_assoc, arith, length-set}
use Rattle.std.proofs.lemmas.Bool.{cases_Bool}
use Rattle.std.proofs.lemmas.List.{drop-set}
use Rattle.std.proofs.lemmas.Option.{none-some}
use Rattle.model.specs.Nodes.{class}
use Rattle.model.specs.Asks.{Frame, Spot, sort_of, is_value, tally}
use Rattle.model.specs.State.{parent_spot}
use Rattle.tree.specs.declared.node.Node.{Node}
use Rattle.tree.specs.Steps.{spot, spots_up, ancestor_spots}
use Rattle.paths.specs.Ways.{path_of, measured}
use Rattle.paths.proofs.Ordinals.{ordinals, ordinals_length}
use Rattle.paths.proofs.Grounds.{no_root_path, no_path, path_is, ups_few}

-- only the root has no parent
pub top : (s : Spot) (us : List Frame) → spots_up s us ≡ [] → us ≡ []
top s [] e = refl
top s (f ∷ us) e = let z : ◌≡◌ {A = ℕ} 0 1 = cc in absurd (omega arith)

-- the parent p stands where the first of the ancestors does, and its ancestors are the others
pub risen : (s p : Spot) (rs : List Spot) (us : List Frame) → spots_up s us ≡ p ∷ rs → (f : Frame) × (vs : List Frame) × (us ≡ f ∷ vs) × (p ≡ parent_spot s f vs) × (rs ≡ ancestor_spots p)
risen s p rs [] e = let z : ◌≡◌ {A = ℕ} 0 1 = cc in absurd (omega arith)
risen s p rs (f ∷ us) e =
    let z : parent_spot s f us ≡ p = cc in
    let r : ancestor_spots (parent_spot s f us) ≡ rs = cc in
    (f, us, refl, sym z, sym r ∙ ap ancestor_spots z)

-- the ordinals of a node are its parent's and its own
split : (f g : Frame) (vs : List Frame) → 1 < length (g ∷ vs) → ordinals f (g ∷ vs) ≡ ordinals g vs ++ tally is_value f.before ∷ []
split f g [] e = absurd (omega arith)
split f g (h ∷ vs) e = refl

-- one ordinal more is written: that at n, where p is the parent
pub climbed : (s p : Spot) (rs : List Spot) (n v : ℕ) (xs zs : List ℕ) → ancestor_spots s ≡ p ∷ rs → length s.ups ≡ suc (suc n) → n < length xs → ordinals s.here s.ups ++ drop (suc n) xs ≡ zs → v ≡ tally is_value s.here.before
    → (length p.ups ≡ suc n) × (n ≤ length (set xs n v)) × (ordinals p.here p.ups ++ drop n (set xs n v) ≡ zs) × (rs ≡ ancestor_spots p)
climbed s p rs n v xs zs u m h e w =
    let a = risen s p rs s.ups u in
    let f = a.0 in
    let vs = a.1 in
    let b : length p.ups ≡ length vs = ap (λ y. length y.ups) a.3 in
    let d : length s.ups ≡ length (f ∷ vs) = ap length a.2 in
    let z : n + 1 ≡ suc n = omega arith in
    let g : drop n (set xs n v) ≡ v ∷ drop (suc n) xs = drop-set xs n v h ∙ ap (λ y. v ∷ drop y xs) z in
    let o : ordinals s.here s.ups ≡ ordinals f vs ++ v ∷ [] = ap (ordinals s.here) a.2 ∙ (split s.here f vs (omega arith) ∙ ap (λ y. ordinals f vs ++ y ∷ []) (sym w)) in (
      omega arith,
      omega (arith, length-set xs n v),
      (λ t. ordinals (a.3 t).here (a.3 t).ups ++ drop n (set xs n v)) ∙ (ap (λ y. ordinals f vs ++ y) g ∙ (sym (append_assoc (ordinals f vs) (v ∷ []) (drop (suc n) xs)) ∙ (ap (λ y. y ++ drop (suc n) xs) (sym o) ∙ e))),
      a.4,
    )

-- a node whose path has so many ordinals has the path of its ordinals, and so many ancestors above its parent
pub known : (n : Node) (k : ℕ) → measured (path_of n) ≡ Some k → (path_of n ≡ Some (ordinals (spot n).here (spot n).ups)) × (length (spot n).ups ≡ suc k)
known n k e = go (spot n).ups refl (cases_Bool (is_value (class (sort_of (spot n)))))
  where
    go : (us : List Frame) → (spot n).ups ≡ us → (is_value (class (sort_of (spot n))) ≡ true) ⊎ (is_value (class (sort_of (spot n))) ≡ false)
        → (path_of n ≡ Some (ordinals (spot n).here (spot n).ups)) × (length (spot n).ups ≡ suc k)
    go us u (inr v) = absurd (none-some k (sym (ap measured (no_path n v)) ∙ e))
    go [] u (inl v) = absurd (none-some k (sym (ap measured (no_root_path n u)) ∙ e))
    go (g ∷ us) u (inl v) =
        let p = path_is n g us u v in
        let q : Some (length (ordinals (spot n).here (g ∷ us))) ≡ Some k = ap (λ y. Some (length (ordinals (spot n).here y))) (sym u) ∙ (sym (ap measured p) ∙ e) in
        let z : length (ordinals (spot n).here (g ∷ us)) ≡ k = cc in
        (p, omega (arith, ap length u, ordinals_length (spot n).here g us))

-- how long the path of a value below a parent is
pub measured_is : (n p : Node) (k : ℕ) → is_value (class (sort_of (spot n))) ≡ true → spot p ∷ ancestor_spots (spot p) ≡ ancestor_spots (spot n) → k ≡ length (spot p).ups
    → (Some k ≡ measured (path_of n)) × (k ≤ 128)
measured_is n p k v u e =
    let m = risen (spot n) (spot p) (ancestor_spots (spot p)) (spot n).ups (sym u) in
    let a : k ≡ length m.1 = e ∙ ap (λ y. length y.ups) m.3 in
    let b : length (ordinals (spot n).here (spot n).ups) ≡ length m.1 = ap (λ y. length (ordinals (spot n).here y)) m.2 ∙ ordinals_length (spot n).here m.0 m.1 in
    (ap Some (a ∙ sym b) ∙ sym (ap measured (path_is n m.0 m.1 m.2 v)), omega (arith, ap length m.2, ups_few n))

-- the ordinals are all written
pub emptied : (s : Spot) (xs zs : List ℕ) → length s.ups ≡ 1 → ordinals s.here s.ups ++ drop 0 xs ≡ zs → xs ≡ zs
emptied s xs zs m e = sym (ap (λ y. y ++ drop 0 xs) (none s.ups m)) ∙ e
  where
    none : (us : List Frame) → length us ≡ 1 → ordinals s.here us ≡ []
    none [] h = refl
    none (f ∷ []) h = refl
    none (f ∷ g ∷ us) h = absurd (omega arith)
