-- Level by level with a queue: the nodes of one level are taken one by one, and their children are put behind. Assumes nothing.
use Rattle.std.proofs.Common.{◌≡◌, ℕ, List, [], ◌∷◌, ◌++◌, map, Some, Option, sym, refl, ap, ◌∙◌, append_assoc}
use Rattle.std.proofs.lemmas.List.{map-append}
use Rattle.std.specs.Option.{option_map}
use Rattle.forest.specs.Forest.{end, node, append}
use Rattle.model.specs.Nodes.{Sort, Own, Nodes}
use Rattle.model.specs.Asks.{beside, layers, first_of}

module _ {X : Type 0} where
  pub beside_assoc : (a b c : List (List X)) → beside (beside a b) c ≡ beside a (beside b c)
  beside_assoc [] b c = refl
  beside_assoc (x ∷ a) [] c = refl
  beside_assoc (x ∷ a) (y ∷ b) [] = refl
  beside_assoc (x ∷ a) (y ∷ b) (z ∷ c) =
      ap (λ w. w ∷ beside (beside a b) c) (append_assoc x y z) ∙ ap (λ w. (x ++ (y ++ z)) ∷ w) (beside_assoc a b c)

  -- nothing in front of the first level changes nothing
  front_none : (ls : List (List X)) → first_of (beside ([] ∷ []) ls) ≡ first_of ls
  front_none [] = refl
  front_none (l ∷ ls) = refl

  -- what is found in front of the first level is the first
  front_some : (x : X) (ys : List X) (n k t : List (List X)) → first_of (beside ([] ∷ n) (beside ((x ∷ ys) ∷ k) t)) ≡ Some x
  front_some x ys n k [] = refl
  front_some x ys n k (l ∷ t) = refl

module _ {X : Type 0} (f : Sort → Nodes → List X) where
  pub layers_append : (a b : Nodes) → layers f (append a b) ≡ beside (layers f a) (layers f b)
  layers_append end b = refl
  layers_append (node p i ks ts) b =
      ap (beside (f i.sort ks ∷ layers f ks)) (layers_append ts b) ∙ sym (beside_assoc (f i.sort ks ∷ layers f ks) (layers f ts) (layers f b))

  -- the first that is found in the nodes ts and below them, where the nodes us stand one level below ts, in front of all there
  abbrev pub seek : Nodes → Nodes → Option X
  seek ts us = first_of (beside ([] ∷ layers f us) (layers f ts))

  pub seek_start : (ts : Nodes) → seek ts end ≡ first_of (layers f ts)
  seek_start ts = front_none (layers f ts)

  -- a level is through: the next one
  pub seek_down : (us : Nodes) → seek end us ≡ seek us end
  seek_down us = sym (seek_start us)

  -- a node where something is found
  pub seek_hit : (p : ℕ) (i : Own) (ks ts us : Nodes) (x : X) (ys : List X) → f i.sort ks ≡ x ∷ ys → seek (node p i ks ts) us ≡ Some x
  seek_hit p i ks ts us x ys e =
      ap (λ l. first_of (beside ([] ∷ layers f us) (beside (l ∷ layers f ks) (layers f ts)))) e ∙ front_some x ys (layers f us) (layers f ks) (layers f ts)

  -- a node where nothing is found: its children are put behind
  pub seek_miss : (p : ℕ) (i : Own) (ks ts us : Nodes) → f i.sort ks ≡ [] → seek (node p i ks ts) us ≡ seek ts (append us ks)
  seek_miss p i ks ts us e =
      ap (λ l. first_of (beside ([] ∷ layers f us) (beside (l ∷ layers f ks) (layers f ts)))) e
      ∙ ap first_of (sym (beside_assoc ([] ∷ layers f us) ([] ∷ layers f ks) (layers f ts)))
      ∙ ap (λ l. first_of (beside ([] ∷ l) (layers f ts))) (sym (layers_append us ks))

-- What is found, with each thing turned into another by t.
module _ {X Y : Type 0} (t : X → Y) where
  beside_map : (a b : List (List X)) → beside (map (map t) a) (map (map t) b) ≡ map (map t) (beside a b)
  beside_map [] b = refl
  beside_map (x ∷ a) [] = refl
  beside_map (x ∷ a) (y ∷ b) = ap (λ w. w ∷ beside (map (map t) a) (map (map t) b)) (sym (map-append t x y)) ∙ ap (λ w. map t (x ++ y) ∷ w) (beside_map a b)

  layers_map : (f : Sort → Nodes → List X) (ts : Nodes) → layers (λ s ks. map t (f s ks)) ts ≡ map (map t) (layers f ts)
  layers_map f end = refl
  layers_map f (node p i ks ts) =
      ap (λ w. beside (map t (f i.sort ks) ∷ w) (layers (λ s us. map t (f s us)) ts)) (layers_map f ks)
      ∙ (ap (beside (map (map t) (f i.sort ks ∷ layers f ks))) (layers_map f ts) ∙ beside_map (f i.sort ks ∷ layers f ks) (layers f ts))

  first_map : (ls : List (List X)) → first_of (map (map t) ls) ≡ option_map t (first_of ls)
  first_map [] = refl
  first_map ([] ∷ ls) = first_map ls
  first_map ((x ∷ ys) ∷ ls) = refl

  -- the first
  pub first_turned : (f : Sort → Nodes → List X) (ts : Nodes) → first_of (layers (λ s ks. map t (f s ks)) ts) ≡ option_map t (first_of (layers f ts))
  first_turned f ts = ap first_of (layers_map f ts) ∙ first_map (layers f ts)
