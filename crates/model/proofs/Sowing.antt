-- Every edit takes nodes away and adds those it writes, and nothing else. Assumes nothing.
use Rattle.std.proofs.Common.{◌≡◌, ℕ, ◌+◌, ◌≤◌, cond, not, ◌&&◌, ◌||◌, eqb, ltb, ◌⊎◌, List, [], ◌∷◌, Some, None, Option, sym, refl, ap, ◌∙◌, subst, inl, inr, arith}
use Rattle.std.proofs.lemmas.Bool.{cond_both, eqb-true}
use Rattle.std.proofs.lemmas.Option.{none-some}
use Rattle.forest.specs.Forest.{end, node, count}
use Rattle.model.specs.Nodes.{Handle, handle, Own, Nodes, class}
use Rattle.model.specs.Asks.{Frame, Spot, spot_in, spot_at, tree, numbered_so, then, sort_of, is_property, is_root, bracketed, is_value, is_break, any, value_in}
use Rattle.model.specs.Written.{Value}
use Rattle.model.specs.Edits.{Supply, sown}
use Rattle.refusal.specs.declared.Refusal.TheVariants.{Gone, NotHere}
use Rattle.model.specs.State.{State, Outcome, Refused, Given, and_then, present, Plan, Edit, Remove, Replace, SetValue, SetRoot, Clear, SetTrailingCommas, EnsureMultiline, Commas, Never, IfMultiline, cutting, remove_plan, exchanging, replace_plan, value_plan, value_of, root_plan, commas_plan, multiline_plan, spotted, planned}
use Rattle.model.specs.Changes.{At, Placed}
use Rattle.model.proofs.Edited.{at_count}
use Rattle.model.proofs.Spots.{Spotted, the_root, a_node, spot_found}
use Rattle.model.proofs.Tally.{tally, Among, Below, remove_less, drop_less, never_less, unspaced_less, exchange_tally, lines_tally, multiline_tally, root_tally}

-- what a plan does to the nodes: it cuts some, and then adds the new ones
pub record Sows (d : State) (x : Plan) : Type 0 where
  pub less : (w : ℕ → Own → ℕ) → tally w x.cut ≤ tally w d.kids
  pub adds : (w : ℕ → Own → ℕ) (u : Supply) → tally w (x.grow u) ≡ tally w x.cut + tally w (sown u x.adds)

-- what is planned, if anything, does so
abbrev pub Sowing : State → Outcome Plan → Type 0
Sowing d (Refused r) = Unit {0}
Sowing d (Given x) = Sows d x

-- the siblings among which a node is found: those of the forest, or the children of its parent
abbrev Place : ℕ → List Frame → Spot → Nodes → Type 0
Place k us s ns = ((s.ups ≡ us) × Among k ns) ⊎ ((f : Frame) × (vs : List Frame) × (ls : Nodes) × (s.ups ≡ f ∷ vs) × At f.place f.own ls ns × Among k ls)

-- a node that is found stands among those siblings
found_among : (k : ℕ) (us : List Frame) (bs ts : Nodes) (s : Spot) → spot_in k us bs ts ≡ Some s → Place k us s ts
found_among k us bs end s = λ e. absurd (none-some s e)
found_among k us bs (node p i ks ts) s =
    let f : Frame = record { before = bs; place = p; own = i; after = ts } in
    cond_both (eqb p k) (Some (record { here = f; kids = ks; ups = us })) (cond (ltb 0 (count k ks)) (spot_in k (f ∷ us) end ks) (spot_in k us (node p i ks bs) ts)) (λ y. y ≡ Some s → Place k us s (node p i ks ts))
    (λ z e. (let x : record { here = f; kids = ks; ups = us } ≡ s = cc in inl (ap (λ y. y.ups) (sym x), inl (eqb-true p k z))))
    (λ z. cond_both (ltb 0 (count k ks)) (spot_in k (f ∷ us) end ks) (spot_in k us (node p i ks bs) ts) (λ y. y ≡ Some s → Place k us s (node p i ks ts))
    (λ y e. below (found_among k (f ∷ us) end ks s e))
    (λ y e. after (found_among k us (node p i ks bs) ts s e)))
  where
    below : Place k (record { before = bs; place = p; own = i; after = ts } ∷ us) s ks → Place k us s (node p i ks ts)
    below (inl (e, a)) = inr (record { before = bs; place = p; own = i; after = ts }, us, ks, e, inl (refl, refl, refl), a)
    below (inr (g, vs, ls, e, b, a)) = inr (g, vs, ls, e, inr (inl b), a)

    after : Place k us s ts → Place k us s (node p i ks ts)
    after (inl (e, a)) = inl (e, inr a)
    after (inr (g, vs, ls, e, b, a)) = inr (g, vs, ls, e, inr (inr b), a)

-- a node that is found by its handle
with_spot : (d : State) (h : Handle) (F : Spot → Outcome Plan) → ((s : Spot) → spot_at h.place d.kids ≡ Some s → Sowing d (F s)) → Sowing d (and_then (spotted d h) F)
with_spot d h F k = go (spot_at h.place d.kids) refl
  where
    go : (o : Option Spot) → spot_at h.place d.kids ≡ o → Sowing d (and_then (present Gone (then o (numbered_so h.number))) F)
    go None e = tt
    go (Some s) e = cond_both (eqb s.here.own.number h.number) (Some s) None (λ y. Sowing d (and_then (present Gone y) F)) (λ z. k s e) (λ z. tt)

-- the first value is among the siblings
pub value_among : (ks : Nodes) (h : Handle) → value_in ks ≡ Some h → Among h.place ks
value_among end h = λ e. absurd (none-some h e)
value_among (node q i us ts) h = cond_both (is_value (class i.sort)) (Some (handle q i)) (value_in ts) (λ y. y ≡ Some h → (q ≡ h.place) ⊎ Among h.place ts)
    (λ z e. (let x : handle q i ≡ h = cc in inl (ap (λ y. y.place) x))) (λ z e. inr (value_among ts h e))

-- nothing is added
cutting_sows : (d : State) (ks : Nodes) → ((w : ℕ → Own → ℕ) → tally w ks ≤ tally w d.kids) → Sows d (cutting ks)
cutting_sows d ks h = record { less = h; adds = λ w u. omega arith }

module _ (d : State) (p : Placed d.kids) where
  -- a node is at no place of the root's
  at_below : (c : ℕ) (j : Own) (us : Nodes) → At c j us d.kids → Below c us d.kids
  at_below c j us a = inr ((λ z. (let n = at_count c j us d.kids a in let m = p.rootless in let e = ap (λ y. count y d.kids) z in omega arith)), p.once c, (j, a))

  -- the children of a node that is found
  pub spot_below : (k : ℕ) (s : Spot) → Spotted k d.kids s → Below s.here.place s.kids d.kids
  spot_below k s (the_root _ _ z e _) = inl (z, e)
  spot_below k s (a_node h a _) = subst (λ y. Below y s.kids d.kids) (sym h) (at_below k s.here.own s.kids a)

  -- a node is found at its own place
  pub spot_place : (k : ℕ) (s : Spot) → Spotted k d.kids s → s.here.place ≡ k
  spot_place k s (the_root z _ e _ _) = e ∙ sym z
  spot_place k s (a_node h _ _) = h

  -- a value written in the place of another
  exchange_sows : (n c k : ℕ) (v : Value) (us : Nodes) → Below c us d.kids → Among k us → (b : _) (t : _) (i : _) → Sows d (exchanging d n c k v b t i)
  exchange_sows n c k v us h a b t i = record { less = λ w. drop_less w c k d.kids; adds = λ w u. exchange_tally w c k (sown u _) us d.kids h a }

  -- remove only cuts
  remove_sows : (s : Spot) (us : List Frame) → Sowing d (remove_plan d s us)
  remove_sows s [] = tt
  remove_sows s (f ∷ us) = cond_both (is_value (class (sort_of s)) && not (is_property f.own.sort)) (Given _) (Refused NotHere) (Sowing d)
      (λ z. cutting_sows d _ (λ w. remove_less w f.place s.here.place d.kids)) (λ z. tt)

  -- the parent's children
  pub parent_below : (k : ℕ) (s : Spot) (f : Frame) (vs : List Frame) → spot_at k d.kids ≡ Some s → s.ups ≡ f ∷ vs → (ks : Nodes) × Below f.place ks d.kids × Among k ks
  parent_below k s f vs e q = go (found_among k [] end (tree d.kids) s e)
    where
      at : (g : Frame) (ks : Nodes) → g ≡ f → At g.place g.own ks (tree d.kids) → Among k ks → (us : Nodes) × Below f.place us d.kids × Among k us
      at g ks z (inl (a, _, b)) m = (ks, inl (ap (λ y. y.place) (sym z) ∙ sym a, sym b), m)
      at g ks z (inr (inl a)) m = (ks, subst (λ y. Below y.place ks d.kids) z (at_below g.place g.own ks a), m)
      at g ks z (inr (inr a)) m = absurd a

      go : Place k [] s (tree d.kids) → (ks : Nodes) × Below f.place ks d.kids × Among k ks
      go (inl (z, _)) = (let y : f ∷ vs ≡ [] = sym q ∙ z in let x : ◌≡◌ {A = ℕ} 0 1 = cc in absurd (omega arith))
      go (inr (g, us, ks, z, a, m)) = (let y : g ∷ us ≡ f ∷ vs = sym z ∙ q in let x : g ≡ f = cc in at g ks x a m)

  -- replace cuts the old value and adds the new one
  replace_sows : (v : Value) (k : ℕ) (s : Spot) (us : List Frame) → spot_at k d.kids ≡ Some s → s.ups ≡ us → Sowing d (replace_plan d v s us)
  replace_sows v k s [] e q = tt
  replace_sows v k s (f ∷ us) e q = cond_both (is_value (class (sort_of s)) && not (is_property (sort_of s))) (Given _) (Refused NotHere) (Sowing d)
      (λ z. (let b = parent_below k s f us e q in
      exchange_sows _ f.place s.here.place v b.0 b.1 (subst (λ y. Among y b.0) (sym (spot_place k s (spot_found k d.kids s e))) b.2) _ _ _))
      (λ z. tt)

  -- set_value cuts the old value and adds the new one
  value_sows : (v : Value) (k : ℕ) (s : Spot) → Spotted k d.kids s → Sowing d (value_plan d v s (value_of d s.kids))
  value_sows v k s q = go (value_in s.kids) refl
    where
      at : (h : Handle) → value_in s.kids ≡ Some h → (x : Option Spot) → spot_at h.place d.kids ≡ x → Sowing d (value_plan d v s x)
      at h m None n = tt
      at h m (Some o) n = cond_both (is_property (sort_of s)) (Given _) (Refused NotHere) (Sowing d)
          (λ z. exchange_sows _ s.here.place o.here.place v s.kids (spot_below k s q)
          (subst (λ y. Among y s.kids) (sym (spot_place h.place o (spot_found h.place d.kids o n))) (value_among s.kids h m)) _ _ _) (λ z. tt)

      go : (x : Option Handle) → value_in s.kids ≡ x → Sowing d (value_plan d v s (then x (λ h. spot_at h.place d.kids)))
      go None m = tt
      go (Some h) m = at h m (spot_at h.place d.kids) refl

  -- set_root cuts the old value, if there is one, and adds what is written
  root_sows : (v : Value) (x : Option Handle) → value_in d.kids ≡ x → Sows d (root_plan d v x)
  root_sows v None e = record { less = λ w. omega arith; adds = λ w u. root_tally w _ _ u d.kids }
  root_sows v (Some h) e = exchange_sows 0 0 h.place v d.kids (inl (refl, refl)) (value_among d.kids h e) _ _ _

  -- set_trailing_commas cuts commas or adds them
  commas_sows : (m : Commas) (k : ℕ) (s : Spot) → Spotted k d.kids s → Sows d (commas_plan d m s)
  commas_sows Never k s q = cutting_sows d _ (λ w. never_less w s.here.place d.kids)
  commas_sows IfMultiline k s q = record { less = λ w. omega arith; adds = λ w u. lines_tally w s.here.place _ u s.kids d.kids (spot_below k s q) }

  -- ensure_multiline cuts Whitespace and adds Newlines and Whitespace
  multiline_sows : (k : ℕ) (s : Spot) → Spotted k d.kids s → Sows d (multiline_plan d s)
  multiline_sows k s q = cond_both (any is_break s.kids) (cutting d.kids) _ (Sows d) (λ z. cutting_sows d d.kids (λ w. omega arith))
      (λ z. record { less = λ w. unspaced_less w s.here.place d.kids; adds = λ w u. multiline_tally w s.here.place _ u s.kids d.kids (spot_below k s q) })

  -- every edit cuts some nodes and adds the new ones
  pub planned_sows : (e : Edit Value) → Sowing d (planned d e)
  planned_sows (Remove h) = with_spot d h (λ s. remove_plan d s s.ups) (λ s e. remove_sows s s.ups)
  planned_sows (Replace h v) = with_spot d h (λ s. replace_plan d v s s.ups) (λ s e. replace_sows v h.place s s.ups e refl)
  planned_sows (SetValue h v) = with_spot d h (λ s. value_plan d v s (value_of d s.kids)) (λ s e. value_sows v h.place s (spot_found h.place d.kids s e))
  planned_sows (SetRoot v) = root_sows v (value_in d.kids) refl
  planned_sows Clear = cutting_sows d end (λ w. omega arith)
  planned_sows (SetTrailingCommas h m) = with_spot d h (λ s. cond (is_root (sort_of s) || bracketed (sort_of s)) (Given (commas_plan d m s)) (Refused NotHere))
      (λ s e. cond_both (is_root (sort_of s) || bracketed (sort_of s)) (Given (commas_plan d m s)) (Refused NotHere) (Sowing d) (λ z. commas_sows m h.place s (spot_found h.place d.kids s e)) (λ z. tt))
  planned_sows (EnsureMultiline h) = with_spot d h (λ s. cond (bracketed (sort_of s)) (Given (multiline_plan d s)) (Refused NotHere))
      (λ s e. cond_both (bracketed (sort_of s)) (Given (multiline_plan d s)) (Refused NotHere) (Sowing d) (λ z. multiline_sows h.place s (spot_found h.place d.kids s e)) (λ z. tt))
