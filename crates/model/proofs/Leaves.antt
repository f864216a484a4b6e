-- The handles of a node that is removed or replaced, and of all below it, are Gone. Assumes nothing.
use Rattle.std.proofs.Common.{◌≡◌, ℕ, ◌+◌, ◌<◌, ◌≤◌, Bool, true, false, cond, not, ◌&&◌, eqb, ltb, List, [], ◌∷◌, length, Some, None, Option, sym, refl, ap, ◌∙◌, subst, inl, inr, arith}
use Rattle.std.proofs.lemmas.Bool.{cond_both, eqb-true}
use Rattle.std.proofs.lemmas.Option.{none-some}
use Rattle.grammar.specs.Pieces.{nodes, stored}
use Rattle.forest.specs.Forest.{end, node, one, count}
use Rattle.forest.proofs.Frames.{one_eq}
use Rattle.refusal.specs.declared.Refusal.{Refusal}
use Rattle.refusal.specs.declared.Refusal.TheVariants.{NotHere, Gone, BadMemory, TooDeep, NoNode, NoText, Worn}
use Rattle.model.specs.Nodes.{Handle, Sort, root, Own, Nodes, class}
use Rattle.model.specs.Asks.{Frame, Spot, spot_at, tree, living, numbered_so, named, then, sort_of, is_value, is_property, value_in}
use Rattle.model.specs.Edits.{Local, local_from, local, under, closed, past_comma, removal, dropped, drop_node, sown}
use Rattle.model.specs.Written.{Value}
use Rattle.model.specs.State.{State, Outcome, Refused, Given, and_then, unless, present, Plan, Edit, Remove, Replace, SetValue, SetRoot, Clear, Work, remove_plan, replace_plan, value_plan, value_of, root_plan, bad_memory, planned, worn, judged, supply_of, finished, accepted, after_outcome, after}
use Rattle.model.specs.Promise.{sort_named}
use Rattle.model.specs.Changes.{At, Placed}
use Rattle.model.specs.Given.{Held, family}
use Rattle.model.proofs.Edited.{at_count, at_once}
use Rattle.model.proofs.Kept.{at_inside}
use Rattle.model.proofs.Spots.{Spotted, the_root, a_node, spot_found}
use Rattle.model.proofs.Tally.{tally, Among, among_on, Below, tally_onto, less_tidy, less_closed, under_tally}
use Rattle.model.proofs.Sowing.{parent_below, spot_below, spot_place, value_among}
use Rattle.model.proofs.Places.{tally_count, below_le, below_yes, sown_often, held_placed, Roomy, accepted_roomy, after_held}
use Rattle.model.proofs.Moves.{is, marks, is_parts, named_names, names_tally, marks_often}

-- a change at a sibling leaves no more than what stands around it
abbrev Around : Local → Type 0
Around g = (w : ℕ → Own → ℕ) (bs : Nodes) (p : ℕ) (i : Own) (ks ts : Nodes) → tally w (g bs p i ks ts) ≤ tally w bs + tally w ts

-- remove does so
removal_around : Around removal
removal_around w bs p i ks ts = omega (arith, less_tidy w (closed bs ts (past_comma ts)), less_closed w bs ts)

-- so does a node alone gone
dropped_around : Around dropped
dropped_around w bs p i ks ts = omega (arith, tally_onto w bs ts)

-- the sibling at the place goes with all below it
gone_from : (g : Local) → Around g → (w : ℕ → Own → ℕ) (k : ℕ) (bs ts : Nodes) → Among k ts
    → (i : Own) × (ks : Nodes) × At k i ks ts × (tally w (local_from g k bs ts) + (w k i + tally w ks) ≤ tally w bs + tally w ts)
gone_from g r w k bs end a = absurd a
gone_from g r w k bs (node p i ks ts) a = go (eqb p k) refl (gone_from g r w k (node p i ks bs) ts)
  where
    go : (b : Bool) → eqb p k ≡ b → (Among k ts → (j : Own) × (us : Nodes) × At k j us ts × (tally w (local_from g k (node p i ks bs) ts) + (w k j + tally w us) ≤ (w p i + (tally w ks + tally w bs)) + tally w ts))
        → (j : Own) × (us : Nodes) × At k j us (node p i ks ts) × (tally w (cond b (g bs p i ks ts) (local_from g k (node p i ks bs) ts)) + (w k j + tally w us) ≤ tally w bs + (w p i + (tally w ks + tally w ts)))
    go true e R = (i, ks, inl (eqb-true p k e, refl, refl), omega (arith, r w bs p i ks ts, ap (λ y. w y i) (eqb-true p k e)))
    go false e R = (let m = R (among_on p k ts e a) in (m.0, m.1, inr (inr m.2), (let l = m.3 in omega arith)))

-- so it does in the whole tree
gone_under : (g : Local) → Around g → (w : ℕ → Own → ℕ) (c k : ℕ) (us ts : Nodes) (i : Own) (ks : Nodes) → count k ts ≤ 1 → Below c us ts → Among k us → At k i ks ts
    → tally w (under c (local g k) ts) + (w k i + tally w ks) ≤ tally w ts
gone_under g r w c k us ts i ks o b a t =
    let m = gone_from g r w k end us a in
    let e = at_once k m.0 i m.1 ks ts o (inside b m.0 m.1 m.2) t in
    let l = m.3 in
    omega (arith, under_tally w c (local g k) us ts b, ap (w k) e.0, ap (tally w) e.1)
  where
    inside : Below c us ts → (j : Own) (vs : Nodes) → At k j vs us → At k j vs ts
    inside (inl (_, e)) j vs x = subst (At k j vs) e x
    inside (inr (_, _, (n, y))) j vs x = at_inside c k n j us vs ts y x

-- what is cut leaves nothing of these nodes and of all below them
abbrev Leaves : State → Nodes → Outcome Plan → Type 0
Leaves d us (Refused r) = Unit {0}
Leaves d us (Given x) = (w : ℕ → Own → ℕ) → tally w x.cut + tally w us ≤ tally w d.kids

module _ (d : State) (p : Placed d.kids) (k : ℕ) (s : Spot) (e : spot_at k d.kids ≡ Some s) where
  -- a node with a parent is no root
  stands : (f : Frame) (us : List Frame) → s.ups ≡ f ∷ us → Spotted k d.kids s → At s.here.place s.here.own s.kids d.kids
  stands f us q (the_root _ _ _ _ z) = (let y : f ∷ us ≡ [] = sym q ∙ z in let x : ◌≡◌ {A = ℕ} 0 1 = cc in absurd (omega arith))
  stands f us q (a_node h a _) = subst (λ y. At y s.here.own s.kids d.kids) (sym h) a

  -- a change of its parent's children that leaves what stands around it
  leaves_at : (g : Local) → Around g → (f : Frame) (us : List Frame) → s.ups ≡ f ∷ us → (w : ℕ → Own → ℕ)
      → tally w (under f.place (local g s.here.place) d.kids) + (w s.here.place s.here.own + tally w s.kids) ≤ tally w d.kids
  leaves_at g r f us q w =
      let b = parent_below d p k s f us e q in
      gone_under g r w f.place s.here.place b.0 d.kids s.here.own s.kids (p.once s.here.place) b.1
      (subst (λ y. Among y b.0) (sym (spot_place d p k s (spot_found k d.kids s e))) b.2) (stands f us q (spot_found k d.kids s e))

  -- remove
  remove_leaves : (us : List Frame) → s.ups ≡ us → Leaves d (family s) (remove_plan d s us)
  remove_leaves [] q = tt
  remove_leaves (f ∷ us) q = cond_both (is_value (class (sort_of s)) && not (is_property f.own.sort)) (Given _) (Refused NotHere) (Leaves d (family s)) (λ z w. omega (arith, leaves_at removal removal_around f us q w)) (λ z. tt)

  -- replace
  replace_leaves : (v : Value) (us : List Frame) → s.ups ≡ us → Leaves d (family s) (replace_plan d v s us)
  replace_leaves v [] q = tt
  replace_leaves v (f ∷ us) q = cond_both (is_value (class (sort_of s)) && not (is_property (sort_of s))) (Given _) (Refused NotHere) (Leaves d (family s)) (λ z w. omega (arith, leaves_at dropped dropped_around f us q w)) (λ z. tt)

-- a node among siblings stands among them
among_at : (k : ℕ) (ts : Nodes) → Among k ts → (i : Own) × (ks : Nodes) × At k i ks ts
among_at k end a = absurd a
among_at k (node p i ks ts) (inl e) = (i, ks, inl (e, refl, refl))
among_at k (node p i ks ts) (inr a) = (let m = among_at k ts a in (m.0, m.1, inr (inr m.2)))

-- a value that is taken away from the children of a container
value_leaves : (d : State) (p : Placed d.kids) (c : ℕ) (us : Nodes) (h : Handle) (o : Spot) → Below c us d.kids → value_in us ≡ Some h → spot_at h.place d.kids ≡ Some o
    → (w : ℕ → Own → ℕ) → tally w (drop_node c o.here.place d.kids) + tally w (family o) ≤ tally w d.kids
value_leaves d p c us h o b v e w =
    let a = value_among us h v in
    let f = spot_found h.place d.kids o e in
    let g = subst (λ y. Among y us) (sym (spot_place d p h.place o f)) a in
    omega (arith, gone_under dropped dropped_around w c o.here.place us d.kids o.here.own o.kids (p.once o.here.place) b g (at f a))
  where
    up : Below c us d.kids → (k : ℕ) (j : Own) (vs : Nodes) → At k j vs us → At k j vs d.kids
    up (inl (_, z)) k j vs x = subst (At k j vs) z x
    up (inr (_, _, (n, y))) k j vs x = at_inside c k n j us vs d.kids y x

    at : Spotted h.place d.kids o → Among h.place us → At o.here.place o.here.own o.kids d.kids
    at (the_root z _ _ _ _) a =
        let m = among_at h.place us a in
        let n = at_count h.place m.0 m.1 d.kids (up b h.place m.0 m.1 m.2) in
        let r = p.rootless in let q = ap (λ y. count y d.kids) z in absurd (omega arith)
    at (a_node z x _) a = subst (λ y. At y o.here.own o.kids d.kids) (sym z) x

-- the node that a handle names is found at its place
named_spot : (h : Handle) (ks : Nodes) (s : Spot) → named h ks ≡ Some s → spot_at h.place ks ≡ Some s
named_spot h ks s = go (spot_at h.place ks)
  where
    go : (o : Option Spot) → then o (numbered_so h.number) ≡ Some s → o ≡ Some s
    go None = λ e. e
    go (Some x) = cond_both (eqb x.here.own.number h.number) (Some x) None (λ y. y ≡ Some s → Some x ≡ Some s) (λ z e. e) (λ z e. absurd (none-some s e))

-- an accepted edit is as it was planned
pub accepted_planned : (d : State) (w : Work) (e : Edit Value) (x : Plan) → accepted d w e ≡ Given x → planned d e ≡ Given x
accepted_planned d w e x a = go (planned d e) (refuse (bad_memory d w e) BadMemory (and_then (planned d e) (judged d)) a)
  where
    refuse : (b : Bool) (r : Refusal) (o : Outcome Plan) → unless b r o ≡ Given x → o ≡ Given x
    refuse true r o q = (let y : ◌≡◌ {A = ℕ} 0 1 = cc in absurd (omega arith))
    refuse false r o q = q

    go : (o : Outcome Plan) → and_then o (judged d) ≡ Given x → o ≡ Given x
    go (Refused r) q = q
    go (Given y) q =
        let W : Outcome Plan = unless (worn d y) Worn (Given y) in
        let T : Outcome Plan = unless (ltb d.store (d.used + length (stored y.adds))) NoText W in
        let N : Outcome Plan = unless (ltb d.records (living y.cut + nodes y.adds)) NoNode T in
        refuse (worn d y) Worn (Given y) (refuse (ltb d.store (d.used + length (stored y.adds))) NoText W
        (refuse (ltb d.records (living y.cut + nodes y.adds)) NoNode T (refuse (ltb 64 y.deep) TooDeep N q)))

-- after an accepted edit that leaves nothing of a node, its handle and those of all below it name nothing
leaves_gone : (d : State) (w : Work) (e : Edit Value) (x : Plan) (us : Nodes) → Held d → accepted d w e ≡ Given x → Leaves d us (Given x)
    → (g : Handle) → g.number < d.fresh → 0 < count g.place us → sort_named (after d w e) g ≡ None
leaves_gone d w e x us h a v g l c = ap (λ y. sort_named y g) z ∙ go (sort_named (finished d x) g) refl
  where
    z : after d w e ≡ finished d x
    z = ap (after_outcome d) a

    few : (k : Sort) (ts : Nodes) → tally (marks g k) ts ≤ count g.place ts
    few k end = omega arith
    few k (node p i ks ts) = cond_both {A = ℕ} (is g k p i) 1 0 (λ y. y + (tally (marks g k) ks + tally (marks g k) ts) ≤ one p g.place + (count g.place ks + count g.place ts))
        (λ q. omega (arith, one_eq p g.place (is_parts g k p i q).0, few k ks, few k ts)) (λ q. omega (arith, few k ks, few k ts))

    go : (o : Option Sort) → sort_named (finished d x) g ≡ o → o ≡ None
    go None q = refl
    go (Some k) q =
        let m = named_names (finished d x) g k q in
        let t = names_tally g k m.0 m.1 (tree (finished d x).kids) m.2 m.3 m.4 in
        let r : Roomy d (Given x) = subst (Roomy d) a (accepted_roomy d w e h) in
        let P = held_placed d h in
        let f : Held (finished d x) = subst Held z (after_held d w e h) in
        absurd (omega (
          arith,
          few k x.cut,
          v (λ p i. one p g.place),
          tally_count g.place x.cut,
          tally_count g.place d.kids,
          tally_count g.place us,
          P.once g.place,
          few k (node 0 (record { number = 1; sort = root }) end end),
          h.split g.place,
          below_le g.place d.records,
          r.0.adds (marks g k) (supply_of d x),
          marks_often g k (sown (supply_of d x) x.adds),
          sown_often g.number (supply_of d x) x.adds,
          below_yes g.number d.fresh l,
          below_yes g.number (d.fresh + nodes x.adds) (omega arith),
        ))

-- of a node that is removed
pub remove_gone : (d : State) (w : Work) (h : Handle) (x : Plan) (s : Spot) → Held d → accepted d w (Remove h) ≡ Given x → named h d.kids ≡ Some s
    → (g : Handle) → g.number < d.fresh → 0 < count g.place (family s) → sort_named (after d w (Remove h)) g ≡ None
remove_gone d w h x s H a n =
    let q : remove_plan d s s.ups ≡ Given x = sym (ap (λ y. and_then (present Gone y) (λ s. remove_plan d s s.ups)) n) ∙ accepted_planned d w (Remove h) x a in
    leaves_gone d w (Remove h) x (family s) H a (subst (Leaves d (family s)) q (remove_leaves d (held_placed d H) h.place s (named_spot h d.kids s n) s.ups refl))

-- of a node that is replaced
pub replace_gone : (d : State) (w : Work) (h : Handle) (u : Value) (x : Plan) (s : Spot) → Held d → accepted d w (Replace h u) ≡ Given x → named h d.kids ≡ Some s
    → (g : Handle) → g.number < d.fresh → 0 < count g.place (family s) → sort_named (after d w (Replace h u)) g ≡ None
replace_gone d w h u x s H a n =
    let q : replace_plan d u s s.ups ≡ Given x = sym (ap (λ y. and_then (present Gone y) (λ s. replace_plan d u s s.ups)) n) ∙ accepted_planned d w (Replace h u) x a in
    leaves_gone d w (Replace h u) x (family s) H a (subst (Leaves d (family s)) q (replace_leaves d (held_placed d H) h.place s (named_spot h d.kids s n) u s.ups refl))

-- of a property's value that is set anew
pub value_gone : (d : State) (w : Work) (h : Handle) (u : Value) (x : Plan) (s o : Spot) (i : Handle) → Held d → accepted d w (SetValue h u) ≡ Given x → named h d.kids ≡ Some s → value_in s.kids ≡ Some i → spot_at i.place d.kids ≡ Some o
    → (g : Handle) → g.number < d.fresh → 0 < count g.place (family o) → sort_named (after d w (SetValue h u)) g ≡ None
value_gone d w h u x s o i H a n v e =
    let q : value_plan d u s (Some o) ≡ Given x =
    sym (ap (λ y. and_then (present Gone y) (λ s. value_plan d u s (value_of d s.kids))) n ∙ (ap (λ y. value_plan d u s (then y (λ h. spot_at h.place d.kids))) v ∙ ap (value_plan d u s) e)) ∙ accepted_planned d w (SetValue h u) x a in
    let p = held_placed d H in
    leaves_gone d w (SetValue h u) x (family o) H a (subst (Leaves d (family o)) q (cond_both (is_property (sort_of s)) (Given _) (Refused NotHere) (Leaves d (family o))
    (λ z. value_leaves d p s.here.place s.kids i o (spot_below d p h.place s (spot_found h.place d.kids s (named_spot h d.kids s n))) v e) (λ z. tt)))

-- of the root's value that is set anew
pub root_gone : (d : State) (w : Work) (u : Value) (x : Plan) (o : Spot) (i : Handle) → Held d → accepted d w (SetRoot u) ≡ Given x → value_in d.kids ≡ Some i → spot_at i.place d.kids ≡ Some o
    → (g : Handle) → g.number < d.fresh → 0 < count g.place (family o) → sort_named (after d w (SetRoot u)) g ≡ None
root_gone d w u x o i H a v e =
    let q : Given (root_plan d u (Some i)) ≡ Given x = sym (ap (λ y. Given (root_plan d u y)) v) ∙ accepted_planned d w (SetRoot u) x a in
    let p = held_placed d H in
    let z = spot_place d p i.place o (spot_found i.place d.kids o e) in
    leaves_gone d w (SetRoot u) x (family o) H a (subst (Leaves d (family o)) q
    (λ t. subst (λ y. tally t (drop_node 0 y d.kids) + tally t (family o) ≤ tally t d.kids) z (value_leaves d p 0 d.kids i o (inl (refl, refl)) v e t)))

-- of all nodes where a document is cleared
pub clear_gone : (d : State) (w : Work) (x : Plan) → Held d → accepted d w Clear ≡ Given x
    → (g : Handle) → g.number < d.fresh → 0 < count g.place d.kids → sort_named (after d w Clear) g ≡ None
clear_gone d w x H a = leaves_gone d w Clear x d.kids H a (subst (Leaves d d.kids) (accepted_planned d w Clear x a) (λ t. omega arith))
