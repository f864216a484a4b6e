-- A document and its account agree, and every accepted edit keeps them so. Assumes nothing.
use Rattle.std.proofs.Common.{◌≡◌, ℕ, ◌+◌, ◌<◌, ◌≤◌, Bool, true, false, cond, not, ◌&&◌, ◌||◌, eqb, ltb, ◌⊎◌, List, [], ◌∷◌, ◌++◌, length, Some, None, Option, sym, refl, ap, ◌∙◌, subst, inl, inr, arith}
use Rattle.std.proofs.lemmas.Bool.{cond_both, eqb-true, ltb-true, ltb-false}
use Rattle.std.proofs.lemmas.Option.{none-some}
use Rattle.grammar.specs.Layout.{Layout, Parts, nil, part}
use Rattle.grammar.specs.Pieces.{nodes, stored, layout}
use Rattle.grammar.proofs.Whole.{right}
use Rattle.forest.specs.Forest.{end, node, count}
use Rattle.refusal.specs.declared.Refusal.{Refusal}
use Rattle.refusal.specs.declared.Refusal.TheVariants.{NotHere, Gone, BadMemory, TooDeep, NoNode, NoText, Worn}
use Rattle.model.specs.Nodes.{Handle, Sort, Nodes, class, pieces, parts}
use Rattle.model.specs.Asks.{Frame, Spot, spot_at, tree, living, named, then, sort_of, is_value, is_property, is_root, bracketed, any, is_break, newline_kind, uses_trailing_commas, value_in, at, at_path, path}
use Rattle.model.specs.Edits.{Supply, root_cut, root_put, Lines, lined}
use Rattle.model.specs.Fits.{Document, comments, bare}
use Rattle.model.specs.Indents.{indents, root_indents}
use Rattle.model.specs.Written.{Value, Style, spelled, written, break_of}
use Rattle.model.specs.Changes.{Blanked}
use Rattle.model.specs.State.{State, Outcome, Refused, Given, and_then, unless, present, Plan, Edit, Remove, Replace, SetValue, SetRoot, Clear, SetTrailingCommas, EnsureMultiline, Commas, Never, IfMultiline, Work, levels_of, around, spotted, remove_plan, replace_plan, value_plan, value_of, root_plan, styled, lines_of, commas_plan, multiline_plan, bad_memory, planned, worn, judged, supply_of, finished, accepted, after_outcome, after, unloaded}
use Rattle.model.specs.Changes.{Placed, Showing, Showable}
use Rattle.model.specs.Account.{Account, In, with_handles, put, deleted, handles, leaving, less, lost_by_removal, lost_inside, lost_all, layout_read, layout_of, without, replaced, located, rooted, done}
use Rattle.model.specs.Accounted.{Alone, RemovesSo, ReplacesSo, SetsSo}
use Rattle.model.specs.Promise.{printing, answered, at_of, sort_named}
use Rattle.model.specs.Given.{Held, Moves, family}
use Rattle.model.proofs.Edited.{at_once}
use Rattle.model.proofs.Stand.{stand}
use Rattle.model.proofs.Indented.{root_blank, indents_blank, spot_surrounded}
use Rattle.model.proofs.Spots.{spot_found}
use Rattle.model.proofs.Lying.{named_spot, spot_place}
use Rattle.model.proofs.Places.{held_placed, after_held}
use Rattle.model.proofs.Moves.{found_at, at_found, held_once, after_moves}
use Rattle.model.proofs.Steps.{property_box, step_document, spot_bracketed, bracketed_or}
use Rattle.model.proofs.Writes.{all_append}
use Rattle.model.proofs.Kept.{never_comments, never_value, lines_comments, lines_value, multiline_comments, multiline_value}
use Rattle.model.proofs.Leaves.{accepted_planned, remove_gone, replace_gone, value_gone, root_gone, clear_gone}
use Rattle.model.proofs.Settled.{account_laws}
use Rattle.model.proofs.Whereabouts.{in_append, handles_stand, leaving_in, standing, path_at, value_first, depth, above, with_itself, above_below, depth_deleted, depth_put, spelled_levels, meaning_levels, depths}

-- The document and its account agree: value and comments are the account's, no more than 64 levels, and the handles that left are Gone.
pub record Agree (d : State) (a : Account) : Type 0 where
  pub document : Document d.kids
  pub held : Held d
  pub shallow : depth (parts d.kids) ≤ 64
  pub value : a.value ≡ parts d.kids
  pub remarks : a.comments ≡ comments d.kids
  pub left : (h : Handle) → In h a.left → (sort_named d h ≡ None) × (h.number < d.fresh)

-- a document's printing has its own layout
pub reads : (d : State) → Document d.kids → depth (parts d.kids) ≤ 64 → layout_of (printing d) ≡ layout (pieces d.kids)
reads d doc s =
    let y : Layout = layout (pieces d.kids) in
    let r = (right 64).accepts (printing d) y (stand.document_prints d.kids doc) (omega (arith, meaning_levels y, ap levels_of (stand.document_says d.kids doc).1)) in
    ap layout_read r.1 ∙ r.2

-- a document whose places are handed out once is loaded
pub is_loaded : (d : State) → Held d → unloaded d ≡ false
is_loaded d h = cond_both (eqb d.records 0) true false (λ y. eqb d.records 0 ≡ false) (λ z. absurd (omega (arith, eqb-true d.records 0 z, h.sized))) (λ z. z)

-- what `at` answers is what the value has
pub at_of_lem : (d : State) → Held d → (p : List ℕ) → at_of d p ≡ at_path (parts d.kids) p
at_of_lem d h p = ap (λ b. answered (unless b BadMemory (present NotHere (at_path (parts d.kids) p)))) (is_loaded d h) ∙ go (at_path (parts d.kids) p)
  where
    go : (o : Option Handle) → answered (present NotHere o) ≡ o
    go None = refl
    go (Some i) = refl

-- a number that stands in the tree was handed out
number_below : (d : State) → Held d → (h : Handle) → In h (handles (parts d.kids)) → h.number < d.fresh
number_below d g h m = cond_both (ltb h.number d.fresh) 1 0 (λ y. 0 < y → h.number < d.fresh) (λ z x. ltb-true h.number d.fresh z) (λ z x. absurd (omega arith)) (omega (arith, (handles_stand h d.kids m).1, g.given h.number))

-- what leaves with the part at a path lies in the family of its node
family_leaves : (d : State) → Held d → (h : Handle) (s : Spot) (p : List ℕ) → spot_at h.place d.kids ≡ Some s → at_path (parts d.kids) p ≡ Some h
    → (g : Handle) → In g (leaving (parts d.kids) 0 p) → 0 < count g.place (family s)
family_leaves d H h s p e a g m =
    let x = standing d.kids 0 p h a in
    let f = found_at h.place [] end (tree d.kids) s e in
    let y = at_once h.place x.own s.here.own x.kids s.kids (tree d.kids) (held_once d H h.place) (inr (inl x.stands)) f in
    let z : s.here.place ≡ h.place = spot_place h.place d.kids s (spot_found h.place d.kids s e) in
    let n : node h.place x.own x.kids end ≡ family s = (λ t. node (sym z t) (y.0 t) (y.1 t) end) in
    subst (λ y. 0 < count g.place y) n (x.leaves g m)

-- a plan of a node has that node
pub named_of : (d : State) (h : Handle) (F : Spot → Outcome Plan) (x : Plan) → and_then (spotted d h) F ≡ Given x → (s : Spot) × (named h d.kids ≡ Some s) × (F s ≡ Given x)
named_of d h F x = go (named h d.kids) refl
  where
    go : (o : Option Spot) → named h d.kids ≡ o → and_then (present Gone o) F ≡ Given x → (s : Spot) × (named h d.kids ≡ Some s) × (F s ≡ Given x)
    go None e q = (let y : ◌≡◌ {A = ℕ} 0 1 = cc in absurd (omega arith))
    go (Some s) e q = (s, e, q)

-- an accepted edit comes to no more than 64 levels
accepted_deep : (d : State) (w : Work) (e : Edit Value) (x : Plan) → accepted d w e ≡ Given x → x.deep ≤ 64
accepted_deep d w e x a = go (planned d e) (refuse (bad_memory d w e) BadMemory (and_then (planned d e) (judged d)) a).1
  where
    refuse : (b : Bool) (r : Refusal) (o : Outcome Plan) → unless b r o ≡ Given x → (b ≡ false) × (o ≡ Given x)
    refuse true r o q = (let y : ◌≡◌ {A = ℕ} 0 1 = cc in absurd (omega arith))
    refuse false r o q = (refl, q)

    go : (o : Outcome Plan) → and_then o (judged d) ≡ Given x → x.deep ≤ 64
    go (Refused r) q = (let y : ◌≡◌ {A = ℕ} 0 1 = cc in absurd (omega arith))
    go (Given y) q =
        let W : Outcome Plan = unless (worn d y) Worn (Given y) in
        let T : Outcome Plan = unless (ltb d.store (d.used + length (stored y.adds))) NoText W in
        let N : Outcome Plan = unless (ltb d.records (living y.cut + nodes y.adds)) NoNode T in
        let n = refuse (ltb 64 y.deep) TooDeep N q in
        let g = (refuse (worn d y) Worn (Given y) (refuse (ltb d.store (d.used + length (stored y.adds))) NoText W (refuse (ltb d.records (living y.cut + nodes y.adds)) NoNode T n.1).1).1).1 in
        let z : y ≡ x = cc in
        subst (λ y. y.deep ≤ 64) z (ltb-false 64 y.deep n.0)

-- a plan comes to so many levels
abbrev ComesTo : ℕ → Outcome Plan → Type 0
ComesTo n (Refused r) = Unit {0}
ComesTo n (Given x) = x.deep ≡ n

-- those of replace
replace_deep : (d : State) (v : Value) (s : Spot) (us : List Frame) → ComesTo (around us + levels_of v) (replace_plan d v s us)
replace_deep d v s [] = tt
replace_deep d v s (f ∷ us) = cond_both (is_value (class (sort_of s)) && not (is_property (sort_of s))) (Given _) (Refused NotHere) (ComesTo (around (f ∷ us) + levels_of v)) (λ z. refl) (λ z. tt)

-- those of set_value
value_deep : (d : State) (v : Value) (s o : Spot) → ComesTo (around s.ups + levels_of v) (value_plan d v s (Some o))
value_deep d v s o = cond_both (is_property (sort_of s)) (Given _) (Refused NotHere) (ComesTo (around s.ups + levels_of v)) (λ z. refl) (λ z. tt)

-- what stands around a node, in the whole tree
node_depths : (d : State) → Held d → (h : Handle) (s : Spot) (p : List ℕ) → spot_at h.place d.kids ≡ Some s → at_path (parts d.kids) p ≡ Some h
    → (above (parts d.kids) 0 p ≤ around s.ups) × (with_itself (parts d.kids) 0 p ≤ around s.ups + cond (bracketed (sort_of s)) 1 0)
node_depths d H h s p e a = (let x = depths (tree d.kids) 0 (0 ∷ p) h [] end s a (held_once d H h.place) e in let y = x.0 in let z = x.1 in (omega arith, omega arith))

-- a property is no array or object
property_flat : (s : Sort) → is_property s ≡ true → bracketed s ≡ false
property_flat s e = ap bracketed (property_box s e)

-- ONE ACCEPTED EDIT
module _ (d : State) (w : Work) (e : Edit Value) (a : Account) (A : Agree d a) (S : Showing e) (x : Plan) (q : accepted d w e ≡ Given x) where
  -- it is finished
  is : after d w e ≡ finished d x
  is = ap (after_outcome d) q

  -- the document after it is its account's, if value, comments and levels are and what left is Gone
  step : (b : Account) → depth (parts (finished d x).kids) ≤ 64 → b.value ≡ parts (finished d x).kids → b.comments ≡ comments (finished d x).kids
      → ((h : Handle) → In h b.left → (In h (handles (parts d.kids)) × (h.number < d.fresh → sort_named (after d w e) h ≡ None)) ⊎ In h a.left) → Agree (finished d x) b
  step b s v c l = record {
    document = subst (λ y. Document y.kids) is (step_document d w e (held_placed d A.held) A.document S);
    held = subst Held is (after_held d w e A.held);
    shallow = s;
    value = v;
    remarks = c;
    left = λ h m. go h (l h m);
  }
    where
      M : Moves d (finished d x)
      M = subst (Moves d) is (after_moves d w e A.held)

      still : (h : Handle) → sort_named d h ≡ None → h.number < d.fresh → (o : Option Sort) → sort_named (finished d x) h ≡ o → o ≡ None
      still h n f None z = refl
      still h n f (Some k) z = elim (M.names h k z) [ inl y ↦ absurd (none-some k (sym n ∙ y)) | inr y ↦ absurd (omega arith) ]

      go : (h : Handle) → (In h (handles (parts d.kids)) × (h.number < d.fresh → sort_named (after d w e) h ≡ None)) ⊎ In h a.left → (sort_named (finished d x) h ≡ None) × (h.number < (finished d x).fresh)
      go h (inl (m, g)) = (let n = number_below d A.held h m in let y = M.grows in (sym (ap (λ y. sort_named y h) is) ∙ g n, omega arith))
      go h (inr m) = (let n = A.left h m in let y = M.grows in let f = n.1 in (still h n.0 n.1 (sort_named (finished d x) h) refl, omega arith))

  -- a value put at a path
  put_step : (p : List ℕ) (h : Handle) (v : Value) (u : Parts Handle) → Alone u → bare u ≡ spelled v → parts (finished d x).kids ≡ put u (parts d.kids) p
      → comments (finished d x).kids ≡ less (lost_inside (layout (pieces d.kids)) p) (comments d.kids) → at_path (parts d.kids) p ≡ Some h → above (parts d.kids) 0 p + levels_of v ≤ 64
      → ((g : Handle) → g.number < d.fresh → In g (leaving (parts d.kids) 0 p) → sort_named (after d w e) g ≡ None)
      → Agree (finished d x) (replaced a (layout_of (printing d)) p (spelled v) (at_of (finished d x)))
  put_step p h v u o b r c t n g = step (replaced a (layout_of (printing d)) p (spelled v) (at_of (finished d x))) deep val said lef
    where
      deep : depth (parts (finished d x).kids) ≤ 64
      deep = subst (λ y. depth y ≤ 64) (sym r) (depth_put u (parts d.kids) 0 p 64 A.shallow (omega (arith, ap levels_of b, spelled_levels v)))

      H : Held (finished d x)
      H = subst Held is (after_held d w e A.held)

      val : put (with_handles (λ k. at_of (finished d x) (p ++ k)) (spelled v)) a.value p ≡ parts (finished d x).kids
      val =
          (λ t. put (with_handles (λ k. at_of_lem (finished d x) H (p ++ k) t) (sym b t)) (A.value t) p)
          ∙ (ap (λ y. put (with_handles (λ k. at_path y (p ++ k)) (bare u)) (parts d.kids) p) r
          ∙ (account_laws.put_answers u (parts d.kids) p h o t ∙ sym r))

      said : less (lost_inside (layout_of (printing d)) p) a.comments ≡ comments (finished d x).kids
      said = (λ t. less (lost_inside (reads d A.document A.shallow t) p) (A.remarks t)) ∙ sym c

      lef : (k : Handle) → In k (leaving a.value 0 p ++ a.left) → (In k (handles (parts d.kids)) × (k.number < d.fresh → sort_named (after d w e) k ≡ None)) ⊎ In k a.left
      lef k m = elim (in_append k (leaving a.value 0 p) a.left m) [
        | inl y ↦ (let z = subst (λ y. In k (leaving y 0 p)) A.value y in inl (leaving_in k (parts d.kids) 0 p z, λ f. g k f z))
        | inr y ↦ inr y
      ]

-- what an accepted edit has to keep
abbrev KeptBy : State → Work → Edit Value → Account → Plan → Type 0
KeptBy d w e a x = Agree (finished d x) (done a e (layout_of (printing d)) (at_of (finished d x)))

-- remove
remove_agrees : (d : State) (w : Work) (h : Handle) (a : Account) → Agree d a → (x : Plan) → accepted d w (Remove h) ≡ Given x → KeptBy d w (Remove h) a x
remove_agrees d w h a A x q =
    let P = accepted_planned d w (Remove h) x q in
    let R : RemovesSo d h (Given x) = subst (RemovesSo d h) P (account_laws.plans_accounted d h (held_placed d A.held) A.document).0 in
    let p = R.0 in
    let r = R.2 (supply_of d x) in
    let n = named_of d h (λ s. remove_plan d s s.ups) x P in
    let t = path_at h (parts d.kids) p R.1 in
    let s = (named_spot h d.kids n.0 n.1).0 in
    subst (λ o. Agree (finished d x) (located a o (λ p. without a (layout_of (printing d)) p))) (sym (ap (path h) A.value ∙ R.1))
    (step d w (Remove h) a A tt x q (without a (layout_of (printing d)) p)
    (subst (λ y. depth y ≤ 64) (sym r.0) (omega (arith, A.shallow, depth_deleted (parts d.kids) 0 p)))
    (ap (λ v. deleted v p) A.value ∙ sym r.0)
    ((λ t. less (lost_by_removal (reads d A.document A.shallow t) p) (A.remarks t)) ∙ sym r.1)
    (λ k m. elim (in_append k (leaving a.value 0 p) a.left m) [
      | inl y ↦ (let z = subst (λ y. In k (leaving y 0 p)) A.value y in
          inl (leaving_in k (parts d.kids) 0 p z, λ f. remove_gone d w h x n.0 A.held q n.1 k f (family_leaves d A.held h n.0 p s t k z)))
      | inr y ↦ inr y
    ]))

-- replace
replace_agrees : (d : State) (w : Work) (h : Handle) (v : Value) (a : Account) → Agree d a → Showable v → (x : Plan) → accepted d w (Replace h v) ≡ Given x → KeptBy d w (Replace h v) a x
replace_agrees d w h v a A S x q =
    let P = accepted_planned d w (Replace h v) x q in
    let R : ReplacesSo d h v (Given x) = subst (ReplacesSo d h v) P ((account_laws.plans_accounted d h (held_placed d A.held) A.document).1 v S) in
    let p = R.0 in
    let r = R.2 (supply_of d x) in
    let n = named_of d h (λ s. replace_plan d v s s.ups) x P in
    let t = path_at h (parts d.kids) p R.1 in
    let s = (named_spot h d.kids n.0 n.1).0 in
    let k : x.deep ≡ around n.0.ups + levels_of v = subst (ComesTo (around n.0.ups + levels_of v)) n.2 (replace_deep d v n.0 n.0.ups) in
    subst (λ o. Agree (finished d x) (located a o (λ p. replaced a (layout_of (printing d)) p (spelled v) (at_of (finished d x))))) (sym (ap (path h) A.value ∙ R.1))
    (put_step d w (Replace h v) a A S x q p h v r.0 r.1 r.2 r.3 r.4 t
    (omega (arith, k, accepted_deep d w (Replace h v) x q, (node_depths d A.held h n.0 p s t).0))
    (λ g f m. replace_gone d w h v x n.0 A.held q n.1 g f (family_leaves d A.held h n.0 p s t g m)))

-- a plan of set_value has the old value
value_of_lem : (d : State) (v : Value) (s : Spot) (x : Plan) → value_plan d v s (value_of d s.kids) ≡ Given x
    → (i : Handle) × (o : Spot) × (value_in s.kids ≡ Some i) × (spot_at i.place d.kids ≡ Some o) × (value_plan d v s (Some o) ≡ Given x) × (is_property (sort_of s) ≡ true)
value_of_lem d v s x = go (value_in s.kids) refl
  where
    refused : {B : Type 0} (r : Refusal) → Refused r ≡ Given x → B
    refused r e = (let y : ◌≡◌ {A = ℕ} 0 1 = cc in absurd (omega arith))

    is_property_lem : (o : Spot) → value_plan d v s (Some o) ≡ Given x → is_property (sort_of s) ≡ true
    is_property_lem o = cond_both (is_property (sort_of s)) (Given _) (Refused NotHere) (λ y. y ≡ Given x → is_property (sort_of s) ≡ true) (λ z e. z) (λ z e. refused NotHere e)

    on : (i : Handle) → value_in s.kids ≡ Some i → (t : Option Spot) → spot_at i.place d.kids ≡ t → value_plan d v s t ≡ Given x
        → (i : Handle) × (o : Spot) × (value_in s.kids ≡ Some i) × (spot_at i.place d.kids ≡ Some o) × (value_plan d v s (Some o) ≡ Given x) × (is_property (sort_of s) ≡ true)
    on i m None z e = refused NotHere e
    on i m (Some o) z e = (i, o, m, z, e, is_property_lem o e)

    go : (t : Option Handle) → value_in s.kids ≡ t → value_plan d v s (then t (λ h. spot_at h.place d.kids)) ≡ Given x
        → (i : Handle) × (o : Spot) × (value_in s.kids ≡ Some i) × (spot_at i.place d.kids ≡ Some o) × (value_plan d v s (Some o) ≡ Given x) × (is_property (sort_of s) ≡ true)
    go None m e = refused NotHere e
    go (Some i) m e = on i m (spot_at i.place d.kids) refl e

-- set_value
value_agrees : (d : State) (w : Work) (h : Handle) (v : Value) (a : Account) → Agree d a → Showable v → (x : Plan) → accepted d w (SetValue h v) ≡ Given x → KeptBy d w (SetValue h v) a x
value_agrees d w h v a A S x q =
    let P = accepted_planned d w (SetValue h v) x q in
    let R : SetsSo d h v (Given x) = subst (SetsSo d h v) P ((account_laws.set_plans_accounted d v (held_placed d A.held) A.document S).0 h) in
    let p = R.0 in
    let r = R.2 (supply_of d x) in
    let n = named_of d h (λ s. value_plan d v s (value_of d s.kids)) x P in
    let s : Spot = n.0 in
    let t = path_at h (parts d.kids) p R.1 in
    let z = (named_spot h d.kids s n.1).0 in
    let o = value_of_lem d v s x n.2 in
    let k : x.deep ≡ around s.ups + levels_of v = subst (ComesTo (around s.ups + levels_of v)) o.4 (value_deep d v s o.1) in
    let b : ◌≡◌ {A = ℕ} (cond (bracketed (sort_of s)) 1 0) 0 = ap (λ y. cond y 1 0) (property_flat (sort_of s) o.5) in
    let y = standing d.kids 0 p h t in
    let f = found_at h.place [] end (tree d.kids) s z in
    let same = at_once h.place y.own s.here.own y.kids s.kids (tree d.kids) (held_once d A.held h.place) (inr (inl y.stands)) f in
    let u : at_path (parts d.kids) (p ++ 0 ∷ []) ≡ Some o.0 = y.lower 0 [] ∙ (ap (λ ks. at (parts ks) 0 []) same.1 ∙ value_first s.kids o.0 o.2) in
    subst (λ o. Agree (finished d x) (located a o (λ p. replaced a (layout_of (printing d)) (p ++ 0 ∷ []) (spelled v) (at_of (finished d x))))) (sym (ap (path h) A.value ∙ R.1))
    (put_step d w (SetValue h v) a A S x q (p ++ 0 ∷ []) o.0 v r.0 r.1 r.2 r.3 r.4 u
    (omega (arith, k, b, accepted_deep d w (SetValue h v) x q, (node_depths d A.held h s p z t).1, above_below (parts d.kids) 0 p))
    (λ g f m. value_gone d w h v x s o.1 o.0 A.held q n.1 o.2 o.3 g f (family_leaves d A.held o.0 o.1 (p ++ 0 ∷ []) o.3 u g m)))

-- clear
clear_agrees : (d : State) (w : Work) (a : Account) → Agree d a → (x : Plan) → accepted d w Clear ≡ Given x → KeptBy d w Clear a x
clear_agrees d w a A x q =
    let P = accepted_planned d w Clear x q in
    let k : x.grow (supply_of d x) ≡ end = ap (λ y. grown y (supply_of d x)) (sym P) in
    step d w Clear a A tt x q (done a Clear (layout_of (printing d)) (at_of (finished d x)))
    (subst (λ y. depth (parts y) ≤ 64) (sym k) (omega arith))
    (ap parts (sym k))
    ((λ t. less (lost_all (reads d A.document A.shallow t)) (A.remarks t)) ∙ (account_laws.clear_accounted d.kids A.document ∙ ap comments (sym k)))
    (λ h m. elim (in_append h (handles a.value) a.left m) [
      | inl y ↦ (let z = subst (λ y. In h (handles y)) A.value y in inl (z, λ f. clear_gone d w x A.held q h f (handles_stand h d.kids z).0))
      | inr y ↦ inr y
    ])
  where
    grown : Outcome Plan → Supply → Nodes
    grown (Refused r) u = end
    grown (Given x) u = x.grow u

-- the same plan
given_same : (x y : Plan) → Given x ≡ Given y → x ≡ y
given_same x y e = cc

-- set_root
root_agrees : (d : State) (w : Work) (v : Value) (a : Account) → Agree d a → Showable v → (x : Plan) → accepted d w (SetRoot v) ≡ Given x → KeptBy d w (SetRoot v) a x
root_agrees d w v a A S x q = go (value_in d.kids) refl (accepted_planned d w (SetRoot v) x q)
  where
    D : x.deep ≤ 64
    D = accepted_deep d w (SetRoot v) x q

    H : Held (finished d x)
    H = subst Held (ap (after_outcome d) q) (after_held d w (SetRoot v) A.held)

    flat : (V : Parts Handle) → above V 0 [] ≡ 0
    flat nil = refl
    flat (part i l ks ts) = refl

    full : (o : Handle) (V : Parts Handle) → at V 0 [] ≡ Some o → Agree (finished d x) (replaced a (layout_of (printing d)) [] (spelled v) (at_of (finished d x))) → Agree (finished d x) (rooted a (layout_of (printing d)) (spelled v) (at_of (finished d x)) V)
    full o nil e z = absurd (none-some o e)
    full o (part i l ks ts) e z = z

    go : (o : Option Handle) → value_in d.kids ≡ o → Given (root_plan d v o) ≡ Given x → KeptBy d w (SetRoot v) a x
    go (Some o) m P =
        let k = given_same (root_plan d v (Some o)) x P in
        let r = (account_laws.set_plans_accounted d v (held_placed d A.held) A.document S).1 o (supply_of d x) m in
        let t = value_first d.kids o m in
        let y = standing d.kids 0 [] o t in
        let s = at_found o.place [] end (tree d.kids) y.own y.kids (held_once d A.held o.place) (inr (inl y.stands)) in
        full o a.value (ap (λ y. at y 0 []) A.value ∙ t)
        (put_step d w (SetRoot v) a A S x q [] o v r.0 r.1 r.2 (ap (λ y. parts (y.grow (supply_of d x))) (sym k) ∙ r.3) (ap (λ y. comments (y.grow (supply_of d x))) (sym k) ∙ r.4) t
        (omega (arith, D, ap (λ y. y.deep) k, flat (parts d.kids)))
        (λ g f n. root_gone d w v x s.0 o A.held q m s.1 g f (family_leaves d A.held o s.0 [] s.1 t g n)))
    go None m P =
        let k = given_same (root_plan d v None) x P in
        let u = supply_of d x in
        let n = break_of (newline_kind d.kids) in
        let st : Style = styled n (uses_trailing_commas Sort.root d.kids) root_indents in
        let T : Nodes = root_put (root_cut d.kids) n (written st [] v) u in
        let c : x.grow u ≡ T = ap (λ y. y.grow u) (sym k) in
        let r = account_laws.first_root_accounted n u st [] v d.kids (record { one = S.0; shaped = S.1; shows = S.2; step_blank = root_blank.step_is; indent_blank = tt }) A.document m in
        subst (λ V. Agree (finished d x) (rooted a (layout_of (printing d)) (spelled v) (at_of (finished d x)) V)) (sym (A.value ∙ r.0))
        (step d w (SetRoot v) a A S x q (record { value = with_handles (at_of (finished d x)) (spelled v); comments = a.comments; left = a.left })
        (omega (arith, D, ap (λ y. y.deep) k, ap (λ y. depth (parts y)) c, ap levels_of r.2, spelled_levels v))
        ((λ t. with_handles (λ p. at_of_lem (finished d x) H p t) (spelled v)) ∙ (ap (λ y. with_handles (at_path (parts y)) (spelled v)) c ∙ (r.3 ∙ ap parts (sym c))))
        (A.remarks ∙ (sym r.4 ∙ ap comments (sym c)))
        (λ h z. inr z))

-- a plan that changes neither value nor comments
abbrev Quiet : State → Outcome Plan → Type 0
Quiet d (Refused r) = Unit {0}
Quiet d (Given x) = (u : Supply) → (comments (x.grow u) ≡ comments d.kids) × (parts (x.grow u) ≡ parts d.kids)

-- keeps the account
quiet_agrees : (d : State) (w : Work) (e : Edit Value) (a : Account) → Agree d a → Showing e → (x : Plan) → accepted d w e ≡ Given x → Quiet d (Given x) → Agree (finished d x) a
quiet_agrees d w e a A S x q k = (let r = k (supply_of d x) in step d w e a A S x q a (omega (arith, A.shallow, ap depth r.1)) (A.value ∙ sym r.1) (A.remarks ∙ sym r.0) (λ h m. inr m))

-- set_trailing_commas
commas_quiet : (d : State) → Placed d.kids → Document d.kids → (m : Commas) (s : Spot) (k : ℕ) → spot_at k d.kids ≡ Some s → Quiet d (cond (is_root (sort_of s) || bracketed (sort_of s)) (Given (commas_plan d m s)) (Refused NotHere))
commas_quiet d p doc Never s k e = cond_both (is_root (sort_of s) || bracketed (sort_of s)) (Given (commas_plan d Never s)) (Refused NotHere) (Quiet d)
    (λ z u. (never_comments s.here.place d.kids, never_value s.here.place d.kids (spot_bracketed d p doc s k (spot_found k d.kids s e) z) doc)) (λ z. tt)
commas_quiet d p doc IfMultiline s k e = cond_both (is_root (sort_of s) || bracketed (sort_of s)) (Given (commas_plan d IfMultiline s)) (Refused NotHere) (Quiet d)
    (λ z u. (lines_comments s.here.place (lined (sort_of s) s.kids) u d.kids, lines_value s.here.place (lined (sort_of s) s.kids) u d.kids (spot_bracketed d p doc s k (spot_found k d.kids s e) z) doc)) (λ z. tt)

-- ensure_multiline
multiline_quiet : (d : State) → Placed d.kids → Document d.kids → (s : Spot) (k : ℕ) → spot_at k d.kids ≡ Some s → Quiet d (cond (bracketed (sort_of s)) (Given (multiline_plan d s)) (Refused NotHere))
multiline_quiet d p doc s k e = cond_both (bracketed (sort_of s)) (Given (multiline_plan d s)) (Refused NotHere) (Quiet d)
    (λ z. cond_both (any is_break s.kids) _ _ (λ (x : Plan). (u : Supply) → (comments (x.grow u) ≡ comments d.kids) × (parts (x.grow u) ≡ parts d.kids)) (λ y u. (refl, refl))
    (λ y u. (let b = indents_blank s d.kids (spot_surrounded k d.kids s doc.whole e) doc.whole in
    let l : Lines = lines_of (break_of (newline_kind d.kids)) (indents s d.kids) in
    let B : Blanked l = record { inner_blank = all_append (indents s d.kids).current (indents s d.kids).step b.current_is b.step_is; current_blank = b.current_is } in
    (multiline_comments s.here.place l u d.kids B, multiline_value s.here.place l u d.kids B (spot_bracketed d p doc s k (spot_found k d.kids s e) (bracketed_or d p doc (sort_of s) z))))))
    (λ z. tt)

-- every accepted edit keeps document and account agreeing
pub edit_agrees : (d : State) (w : Work) (e : Edit Value) (a : Account) → Agree d a → Showing e → (x : Plan) → accepted d w e ≡ Given x → KeptBy d w e a x
edit_agrees d w (Remove h) a A S x q = remove_agrees d w h a A x q
edit_agrees d w (Replace h v) a A S x q = replace_agrees d w h v a A S x q
edit_agrees d w (SetValue h v) a A S x q = value_agrees d w h v a A S x q
edit_agrees d w (SetRoot v) a A S x q = root_agrees d w v a A S x q
edit_agrees d w Clear a A S x q = clear_agrees d w a A x q
edit_agrees d w (SetTrailingCommas h m) a A S x q =
    let n = named_of d h (λ s. cond (is_root (sort_of s) || bracketed (sort_of s)) (Given (commas_plan d m s)) (Refused NotHere)) x (accepted_planned d w (SetTrailingCommas h m) x q) in
    quiet_agrees d w (SetTrailingCommas h m) a A S x q (subst (Quiet d) n.2 (commas_quiet d (held_placed d A.held) A.document m n.0 h.place (named_spot h d.kids n.0 n.1).0))
edit_agrees d w (EnsureMultiline h) a A S x q =
    let n = named_of d h (λ s. cond (bracketed (sort_of s)) (Given (multiline_plan d s)) (Refused NotHere)) x (accepted_planned d w (EnsureMultiline h) x q) in
    quiet_agrees d w (EnsureMultiline h) a A S x q (subst (Quiet d) n.2 (multiline_quiet d (held_placed d A.held) A.document n.0 h.place (named_spot h d.kids n.0 n.1).0))
