-- Every edit, accepted or refused, leaves a document. Assumes nothing.
use Rattle.std.proofs.Common.{◌≡◌, ℕ, ◌+◌, Bool, true, false, cond, not, ◌&&◌, ◌||◌, eqb, ltb, List, [], ◌∷◌, length, Some, None, Option, sym, refl, ap, ◌∙◌, subst, inl, inr, true≢false, arith}
use mathlib.Core.Bool.{false≢true}
use Rattle.std.proofs.lemmas.Bool.{cond_both, and_parts, not-true}
use Rattle.std.proofs.lemmas.Option.{none-some}
use Rattle.grammar.specs.Pieces.{Leaf, null, boolean, number, string, name, token, whitespace, newline, comment, Break, Box, array, object, property, nodes, stored}
use Rattle.forest.specs.Forest.{end, node, count}
use Rattle.model.specs.Nodes.{Handle, handle, Sort, root, within, single, Own, Nodes, Gap, gap, value, class}
use Rattle.model.specs.Asks.{Frame, Spot, spot_at, numbered_so, then, sort_of, is_property, is_root, bracketed, is_value, is_break, any, value_in, living, newline_kind, uses_trailing_commas}
use Rattle.model.specs.Indents.{Indents, root_indents, indents}
use Rattle.model.specs.Written.{Value, written, break_of}
use Rattle.model.specs.Edits.{Supply, sown, exchange, lined}
use Rattle.refusal.specs.declared.Refusal.{Refusal}
use Rattle.refusal.specs.declared.Refusal.TheVariants.{BadMemory, Gone, NotHere, TooDeep, NoNode, NoText, Worn}
use Rattle.model.specs.State.{State, Outcome, Refused, Given, and_then, unless, present, Plan, Edit, Remove, Replace, SetValue, SetRoot, Clear, SetTrailingCommas, EnsureMultiline, Commas, Never, IfMultiline, Work, bad_memory, remove_plan, parent_spot, styled, replace_plan, value_plan, value_of, root_plan, commas_plan, multiline_plan, spotted, planned, supply_of, worn, judged, accepted, after_outcome, after}
use Rattle.model.specs.Fits.{Owner, top, of, Role, title, element, role, takes, Taken, Fits, Holds, Document}
use Rattle.model.specs.Changes.{At, Each, Trivial, Placed, IsBracketed, IsContainer, IsItem, IsElement, Showable, Showing}
use Rattle.model.proofs.Commas.{class_is_value, bracketed_commas}
use Rattle.model.proofs.Edited.{at_count}
use Rattle.model.proofs.Kept.{at_inside, remove_document, exchange_kept, root_document, never_document, lines_document, multiline_document}
use Rattle.model.proofs.Loaded.{Stands}
use Rattle.model.proofs.Writes.{written_stands, all_append}
use Rattle.model.proofs.Indented.{Framed, Blanks, root_blank, Surrounded, indents_blank, spot_surrounded}
use Rattle.model.proofs.Spots.{item_of, element_of, container_of, bracketed_of, root_bracketed, root_container, holds_at, parent_box, Parent, at_root, at_node, Spotted, the_root, a_node, spot_found}

-- whatever new nodes take, a plan leads to a document
abbrev Grows : Outcome Plan → Type 0
Grows (Refused r) = Unit {0}
Grows (Given x) = (u : Supply) → Document (x.grow u)

-- a node that is found by its handle
with_spot : (d : State) (h : Handle) (F : Spot → Outcome Plan) → ((s : Spot) → spot_at h.place d.kids ≡ Some s → Grows (F s)) → Grows (and_then (spotted d h) F)
with_spot d h F k = go (spot_at h.place d.kids) refl
  where
    go : (o : Option Spot) → spot_at h.place d.kids ≡ o → Grows (and_then (present Gone (then o (numbered_so h.number))) F)
    go None e = tt
    go (Some s) e = cond_both (eqb s.here.own.number h.number) (Some s) None (λ y. Grows (and_then (present Gone y) F)) (λ z. k s e) (λ z. tt)

-- what is a property is a box
pub property_box : (s : Sort) → is_property s ≡ true → s ≡ within property
property_box root e = absurd (false≢true e)
property_box (within array) e = absurd (false≢true e)
property_box (within object) e = absurd (false≢true e)
property_box (within property) e = refl
property_box (single x) e = absurd (false≢true e)

-- a box that is no property takes no name
pub no_title : (s : Sort) (b : Box) → s ≡ within b → is_property s ≡ false → takes (of b) title ≡ false
no_title s array e n = refl
no_title s object e n = refl
no_title s property e n = absurd (true≢false (sym (ap is_property e) ∙ n))

-- a value that is no property is an element
leaf_element : (x : Leaf) → class (single x) ≡ value → role (single x) ≡ element
leaf_element null e = refl
leaf_element (boolean b) e = refl
leaf_element (number t) e = refl
leaf_element (string t) e = refl
leaf_element (name t) e = (let z : ◌≡◌ {A = ℕ} 0 1 = cc in absurd (omega arith))
leaf_element (token m) e = (let z : ◌≡◌ {A = ℕ} 0 1 = cc in absurd (omega arith))
leaf_element (whitespace t) e = (let z : ◌≡◌ {A = ℕ} 0 1 = cc in absurd (omega arith))
leaf_element (newline k) e = (let z : ◌≡◌ {A = ℕ} 0 1 = cc in absurd (omega arith))
leaf_element (comment c) e = (let z : ◌≡◌ {A = ℕ} 0 1 = cc in absurd (omega arith))

pub sort_element : (s : Sort) → class s ≡ value → is_property s ≡ false → role s ≡ element
sort_element root e n = refl
sort_element (within array) e n = refl
sort_element (within object) e n = refl
sort_element (within property) e n = absurd (true≢false n)
sort_element (single x) e n = leaf_element x e

-- a value where no property is taken is an element
pub taken_element : (f : Owner) (s : Sort) → class s ≡ value → takes f Role.member ≡ false → takes f (role s) ≡ true → role s ≡ element
taken_element f root e n h = refl
taken_element f (within array) e n h = refl
taken_element f (within object) e n h = refl
taken_element f (within property) e n h = absurd (true≢false (sym h ∙ n))
taken_element f (single x) e n h = leaf_element x e

-- siblings at the root without a value are trivia
leaf_trivial : (x : Leaf) → takes top (role (single x)) ≡ true → is_value (class (single x)) ≡ false → (g : Gap) × (class (single x) ≡ gap g)
leaf_trivial null t e = absurd (true≢false e)
leaf_trivial (boolean b) t e = absurd (true≢false e)
leaf_trivial (number u) t e = absurd (true≢false e)
leaf_trivial (string u) t e = absurd (true≢false e)
leaf_trivial (name u) t e = absurd (false≢true t)
leaf_trivial (token m) t e = absurd (false≢true t)
leaf_trivial (whitespace u) t e = (Gap.blank, refl)
leaf_trivial (newline k) t e = (Gap.break, refl)
leaf_trivial (comment c) t e = (Gap.remark c, refl)

sort_trivial : (s : Sort) → takes top (role s) ≡ true → is_value (class s) ≡ false → (g : Gap) × (class s ≡ gap g)
sort_trivial root t e = absurd (true≢false e)
sort_trivial (within b) t e = absurd (true≢false e)
sort_trivial (single x) t e = leaf_trivial x t e

pub none_trivial : (ks : Nodes) → Taken top ks → value_in ks ≡ None → Each Trivial ks
none_trivial end t = λ e. tt
none_trivial (node q i us ts) t = cond_both (is_value (class i.sort)) (Some (handle q i)) (value_in ts) (λ y. y ≡ None → Each Trivial (node q i us ts))
    (λ z e. absurd (none-some (handle q i) (sym e))) (λ z e. (sort_trivial i.sort t.0 z, none_trivial ts t.1 e))

module _ (d : State) (p : Placed d.kids) (doc : Document d.kids) where
  -- the container of a node that is found
  node_container : (k : ℕ) (i : Own) (ks : Nodes) (f : Frame) (vs : List Frame) → Parent k d.kids i ks (f ∷ vs) → IsContainer f.place d.kids
  node_container k i ks _ _ (at_root f z o) = subst (λ y. IsContainer y d.kids) (sym z) (root_container d.kids p)
  node_container k i ks _ _ (at_node f vs us a b) =
      let x = parent_box f.own.sort k i ks us (holds_at f.place f.own us d.kids a doc.whole) b in
      container_of d.kids p f.place f.own us x.0 a x.1

  node_bracketed : (k : ℕ) (i : Own) (ks : Nodes) (f : Frame) (vs : List Frame) → is_property f.own.sort ≡ false → Parent k d.kids i ks (f ∷ vs) → IsBracketed f.place d.kids
  node_bracketed k i ks _ _ n (at_root f z o) = subst (λ y. IsBracketed y d.kids) (sym z) (root_bracketed d.kids p)
  node_bracketed k i ks _ _ n (at_node f vs us a b) =
      let x = parent_box f.own.sort k i ks us (holds_at f.place f.own us d.kids a doc.whole) b in
      bracketed_of d.kids p f.place f.own us x.0 a x.1 (no_title f.own.sort x.0 x.1 n)

  -- REMOVE
  remove_at : (s : Spot) (k : ℕ) (us : List Frame) → s.here.place ≡ k → At k s.here.own s.kids d.kids → Parent k d.kids s.here.own s.kids us → Grows (remove_plan d s us)
  remove_at s k [] h a q = tt
  remove_at s k (f ∷ us) h a q =
      cond_both (is_value (class (sort_of s)) && not (is_property f.own.sort)) (Given _) (Refused NotHere) Grows
      (λ z u. (let y = and_parts (is_value (class (sort_of s))) (not (is_property f.own.sort)) z in
      remove_document f.place s.here.place d.kids (node_bracketed k s.here.own s.kids f us (not-true (is_property f.own.sort) y.1) q)
      (subst (λ x. IsItem x d.kids) (sym h) (item_of d.kids p k s.here.own s.kids a (class_is_value (class (sort_of s)) y.0))) doc))
      (λ z. tt)

  remove_grows : (s : Spot) (k : ℕ) → Spotted k d.kids s → Grows (remove_plan d s s.ups)
  remove_grows s k (the_root _ _ _ _ e) = subst (λ y. Grows (remove_plan d s y)) (sym e) tt
  remove_grows s k (a_node h a q) = remove_at s k s.ups h a q

  -- a value written in the place of another
  stands : (b : Break) (t : Bool) (i : Indents) (v : Value) → Blanks i → Showable v → Stands (written (styled b t i) i.current v)
  stands b t i v h w = written_stands (styled b t i) i.current v h.step_is h.current_is w.0 w.1 w.2

  -- REPLACE
  replace_at : (v : Value) (s : Spot) (k : ℕ) (us : List Frame) → Showable v → Surrounded s → s.ups ≡ us → s.here.place ≡ k → At k s.here.own s.kids d.kids → Parent k d.kids s.here.own s.kids us → Grows (replace_plan d v s us)
  replace_at v s k [] w r e h a q = tt
  replace_at v s k (f ∷ us) w r e h a q =
      cond_both (is_value (class (sort_of s)) && not (is_property (sort_of s))) (Given _) (Refused NotHere) Grows
      (λ z u. (let y = and_parts (is_value (class (sort_of s))) (not (is_property (sort_of s))) z in
      let c = class_is_value (class (sort_of s)) y.0 in
      let m = subst Framed e r.ups_held in
      let b = indents_blank (parent_spot s f us) d.kids (record { before_held = m.0; ups_held = m.1 }) doc.whole in
      exchange_kept f.place s.here.place u _ d.kids (stands _ _ (indents (parent_spot s f us) d.kids) v b w) (node_container k s.here.own s.kids f us q)
      (subst (λ x. IsElement x d.kids) (sym h) (element_of d.kids p k s.here.own s.kids a c (sort_element (sort_of s) c (not-true (is_property (sort_of s)) y.1)))) doc))
      (λ z. tt)

  replace_grows : (v : Value) (s : Spot) (k : ℕ) → Showable v → Surrounded s → Spotted k d.kids s → Grows (replace_plan d v s s.ups)
  replace_grows v s k w r (the_root _ _ _ _ e) = subst (λ y. Grows (replace_plan d v s y)) (sym e) tt
  replace_grows v s k w r (a_node h a q) = replace_at v s k s.ups w r refl h a q

  -- SET_TRAILING_COMMAS
  sort_box : (s : Sort) (ks : Nodes) → Holds s ks → is_root s || bracketed s ≡ true → (b : Box) × (s ≡ within b) × (takes (of b) title ≡ false)
  sort_box root ks h e = absurd h
  sort_box (within array) ks h e = (array, refl, refl)
  sort_box (within object) ks h e = (object, refl, refl)
  sort_box (within property) ks h e = absurd (false≢true e)
  sort_box (single x) ks h e = absurd (false≢true e)

  pub spot_bracketed : (s : Spot) (k : ℕ) → Spotted k d.kids s → is_root (sort_of s) || bracketed (sort_of s) ≡ true → IsBracketed s.here.place d.kids
  spot_bracketed s k (the_root _ _ e _ _) z = subst (λ y. IsBracketed y d.kids) (sym e) (root_bracketed d.kids p)
  spot_bracketed s k (a_node h a q) z =
      let x = sort_box (sort_of s) s.kids (holds_at k s.here.own s.kids d.kids a doc.whole) z in
      subst (λ y. IsBracketed y d.kids) (sym h) (bracketed_of d.kids p k s.here.own s.kids x.0 a x.1 x.2)

  pub lines_bracketed : (s : Spot) (k : ℕ) → Spotted k d.kids s → s.here.place ≡ 0 → lined (sort_of s) s.kids ≡ false
  lines_bracketed s k (the_root _ o _ _ _) z = ap (λ y. lined y s.kids) o
  lines_bracketed s k (a_node h a q) z =
      let n = at_count k s.here.own s.kids d.kids a in
      let m = p.rootless in let e : k ≡ 0 = sym h ∙ z in
      let c : count k d.kids ≡ 0 = ap (λ y. count y d.kids) e ∙ m in absurd (omega arith)

  commas_grows : (m : Commas) (s : Spot) (k : ℕ) → Spotted k d.kids s → Grows (cond (is_root (sort_of s) || bracketed (sort_of s)) (Given (commas_plan d m s)) (Refused NotHere))
  commas_grows Never s k q = cond_both (is_root (sort_of s) || bracketed (sort_of s)) (Given (commas_plan d Never s)) (Refused NotHere) Grows
      (λ z u. never_document s.here.place d.kids (λ j ks a. (let x = spot_bracketed s k q z j ks a in (x.0, x.1))) doc) (λ z. tt)
  commas_grows IfMultiline s k q = cond_both (is_root (sort_of s) || bracketed (sort_of s)) (Given (commas_plan d IfMultiline s)) (Refused NotHere) Grows
      (λ z u. lines_document s.here.place (lined (sort_of s) s.kids) u d.kids (λ j ks a. (let x = spot_bracketed s k q z j ks a in (x.0, x.1, bracketed_commas (lined (sort_of s) s.kids) x.0 x.2))) (lines_bracketed s k q) doc) (λ z. tt)

  -- ENSURE_MULTILINE
  pub bracketed_or : (s : Sort) → bracketed s ≡ true → is_root s || bracketed s ≡ true
  bracketed_or root e = refl
  bracketed_or (within b) e = e
  bracketed_or (single x) e = e

  multiline_grows : (s : Spot) (k : ℕ) → Surrounded s → Spotted k d.kids s → Grows (cond (bracketed (sort_of s)) (Given (multiline_plan d s)) (Refused NotHere))
  multiline_grows s k r q = cond_both (bracketed (sort_of s)) (Given (multiline_plan d s)) (Refused NotHere) Grows
      (λ z. cond_both (any is_break s.kids) _ _ (λ (x : Plan). (u : Supply) → Document (x.grow u)) (λ y u. doc)
      (λ y u. (let b = indents_blank s d.kids r doc.whole in
      multiline_document s.here.place _ u d.kids (record { inner_blank = all_append (indents s d.kids).current (indents s d.kids).step b.current_is b.step_is; current_blank = b.current_is })
      (spot_bracketed s k q (bracketed_or (sort_of s) z)) doc)))
      (λ z. tt)

  -- SET_VALUE, SET_ROOT

  -- the first value among siblings
  value_found : (f : Owner) (ks : Nodes) (h : Handle) → takes f Role.member ≡ false → Taken f ks → value_in ks ≡ Some h → (i : Own) × (us : Nodes) × At h.place i us ks × (class i.sort ≡ value) × (role i.sort ≡ element)
  value_found f end h n t = λ e. absurd (none-some h e)
  value_found f (node q i us ts) h n t =
      cond_both (is_value (class i.sort)) (Some (handle q i)) (value_in ts) (λ y. y ≡ Some h → (j : Own) × (vs : Nodes) × At h.place j vs (node q i us ts) × (class j.sort ≡ value) × (role j.sort ≡ element))
      (λ z e. (let c = class_is_value (class i.sort) z in let x : handle q i ≡ h = cc in (i, us, inl (ap (λ y. y.place) x, refl, refl), c, taken_element f i.sort c n t.0)))
      (λ z e. (let m = value_found f ts h n t.1 e in (m.0, m.1, inr (inr m.2), m.3, m.4)))

  value_at : (v : Value) (s o : Spot) (k : ℕ) (h : Handle) → Showable v → Surrounded s → Spotted k d.kids s → value_in s.kids ≡ Some h → spot_at h.place d.kids ≡ Some o → is_property (sort_of s) ≡ true → (u : Supply)
      → Document (exchange s.here.place o.here.place (sown u (written (styled (break_of (newline_kind d.kids)) (uses_trailing_commas (sort_of o) o.kids) (indents s d.kids)) (indents s d.kids).current v)) d.kids)
  value_at v s o k h w r (the_root _ e _ _ _) m n z u = absurd (false≢true (sym (ap is_property e) ∙ z))
  value_at v s o k h w r (a_node e a q) m n z u =
      let x = property_box (sort_of s) z in
      let f : Fits (of property) s.kids = subst (λ y. Holds y s.kids) x (holds_at k s.here.own s.kids d.kids a doc.whole) in
      let y = value_found (of property) s.kids h refl f.taken m in
      let b = at_inside k h.place s.here.own y.0 s.kids y.1 d.kids a y.2 in
      let E : IsElement h.place d.kids = element_of d.kids p h.place y.0 y.1 b y.3 y.4 in
      exchange_kept s.here.place o.here.place u _ d.kids (stands _ _ (indents s d.kids) v (indents_blank s d.kids r doc.whole) w)
      (subst (λ y. IsContainer y d.kids) (sym e) (container_of d.kids p k s.here.own s.kids property a x))
      (subst (λ y. IsElement y d.kids) (sym (o_place (spot_found h.place d.kids o n))) E) doc
    where
      o_place : Spotted h.place d.kids o → o.here.place ≡ h.place
      o_place (the_root g _ l _ _) = l ∙ sym g
      o_place (a_node g _ _) = g

  value_grows : (v : Value) (s : Spot) (k : ℕ) → Showable v → Surrounded s → Spotted k d.kids s → Grows (value_plan d v s (value_of d s.kids))
  value_grows v s k w r q = go (value_in s.kids) refl
    where
      at : (h : Handle) → value_in s.kids ≡ Some h → (x : Option Spot) → spot_at h.place d.kids ≡ x → Grows (value_plan d v s x)
      at h m None n = tt
      at h m (Some o) n = cond_both (is_property (sort_of s)) (Given _) (Refused NotHere) Grows (λ z u. value_at v s o k h w r q m n z u) (λ z. tt)

      go : (x : Option Handle) → value_in s.kids ≡ x → Grows (value_plan d v s (then x (λ h. spot_at h.place d.kids)))
      go None m = tt
      go (Some h) m = at h m (spot_at h.place d.kids) refl

  root_grows : (v : Value) → Showable v → (x : Option Handle) → value_in d.kids ≡ x → Grows (Given (root_plan d v x))
  root_grows v w None e u = root_document _ u _ d.kids (stands _ _ root_indents v root_blank w) (none_trivial d.kids doc.fits.taken e) doc
  root_grows v w (Some h) e u =
      let y = value_found top d.kids h refl doc.fits.taken e in
      exchange_kept 0 h.place u _ d.kids (stands _ _ root_indents v root_blank w) (root_container d.kids p)
      (element_of d.kids p h.place y.0 y.1 y.2 y.3 y.4) doc

  plan_grows : (e : Edit Value) → Showing e → Grows (planned d e)
  plan_grows (Remove h) w = with_spot d h (λ s. remove_plan d s s.ups) (λ s e. remove_grows s h.place (spot_found h.place d.kids s e))
  plan_grows (Replace h v) w = with_spot d h (λ s. replace_plan d v s s.ups) (λ s e. replace_grows v s h.place w (spot_surrounded h.place d.kids s doc.whole e) (spot_found h.place d.kids s e))
  plan_grows (SetValue h v) w = with_spot d h (λ s. value_plan d v s (value_of d s.kids)) (λ s e. value_grows v s h.place w (spot_surrounded h.place d.kids s doc.whole e) (spot_found h.place d.kids s e))
  plan_grows (SetRoot v) w = root_grows v w (value_in d.kids) refl
  plan_grows Clear w = λ u. record { fits = record { ends = tt; taken = tt }; whole = tt }
  plan_grows (SetTrailingCommas h m) w = with_spot d h (λ s. cond (is_root (sort_of s) || bracketed (sort_of s)) (Given (commas_plan d m s)) (Refused NotHere)) (λ s e. commas_grows m s h.place (spot_found h.place d.kids s e))
  plan_grows (EnsureMultiline h) w = with_spot d h (λ s. cond (bracketed (sort_of s)) (Given (multiline_plan d s)) (Refused NotHere)) (λ s e. multiline_grows s h.place (spot_surrounded h.place d.kids s doc.whole e) (spot_found h.place d.kids s e))

  -- what is judged is the plan or a refusal
  unless_grows : (b : Bool) (r : Refusal) (o : Outcome Plan) → Grows o → Grows (unless b r o)
  unless_grows true r o g = tt
  unless_grows false r o g = g

  judged_grows : (o : Outcome Plan) → Grows o → Grows (and_then o (judged d))
  judged_grows (Refused r) g = tt
  judged_grows (Given x) g =
      unless_grows (ltb 64 x.deep) TooDeep _ (unless_grows (ltb d.records (living x.cut + nodes x.adds)) NoNode _
      (unless_grows (ltb d.store (d.used + length (stored x.adds))) NoText _ (unless_grows (worn d x) Worn (Given x) g)))

  after_grows : (o : Outcome Plan) → Grows o → Document (after_outcome d o).kids
  after_grows (Refused r) g = doc
  after_grows (Given x) g = g (supply_of d x)

-- Every edit, accepted or refused, of a document whose places are distinct leaves a document.
pub step_document : (d : State) (w : Work) (e : Edit Value) → Placed d.kids → Document d.kids → Showing e → Document (after d w e).kids
step_document d w e p doc h = after_grows d p doc (accepted d w e) (unless_grows d p doc (bad_memory d w e) BadMemory (and_then (planned d e) (judged d)) (judged_grows d p doc (planned d e) (plan_grows d p doc e h)))
