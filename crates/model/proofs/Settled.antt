-- After each edit that writes or removes a value, value and comments are the account's. Assumes nothing.
use Rattle.std.proofs.Common.{◌≡◌, ℕ, ◌≤◌, true, false, not, ◌&&◌, eqb, List, [], ◌∷◌, ◌++◌, Some, None, Option, sym, refl, ap, ◌∙◌, subst, inl, inr, append-nil, arith}
use mathlib.Core.Bool.{false≢true}
use Rattle.std.proofs.lemmas.Bool.{eqb-true, cond_both, and_parts, not-true}
use Rattle.grammar.specs.Layout.{Parts, nil, part}
use Rattle.grammar.specs.Pieces.{Break, property, layout}
use Rattle.forest.specs.Forest.{end, node, count}
use Rattle.model.specs.Nodes.{Handle, handle, Own, Nodes, Class, gap, mark, value, class, pieces, parts, parts_at, label_of}
use Rattle.model.specs.Asks.{Frame, Spot, named, sort_of, spot_at, then, newline_kind, uses_trailing_commas, is_value, is_property, value_in, at, at_path, path_to}
use Rattle.model.specs.Edits.{Supply, sown, remove, exchange, root_cut, root_put}
use Rattle.model.specs.Written.{Value, Style, spelled, written, break_of}
use Rattle.model.specs.Indents.{indents}
use Rattle.model.specs.Sources.{IsNil, IsOne}
use Rattle.model.specs.Laws.{Writable}
use Rattle.model.specs.Fits.{Owner, top, of, role, takes, Taken, Fits, Holds, Document, comments, bare}
use Rattle.model.specs.Changes.{At, Each, Trivial, Placed, IsBracketed, IsContainer, IsElement, Showable}
use Rattle.model.specs.Account.{with_handles, deleted, put, less, lost_by_removal, lost_inside, lost_all}
use Rattle.model.specs.Accounted.{counted, Among, first, later, Below, child, deeper, along, Lies, on_top, inside, Alone, Found, Fresh, RemovesSo, ReplacesSo, SetsSo, AccountLaws}
use Rattle.refusal.specs.declared.Refusal.TheVariants.{Gone, NotHere}
use Rattle.model.specs.State.{State, Refused, Given, and_then, present, Remove, Replace, SetValue, planned, remove_plan, replace_plan, value_plan, value_of, root_plan, styled}
use Rattle.model.proofs.Commas.{class_is_value as value_is}
use Rattle.model.proofs.Edited.{at_count}
use Rattle.model.proofs.Kept.{at_inside, remove_value}
use Rattle.model.proofs.Says.{written_says, written_quiet}
use Rattle.model.proofs.Spots.{item_of, element_of, container_of, bracketed_of, root_bracketed, root_container, holds_at, parent_box, Parent, at_root, at_node, Spotted, the_root, a_node, spot_found}
use Rattle.model.proofs.Steps.{property_box, no_title, sort_element, taken_element, none_trivial}
use Rattle.model.proofs.Writes.{one_spelled}
use Rattle.model.proofs.Rooted.{root_says}
use Rattle.model.proofs.Splits.{less_split}
use Rattle.model.proofs.Loads.{whole_comments}
use Rattle.model.proofs.Ways.{as_value, lost_by_path, swapped_by_path}
use Rattle.model.proofs.Walks.{remove_less, exchange_less}
use Rattle.model.proofs.Lying.{lies_way, named_spot, spot_place, named_somewhere, named_lies}
use Rattle.model.proofs.Lone.{lone, first_only}
use Rattle.model.proofs.Puts.{exchange_named, value_among, lies_down, with_at, at_put}

-- a path answers with the handle that lies there
at_past : (h : Handle) (p : ℕ) (i : Own) (ks ts : Nodes) (n : ℕ) (q : List ℕ) → at (parts ts) n q ≡ Some h → (c : Class) → at (parts_at c (handle p i) (label_of i.sort (pieces ks)) (parts ks) (parts ts)) (counted c n) q ≡ Some h
at_past h p i ks ts n q e (gap g) = e
at_past h p i ks ts n q e (mark m) = e
at_past h p i ks ts n q e value = e

-- the path of one of the siblings
among_at : (h : Handle) (ts : Nodes) (n : ℕ) → Among h ts n → at (parts ts) n [] ≡ Some h
among_at h _ _ (first p i ks ts e v) = ap (λ y. at y 0 []) (as_value p i ks ts v) ∙ ap Some e
among_at h _ _ (later p i ks ts n e a) = at_past h p i ks ts n [] (among_at h ts n a) (class i.sort)

-- the path of one below them
below_at : (c : ℕ) (h : Handle) (ts : Nodes) (n : ℕ) (q : List ℕ) → Below c h ts n q → at (parts ts) n q ≡ Some h
below_at c h _ _ _ (child p i ks ts j e v a) = ap (λ y. at y 0 (j ∷ [])) (as_value p i ks ts v) ∙ among_at h ks j a
below_at c h _ _ _ (deeper p i ks ts j q e z v b) = ap (λ y. at y 0 (j ∷ q)) (as_value p i ks ts v) ∙ below_at c h ks j q b
below_at c h _ _ _ (along p i ks ts n q e z b) = at_past h p i ks ts n q (below_at c h ts n q b) (class i.sort)

-- the path of any node
pub lies_at : (c : ℕ) (h : Handle) (ts : Nodes) (n : ℕ) (q : List ℕ) → Lies c h ts n q → at (parts ts) n q ≡ Some h
lies_at c h ts _ _ (on_top n e a) = among_at h ts n a
lies_at c h ts _ _ (inside n q e b) = below_at c h ts n q b

-- WHAT IS FOUND

record Facts (h : Handle) (ts : Nodes) (s : Spot) (f : Frame) : Type 0 where
  place_is : s.here.place ≡ h.place
  stands : At h.place s.here.own s.kids ts
  box : IsContainer f.place ts
  no_property : is_property f.own.sort ≡ false → IsBracketed f.place ts

-- the parent of a node is the root or a container
container_at : (ts : Nodes) → Placed ts → Document ts → (k : ℕ) (i : Own) (ks : Nodes) (f : Frame) (vs : List Frame) → Parent k ts i ks (f ∷ vs) → IsContainer f.place ts
container_at ts p doc k i ks _ _ (at_root f z o) = subst (λ y. IsContainer y ts) (sym z) (root_container ts p)
container_at ts p doc k i ks _ _ (at_node f vs us a b) =
    let x = parent_box f.own.sort k i ks us (holds_at f.place f.own us ts a doc.whole) b in
    container_of ts p f.place f.own us x.0 a x.1

-- a parent that is no property is the root, an array or an object
bracketed_at : (ts : Nodes) → Placed ts → Document ts → (k : ℕ) (i : Own) (ks : Nodes) (f : Frame) (vs : List Frame) → Parent k ts i ks (f ∷ vs) → is_property f.own.sort ≡ false → IsBracketed f.place ts
bracketed_at ts p doc k i ks _ _ (at_root f z o) n = subst (λ y. IsBracketed y ts) (sym z) (root_bracketed ts p)
bracketed_at ts p doc k i ks _ _ (at_node f vs us a b) n =
    let x = parent_box f.own.sort k i ks us (holds_at f.place f.own us ts a doc.whole) b in
    bracketed_of ts p f.place f.own us x.0 a x.1 (no_title f.own.sort x.0 x.1 n)

-- what holds of a node that is found
facts : (h : Handle) (ts : Nodes) (s : Spot) (f : Frame) (p : List ℕ) → Found h ts s f p → Facts h ts s f
facts h ts s f p x = go (spot_found h.place ts s (named_spot h ts s x.is_named).0)
  where
    go : Spotted h.place ts s → Facts h ts s f
    go (the_root _ _ _ _ e) = (let z : ◌≡◌ {A = List Frame} [] (f ∷ x.above) = sym e ∙ x.parent in let y : ◌≡◌ {A = ℕ} 0 1 = cc in absurd (omega arith))
    go (a_node e a q) = (let r = subst (Parent h.place ts s.here.own s.kids) x.parent q in record {
      place_is = e;
      stands = a;
      box = container_at ts x.placed x.document h.place s.here.own s.kids f x.above r;
      no_property = bracketed_at ts x.placed x.document h.place s.here.own s.kids f x.above r;
    })

-- a node that is found lies at its path
found_lies : (h : Handle) (ts : Nodes) (s : Spot) (f : Frame) (p : List ℕ) → Found h ts s f p → Lies f.place h ts 0 p
found_lies h ts s f p x = named_lies h ts s f x.above p x.document.whole x.placed x.is_named x.parent x.class_is_value x.has_path

-- every value and member of a document has a path
named_has_path : (h : Handle) (ts : Nodes) (s : Spot) (f : Frame) (us : List Frame) → Document ts → Placed ts → named h ts ≡ Some s → s.ups ≡ f ∷ us → class (sort_of s) ≡ value → (p : List ℕ) × Found h ts s f p
named_has_path h ts s f us d p e u v =
    let m = named_somewhere h ts s f us d.whole p e u v in
    let z = first_only (parts ts) m.0 m.1 h (lone ts d) (lies_at f.place h ts m.0 m.1 m.2) in
    let l : Lies f.place h ts 0 m.1 = subst (λ n. Lies f.place h ts n m.1) z m.2 in
    (m.1, record { document = d; placed = p; is_named = e; above = us; parent = u; class_is_value = v; has_path = ap path_to (lies_way f.place h ts 0 m.1 l (p.once h.place)) })

-- REMOVE
remove_accounted : (h : Handle) (ts : Nodes) (s : Spot) (f : Frame) (p : List ℕ) → Found h ts s f p → is_property f.own.sort ≡ false
    → (parts (remove f.place s.here.place ts) ≡ deleted (parts ts) p) × (comments (remove f.place s.here.place ts) ≡ less (lost_by_removal (layout (pieces ts)) p) (comments ts))
remove_accounted h ts s f p x n =
    let m = facts h ts s f p x in
    let l = found_lies h ts s f p x in (
      ap (λ k. parts (remove f.place k ts)) m.place_is
          ∙ (remove_value f.place h.place ts (m.no_property n) (item_of ts x.placed h.place s.here.own s.kids m.stands x.class_is_value) ∙ lost_by_path f.place h ts p l),
      ap (λ k. comments (remove f.place k ts)) m.place_is ∙ remove_less f.place h ts p l x.document.whole,
    )

-- REPLACE
exchanged_so : (c : ℕ) (h : Handle) (ts : Nodes) (p : List ℕ) (us : Nodes) → Document ts → Fresh us → IsContainer c ts → IsElement h.place ts → Lies c h ts 0 p
    → (parts (exchange c h.place us ts) ≡ put (parts us) (parts ts) p) × (comments (exchange c h.place us ts) ≡ less (lost_inside (layout (pieces ts)) p) (comments ts))
exchanged_so c h ts p us d n b v l =
    (exchange_named c h.place us ts b v d.whole ∙ swapped_by_path c h ts p (parts us) n.alone l, exchange_less c h us ts p n.quiet l d.whole)

-- after replace, value and comments are the account's
replace_accounted : (h : Handle) (ts : Nodes) (s : Spot) (f : Frame) (p : List ℕ) (us : Nodes) → Found h ts s f p → is_property (sort_of s) ≡ false → Fresh us
    → (parts (exchange f.place s.here.place us ts) ≡ put (parts us) (parts ts) p) × (comments (exchange f.place s.here.place us ts) ≡ less (lost_inside (layout (pieces ts)) p) (comments ts))
replace_accounted h ts s f p us x n u =
    let m = facts h ts s f p x in
    subst (λ k. (parts (exchange f.place k us ts) ≡ put (parts us) (parts ts) p) × (comments (exchange f.place k us ts) ≡ less (lost_inside (layout (pieces ts)) p) (comments ts))) (sym m.place_is)
    (exchanged_so f.place h ts p us x.document u m.box
    (element_of ts x.placed h.place s.here.own s.kids m.stands x.class_is_value (sort_element (sort_of s) x.class_is_value n)) (found_lies h ts s f p x))

-- SET_VALUE, SET_ROOT

-- one of siblings that are taken is there, and is taken
among_node : (f : Owner) (h : Handle) (ts : Nodes) (n : ℕ) → Among h ts n → Taken f ts → (i : Own) × (us : Nodes) × At h.place i us ts × (class i.sort ≡ value) × (takes f (role i.sort) ≡ true)
among_node f h _ _ (first p i ks ts e v) t = (i, ks, inl (ap (λ y. y.place) e, refl, refl), v, t.0)
among_node f h _ _ (later p i ks ts n e a) t = (let m = among_node f h ts n a t.1 in (m.0, m.1, inr (inr m.2), m.3, m.4))

-- a place stands in a child list no more often than in all
at_less : (k c : ℕ) (j : Own) (ks ts : Nodes) → At c j ks ts → count k ks ≤ count k ts
at_less k c j ks end a = absurd a
at_less k c j ks (node p i us ts) (inl a) = (let e = ap (count k) a.2 in omega arith)
at_less k c j ks (node p i us ts) (inr (inl a)) = omega (arith, at_less k c j ks us a)
at_less k c j ks (node p i us ts) (inr (inr a)) = omega (arith, at_less k c j ks ts a)

-- after set_value likewise
set_value_accounted : (h : Handle) (ts : Nodes) (s : Spot) (f : Frame) (p : List ℕ) (o : Handle) (us : Nodes) → Found h ts s f p → is_property (sort_of s) ≡ true → value_in s.kids ≡ Some o → Fresh us
    → (at_path (parts ts) (p ++ 0 ∷ []) ≡ Some o) × (parts (exchange s.here.place o.place us ts) ≡ put (parts us) (parts ts) (p ++ 0 ∷ []))
    × (comments (exchange s.here.place o.place us ts) ≡ less (lost_inside (layout (pieces ts)) (p ++ 0 ∷ [])) (comments ts))
set_value_accounted h ts s f p o us x n e u =
    let m = facts h ts s f p x in
    let b = property_box (sort_of s) n in
    let t : Fits (of property) s.kids = subst (λ y. Holds y s.kids) b (holds_at h.place s.here.own s.kids ts m.stands x.document.whole) in
    let a : Among o s.kids 0 = value_among o s.kids (λ k. omega (arith, at_less k h.place s.here.own s.kids ts m.stands, x.placed.once k)) e in
    let g = among_node (of property) o s.kids 0 a t.taken in
    let z : eqb h.place 0 ≡ false = cond_both (eqb h.place 0) true false (λ y. eqb h.place 0 ≡ false)
    (λ y. (let c : count h.place ts ≡ 0 = ap (λ k. count k ts) (eqb-true h.place 0 y) ∙ x.placed.rootless in let d = at_count h.place s.here.own s.kids ts m.stands in absurd (omega arith))) (λ y. y) in
    let l : Lies h.place o ts 0 (p ++ 0 ∷ []) = lies_down h o s.here.own s.kids 0 a f.place ts 0 p z (found_lies h ts s f p x) (x.placed.once h.place) m.stands in
    let r = subst (λ k. (parts (exchange k o.place us ts) ≡ put (parts us) (parts ts) (p ++ 0 ∷ [])) × (comments (exchange k o.place us ts) ≡ less (lost_inside (layout (pieces ts)) (p ++ 0 ∷ [])) (comments ts))) (sym m.place_is)
    (exchanged_so h.place o ts (p ++ 0 ∷ []) us x.document u (container_of ts x.placed h.place s.here.own s.kids property m.stands b)
    (element_of ts x.placed o.place g.0 g.1 (at_inside h.place o.place s.here.own g.0 s.kids g.1 ts m.stands g.2) g.3 (taken_element (of property) g.0.sort g.3 refl g.4)) l) in
    (lies_at h.place o ts 0 (p ++ 0 ∷ []) l, r.0, r.1)

-- after set_root on a root with a value likewise
set_root_accounted : (ts : Nodes) (o : Handle) (us : Nodes) → Document ts → Placed ts → value_in ts ≡ Some o → Fresh us
    → (at_path (parts ts) [] ≡ Some o) × (parts (exchange 0 o.place us ts) ≡ put (parts us) (parts ts) []) × (comments (exchange 0 o.place us ts) ≡ less (lost_inside (layout (pieces ts)) []) (comments ts))
set_root_accounted ts o us d p e u =
    let a : Among o ts 0 = value_among o ts p.once e in
    let g = among_node top o ts 0 a d.fits.taken in
    let l : Lies 0 o ts 0 [] = on_top 0 refl a in
    let r = exchanged_so 0 o ts [] us d u (root_container ts p) (element_of ts p o.place g.0 g.1 g.2 g.3 (taken_element top g.0.sort g.3 refl g.4)) l in
    (lies_at 0 o ts 0 [] l, r.0, r.1)

-- WHAT IS WRITTEN

-- parts that say nothing are none
nil_one : (v : Parts Handle) (w : Value) → bare v ≡ w → IsNil w → v ≡ nil
nil_one nil w e h = refl
nil_one (part i l ks ts) w e h = absurd (subst IsNil (sym e) h)

-- parts that say one value are one
one_alone : (v : Parts Handle) (w : Value) → bare v ≡ w → IsOne w → Alone v
one_alone nil w e h = subst IsOne (sym e) h
one_alone (part i l ks ts) w e h = nil_one ts (bare ts) refl (subst IsOne (sym e) h)

-- what a source shows is written as one value without comments
shown_fresh : (st : Style) (t : List ℕ) (v : Value) (s : Supply) → Showable v → Fresh (sown s (written st t v)) × (bare (parts (sown s (written st t v))) ≡ spelled v)
shown_fresh st t v s w =
    let e = written_says st t v s w.1 in
    (record { alone = one_alone (parts (sown s (written st t v))) (spelled v) e (one_spelled v w.0); quiet = written_quiet st t v s }, e)

-- so is what can be written
written_fresh : (st : Style) (t : List ℕ) (v : Value) (s : Supply) → Writable st t v → Fresh (sown s (written st t v)) × (bare (parts (sown s (written st t v))) ≡ spelled v)
written_fresh st t v s w =
    let e = written_says st t v s w.shaped in
    (record { alone = one_alone (parts (sown s (written st t v))) (spelled v) e (one_spelled v w.one); quiet = written_quiet st t v s }, e)

-- A ROOT WITHOUT A VALUE

-- trivia has no value
trivial_parts : (ts : Nodes) → Each Trivial ts → parts ts ≡ nil
trivial_parts end h = refl
trivial_parts (node p i ks ts) h = ap (λ c. parts_at c (handle p i) (label_of i.sort (pieces ks)) (parts ks) (parts ts)) h.0.1 ∙ trivial_parts ts h.1

-- after set_root on a root without a value, the value is the written one and all comments stay
first_root_accounted : (n : Break) (s : Supply) (st : Style) (t : List ℕ) (v : Value) (ts : Nodes) → Writable st t v → Document ts → value_in ts ≡ None
    → (parts ts ≡ nil) × Alone (parts (root_put (root_cut ts) n (written st t v) s)) × (bare (parts (root_put (root_cut ts) n (written st t v) s)) ≡ spelled v)
    × (with_handles (at_path (parts (root_put (root_cut ts) n (written st t v) s))) (spelled v) ≡ parts (root_put (root_cut ts) n (written st t v) s))
    × (comments (root_put (root_cut ts) n (written st t v) s) ≡ comments ts)
first_root_accounted n s st t v ts w d e =
    let h = none_trivial ts d.fits.taken e in
    let m = root_says n (written st t v) s ts (λ u. written_quiet st t v u) h in
    let R : Nodes = root_put (root_cut ts) n (written st t v) s in
    let f = written_fresh st t v m.0 w in
    let a : Alone (parts R) = subst Alone (sym m.1) f.0.alone in
    let b : bare (parts R) ≡ spelled v = ap bare m.1 ∙ f.1 in
    (trivial_parts ts h, a, b, ap (with_handles (at_path (parts R))) (sym b) ∙ with_at (at_path (parts R)) (parts R) a (λ p. refl), m.2)

-- CLEAR
clear_accounted : (ts : Nodes) → Document ts → less (lost_all (layout (pieces ts))) (comments ts) ≡ []
clear_accounted ts d = less_split (lost_all (layout (pieces ts))) (comments ts) (append-nil _ ∙ sym (whole_comments ts false d.whole))

-- PLANS

module _ (d : State) (h : Handle) (p : Placed d.kids) (doc : Document d.kids) where
  -- the plan of remove at a node that is found
  remove_told : (s : Spot) → named h d.kids ≡ Some s → (us : List Frame) → s.ups ≡ us → RemovesSo d h (remove_plan d s us)
  remove_told s e [] q = tt
  remove_told s e (f ∷ us) q = cond_both (is_value (class (sort_of s)) && not (is_property f.own.sort)) (Given _) (Refused NotHere) (RemovesSo d h)
      (λ z. (let y = and_parts (is_value (class (sort_of s))) (not (is_property f.own.sort)) z in
      let x = named_has_path h d.kids s f us doc p e q (value_is (class (sort_of s)) y.0) in
      (x.0, x.1.has_path, λ u. remove_accounted h d.kids s f x.0 x.1 (not-true (is_property f.own.sort) y.1))))
      (λ z. tt)

  -- the plan of replace at a node that is found
  replace_told : (v : Value) → Showable v → (s : Spot) → named h d.kids ≡ Some s → (us : List Frame) → s.ups ≡ us → ReplacesSo d h v (replace_plan d v s us)
  replace_told v w s e [] q = tt
  replace_told v w s e (f ∷ us) q = cond_both (is_value (class (sort_of s)) && not (is_property (sort_of s))) (Given _) (Refused NotHere) (ReplacesSo d h v)
      (λ z. (let y = and_parts (is_value (class (sort_of s))) (not (is_property (sort_of s))) z in
      let x = named_has_path h d.kids s f us doc p e q (value_is (class (sort_of s)) y.0) in (
        x.0,
        x.1.has_path,
        λ u. (let g = shown_fresh _ _ v u w in
            let r = replace_accounted h d.kids s f x.0 _ x.1 (not-true (is_property (sort_of s)) y.1) g.0 in (_, g.0.alone, g.1, r.0, r.1)),
      )))
      (λ z. tt)

  -- the plans of remove and replace, accepted or refused
  plans_accounted : RemovesSo d h (planned d (Remove h)) × ((v : Value) → Showable v → ReplacesSo d h v (planned d (Replace h v)))
  plans_accounted = (go (named h d.kids) refl, λ v w. on v w (named h d.kids) refl)
    where
      go : (o : Option Spot) → named h d.kids ≡ o → RemovesSo d h (and_then (present Gone o) (λ s. remove_plan d s s.ups))
      go None e = tt
      go (Some s) e = remove_told s e s.ups refl

      on : (v : Value) → Showable v → (o : Option Spot) → named h d.kids ≡ o → ReplacesSo d h v (and_then (present Gone o) (λ s. replace_plan d v s s.ups))
      on v w None e = tt
      on v w (Some s) e = replace_told v w s e s.ups refl

-- what is no root has a parent
pub has_parent : (k : ℕ) (ts : Nodes) (i : Own) (ks : Nodes) (us : List Frame) → Parent k ts i ks us → (f : Frame) × (vs : List Frame) × (us ≡ f ∷ vs)
has_parent k ts i ks _ (at_root f z o) = (f, [], refl)
has_parent k ts i ks _ (at_node f vs us a b) = (f, vs, refl)

-- a property has a parent
property_parent : (k : ℕ) (ts : Nodes) (s : Spot) → is_property (sort_of s) ≡ true → Spotted k ts s → (f : Frame) × (vs : List Frame) × (s.ups ≡ f ∷ vs)
property_parent k ts s n (the_root _ e _ _ _) = absurd (false≢true (sym (ap is_property e) ∙ n))
property_parent k ts s n (a_node _ _ q) = has_parent k ts s.here.own s.kids s.ups q

module _ (d : State) (v : Value) (p : Placed d.kids) (doc : Document d.kids) (w : Showable v) where
  -- the plan of set_value at a property that is found
  set_told : (h : Handle) (s : Spot) → named h d.kids ≡ Some s → (o : Handle) → value_in s.kids ≡ Some o → (t : Spot) → t.here.place ≡ o.place → SetsSo d h v (value_plan d v s (Some t))
  set_told h s e o m t y = cond_both (is_property (sort_of s)) (Given _) (Refused NotHere) (SetsSo d h v)
      (λ z. (let f = property_parent h.place d.kids s z (spot_found h.place d.kids s (named_spot h d.kids s e).0) in
      let x = named_has_path h d.kids s f.0 f.1 doc p e f.2 (ap class (property_box (sort_of s) z)) in (
        x.0,
        x.1.has_path,
        λ u. (let st : Style = styled (break_of (newline_kind d.kids)) (uses_trailing_commas (sort_of t) t.kids) (indents s d.kids) in
            let i : List ℕ = (indents s d.kids).current in
            let N : Nodes = sown u (written st i v) in
            let g = shown_fresh st i v u w in
            let r = set_value_accounted h d.kids s f.0 x.0 o N x.1 z m g.0 in
            (parts N, g.0.alone, g.1, ap (λ k. parts (exchange s.here.place k N d.kids)) y ∙ r.1, ap (λ k. comments (exchange s.here.place k N d.kids)) y ∙ r.2)),
      )))
      (λ z. tt)

  -- the plan of set_value, accepted or refused
  set_value_told : (h : Handle) → SetsSo d h v (planned d (SetValue h v))
  set_value_told h = go (named h d.kids) refl
    where
      found : (s : Spot) → named h d.kids ≡ Some s → (o : Handle) → value_in s.kids ≡ Some o → (t : Option Spot) → spot_at o.place d.kids ≡ t → SetsSo d h v (value_plan d v s t)
      found s e o m None z = tt
      found s e o m (Some t) z = set_told h s e o m t (spot_place o.place d.kids t (spot_found o.place d.kids t z))

      on : (s : Spot) → named h d.kids ≡ Some s → (o : Option Handle) → value_in s.kids ≡ o → SetsSo d h v (value_plan d v s (then o (λ i. spot_at i.place d.kids)))
      on s e None m = tt
      on s e (Some o) m = found s e o m (spot_at o.place d.kids) refl

      go : (x : Option Spot) → named h d.kids ≡ x → SetsSo d h v (and_then (present Gone x) (λ s. value_plan d v s (value_of d s.kids)))
      go None e = tt
      go (Some s) e = on s e (value_in s.kids) refl

  -- the plan of set_root where the root has a value
  set_root_told : (o : Handle) (u : Supply) → value_in d.kids ≡ Some o
      → (w : Parts Handle) × Alone w × (bare w ≡ spelled v) × (parts ((root_plan d v (Some o)).grow u) ≡ put w (parts d.kids) []) × (comments ((root_plan d v (Some o)).grow u) ≡ less (lost_inside (layout (pieces d.kids)) []) (comments d.kids))
  set_root_told o u e = (let g = shown_fresh _ _ v u w in let r = set_root_accounted d.kids o _ doc p e g.0 in (_, g.0.alone, g.1, r.1, r.2))

-- all laws of the account
pub account_laws : AccountLaws
account_laws = record {
  lost_by_path = lost_by_path;
  swapped_by_path = swapped_by_path;
  lies_on_its_way = λ c h ts p d a. (let e = lies_way c h ts 0 p a (d.once h.place) in (e, ap path_to e, lies_at c h ts 0 p a));
  found_lies = found_lies;
  remove_accounted = remove_accounted;
  written_fresh = written_fresh;
  replace_accounted = replace_accounted;
  set_value_accounted = set_value_accounted;
  set_root_accounted = set_root_accounted;
  put_answers = λ w v p h o e. ap (λ y. put y v p) (with_at (λ q. at_path (put w v p) (p ++ q)) w o (λ q. at_put w v p q h o e));
  first_root_accounted = first_root_accounted;
  clear_accounted = clear_accounted;
  named_has_path = named_has_path;
  plans_accounted = plans_accounted;
  set_plans_accounted = λ d v p doc w. (set_value_told d v p doc w, set_root_told d v p doc w);
}
