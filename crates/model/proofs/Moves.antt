-- A handle names the node it named, or is Gone, and Gone ever after. Assumes nothing.
use Rattle.std.proofs.Common.{◌≡◌, ℕ, ◌+◌, ◌<◌, ◌≤◌, Bool, true, false, cond, ◌&&◌, eqb, ltb, ◌⊎◌, List, [], ◌∷◌, Some, None, Option, sym, refl, ap, ◌∙◌, subst, inl, inr, true≢false, arith}
use mathlib.Core.Bool.{false≢true}
use Rattle.std.proofs.lemmas.Bool.{cond_both, cond-true, cases_lt, eqb-true, eq-eqb, and_parts, and_from}
use Rattle.std.proofs.lemmas.Option.{none-some}
use Rattle.grammar.specs.Layout.{Line, Block}
use Rattle.grammar.specs.Pieces.{open_array, close_array, open_object, close_object, comma, colon, line_feed, carriage_return, both, Leaf, null, boolean, number, string, name, token, whitespace, newline, comment, array, object, property, Pieces, end as no_pieces, leaf, box, nodes}
use Rattle.forest.specs.Forest.{end, node, one, count}
use Rattle.forest.proofs.Frames.{one_eq}
use Rattle.forest.proofs.Picks.{pick_here, pick_below, pick_after}
use Rattle.refusal.specs.declared.Refusal.TheVariants.{BadMemory, Gone}
use Rattle.model.specs.Nodes.{Handle, Sort, root, within, single, Own, Nodes}
use Rattle.model.specs.Asks.{Frame, Spot, spot_in, spot_at, tree, numbered_so, named, then, sort_of, same_bytes, Kind, kind}
use Rattle.model.specs.Edits.{Supply, skip, next_place, sown}
use Rattle.model.specs.Written.{Value}
use Rattle.model.specs.State.{State, Outcome, Refused, Given, and_then, unless, present, load, Plan, Edit, Remove, Replace, SetValue, SetRoot, Clear, SetTrailingCommas, EnsureMultiline, map_edit, Work, supply_of, finished, first_new, accepted, after_outcome, after, unloaded, kind_answer}
use Rattle.model.specs.Changes.{At, Showing}
use Rattle.model.specs.Fits.{Document}
use Rattle.model.specs.Sources.{Sourced}
use Rattle.model.proofs.Loaded.{loads}
use Rattle.model.proofs.Steps.{step_document}
use Rattle.model.specs.Account.{Call, Do, Print, Ask}
use Rattle.model.specs.Promise.{sort_named, after_call, Run, over, goes, Lasting}
use Rattle.model.specs.Given.{often, Held, Moves, head_sort, LoadedLast, LoadedStays}
use Rattle.model.proofs.Edited.{at_count}
use Rattle.model.proofs.Tally.{tally}
use Rattle.model.proofs.Sowing.{Sows}
use Rattle.model.proofs.Places.{below_le, below_yes, below_no, sown_often, held_placed, Roomy, accepted_roomy, load_ways, load_held, after_held}

-- WHEN TWO NODES ARE THE SAME

-- what a node is, in numbers
abbrev pub leaf_code : Leaf → List ℕ
leaf_code null = 4 ∷ []
leaf_code (boolean true) = 5 ∷ []
leaf_code (boolean false) = 6 ∷ []
leaf_code (number t) = 7 ∷ t
leaf_code (string t) = 8 ∷ t
leaf_code (name t) = 9 ∷ t
leaf_code (whitespace t) = 10 ∷ t
leaf_code (comment (Line t)) = 11 ∷ t
leaf_code (comment (Block t)) = 12 ∷ t
leaf_code (newline line_feed) = 13 ∷ []
leaf_code (newline carriage_return) = 14 ∷ []
leaf_code (newline both) = 15 ∷ []
leaf_code (token open_array) = 16 ∷ []
leaf_code (token close_array) = 17 ∷ []
leaf_code (token open_object) = 18 ∷ []
leaf_code (token close_object) = 19 ∷ []
leaf_code (token comma) = 20 ∷ []
leaf_code (token colon) = 21 ∷ []

-- the same for containers and the root
abbrev pub code : Sort → List ℕ
code root = 0 ∷ []
code (within array) = 1 ∷ []
code (within object) = 2 ∷ []
code (within property) = 3 ∷ []
code (single x) = leaf_code x

-- and read back
abbrev first : List (ℕ × Sort) → ℕ → Sort
first [] n = root
first ((m, s) ∷ r) n = cond (eqb m n) s (first r n)

-- what each first number stands for
abbrev sorts : List ℕ → List (ℕ × Sort)
sorts t = (1, within array) ∷ (2, within object) ∷ (3, within property) ∷ (4, single null) ∷ (5, single (boolean true)) ∷ (6, single (boolean false))
    ∷ (7, single (number t)) ∷ (8, single (string t)) ∷ (9, single (name t)) ∷ (10, single (whitespace t)) ∷ (11, single (comment (Line t))) ∷ (12, single (comment (Block t)))
    ∷ (13, single (newline line_feed)) ∷ (14, single (newline carriage_return)) ∷ (15, single (newline both))
    ∷ (16, single (token open_array)) ∷ (17, single (token close_array)) ∷ (18, single (token open_object)) ∷ (19, single (token close_object)) ∷ (20, single (token comma)) ∷ (21, single (token colon)) ∷ []

-- what numbers stand for
abbrev decode : List ℕ → Sort
decode [] = root
decode (n ∷ t) = first (sorts t) n

-- a leaf is read back
decode_leaf : (x : Leaf) → decode (leaf_code x) ≡ single x
decode_leaf null = refl
decode_leaf (boolean true) = refl
decode_leaf (boolean false) = refl
decode_leaf (number t) = refl
decode_leaf (string t) = refl
decode_leaf (name t) = refl
decode_leaf (whitespace t) = refl
decode_leaf (comment (Line t)) = refl
decode_leaf (comment (Block t)) = refl
decode_leaf (newline line_feed) = refl
decode_leaf (newline carriage_return) = refl
decode_leaf (newline both) = refl
decode_leaf (token open_array) = refl
decode_leaf (token close_array) = refl
decode_leaf (token open_object) = refl
decode_leaf (token close_object) = refl
decode_leaf (token comma) = refl
decode_leaf (token colon) = refl

-- what a node is is read back
decode_code : (s : Sort) → decode (code s) ≡ s
decode_code root = refl
decode_code (within array) = refl
decode_code (within object) = refl
decode_code (within property) = refl
decode_code (single x) = decode_leaf x

-- bytes that compare as the same are the same
bytes_same : (a b : List ℕ) → same_bytes a b ≡ true → a ≡ b
bytes_same [] [] e = refl
bytes_same [] (y ∷ b) e = absurd (false≢true e)
bytes_same (x ∷ a) [] e = absurd (false≢true e)
bytes_same (x ∷ a) (y ∷ b) e =
    let z = and_parts (eqb x y) (same_bytes a b) e in
    ap (λ u. u ∷ a) (eqb-true x y z.0) ∙ ap (λ u. y ∷ u) (bytes_same a b z.1)

-- and the same bytes compare so
same_bytes_lem : (a : List ℕ) → same_bytes a a ≡ true
same_bytes_lem [] = refl
same_bytes_lem (x ∷ a) = and_from (eqb x x) (same_bytes a a) (eq-eqb x x refl) (same_bytes_lem a)

-- the node at p is the one that h names, of the sort s
abbrev pub is : Handle → Sort → ℕ → Own → Bool
is h s p i = eqb p h.place && (eqb i.number h.number && same_bytes (code i.sort) (code s))

-- 1 for the node that h names, of the sort s
abbrev pub marks : Handle → Sort → ℕ → Own → ℕ
marks h s p i = cond (is h s p i) 1 0

-- a node with this handle and sort
abbrev pub Names : Handle → Sort → Nodes → Type 0
Names h s ts = (i : Own) × (ks : Nodes) × At h.place i ks ts × (i.number ≡ h.number) × (i.sort ≡ s)

-- then place, number and sort are the same
pub is_parts : (h : Handle) (s : Sort) (p : ℕ) (i : Own) → is h s p i ≡ true → (p ≡ h.place) × (i.number ≡ h.number) × (i.sort ≡ s)
is_parts h s p i e =
    let x = and_parts (eqb p h.place) (eqb i.number h.number && same_bytes (code i.sort) (code s)) e in
    let y = and_parts (eqb i.number h.number) (same_bytes (code i.sort) (code s)) x.1 in
    (eqb-true p h.place x.0, eqb-true i.number h.number y.0, sym (decode_code i.sort) ∙ (ap decode (bytes_same (code i.sort) (code s) y.1) ∙ decode_code s))

-- and the other way round
is_from : (h : Handle) (s : Sort) (p : ℕ) (i : Own) → p ≡ h.place → i.number ≡ h.number → i.sort ≡ s → is h s p i ≡ true
is_from h s p i a b c =
    and_from (eqb p h.place) (eqb i.number h.number && same_bytes (code i.sort) (code s)) (eq-eqb p h.place a)
    (and_from (eqb i.number h.number) (same_bytes (code i.sort) (code s)) (eq-eqb i.number h.number b) (subst (λ y. same_bytes (code i.sort) (code y) ≡ true) c (same_bytes_lem (code i.sort))))

-- where one is counted a node stands
tally_names : (h : Handle) (s : Sort) (ts : Nodes) → 0 < tally (marks h s) ts → Names h s ts
tally_names h s end l = absurd (omega arith)
tally_names h s (node p i ks ts) l = go (is h s p i) refl l (tally_names h s ks) (tally_names h s ts)
  where
    go : (b : Bool) → is h s p i ≡ b → 0 < cond b 1 0 + (tally (marks h s) ks + tally (marks h s) ts) → (0 < tally (marks h s) ks → Names h s ks) → (0 < tally (marks h s) ts → Names h s ts) → Names h s (node p i ks ts)
    go true e l K R = (let x = is_parts h s p i e in (i, ks, inl (x.0, refl, refl), x.1, x.2))
    go false e l K R = elim (cases_lt 0 (tally (marks h s) ks)) [
      | inl z ↦ (let x = K z in (x.0, x.1, inr (inl x.2), x.3, x.4))
      | inr z ↦ (let x = R (omega arith) in (x.0, x.1, inr (inr x.2), x.3, x.4))
    ]

-- where a node stands one is counted
pub names_tally : (h : Handle) (s : Sort) (i : Own) (us ts : Nodes) → At h.place i us ts → i.number ≡ h.number → i.sort ≡ s → 0 < tally (marks h s) ts
names_tally h s i us end a n e = absurd a
names_tally h s i us (node p j ks ts) (inl (z, o, _)) n e =
    omega (arith, cond-true {A = ℕ} (is h s p j) 1 0 (is_from h s p j z (ap (λ y. y.number) o ∙ n) (ap (λ y. y.sort) o ∙ e)))
names_tally h s i us (node p j ks ts) (inr (inl a)) n e = omega (arith, names_tally h s i us ks a n e)
names_tally h s i us (node p j ks ts) (inr (inr a)) n e = omega (arith, names_tally h s i us ts a n e)

-- there are no more of them than nodes of this number
pub marks_often : (h : Handle) (s : Sort) (ts : Nodes) → tally (marks h s) ts ≤ often h.number ts
marks_often h s end = omega arith
marks_often h s (node p i ks ts) = cond_both (is h s p i) 1 0 (λ y. y + (tally (marks h s) ks + tally (marks h s) ts) ≤ one i.number h.number + (often h.number ks + often h.number ts))
    (λ e. omega (arith, one_eq i.number h.number (is_parts h s p i e).1, marks_often h s ks, marks_often h s ts)) (λ e. omega (arith, marks_often h s ks, marks_often h s ts))

-- WHAT A HANDLE NAMES

-- a spot is where its node stands
pub found_at : (k : ℕ) (us : List Frame) (bs ts : Nodes) (s : Spot) → spot_in k us bs ts ≡ Some s → At k s.here.own s.kids ts
found_at k us bs end s = λ e. absurd (none-some s e)
found_at k us bs (node p i ks ts) s =
    let f : Frame = record { before = bs; place = p; own = i; after = ts } in
    cond_both (eqb p k) (Some (record { here = f; kids = ks; ups = us })) (cond (ltb 0 (count k ks)) (spot_in k (f ∷ us) end ks) (spot_in k us (node p i ks bs) ts)) (λ y. y ≡ Some s → At k s.here.own s.kids (node p i ks ts))
    (λ z e. (let x : record { here = f; kids = ks; ups = us } ≡ s = cc in inl (eqb-true p k z, ap (λ y. y.here.own) x, ap (λ y. y.kids) x)))
    (λ z. cond_both (ltb 0 (count k ks)) (spot_in k (f ∷ us) end ks) (spot_in k us (node p i ks bs) ts) (λ y. y ≡ Some s → At k s.here.own s.kids (node p i ks ts))
    (λ y e. inr (inl (found_at k (f ∷ us) end ks s e)))
    (λ y e. inr (inr (found_at k us (node p i ks bs) ts s e))))

-- a node that stands at a place of its own is found there
pub at_found : (k : ℕ) (us : List Frame) (bs ts : Nodes) (i : Own) (ks : Nodes) → count k ts ≤ 1 → At k i ks ts → (s : Spot) × (spot_in k us bs ts ≡ Some s) × (s.here.own ≡ i)
at_found k us bs end i ks o a = absurd a
at_found k us bs (node p j ls ts) i ks o (inl (e, q, z)) =
    let f : Frame = record { before = bs; place = p; own = j; after = ts } in
    (record { here = f; kids = ls; ups = us }, pick_here k p ls (Some (record { here = f; kids = ls; ups = us })) (spot_in k (f ∷ us) end ls) (spot_in k us (node p j ls bs) ts) e, q)
at_found k us bs (node p j ls ts) i ks o (inr (inl b)) =
    let f : Frame = record { before = bs; place = p; own = j; after = ts } in
    let n = at_count k i ks ls b in
    let m = at_found k (f ∷ us) end ls i ks (omega arith) b in
    (m.0, pick_below k p ls (Some (record { here = f; kids = ls; ups = us })) (spot_in k (f ∷ us) end ls) (spot_in k us (node p j ls bs) ts) (λ e. omega (arith, one_eq p k e)) n ∙ m.1, m.2)
at_found k us bs (node p j ls ts) i ks o (inr (inr b)) =
    let f : Frame = record { before = bs; place = p; own = j; after = ts } in
    let n = at_count k i ks ts b in
    let m = at_found k us (node p j ls bs) ts i ks (omega arith) b in
    (m.0, pick_after k p ls (Some (record { here = f; kids = ls; ups = us })) (spot_in k (f ∷ us) end ls) (spot_in k us (node p j ls bs) ts) (λ e. omega (arith, one_eq p k e)) (omega arith) ∙ m.1, m.2)

-- a handle's answer is the sort of a node with its place and number
pub named_names : (d : State) (h : Handle) (s : Sort) → sort_named d h ≡ Some s → Names h s (tree d.kids)
named_names d h s = go (spot_at h.place d.kids) refl
  where
    go : (o : Option Spot) → spot_at h.place d.kids ≡ o → then (then o (numbered_so h.number)) (λ x. Some (sort_of x)) ≡ Some s → Names h s (tree d.kids)
    go None e = λ q. absurd (none-some s q)
    go (Some x) e = cond_both (eqb x.here.own.number h.number) (Some x) None (λ y. then y (λ x. Some (sort_of x)) ≡ Some s → Names h s (tree d.kids))
        (λ z q. (x.here.own, x.kids, found_at h.place [] end (tree d.kids) x e, eqb-true x.here.own.number h.number z, (let y : x.here.own.sort ≡ s = cc in y)))
        (λ z q. absurd (none-some s q))

-- and a node with its place and number is what a handle answers
names_named : (d : State) (h : Handle) (s : Sort) → count h.place (tree d.kids) ≤ 1 → Names h s (tree d.kids) → sort_named d h ≡ Some s
names_named d h s o (i, ks, a, n, e) =
    let m = at_found h.place [] end (tree d.kids) i ks o a in
    ap (λ y. then (then y (numbered_so h.number)) (λ x. Some (sort_of x))) m.1
    ∙ (ap (λ y. then y (λ x. Some (sort_of x))) (cond-true (eqb m.0.here.own.number h.number) (Some m.0) None (eq-eqb m.0.here.own.number h.number (ap (λ y. y.number) m.2 ∙ n)))
    ∙ ap (λ y. Some y) (ap (λ y. y.sort) m.2 ∙ e))

-- no place holds two nodes
pub held_once : (d : State) → Held d → (k : ℕ) → count k (tree d.kids) ≤ 1
held_once d h k = omega (arith, h.split k, below_le k d.records)

-- a handle that names a node has a number that was handed out
pub named_below : (d : State) (h : Handle) (s : Sort) → Held d → sort_named d h ≡ Some s → h.number < d.fresh
named_below d h s g e =
    let m = named_names d h s e in
    let l = names_tally h s m.0 m.1 (tree d.kids) m.2 m.3 m.4 in
    elim (cases_lt h.number d.fresh) [
      | inl z ↦ z
      | inr z ↦ absurd (omega (arith, marks_often h s (tree d.kids), g.given h.number, below_no h.number d.fresh z))
    ]

-- STEPS

-- nothing happens to handles
stays : (d : State) → Moves d d
stays d = record { grows = omega arith; names = λ h s e. inl e }

-- an accepted edit leaves handles of nodes that were there, and new ones
finished_moves : (d : State) (x : Plan) → Held d → Held (finished d x) → Sows d x → Moves d (finished d x)
finished_moves d x g f s = record { grows = omega arith; names = names }
  where
    names : (h : Handle) (k : Sort) → sort_named (finished d x) h ≡ Some k → (sort_named d h ≡ Some k) ⊎ (d.fresh ≤ h.number)
    names h k e = elim (cases_lt h.number d.fresh) [
      | inl z ↦
          let m = named_names (finished d x) h k e in
          let l = names_tally h k m.0 m.1 (tree (finished d x).kids) m.2 m.3 m.4 in
          inl (names_named d h k (held_once d g h.place) (tally_names h k (tree d.kids)
          (omega (
            arith,
            s.less (marks h k),
            s.adds (marks h k) (supply_of d x),
            marks_often h k (sown (supply_of d x) x.adds),
            sown_often h.number (supply_of d x) x.adds,
            below_yes h.number d.fresh z,
            below_yes h.number (d.fresh + nodes x.adds) (omega arith),
          ))))
      | inr z ↦ inr z
    ]

-- the first new node is what the first new handle names
sown_first : (u : Supply) (a : Pieces) (s : Sort) → head_sort a ≡ Some s → Names (record { place = next_place u.places; number = u.number }) s (sown u a)
sown_first u no_pieces s e = absurd (none-some s e)
sown_first u (leaf x r) s e = (record { number = u.number; sort = single x }, end, inl (refl, refl, refl), refl, (let y : single x ≡ s = cc in y))
sown_first u (box b c r) s e = (record { number = u.number; sort = within b }, sown (skip 1 u) c, inl (refl, refl, refl), refl, (let y : within b ≡ s = cc in y))

-- after an accepted edit that writes something, the first new handle names the first new node
pub new_named : (d : State) (w : Work) (e : Edit Value) (x : Plan) (s : Sort) → Held d → accepted d w e ≡ Given x → head_sort x.adds ≡ Some s → sort_named (after d w e) (first_new d x) ≡ Some s
new_named d w e x s g a q =
    let z : after d w e ≡ finished d x = ap (after_outcome d) a in
    let f : Held (finished d x) = subst Held z (after_held d w e g) in
    let r : Roomy d (Given x) = subst (Roomy d) a (accepted_roomy d w e g) in
    let m = sown_first (supply_of d x) x.adds s q in
    let l = names_tally (first_new d x) s m.0 m.1 (sown (supply_of d x) x.adds) m.2 m.3 m.4 in
    ap (λ y. sort_named y (first_new d x)) z
    ∙ names_named (finished d x) (first_new d x) s (held_once (finished d x) f (first_new d x).place) (tally_names (first_new d x) s (tree (finished d x).kids) (omega (arith, r.0.adds (marks (first_new d x) s) (supply_of d x))))

-- every edit, accepted or refused
pub after_moves : (d : State) (w : Work) (e : Edit Value) → Held d → Moves d (after d w e)
after_moves d w e g = go (accepted d w e) (accepted_roomy d w e g) (after_held d w e g)
  where
    go : (o : Outcome Plan) → Roomy d o → Held (after_outcome d o) → Moves d (after_outcome d o)
    go (Refused r) s f = stays d
    go (Given x) s f = finished_moves d x g f s.0

-- an edit leaves as many records
after_records : (d : State) (w : Work) (e : Edit Value) → (after d w e).records ≡ d.records
after_records d w e = go (accepted d w e)
  where
    go : (o : Outcome Plan) → (after_outcome d o).records ≡ d.records
    go (Refused r) = refl
    go (Given x) = refl

-- two steps do to handles what one does
moves_on : (d e f : State) → Moves d e → Moves e f → Moves d f
moves_on d e f a b = record { grows = omega (arith, a.grows, b.grows); names = names }
  where
    names : (h : Handle) (s : Sort) → sort_named f h ≡ Some s → (sort_named d h ≡ Some s) ⊎ (d.fresh ≤ h.number)
    names h s e = elim (b.names h s e) [ inl z ↦ a.names h s z | inr z ↦ inr (omega (arith, a.grows)) ]

-- HISTORIES

-- what any calls leave
pub record Later (d e : State) : Type 0 where
  pub moves : Moves d e
  pub held : Held e
  pub same : e.records ≡ d.records

-- what a handle answers
kind_given : (b : Bool) (o : Option Spot) (k : Kind) → unless b BadMemory (and_then (present Gone o) (λ s. Given (kind (sort_of s)))) ≡ Given k → (b ≡ false) × ((s : Sort) × (then o (λ x. Some (sort_of x)) ≡ Some s))
kind_given true o k e = (let x : ◌≡◌ {A = ℕ} 0 1 = cc in absurd (omega arith))
kind_given false None k e = (let x : ◌≡◌ {A = ℕ} 0 1 = cc in absurd (omega arith))
kind_given false (Some s) k e = (refl, (sort_of s, refl))

-- Gone is answered where no node is named
kind_gone : (b : Bool) (o : Option Spot) → unless b BadMemory (and_then (present Gone o) (λ s. Given (kind (sort_of s)))) ≡ Refused Gone → then o (λ x. Some (sort_of x)) ≡ None
kind_gone true o e = (let x : ◌≡◌ {A = ℕ} 0 1 = cc in absurd (omega arith))
kind_gone false None e = refl
kind_gone false (Some s) e = (let x : ◌≡◌ {A = ℕ} 0 1 = cc in absurd (omega arith))

-- and the other way round, once a document is loaded
pub gone_kind : (b : Bool) (o : Option Spot) → b ≡ false → ((s : Sort) → then o (λ x. Some (sort_of x)) ≡ Some s → ⊥) → unless b BadMemory (and_then (present Gone o) (λ s. Given (kind (sort_of s)))) ≡ Refused Gone
gone_kind true o e n = absurd (true≢false e)
gone_kind false None e n = refl
gone_kind false (Some s) e n = absurd (n (sort_of s) refl)

-- a source's value may be shown, so an edit that writes it may
pub sourced_showing : {S : Type 0} (says : S → Value) → ((s : S) → Sourced (says s)) → (e : Edit S) → Showing (map_edit says e)
sourced_showing says k (Remove h) = tt
sourced_showing says k (Replace h v) = ((k v).one, (k v).shaped, (k v).shows)
sourced_showing says k (SetValue h v) = ((k v).one, (k v).shaped, (k v).shows)
sourced_showing says k (SetRoot v) = ((k v).one, (k v).shaped, (k v).shows)
sourced_showing says k Clear = tt
sourced_showing says k (SetTrailingCommas h m) = tt
sourced_showing says k (EnsureMultiline h) = tt

-- what load gives is a document
pub load_document : (r m : ℕ) (t : List ℕ) (d : State) → load r m t ≡ Given d → Document d.kids
load_document r m t d = load_ways (λ y. Document y.kids) r m t d (λ a e l. loads 64 t a e)

module _ {S : Type 0} (says : S → Value) where
  -- after one call
  call_later : (d : State) (c : Call S) → Held d → Later d (after_call says d c)
  call_later d (Do e w) g = record { moves = after_moves d w (map_edit says e) g; held = after_held d w (map_edit says e) g; same = after_records d w (map_edit says e) }
  call_later d (Print n) g = record { moves = stays d; held = g; same = refl }
  call_later d (Ask h) g = record { moves = stays d; held = g; same = refl }

  -- after any calls
  pub run_later : (d : State) (cs : List (Call S)) (e : State) → Held d → Run says d cs e → Later d e
  run_later _ _ _ g (over d) = record { moves = stays d; held = g; same = refl }
  run_later _ _ _ g (goes d c cs e r) =
      let x = call_later d c g in
      let y = run_later (after_call says d c) cs e x.held r in
      record { moves = moves_on d (after_call says d c) e x.moves y.moves; held = y.held; same = y.same ∙ x.same }

  -- one call of sources leaves a document
  call_document : ((s : S) → Sourced (says s)) → (d : State) (c : Call S) → Held d → Document d.kids → Document (after_call says d c).kids
  call_document k d (Do e w) g doc = step_document d w (map_edit says e) (held_placed d g) doc (sourced_showing says k e)
  call_document k d (Print n) g doc = doc
  call_document k d (Ask h) g doc = doc

  -- any calls of sources leave a document
  pub run_document : ((s : S) → Sourced (says s)) → (d : State) (cs : List (Call S)) (e : State) → Held d → Document d.kids → Run says d cs e → Document e.kids
  run_document k _ _ _ g doc (over d) = doc
  run_document k _ _ _ g doc (goes d c cs e r) = run_document k (after_call says d c) cs e (call_later d c g).held (call_document k d c g doc) r

  -- so a document that was loaded stays one, with its places distinct
  pub loaded_stays : ((s : S) → Sourced (says s)) → LoadedStays says
  loaded_stays k r m t d l cs e q =
      let g = load_held r m t d l in
      let x = run_later d cs e g q in
      (run_document k d cs e g (load_document r m t d l) q, held_placed e x.held, x.held)

  -- a handle keeps its node's sort until it is Gone, and is Gone ever after
  pub held_lasting : (d : State) → Held d → Lasting says d
  held_lasting d g = record { keeps = keeps; gone = gone }
    where
      keeps : (cs : List (Call S)) (e : State) → Run says d cs e → (h : Handle) (k l : Sort) → sort_named d h ≡ Some k → sort_named e h ≡ Some l → k ≡ l
      keeps cs e r h k l a b = elim ((run_later d cs e g r).moves.names h l b) [
        | inl z ↦ (let y : Some k ≡ Some l = sym a ∙ z in cc)
        | inr z ↦ (let n = named_below d h k g a in absurd (omega arith))
      ]

      gone : (cs bs : List (Call S)) (e f : State) → Run says d cs e → Run says e bs f
          → (h : Handle) (k : Kind) → kind_answer d h ≡ Given k → kind_answer e h ≡ Refused Gone → kind_answer f h ≡ Refused Gone
      gone cs bs e f r q h k a b =
          let x = run_later d cs e g r in
          let y = run_later e bs f x.held q in
          let m = kind_given (unloaded d) (named h d.kids) k a in
          let n = kind_gone (unloaded e) (named h e.kids) b in
          let l = named_below d h m.1.0 g m.1.1 in
          gone_kind (unloaded f) (named h f.kids) (ap (λ z. eqb z 0) (y.same ∙ x.same) ∙ m.0)
          (λ s z. elim (y.moves.names h s z) [
            | inl u ↦ none-some s (sym n ∙ u)
            | inr u ↦ (let v = x.moves.grows in omega arith)
          ])

  -- at any hour of a document that was loaded
  pub loaded_lasting : LoadedLast says
  loaded_lasting r m t d l cs e q = held_lasting e (run_later d cs e (load_held r m t d l) q).held
