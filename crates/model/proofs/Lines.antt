-- What follows a removed node, in the tree and in the layout of its text: the same comments stay. Assumes nothing.
use Rattle.std.proofs.Common.{◌≡◌, ℕ, Bool, true, false, cond, not, ◌&&◌, ◌||◌, [], ◌++◌, Some, None, Option, sym, refl, ap, ◌∙◌, subst, append-nil}
use mathlib.Core.Bool.{false≢true}
use Rattle.grammar.specs.Layout.{Open, Close, Comma, Colon, Name, Label, Layout, stop, note, mark as tick, item, notes}
use Rattle.grammar.specs.Pieces.{Leaf, null, boolean, number, string, name, token, whitespace, newline, comment, Pieces, lay, label_of as piece_label}
use Rattle.forest.specs.Forest.{end, node}
use Rattle.model.specs.Nodes.{Sort, root, within, single, Own, Nodes, blank, break, remark, Class, gap, mark, value, class, leaf_label, piece, pieces}
use Rattle.model.specs.Asks.{is_gap, is_comma}
use Rattle.model.specs.Edits.{back_line, un_comma, past_at, past_comma, line_at, line_ends, solid_next, rest_at, drop_line, empty, tight_at, tight, closed, removal}
use Rattle.model.specs.Fits.{Holds, Whole, comments, remarks_of}
use Rattle.model.specs.Account.{breaks, after_comma, gap_notes, line_notes, past_line, Split, followed}
use Rattle.model.specs.Changes.{notes_before}
use Rattle.std.proofs.lemmas.Bool.{cond_both}
use Rattle.std.proofs.lemmas.Option.{none-some}
use Rattle.model.proofs.Says.{comments_onto}
use Rattle.model.proofs.Loads.{whole_comments}

-- a node's place in the layout, by its class
abbrev pub lay_at : Class → Label → Layout → Bool → (Bool → Layout) → Layout
lay_at (gap blank) l k b r = r b
lay_at (gap break) l k b r = r true
lay_at (gap (remark c)) l k b r = note b c (r false)
lay_at (mark m) l k b r = tick b m (r false)
lay_at value l k b r = item b l k (r false)

record Laying (s : Sort) (c a : Pieces) : Type 0 where
  label : Label
  inside : Layout
  is : (b : Bool) → lay (piece s c a) b ≡ lay_at (class s) label inside b (lay a)

leaf_laying : (x : Leaf) (c a : Pieces) → Laying (single x) c a
leaf_laying null c a = record { label = leaf_label null; inside = stop false; is = λ b. refl }
leaf_laying (boolean v) c a = record { label = leaf_label (boolean v); inside = stop false; is = λ b. refl }
leaf_laying (number t) c a = record { label = leaf_label (number t); inside = stop false; is = λ b. refl }
leaf_laying (string t) c a = record { label = leaf_label (string t); inside = stop false; is = λ b. refl }
leaf_laying (name t) c a = record { label = leaf_label null; inside = stop false; is = λ b. refl }
leaf_laying (token m) c a = record { label = leaf_label null; inside = stop false; is = λ b. refl }
leaf_laying (whitespace t) c a = record { label = leaf_label null; inside = stop false; is = λ b. refl }
leaf_laying (newline k) c a = record { label = leaf_label null; inside = stop false; is = λ b. refl }
leaf_laying (comment n) c a = record { label = leaf_label null; inside = stop false; is = λ b. refl }

laying : (s : Sort) (ks : Nodes) (a : Pieces) → Holds s ks → Laying s (pieces ks) a
laying root ks a h = absurd h
laying (within b) ks a h = record { label = piece_label b (pieces ks); inside = lay (pieces ks) false; is = λ d. refl }
laying (single x) ks a h = leaf_laying x (pieces ks) a

or_true : (b : Bool) → true ≡ (b || true)
or_true true = refl
or_true false = refl

or_false : (b : Bool) → b ≡ (b || false)
or_false true = refl
or_false false = refl

-- a Newline stands before the next non-trivia
pub line_ends_lem : (ts : Nodes) (b : Bool) → Whole ts → breaks (lay (pieces ts) b) ≡ (b || line_ends ts)
line_ends_lem end b w = or_false b
line_ends_lem (node p i ks ts) b w =
    let m = laying i.sort ks (pieces ts) w.0 in
    ap breaks (m.is b) ∙ go (class i.sort) m.label m.inside (λ d. line_ends_lem ts d w.2)
  where
    go : (c : Class) (l : Label) (k : Layout) → ((d : Bool) → breaks (lay (pieces ts) d) ≡ (d || line_ends ts)) → breaks (lay_at c l k b (lay (pieces ts))) ≡ (b || line_at c (line_ends ts))
    go (gap blank) l k r = r b
    go (gap break) l k r = r true ∙ or_true b
    go (gap (remark c)) l k r = ap (λ y. b || y) (r false)
    go (mark m) l k r = or_false b
    go value l k r = or_false b

abbrev laid : Option Nodes → Option Layout
laid None = None
laid (Some r) = Some (lay (pieces r) false)

-- the trailing comma, and what follows it
pub past_comma_lem : (ts : Nodes) (b : Bool) → Whole ts → after_comma (lay (pieces ts) b) ≡ laid (past_comma ts)
past_comma_lem end b w = refl
past_comma_lem (node p i ks ts) b w =
    let m = laying i.sort ks (pieces ts) w.0 in
    ap after_comma (m.is b) ∙ go (class i.sort) m.label m.inside (λ d. past_comma_lem ts d w.2)
  where
    go : (c : Class) (l : Label) (k : Layout) → ((d : Bool) → after_comma (lay (pieces ts) d) ≡ laid (past_comma ts)) → after_comma (lay_at c l k b (lay (pieces ts))) ≡ laid (past_at c (past_comma ts) ts)
    go (gap blank) l k r = r b
    go (gap break) l k r = r true
    go (gap (remark c)) l k r = r false
    go (mark Open) l k r = refl
    go (mark Close) l k r = refl
    go (mark Comma) l k r = refl
    go (mark Colon) l k r = refl
    go (mark Name) l k r = refl
    go value l k r = refl

-- behind a Newline all comments stay
past_break : (y : Nodes) → Whole y → past_line (lay (pieces y) true) ≡ notes (lay (pieces y) true)
past_break end w = refl
past_break (node p i ks ts) w =
    let m = laying i.sort ks (pieces ts) w.0 in
    ap past_line (m.is true) ∙ (go (class i.sort) m.label m.inside (past_break ts w.2) ∙ sym (ap notes (m.is true)))
  where
    go : (c : Class) (l : Label) (k : Layout) → past_line (lay (pieces ts) true) ≡ notes (lay (pieces ts) true) → past_line (lay_at c l k true (lay (pieces ts))) ≡ notes (lay_at c l k true (lay (pieces ts)))
    go (gap blank) l k r = r
    go (gap break) l k r = r
    go (gap (remark c)) l k r = refl
    go (mark m) l k r = refl
    go value l k r = refl

-- and before non-trivia
past_solid : (y : Nodes) (b : Bool) → Whole y → solid_next y ≡ true → past_line (lay (pieces y) b) ≡ notes (lay (pieces y) b)
past_solid end b w z = absurd (false≢true z)
past_solid (node p i ks ts) b w z =
    let m = laying i.sort ks (pieces ts) w.0 in
    ap past_line (m.is b) ∙ (go (class i.sort) m.label m.inside z ∙ sym (ap notes (m.is b)))
  where
    go : (c : Class) (l : Label) (k : Layout) → not (is_gap c) ≡ true → past_line (lay_at c l k b (lay (pieces ts))) ≡ notes (lay_at c l k b (lay (pieces ts)))
    go (gap g) l k z = absurd (false≢true z)
    go (mark m) l k z = refl
    go value l k z = refl

-- The comments that stay where the rest of a line is dropped.
pub line_comments : (ts : Nodes) → Whole ts → comments (drop_line ts) ≡ past_line (lay (pieces ts) false)
line_comments end w = refl
line_comments (node p i ks ts) w =
    let m = laying i.sort ks (pieces ts) w.0 in
    let whole : comments (node p i ks ts) ≡ notes (lay_at (class i.sort) m.label m.inside false (lay (pieces ts))) = whole_comments (node p i ks ts) false w ∙ ap notes (m.is false) in
    go (class i.sort) m.label m.inside (node p i ks ts) (solid_next ts) refl whole (line_comments ts w.2) ∙ sym (ap past_line (m.is false))
  where
    go : (c : Class) (l : Label) (k : Layout) (x : Nodes) (b : Bool) → solid_next ts ≡ b → comments x ≡ notes (lay_at c l k false (lay (pieces ts))) → comments (drop_line ts) ≡ past_line (lay (pieces ts) false)
        → comments (rest_at c b x (drop_line ts) ts) ≡ past_line (lay_at c l k false (lay (pieces ts)))
    go (gap blank) l k x true z h r = h ∙ sym (past_solid ts false w.2 z)
    go (gap blank) l k x false z h r = r
    go (gap break) l k x b z h r = whole_comments ts true w.2 ∙ sym (past_break ts w.2)
    go (gap (remark c)) l k x b z h r = r
    go (mark m) l k x b z h r = h
    go value l k x b z h r = h

-- REMOVE

before_comma : (bs : Nodes) → notes_before (un_comma bs) ≡ notes_before bs
before_comma end = refl
before_comma (node p i ks bs) = go (class i.sort) (node p i ks (un_comma bs)) (ap (λ y. y ++ remarks_of (class i.sort) (comments ks)) (before_comma bs))
  where
    go : (c : Class) (y : Nodes) → notes_before y ≡ notes_before bs ++ remarks_of c (comments ks) → notes_before (cond (is_comma c) bs y) ≡ notes_before bs ++ remarks_of c (comments ks)
    go (gap g) y h = h
    go (mark Open) y h = h
    go (mark Close) y h = h
    go (mark Comma) y h = sym (append-nil (notes_before bs))
    go (mark Colon) y h = h
    go (mark Name) y h = h
    go value y h = h

tight_comments : (ts : Nodes) → comments (tight ts) ≡ comments ts
tight_comments end = refl
tight_comments (node p i ks ts) = go (class i.sort) (node p i ks (tight ts)) (ap (λ y. remarks_of (class i.sort) (comments ks) ++ y) (tight_comments ts)) (tight_comments ts)
  where
    go : (c : Class) (x : Nodes) → comments x ≡ remarks_of c (comments ks) ++ comments ts → comments (tight ts) ≡ comments ts → comments (tight_at c x (tight ts)) ≡ remarks_of c (comments ks) ++ comments ts
    go (gap blank) x h r = r
    go (gap break) x h r = r
    go (gap (remark c)) x h r = h
    go (mark m) x h r = h
    go value x h r = h

whole_past : (ts r : Nodes) → past_comma ts ≡ Some r → Whole ts → Whole r
whole_past end r w h = absurd (none-some r w)
whole_past (node p i ks ts) r w h = go (class i.sort) w (λ z. whole_past ts r z h.2)
  where
    go : (c : Class) → past_at c (past_comma ts) ts ≡ Some r → (past_comma ts ≡ Some r → Whole r) → Whole r
    go (gap g) w k = k w
    go (mark Open) w k = absurd (none-some r w)
    go (mark Close) w k = absurd (none-some r w)
    go (mark Comma) w k = (let z : ts ≡ r = cc in subst Whole z h.2)
    go (mark Colon) w k = absurd (none-some r w)
    go (mark Name) w k = absurd (none-some r w)
    go value w k = absurd (none-some r w)

closed_comments : (bs ts : Nodes) → Whole ts → comments (closed bs ts (past_comma ts)) ≡ notes_before (back_line bs) ++ (followed (lay (pieces ts) false) (after_comma (lay (pieces ts) false))).behind
closed_comments bs ts w =
    go (past_comma ts) refl ∙ ap (λ o. notes_before (back_line bs) ++ (followed (lay (pieces ts) false) o).behind) (sym (past_comma_lem ts false w))
  where
    cut : (x y : Bool) (r : Nodes) → Whole r → comments (cond (not x && y) (drop_line r) r) ≡ cond x (notes (lay (pieces r) false)) (cond y (past_line (lay (pieces r) false)) (notes (lay (pieces r) false)))
    cut true y r h = whole_comments r false h
    cut false true r h = line_comments r h
    cut false false r h = whole_comments r false h

    read : (x y : Bool) (q : Layout) → breaks (lay (pieces ts) false) ≡ x → breaks q ≡ y → (followed (lay (pieces ts) false) (Some q)).behind ≡ cond x (notes q) (cond y (past_line q) (notes q))
    read true y q e f = ap (λ v. (cond {A = Split} v (record { before = []; lost = gap_notes (lay (pieces ts) false); behind = notes q }) (cond {A = Split} (breaks q) (record { before = []; lost = gap_notes (lay (pieces ts) false) ++ line_notes q; behind = past_line q }) (record { before = []; lost = gap_notes (lay (pieces ts) false); behind = notes q }))).behind) e
    read false true q e f = ap (λ v. (cond {A = Split} v (record { before = []; lost = gap_notes (lay (pieces ts) false); behind = notes q }) (cond {A = Split} (breaks q) (record { before = []; lost = gap_notes (lay (pieces ts) false) ++ line_notes q; behind = past_line q }) (record { before = []; lost = gap_notes (lay (pieces ts) false); behind = notes q }))).behind) e
        ∙ ap (λ v. (cond {A = Split} v (record { before = []; lost = gap_notes (lay (pieces ts) false) ++ line_notes q; behind = past_line q }) (record { before = []; lost = gap_notes (lay (pieces ts) false); behind = notes q })).behind) f
    read false false q e f = ap (λ v. (cond {A = Split} v (record { before = []; lost = gap_notes (lay (pieces ts) false); behind = notes q }) (cond {A = Split} (breaks q) (record { before = []; lost = gap_notes (lay (pieces ts) false) ++ line_notes q; behind = past_line q }) (record { before = []; lost = gap_notes (lay (pieces ts) false); behind = notes q }))).behind) e
        ∙ ap (λ v. (cond {A = Split} v (record { before = []; lost = gap_notes (lay (pieces ts) false) ++ line_notes q; behind = past_line q }) (record { before = []; lost = gap_notes (lay (pieces ts) false); behind = notes q })).behind) f

    go : (o : Option Nodes) → past_comma ts ≡ o → comments (closed bs ts o) ≡ notes_before (back_line bs) ++ (followed (lay (pieces ts) false) (laid o)).behind
    go None e = comments_onto (un_comma (back_line bs)) (drop_line ts) ∙ (ap (λ y. y ++ comments (drop_line ts)) (before_comma (back_line bs)) ∙ ap (λ y. notes_before (back_line bs) ++ y) (line_comments ts w))
    go (Some r) e = (let h = whole_past ts r e w in
        comments_onto (back_line bs) (cond (not (line_ends ts) && line_ends r) (drop_line r) r)
        ∙ ap (λ y. notes_before (back_line bs) ++ y) (cut (line_ends ts) (line_ends r) r h ∙ sym (read (line_ends ts) (line_ends r) (lay (pieces r) false) (line_ends_lem ts false w) (line_ends_lem r false h))))

-- The comments that stay where a node is removed: those before it but for its own line, and those that the layout says stay behind it.
pub removal_comments : (bs : Nodes) (p : ℕ) (i : Own) (ks ts : Nodes) → Whole ts → comments (removal bs p i ks ts) ≡ notes_before (back_line bs) ++ (followed (lay (pieces ts) false) (after_comma (lay (pieces ts) false))).behind
removal_comments bs p i ks ts w =
    cond_both (empty (closed bs ts (past_comma ts))) (tight (closed bs ts (past_comma ts))) (closed bs ts (past_comma ts)) (λ y. comments y ≡ comments (closed bs ts (past_comma ts))) (λ e. tight_comments (closed bs ts (past_comma ts))) (λ e. refl)
    ∙ closed_comments bs ts w
