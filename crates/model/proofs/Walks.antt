-- The comments of the whole document after an edit at a node are those that the walk along its path says stay. Assumes nothing.
use Rattle.std.proofs.Common.{◌≡◌, ℕ, ◌<◌, Bool, true, false, cond, eqb, List, [], ◌∷◌, ◌++◌, sym, refl, ap, ◌∙◌, append_assoc, append-nil, arith}
use Rattle.std.proofs.lemmas.Bool.{eqb-false, eq-eqb, cond-true, cond-false}
use Rattle.grammar.specs.Layout.{Comment, Label, Layout, stop, notes}
use Rattle.grammar.specs.Pieces.{Leaf, null, boolean, number, string, name, token, whitespace, newline, comment, Box, Pieces, lay, layout, label_of as piece_label}
use Rattle.forest.specs.Forest.{end, node, count, append}
use Rattle.forest.specs.Edits.{edited}
use Rattle.forest.proofs.Edited.{edited_here, edited_below, edited_rest}
use Rattle.forest.proofs.Frames.{one_eq}
use Rattle.model.specs.Nodes.{Handle, Sort, root, within, single, Own, Nodes, blank, break, remark, Class, gap, mark, value, class, leaf_label, piece, pieces}
use Rattle.model.specs.Edits.{Local, local_from, local, under, back_at, back_line, removal, exchanged, remove, exchange}
use Rattle.model.specs.Fits.{IsEnd, Holds, Whole, comments, remarks_of}
use Rattle.model.specs.Account.{followed, after_comma, Split, Rule, walk, remove_here, replace_here, less, lost_by_removal, lost_inside}
use Rattle.model.specs.Changes.{notes_before}
use Rattle.model.specs.Accounted.{counted, Among, first, later, Below, child, deeper, along, Lies, on_top, inside}
use Rattle.model.proofs.Lines.{lay_at, removal_comments}
use Rattle.model.proofs.Loads.{whole_comments}
use Rattle.model.proofs.Says.{comments_onto, comments_append}
use Rattle.model.proofs.Splits.{stays, less_split, Total, remove_total, replace_total, walk_all}

-- a node in the layout, and the comments inside it
record Laid (s : Sort) (ks : Nodes) (a : Pieces) : Type 0 where
  label : Label
  within_it : Layout
  is : (b : Bool) → lay (piece s (pieces ks) a) b ≡ lay_at (class s) label within_it b (lay a)
  said : class s ≡ value → notes within_it ≡ comments ks

-- no children have no comments
no_comments : (ks : Nodes) → IsEnd ks → [] ≡ comments ks
no_comments end h = refl
no_comments (node p i ks ts) h = absurd h

-- a leaf in the layout
leaf_laid : (x : Leaf) (ks : Nodes) (a : Pieces) → IsEnd ks → Laid (single x) ks a
leaf_laid null ks a h = record { label = leaf_label null; within_it = stop false; is = λ b. refl; said = λ v. no_comments ks h }
leaf_laid (boolean v) ks a h = record { label = leaf_label (boolean v); within_it = stop false; is = λ b. refl; said = λ v. no_comments ks h }
leaf_laid (number t) ks a h = record { label = leaf_label (number t); within_it = stop false; is = λ b. refl; said = λ v. no_comments ks h }
leaf_laid (string t) ks a h = record { label = leaf_label (string t); within_it = stop false; is = λ b. refl; said = λ v. no_comments ks h }
leaf_laid (name t) ks a h = record { label = leaf_label null; within_it = stop false; is = λ b. refl; said = λ v. no_comments ks h }
leaf_laid (token m) ks a h = record { label = leaf_label null; within_it = stop false; is = λ b. refl; said = λ v. no_comments ks h }
leaf_laid (whitespace t) ks a h = record { label = leaf_label null; within_it = stop false; is = λ b. refl; said = λ v. no_comments ks h }
leaf_laid (newline k) ks a h = record { label = leaf_label null; within_it = stop false; is = λ b. refl; said = λ v. no_comments ks h }
leaf_laid (comment n) ks a h = record { label = leaf_label null; within_it = stop false; is = λ b. refl; said = λ v. no_comments ks h }

-- any node in the layout
laid : (s : Sort) (ks : Nodes) (a : Pieces) → Holds s ks → Whole ks → Laid s ks a
laid root ks a h w = absurd h
laid (within b) ks a h w = record { label = piece_label b (pieces ks); within_it = lay (pieces ks) false; is = λ d. refl; said = λ v. sym (whole_comments ks false w) }
laid (single x) ks a h w = leaf_laid x ks a h.1

-- a node that has children is a container
pub holder : (s : Sort) (k : ℕ) (ks : Nodes) → Holds s ks → 0 < count k ks → (b : Box) × (s ≡ within b)
holder root k ks h z = absurd h
holder (within b) k ks h z = (b, refl)
holder (single x) k end h z = absurd (omega arith)
holder (single x) k (node p i us ts) h z = absurd h.1

-- one of the siblings is there
pub among_count : (h : Handle) (ts : Nodes) (n : ℕ) → Among h ts n → 0 < count h.place ts
among_count h _ _ (first p i ks ts e v) = omega (arith, one_eq p h.place (ap (λ y. y.place) e))
among_count h _ _ (later p i ks ts n e a) = omega (arith, among_count h ts n a)

-- so are one below them, and its parent
pub below_count : (c : ℕ) (h : Handle) (ts : Nodes) (n : ℕ) (q : List ℕ) → Below c h ts n q → (0 < count c ts) × (0 < count h.place ts)
below_count c h _ _ _ (child p i ks ts j e v a) = (omega (arith, one_eq p c e), omega (arith, among_count h ks j a))
below_count c h _ _ _ (deeper p i ks ts j q e z v b) = (let m = below_count c h ks j q b in let x = m.0 in let y = m.1 in (omega arith, omega arith))
below_count c h _ _ _ (along p i ks ts n q e z b) = (let m = below_count c h ts n q b in let x = m.0 in let y = m.1 in (omega arith, omega arith))

-- The walk over the siblings before: all their comments, and those that stay if the line goes; a are the comments before the list.
pub record Walked (a : List Comment) (bs : Nodes) (kept line : List Comment) (b : Bool) : Type 0 where
  pub all : kept ++ line ≡ a ++ notes_before bs
  pub back : cond b (kept ++ line) kept ≡ a ++ notes_before (back_line bs)

-- before the first sibling
walked_start : (a : List Comment) → Walked a end a [] false
walked_start a = record { all = refl; back = sym (append-nil a) }

-- an edit among siblings leaves the comments that the rule says stay
abbrev pub Answers : Rule → Local → Type 0
Answers hit g =
    (a : List Comment) (bs : Nodes) (p : ℕ) (i : Own) (ks ts : Nodes) (kept line : List Comment) (b : Bool) (k : Layout) → Whole ts → Walked a bs kept line b
    → stays (hit b kept line k (lay (pieces ts) false)) ≡ a ++ comments (g bs p i ks ts)

-- one sibling further
over : (hit : Rule) (a : List Comment) (bs ks ts : Nodes) (n : ℕ) (R : List Comment) (c : Class) (x : Nodes) (l : Label) (k : Layout) (kept line : List Comment) (b : Bool)
    → notes_before x ≡ notes_before bs ++ remarks_of c (comments ks) → back_line x ≡ back_at c x (back_line bs) → (c ≡ value → notes k ≡ comments ks) → Walked a bs kept line b
    → ((kept line : List Comment) (b : Bool) → Walked a x kept line b → stays (walk hit (lay (pieces ts) b) kept line n []) ≡ R)
    → stays (walk hit (lay_at c l k b (lay (pieces ts))) kept line (counted c n) []) ≡ R
over hit a bs ks ts n R (gap blank) x l k kept line b f g s w r =
    r kept line b (record { all = w.all ∙ ap (λ y. a ++ y) (sym (f ∙ append-nil (notes_before bs))); back = w.back ∙ ap (λ y. a ++ notes_before y) (sym g) })
over hit a bs ks ts n R (gap break) x l k kept line b f g s w r =
    let m : kept ++ line ≡ a ++ notes_before x = w.all ∙ ap (λ y. a ++ y) (sym (f ∙ append-nil (notes_before bs))) in
    r kept line true (record { all = m; back = m ∙ ap (λ y. a ++ notes_before y) (sym g) })
over hit a bs ks ts n R (gap (remark c)) x l k kept line true f g s w r =
    r (kept ++ line) (c ∷ []) false (record {
      all = ap (λ y. y ++ c ∷ []) w.all ∙ (append_assoc a (notes_before bs) (c ∷ []) ∙ ap (λ y. a ++ y) (sym f));
      back = w.back ∙ ap (λ y. a ++ notes_before y) (sym g);
    })
over hit a bs ks ts n R (gap (remark c)) x l k kept line false f g s w r =
    r kept (line ++ c ∷ []) false (record {
      all = sym (append_assoc kept line (c ∷ [])) ∙ (ap (λ y. y ++ c ∷ []) w.all ∙ (append_assoc a (notes_before bs) (c ∷ []) ∙ ap (λ y. a ++ y) (sym f)));
      back = w.back ∙ ap (λ y. a ++ notes_before y) (sym g);
    })
over hit a bs ks ts n R (mark m) x l k kept line b f g s w r =
    let m : kept ++ line ≡ a ++ notes_before x = w.all ∙ ap (λ y. a ++ y) (sym (f ∙ append-nil (notes_before bs))) in
    r (kept ++ line) [] false (record { all = append-nil (kept ++ line) ∙ m; back = m ∙ ap (λ y. a ++ notes_before y) (sym g) })
over hit a bs ks ts n R value x l k kept line b f g s w r =
    let m : (kept ++ line) ++ notes k ≡ a ++ notes_before x = ap (λ y. y ++ notes k) w.all ∙ (append_assoc a (notes_before bs) (notes k) ∙ ap (λ y. a ++ y) (ap (λ y. notes_before bs ++ y) (s refl) ∙ sym f)) in
    r ((kept ++ line) ++ notes k) [] false (record { all = append-nil ((kept ++ line) ++ notes k) ∙ m; back = m ∙ ap (λ y. a ++ notes_before y) (sym g) })

-- the same, where only the comments so far are of interest
past : (hit : Rule) (ks ts : Nodes) (n : ℕ) (q : List ℕ) (R : List Comment) (c : Class) (l : Label) (k : Layout) (kept line : List Comment) (b : Bool) → (c ≡ value → notes k ≡ comments ks)
    → ((kept line : List Comment) (b : Bool) → stays (walk hit (lay (pieces ts) b) kept line n q) ≡ (kept ++ line) ++ R)
    → stays (walk hit (lay_at c l k b (lay (pieces ts))) kept line (counted c n) q) ≡ (kept ++ line) ++ (remarks_of c (comments ks) ++ R)
past hit ks ts n q R (gap blank) l k kept line b s r = r kept line b
past hit ks ts n q R (gap break) l k kept line b s r = r kept line true
past hit ks ts n q R (gap (remark c)) l k kept line true s r = r (kept ++ line) (c ∷ []) false ∙ append_assoc (kept ++ line) (c ∷ []) R
past hit ks ts n q R (gap (remark c)) l k kept line false s r =
    r kept (line ++ c ∷ []) false ∙ (ap (λ y. y ++ R) (sym (append_assoc kept line (c ∷ []))) ∙ append_assoc (kept ++ line) (c ∷ []) R)
past hit ks ts n q R (mark m) l k kept line b s r = r (kept ++ line) [] false ∙ ap (λ y. y ++ R) (append-nil (kept ++ line))
past hit ks ts n q R value l k kept line b s r =
    r ((kept ++ line) ++ notes k) [] false ∙ (ap (λ y. y ++ R) (append-nil ((kept ++ line) ++ notes k)) ∙ (append_assoc (kept ++ line) (notes k) R ∙ ap (λ y. (kept ++ line) ++ (y ++ R)) (s refl)))

module _ (hit : Rule) (g : Local) (ans : Answers hit g) (h : Handle) where
  -- among siblings, what stays is what the edited list has
  among_walk : (ts : Nodes) (n : ℕ) → Among h ts n → (a : List Comment) (bs : Nodes) (kept line : List Comment) (b : Bool) → Walked a bs kept line b → Whole ts
      → stays (walk hit (lay (pieces ts) b) kept line n []) ≡ a ++ comments (local_from g h.place bs ts)
  among_walk _ _ (first p i ks ts e v) a bs kept line b w d =
      let m = laid i.sort ks (pieces ts) d.0 d.1 in
      ap (λ y. stays (walk hit y kept line 0 [])) (m.is b ∙ ap (λ c. lay_at c m.label m.within_it b (lay (pieces ts))) v)
      ∙ (ans a bs p i ks ts kept line b m.within_it d.2 w
      ∙ ap (λ y. a ++ comments y) (sym (cond-true (eqb p h.place) (g bs p i ks ts) (local_from g h.place (node p i ks bs) ts) (eq-eqb p h.place (ap (λ y. y.place) e)))))
  among_walk _ _ (later p i ks ts n e r) a bs kept line b w d =
      let m = laid i.sort ks (pieces ts) d.0 d.1 in
      ap (λ y. stays (walk hit y kept line (counted (class i.sort) n) [])) (m.is b)
      ∙ (over hit a bs ks ts n (a ++ comments (local_from g h.place (node p i ks bs) ts)) (class i.sort) (node p i ks bs) m.label m.within_it kept line b refl refl m.said w
      (λ kept line b w. among_walk ts n r a (node p i ks bs) kept line b w d.2)
      ∙ ap (λ y. a ++ comments y) (sym (cond-false (eqb p h.place) (g bs p i ks ts) (local_from g h.place (node p i ks bs) ts) e)))

  -- into a container
  down : (p : ℕ) (i : Own) (ks us ts : Nodes) (j : ℕ) (q : List ℕ) (x : Box) (kept line : List Comment) (b : Bool) → i.sort ≡ within x → Whole ts
      → stays (walk hit (lay (pieces ks) false) (kept ++ line) [] j q) ≡ (kept ++ line) ++ comments us
      → stays (walk hit (lay (pieces (node p i ks ts)) b) kept line 0 (j ∷ q)) ≡ (kept ++ line) ++ comments (node p i us ts)
  down p i ks us ts j q x kept line b e w r =
      let s : Split = walk hit (lay (pieces ks) false) (kept ++ line) [] j q in
      let t : List Comment = notes (lay (pieces ts) false) in
      ap (λ y. stays (walk hit (lay (piece y (pieces ks) (pieces ts)) b) kept line 0 (j ∷ q))) e
      ∙ (sym (append_assoc s.before s.behind t) ∙ (ap (λ y. y ++ t) r ∙ (append_assoc (kept ++ line) (comments us) t
      ∙ (ap (λ y. (kept ++ line) ++ (comments us ++ y)) (sym (whole_comments ts false w)) ∙ ap (λ y. (kept ++ line) ++ (remarks_of (class y) (comments us) ++ comments ts)) (sym e)))))

  -- below siblings likewise
  below_walk : (c : ℕ) (ts : Nodes) (n : ℕ) (q : List ℕ) → Below c h ts n q → (kept line : List Comment) (b : Bool) → Whole ts
      → stays (walk hit (lay (pieces ts) b) kept line n q) ≡ (kept ++ line) ++ comments (edited c (local g h.place) ts)
  below_walk c _ _ _ (child p i ks ts j e v a) kept line b d =
      let x = holder i.sort h.place ks d.0 (among_count h ks j a) in
      down p i ks (local g h.place ks) ts j [] x.0 kept line b x.1 d.2 (among_walk ks j a (kept ++ line) end (kept ++ line) [] false (walked_start (kept ++ line)) d.1)
      ∙ ap (λ y. (kept ++ line) ++ comments y) (sym (edited_here c (local g h.place) p i ks ts e))
  below_walk c _ _ _ (deeper p i ks ts j q e z v r) kept line b d =
      let x = holder i.sort c ks d.0 (below_count c h ks j q r).0 in
      down p i ks (edited c (local g h.place) ks) ts j q x.0 kept line b x.1 d.2
      (below_walk c ks j q r (kept ++ line) [] false d.1 ∙ ap (λ y. y ++ comments (edited c (local g h.place) ks)) (append-nil (kept ++ line)))
      ∙ ap (λ y. (kept ++ line) ++ comments y) (sym (edited_below c (local g h.place) p i ks ts (eqb-false p c e) z))
  below_walk c _ _ _ (along p i ks ts n q e z r) kept line b d =
      let m = laid i.sort ks (pieces ts) d.0 d.1 in
      ap (λ y. stays (walk hit y kept line (counted (class i.sort) n) q)) (m.is b)
      ∙ (past hit ks ts n q (comments (edited c (local g h.place) ts)) (class i.sort) m.label m.within_it kept line b m.said (λ kept line b. below_walk c ts n q r kept line b d.2)
      ∙ ap (λ y. (kept ++ line) ++ comments y) (sym (edited_rest c (local g h.place) p i ks ts (eqb-false p c e) z)))

  -- and in the whole document
  lies_walk : (c : ℕ) (ts : Nodes) (n : ℕ) (q : List ℕ) → Lies c h ts n q → Whole ts → stays (walk hit (lay (pieces ts) false) [] [] n q) ≡ comments (under c (local g h.place) ts)
  lies_walk c ts _ _ (on_top n e a) w = among_walk ts n a [] end [] [] false (walked_start []) w
      ∙ ap comments (sym (cond-true (eqb c 0) (local g h.place ts) (edited c (local g h.place) ts) (eq-eqb c 0 e)))
  lies_walk c ts _ _ (inside n q e b) w = below_walk c ts n q b [] [] false w
      ∙ ap comments (sym (cond-false (eqb c 0) (local g h.place ts) (edited c (local g h.place) ts) e))

  -- what stays is what the account has, less what is lost
  pub lies_less : Total hit → (c : ℕ) (ts : Nodes) (q : List ℕ) → Lies c h ts 0 q → Whole ts → comments (under c (local g h.place) ts) ≡ less (walk hit (layout (pieces ts)) [] [] 0 q) (comments ts)
  lies_less t c ts q a w =
      sym (lies_walk c ts 0 q a w) ∙ sym (less_split (walk hit (layout (pieces ts)) [] [] 0 q) (comments ts) (walk_all hit t (layout (pieces ts)) [] [] 0 q ∙ sym (whole_comments ts false w)))

-- REMOVE
remove_answers : Answers remove_here removal
remove_answers a bs p i ks ts kept line true k d w =
    ap (λ y. y ++ (followed (lay (pieces ts) false) (after_comma (lay (pieces ts) false))).behind) w.back
    ∙ (append_assoc a (notes_before (back_line bs)) (followed (lay (pieces ts) false) (after_comma (lay (pieces ts) false))).behind ∙ ap (λ y. a ++ y) (sym (removal_comments bs p i ks ts d)))
remove_answers a bs p i ks ts kept line false k d w =
    ap (λ y. y ++ (followed (lay (pieces ts) false) (after_comma (lay (pieces ts) false))).behind) w.back
    ∙ (append_assoc a (notes_before (back_line bs)) (followed (lay (pieces ts) false) (after_comma (lay (pieces ts) false))).behind ∙ ap (λ y. a ++ y) (sym (removal_comments bs p i ks ts d)))

-- the comments after remove are the account's
pub remove_less : (c : ℕ) (h : Handle) (ts : Nodes) (p : List ℕ) → Lies c h ts 0 p → Whole ts → comments (remove c h.place ts) ≡ less (lost_by_removal (layout (pieces ts)) p) (comments ts)
remove_less c h ts p a w = lies_less remove_here removal remove_answers h remove_total c ts p a w

-- REPLACE, SET_VALUE, SET_ROOT
exchange_answers : (us : Nodes) → comments us ≡ [] → Answers replace_here (exchanged us)
exchange_answers us e a bs p i ks ts kept line b k d w =
    ap (λ y. y ++ notes (lay (pieces ts) false)) w.all
    ∙ (append_assoc a (notes_before bs) (notes (lay (pieces ts) false))
    ∙ ap (λ y. a ++ y) (ap (λ y. notes_before bs ++ y) (sym (comments_append us ts ∙ (ap (λ y. y ++ comments ts) e ∙ whole_comments ts false d))) ∙ sym (comments_onto bs (append us ts))))

-- the comments after a value took another's place are the account's
pub exchange_less : (c : ℕ) (h : Handle) (us ts : Nodes) (p : List ℕ) → comments us ≡ [] → Lies c h ts 0 p → Whole ts → comments (exchange c h.place us ts) ≡ less (lost_inside (layout (pieces ts)) p) (comments ts)
exchange_less c h us ts p e a w = lies_less replace_here (exchanged us) (exchange_answers us e) h replace_total c ts p a w
