-- A newly loaded tree: its pieces, its nodes in text order, its comments and its value. Assumes nothing.
use Rattle.std.proofs.Common.{◌≡◌, ℕ, zero, suc, ◌+◌, ◌<◌, ◌≤◌, Bool, true, false, ◌⊎◌, List, [], ◌∷◌, ◌++◌, refl, ap, ◌∙◌, inl, inr, arith}
use Rattle.std.proofs.lemmas.Bool.{cases_eq, cases_lt}
use Rattle.grammar.specs.Layout.{Comment, meaning, notes, Parts, nil, part}
use Rattle.grammar.specs.Pieces.{Leaf, null, boolean, number, string, name, token, whitespace, newline, comment, Box, array, object, property, Pieces, end as no_pieces, leaf, box, nodes, lay, label_of as piece_label}
use Rattle.forest.specs.Forest.{end, node, count, size, places}
use Rattle.forest.proofs.Frames.{one_eq, one_other}
use Rattle.model.specs.Nodes.{Handle, handle, Sort, root, within, single, Own, Nodes, Gap, blank, break, remark, Class, gap, mark, value, class, leaf_class, pieces, numbered, parts, parts_at, label_of, box_label, leaf_label}
use Rattle.model.specs.Fits.{IsEnd, Holds, Whole, comments, remarks_of, bare}
use Rattle.model.specs.Numbers.{numbers}
use Rattle.model.specs.State.{up_from}

-- the pieces of the nodes are the pieces
pub pieces_numbered : (p n : ℕ) (a : Pieces) → pieces (numbered p n a) ≡ a
pieces_numbered p n no_pieces = refl
pieces_numbered p n (leaf x r) = ap (leaf x) (pieces_numbered (suc p) (suc n) r)
pieces_numbered p n (box b c r) = ap (λ y. box b y (pieces (numbered (suc (p + nodes c)) (suc (n + nodes c)) r))) (pieces_numbered (suc p) (suc n) c) ∙ ap (box b c) (pieces_numbered (suc (p + nodes c)) (suc (n + nodes c)) r)

pub size_numbered : (p n : ℕ) (a : Pieces) → size (numbered p n a) ≡ nodes a
size_numbered p n no_pieces = refl
size_numbered p n (leaf x r) = omega (arith, size_numbered (suc p) (suc n) r)
size_numbered p n (box b c r) = omega (arith, size_numbered (suc p) (suc n) c, size_numbered (suc (p + nodes c)) (suc (n + nodes c)) r)

-- two runs of numbers, one behind the other
up-++ : (p m n : ℕ) → up_from p m ++ up_from (p + m) n ≡ up_from p (m + n)
up-++ p zero n = ap (λ y. up_from y n) (omega arith) ∙ ap (up_from p) (omega arith)
up-++ p (suc m) n =
    let e : p + suc m ≡ suc p + m = omega arith in
    let d : suc (m + n) ≡ suc m + n = omega arith in
    ap (λ y. p ∷ (up_from (suc p) m ++ up_from y n)) e ∙ (ap (λ y. p ∷ y) (up-++ (suc p) m n) ∙ ap (up_from p) d)

-- the places go up by one in text order, and so do the numbers
pub places_numbered : (p n : ℕ) (a : Pieces) → places (numbered p n a) ≡ up_from p (nodes a)
places_numbered p n no_pieces = refl
places_numbered p n (leaf x r) = ap (λ y. p ∷ y) (places_numbered (suc p) (suc n) r)
places_numbered p n (box b c r) =
    ap (λ y. p ∷ (y ++ places (numbered (suc (p + nodes c)) (suc (n + nodes c)) r))) (places_numbered (suc p) (suc n) c)
    ∙ (ap (λ y. p ∷ (up_from (suc p) (nodes c) ++ y)) (places_numbered (suc (p + nodes c)) (suc (n + nodes c)) r)
    ∙ (ap (λ y. p ∷ (up_from (suc p) (nodes c) ++ up_from y (nodes r))) (omega arith) ∙ ap (λ y. p ∷ y) (up-++ (suc p) (nodes c) (nodes r))))

pub numbers_numbered : (p n : ℕ) (a : Pieces) → numbers (numbered p n a) ≡ up_from n (nodes a)
numbers_numbered p n no_pieces = refl
numbers_numbered p n (leaf x r) = ap (λ y. n ∷ y) (numbers_numbered (suc p) (suc n) r)
numbers_numbered p n (box b c r) =
    ap (λ y. n ∷ (y ++ numbers (numbered (suc (p + nodes c)) (suc (n + nodes c)) r))) (numbers_numbered (suc p) (suc n) c)
    ∙ (ap (λ y. n ∷ (up_from (suc n) (nodes c) ++ y)) (numbers_numbered (suc (p + nodes c)) (suc (n + nodes c)) r)
    ∙ (ap (λ y. n ∷ (up_from (suc n) (nodes c) ++ up_from y (nodes r))) (omega arith) ∙ ap (λ y. n ∷ y) (up-++ (suc n) (nodes c) (nodes r))))

-- no place outside
pub count_outside : (k p n : ℕ) (a : Pieces) → (k < p) ⊎ (p + nodes a ≤ k) → count k (numbered p n a) ≡ 0
count_outside k p n no_pieces h = refl
count_outside k p n (leaf x r) (inl h) = omega (arith, one_other p k (λ e. omega arith), count_outside k (suc p) (suc n) r (inl (omega arith)))
count_outside k p n (leaf x r) (inr h) = omega (arith, one_other p k (λ e. omega arith), count_outside k (suc p) (suc n) r (inr (omega arith)))
count_outside k p n (box b c r) (inl h) = omega (arith, one_other p k (λ e. omega arith), count_outside k (suc p) (suc n) c (inl (omega arith)), count_outside k (suc (p + nodes c)) (suc (n + nodes c)) r (inl (omega arith)))
count_outside k p n (box b c r) (inr h) = omega (arith, one_other p k (λ e. omega arith), count_outside k (suc p) (suc n) c (inr (omega arith)), count_outside k (suc (p + nodes c)) (suc (n + nodes c)) r (inr (omega arith)))

-- each place inside once
pub count_inside : (k p n : ℕ) (a : Pieces) → p ≤ k → k < p + nodes a → count k (numbered p n a) ≡ 1
count_inside k p n no_pieces h l = absurd (omega arith)
count_inside k p n (leaf x r) h l =
    elim (cases_eq p k) [
      | inl e ↦ omega (arith, one_eq p k e, count_outside k (suc p) (suc n) r (inl (omega arith)))
      | inr d ↦ (let g : suc p ≤ k = omega (arith, d) in omega (arith, one_other p k d, count_inside k (suc p) (suc n) r g (omega arith)))
    ]
count_inside k p n (box b c r) h l =
    elim (cases_eq p k) [
      | inl e ↦ omega (arith, one_eq p k e, count_outside k (suc p) (suc n) c (inl (omega arith)), count_outside k (suc (p + nodes c)) (suc (n + nodes c)) r (inl (omega arith)))
      | inr d ↦ (let g : suc p ≤ k = omega (arith, d) in elim (cases_lt k (suc (p + nodes c))) [
        | inl i ↦ omega (arith, one_other p k d, count_inside k (suc p) (suc n) c g (omega arith), count_outside k (suc (p + nodes c)) (suc (n + nodes c)) r (inl i))
        | inr o ↦ omega (arith, one_other p k d, count_outside k (suc p) (suc n) c (inr (omega arith)), count_inside k (suc (p + nodes c)) (suc (n + nodes c)) r o (omega arith))
      ])
    ]

-- the comments, and the value
leaf_comments : (x : Leaf) (p n : ℕ) (r : Pieces) (b : Bool) → ((b : Bool) → comments (numbered (suc p) (suc n) r) ≡ notes (lay r b)) → comments (numbered p n (leaf x r)) ≡ notes (lay (leaf x r) b)
leaf_comments null p n r b h = h false
leaf_comments (boolean v) p n r b h = h false
leaf_comments (number t) p n r b h = h false
leaf_comments (string t) p n r b h = h false
leaf_comments (name t) p n r b h = h false
leaf_comments (token m) p n r b h = h false
leaf_comments (whitespace t) p n r b h = h b
leaf_comments (newline k) p n r b h = h true
leaf_comments (comment c) p n r b h = ap (λ y. c ∷ y) (h false)

pub comments_numbered : (p n : ℕ) (a : Pieces) (b : Bool) → comments (numbered p n a) ≡ notes (lay a b)
comments_numbered p n no_pieces b = refl
comments_numbered p n (leaf x r) b = leaf_comments x p n r b (comments_numbered (suc p) (suc n) r)
comments_numbered p n (box k c r) b =
    ap (λ y. y ++ comments (numbered (suc (p + nodes c)) (suc (n + nodes c)) r)) (comments_numbered (suc p) (suc n) c false)
    ∙ ap (λ y. notes (lay c false) ++ y) (comments_numbered (suc (p + nodes c)) (suc (n + nodes c)) r false)

leaf_value : (x : Leaf) (p n : ℕ) (r : Pieces) (b : Bool) → ((b : Bool) → bare (parts (numbered (suc p) (suc n) r)) ≡ meaning (lay r b)) → bare (parts (numbered p n (leaf x r))) ≡ meaning (lay (leaf x r) b)
leaf_value null p n r b h = ap (part tt (leaf_label null) nil) (h false)
leaf_value (boolean v) p n r b h = ap (part tt (leaf_label (boolean v)) nil) (h false)
leaf_value (number t) p n r b h = ap (part tt (leaf_label (number t)) nil) (h false)
leaf_value (string t) p n r b h = ap (part tt (leaf_label (string t)) nil) (h false)
leaf_value (name t) p n r b h = h false
leaf_value (token m) p n r b h = h false
leaf_value (whitespace t) p n r b h = h b
leaf_value (newline k) p n r b h = h true
leaf_value (comment c) p n r b h = h false

box_label_lem : (b : Box) (c : Pieces) → box_label b c ≡ piece_label b c
box_label_lem array c = refl
box_label_lem object c = refl
box_label_lem property c = refl

pub value_numbered : (p n : ℕ) (a : Pieces) (b : Bool) → bare (parts (numbered p n a)) ≡ meaning (lay a b)
value_numbered p n no_pieces b = refl
value_numbered p n (leaf x r) b = leaf_value x p n r b (value_numbered (suc p) (suc n) r)
value_numbered p n (box k c r) b =
    let ks = numbered (suc p) (suc n) c in
    let ts = numbered (suc (p + nodes c)) (suc (n + nodes c)) r in
    let l : box_label k (pieces ks) ≡ piece_label k c = ap (box_label k) (pieces_numbered (suc p) (suc n) c) ∙ box_label_lem k c in
    let x : bare (parts ks) ≡ meaning (lay c false) = value_numbered (suc p) (suc n) c false in
    let y : bare (parts ts) ≡ meaning (lay r false) = value_numbered (suc (p + nodes c)) (suc (n + nodes c)) r false in
    ap (λ z. part tt z (bare (parts ks)) (bare (parts ts))) l ∙ (ap (λ z. part tt (piece_label k c) z (bare (parts ts))) x ∙ ap (part tt (piece_label k c) (meaning (lay c false))) y)

-- The same of any tree that is as the grammar has it.
no_comments : (ks : Nodes) → IsEnd ks → comments ks ≡ []
no_comments end h = refl
no_comments (node p i ks ts) h = absurd h

no_parts : (ks : Nodes) → IsEnd ks → bare (parts ks) ≡ nil
no_parts end h = refl
no_parts (node p i ks ts) h = absurd h

whole_leaf_comments : (x : Leaf) (ks : Nodes) (a : Pieces) (cs : List Comment) (b : Bool) → IsEnd ks → ((b : Bool) → cs ≡ notes (lay a b)) → remarks_of (leaf_class x) (comments ks) ++ cs ≡ notes (lay (leaf x a) b)
whole_leaf_comments null ks a cs b z h = ap (λ y. y ++ cs) (no_comments ks z) ∙ h false
whole_leaf_comments (boolean v) ks a cs b z h = ap (λ y. y ++ cs) (no_comments ks z) ∙ h false
whole_leaf_comments (number t) ks a cs b z h = ap (λ y. y ++ cs) (no_comments ks z) ∙ h false
whole_leaf_comments (string t) ks a cs b z h = ap (λ y. y ++ cs) (no_comments ks z) ∙ h false
whole_leaf_comments (name t) ks a cs b z h = h false
whole_leaf_comments (token m) ks a cs b z h = h false
whole_leaf_comments (whitespace t) ks a cs b z h = h b
whole_leaf_comments (newline k) ks a cs b z h = h true
whole_leaf_comments (comment c) ks a cs b z h = ap (λ y. c ∷ y) (h false)

whole_comments_at : (s : Sort) (ks : Nodes) (a : Pieces) (cs : List Comment) (b : Bool) → Holds s ks → ((b : Bool) → comments ks ≡ notes (lay (pieces ks) b)) → ((b : Bool) → cs ≡ notes (lay a b)) → remarks_of (class s) (comments ks) ++ cs ≡ notes (lay (Rattle.model.specs.Nodes.piece s (pieces ks) a) b)
whole_comments_at root ks a cs b h k r = absurd h
whole_comments_at (within x) ks a cs b h k r = ap (λ y. y ++ cs) (k false) ∙ ap (λ y. notes (lay (pieces ks) false) ++ y) (r false)
whole_comments_at (single x) ks a cs b h k r = whole_leaf_comments x ks a cs b h.1 r

-- The comments of a tree are those of its layout.
pub whole_comments : (ts : Nodes) (b : Bool) → Whole ts → comments ts ≡ notes (lay (pieces ts) b)
whole_comments end b h = refl
whole_comments (node p i ks ts) b h = whole_comments_at i.sort ks (pieces ts) (comments ts) b h.0 (λ d. whole_comments ks d h.1) (λ d. whole_comments ts d h.2)

whole_leaf_value : (x : Leaf) (i : Handle) (ks : Nodes) (a : Pieces) (v : Parts Handle) (b : Bool) → IsEnd ks → ((b : Bool) → bare v ≡ meaning (lay a b)) → bare (parts_at (leaf_class x) i (leaf_label x) (parts ks) v) ≡ meaning (lay (leaf x a) b)
whole_leaf_value null i ks a v b z h = ap (λ y. part tt (leaf_label null) y (bare v)) (no_parts ks z) ∙ ap (part tt (leaf_label null) nil) (h false)
whole_leaf_value (boolean w) i ks a v b z h = ap (λ y. part tt (leaf_label (boolean w)) y (bare v)) (no_parts ks z) ∙ ap (part tt (leaf_label (boolean w)) nil) (h false)
whole_leaf_value (number t) i ks a v b z h = ap (λ y. part tt (leaf_label (number t)) y (bare v)) (no_parts ks z) ∙ ap (part tt (leaf_label (number t)) nil) (h false)
whole_leaf_value (string t) i ks a v b z h = ap (λ y. part tt (leaf_label (string t)) y (bare v)) (no_parts ks z) ∙ ap (part tt (leaf_label (string t)) nil) (h false)
whole_leaf_value (name t) i ks a v b z h = h false
whole_leaf_value (token m) i ks a v b z h = h false
whole_leaf_value (whitespace t) i ks a v b z h = h b
whole_leaf_value (newline k) i ks a v b z h = h true
whole_leaf_value (comment c) i ks a v b z h = h false

whole_value_at : (s : Sort) (i : Handle) (ks : Nodes) (a : Pieces) (v : Parts Handle) (b : Bool) → Holds s ks → ((b : Bool) → bare (parts ks) ≡ meaning (lay (pieces ks) b)) → ((b : Bool) → bare v ≡ meaning (lay a b)) → bare (parts_at (class s) i (label_of s (pieces ks)) (parts ks) v) ≡ meaning (lay (Rattle.model.specs.Nodes.piece s (pieces ks) a) b)
whole_value_at root i ks a v b h k r = absurd h
whole_value_at (within x) i ks a v b h k r =
    ap (λ z. part tt z (bare (parts ks)) (bare v)) (box_label_lem x (pieces ks)) ∙ (ap (λ z. part tt (piece_label x (pieces ks)) z (bare v)) (k false) ∙ ap (part tt (piece_label x (pieces ks)) (meaning (lay (pieces ks) false))) (r false))
whole_value_at (single x) i ks a v b h k r = whole_leaf_value x i ks a v b h.1 r

-- The value of a tree is that of its layout.
pub whole_value : (ts : Nodes) (b : Bool) → Whole ts → bare (parts ts) ≡ meaning (lay (pieces ts) b)
whole_value end b h = refl
whole_value (node p i ks ts) b h = whole_value_at i.sort (handle p i) ks (pieces ts) (parts ts) b h.0 (λ d. whole_value ks d h.1) (λ d. whole_value ts d h.2)
