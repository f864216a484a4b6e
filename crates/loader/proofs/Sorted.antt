-- The nodes that are laid for pieces are those of the document, with their bytes in the store. Assumes nothing.
use Rattle.std.proofs.Common.{◌≡◌, ℕ, suc, ◌+◌, ◌≤◌, List, ◌++◌, length, take, drop, sym, refl, ap, ◌∙◌, append_assoc, arith, length-append}
use lib.Seq.{take-append_seam, drop-append_seam}
use Rattle.grammar.specs.Layout.{Line, Block}
use Rattle.grammar.specs.Pieces as of
use Rattle.grammar.specs.Pieces.{Leaf, Box, Token, Break, Pieces, kept, nodes, stored}
use Rattle.forest.specs.Forest.{end, node, map}
use Rattle.model.specs.Nodes.{Sort, within, single, Own, numbered}
use Rattle.line_break.specs.Breaks.{break_for}
use Rattle.tree.specs.Sorts.{sort_for, own_for, token_for, Inside}
use Rattle.loader.specs.Kinds.{break_kind, leaf_kind, box_kind}
use Rattle.loader.proofs.Grown.{laid}

token_sort : (m : Token) → token_for (of.token_byte m) ≡ m
token_sort of.open_array = refl
token_sort of.close_array = refl
token_sort of.open_object = refl
token_sort of.close_object = refl
token_sort of.comma = refl
token_sort of.colon = refl

break_sort : (k : Break) → break_for (break_kind k) ≡ k
break_sort of.line_feed = refl
break_sort of.carriage_return = refl
break_sort of.both = refl

-- a leaf's node, with the bytes that are kept of it, is the leaf
leaf_sort : (x : Leaf) → sort_for (leaf_kind x) (kept x) ≡ single x
leaf_sort of.null = refl
leaf_sort (of.boolean b) = refl
leaf_sort (of.number t) = refl
leaf_sort (of.string t) = refl
leaf_sort (of.name t) = refl
leaf_sort (of.token m) = ap (λ y. single (of.token y)) (token_sort m)
leaf_sort (of.whitespace t) = refl
leaf_sort (of.newline k) = ap (λ y. single (of.newline y)) (break_sort k)
leaf_sort (of.comment (Line t)) = refl
leaf_sort (of.comment (Block t)) = refl

box_sort : (b : Box) (t : List ℕ) → sort_for (box_kind b) t ≡ within b
box_sort of.array t = refl
box_sort of.object t = refl
box_sort of.property t = refl

-- the bytes t between those before and those behind
cut : (pre t suf st : List ℕ) (s : ℕ) → st ≡ pre ++ (t ++ suf) → s ≡ length pre → take (length t) (drop s st) ≡ t
cut pre t suf st s e h =
    ap (λ y. take (length t) (drop y st)) h ∙ (ap (λ y. take (length t) (drop (length pre) y)) e
    ∙ (ap (λ y. take (length t) y) (drop-append_seam pre (t ++ suf)) ∙ take-append_seam t suf))

abbrev own_of : ℕ → Sort → Own
own_of n x = record { number = n; sort = x }

pub laid_sorts : (p n s : ℕ) (a : Pieces) (pre suf st : List ℕ) → st ≡ pre ++ (stored a ++ suf) → s ≡ length pre → map (own_for st) (laid p n s a) ≡ numbered p n a
laid_sorts p n s of.end pre suf st e h = refl
laid_sorts p n s (of.leaf x r) pre suf st e h =
    let t = kept x in
    let f : st ≡ pre ++ (t ++ (stored r ++ suf)) = e ∙ ap (λ y. pre ++ y) (append_assoc t (stored r) suf) in
    let g : st ≡ (pre ++ t) ++ (stored r ++ suf) = f ∙ sym (append_assoc pre t (stored r ++ suf)) in
    let o = ap (λ y. sort_for (leaf_kind x) y) (cut pre t (stored r ++ suf) st s f h) ∙ leaf_sort x in
    let i = laid_sorts (suc p) (suc n) (s + length t) r (pre ++ t) suf st g (omega (arith, h, length-append pre t)) in
    ap (λ y. node p (own_of n y) end (map (own_for st) (laid (suc p) (suc n) (s + length t) r))) o ∙ ap (λ y. node p (own_of n (single x)) end y) i
laid_sorts p n s (of.box b c r) pre suf st e h =
    let f : st ≡ pre ++ (stored c ++ (stored r ++ suf)) = e ∙ ap (λ y. pre ++ y) (append_assoc (stored c) (stored r) suf) in
    let g : st ≡ (pre ++ stored c) ++ (stored r ++ suf) = f ∙ sym (append_assoc pre (stored c) (stored r ++ suf)) in
    let o = box_sort b (take 0 (drop s st)) in
    let i = laid_sorts (suc p) (suc n) s c pre (stored r ++ suf) st f h in
    let j = laid_sorts (suc (p + nodes c)) (suc (n + nodes c)) (s + length (stored c)) r (pre ++ stored c) suf st g (omega (arith, h, length-append pre (stored c))) in
    ap (λ y. node p (own_of n y) (map (own_for st) (laid (suc p) (suc n) s c)) (map (own_for st) (laid (suc (p + nodes c)) (suc (n + nodes c)) (s + length (stored c)) r))) o
    ∙ (ap (λ y. node p (own_of n (within b)) y (map (own_for st) (laid (suc (p + nodes c)) (suc (n + nodes c)) (s + length (stored c)) r))) i
    ∙ ap (λ y. node p (own_of n (within b)) (numbered (suc p) (suc n) c) y) j)

-- the bytes of each lie in the store
pub laid_inside : (p n s m : ℕ) (a : Pieces) → s + length (stored a) ≤ m → Inside m (laid p n s a)
laid_inside p n s m of.end h = tt
laid_inside p n s m (of.leaf x r) h =
    let l = length-append (kept x) (stored r) in
    (omega arith, tt, laid_inside (suc p) (suc n) (s + length (kept x)) m r (omega arith))
laid_inside p n s m (of.box b c r) h =
    let l = length-append (stored c) (stored r) in (
      omega arith,
      laid_inside (suc p) (suc n) s m c (omega arith),
      laid_inside (suc (p + nodes c)) (suc (n + nodes c)) (s + length (stored c)) m r (omega arith),
    )
