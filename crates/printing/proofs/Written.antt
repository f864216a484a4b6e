-- One write after another. Assumes nothing.
use Rattle.std.proofs.Common.{◌≡◌, ℕ, ◌+◌, ◌-◌, ◌≤◌, List, [], ◌++◌, length, take, drop, sym, ap, ◌∙◌, append_assoc, arith, length-append, length-drop, length-take, length-take-le, drop-drop, take_at}
use lib.Seq.{drop-append-add}
use borrow.Rule.Slice.PartMut.{put_mid, post_of, Post-is}
use Rattle.std.proofs.lemmas.List.{take-append-drop}
use Rattle.printing.specs.Buffers.{over}

-- nothing written
pub over_none : (out : List ℕ) (n : ℕ) → over out n [] ≡ out
over_none out n = ap (λ z. take n out ++ drop z out) (omega arith) ∙ take-append-drop n out

-- a buffer keeps its length
pub length_over : (out : List ℕ) (n : ℕ) (ys : List ℕ) → n + length ys ≤ length out → length (over out n ys) ≡ length out
length_over out n ys h =
    omega (arith, length-append (take n out) (ys ++ drop (n + length ys) out), length-append ys (drop (n + length ys) out), length-take n out, length-drop (n + length ys) out)

-- what a copy into a part leaves
pub written : (out ys bytes : List ℕ) (n : ℕ) → ys ≡ bytes → put_mid n (n + length bytes - n) out ys ≡ over out n bytes
written out ys bytes n e =
    ap (λ z. take n out ++ (z ++ post_of n (n + length bytes - n) out)) e ∙ ap (λ z. take n out ++ (bytes ++ z)) (Post-is n (n + length bytes) out (omega arith))

-- two writes, the second where the first ended
pub over_over : (out : List ℕ) (n : ℕ) (xs ys : List ℕ) → n + length xs ≤ length out → over (over out n xs) (n + length xs) ys ≡ over out n (xs ++ ys)
over_over out n xs ys h =
    let A = take n out in
    let D = drop (n + length xs) out in
    let l_a : length A ≡ n = length-take-le n out (omega arith) in
    let l : length (A ++ xs) ≡ n + length xs = length-append A xs ∙ ap (λ z. z + length xs) l_a in
    let e : over out n xs ≡ (A ++ xs) ++ D = sym (append_assoc A xs D) in
    let t : take (n + length xs) (over out n xs) ≡ A ++ xs = ap (take (n + length xs)) e ∙ take_at (A ++ xs) D (n + length xs) l in
    let d : drop (n + length xs + length ys) (over out n xs) ≡ drop (n + length (xs ++ ys)) out =
    ap (drop (n + length xs + length ys)) e
    ∙ (ap (λ z. drop (z + length ys) ((A ++ xs) ++ D)) (sym l)
    ∙ (drop-append-add (A ++ xs) D (length ys) ∙ (drop-drop (length ys) (n + length xs) out ∙ ap (λ z. drop z out) (omega (arith, length-append xs ys))))) in
    ap (λ z. z ++ (ys ++ drop (n + length xs + length ys) (over out n xs))) t
    ∙ (ap (λ z. (A ++ xs) ++ (ys ++ z)) d
    ∙ (append_assoc A xs (ys ++ drop (n + length (xs ++ ys)) out) ∙ ap (λ z. A ++ z) (sym (append_assoc xs ys (drop (n + length (xs ++ ys)) out)))))

-- a node's own bytes O, and what follows it N
pub turn_own : (out out1 O N T : List ℕ) (a a1 : ℕ) → T ≡ O ++ N → out1 ≡ over out a O → a1 ≡ a + length O → a + length T ≤ length out → over out1 a1 N ≡ over out a T
turn_own out out1 O N T a a1 t e l h =
    ap (λ z. over z a1 N) e ∙ (ap (λ z. over (over out a O) z N) l ∙ (over_over out a O N (omega (arith, ap length t, length-append O N)) ∙ ap (over out a) (sym t)))

-- a node's own bytes O, what is inside it D, and what follows it N
pub turn_again : (out out1 out2 O D N T : List ℕ) (a a1 a2 : ℕ) → T ≡ O ++ (D ++ N) → out1 ≡ over out a O → a1 ≡ a + length O → out2 ≡ over out1 a1 D → a2 ≡ a1 + length D
    → a + length T ≤ length out → over out2 a2 N ≡ over out a T
turn_again out out1 out2 O D N T a a1 a2 t e1 l1 e2 l2 h =
    let w = ap length t ∙ length-append O (D ++ N) in
    let w2 = length-append D N in
    let lo = ap length e1 ∙ length_over out a O (omega arith) in
    ap (λ z. over z a2 N) e2
    ∙ (ap (λ z. over (over out1 a1 D) z N) l2
    ∙ (over_over out1 a1 D N (omega arith)
    ∙ (ap (λ z. over z a1 (D ++ N)) e1 ∙ (ap (λ z. over (over out a O) z (D ++ N)) l1 ∙ (over_over out a O (D ++ N) (omega arith) ∙ ap (over out a) (sym t))))))
