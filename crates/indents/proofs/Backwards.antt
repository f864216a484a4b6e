-- A buffer filled from the end of a part backwards. Assumes nothing.
use Rattle.std.proofs.Common.{◌≡◌, ℕ, ◌+◌, ◌≤◌, List, ◌++◌, length, take, drop, sym, ap, ◌∙◌, append_assoc, arith, length-append, length-take-le}
use lib.Seq.{drop-append-add}
use Rattle.printing.specs.Buffers.{over}

-- the last bytes first, and then those before them
over_before : (out B s : List ℕ) → length B + length s ≤ length out → over (over out (length B) s) 0 B ≡ over out 0 (B ++ s)
over_before out B s h =
    let A = take (length B) out in
    let D = drop (length B + length s) out in
    let l : length A ≡ length B = length-take-le (length B) out (omega arith) in
    let d : drop (0 + length B) (A ++ (s ++ D)) ≡ s ++ D = ap (λ n. drop n (A ++ (s ++ D))) (omega arith) ∙ drop-append-add A (s ++ D) 0 in
    ap (λ z. B ++ z) d ∙ (sym (append_assoc B s D) ∙ ap (λ n. (B ++ s) ++ drop n out) (omega (arith, length-append B s)))

pub turn_back : (out out1 T B s : List ℕ) (n : ℕ) → T ≡ B ++ s → n ≡ length B → out1 ≡ over out n s → length T ≤ length out → over out1 0 B ≡ over out 0 T
turn_back out out1 T B s n t e w h =
    ap (λ z. over z 0 B) w ∙ (ap (λ m. over (over out m s) 0 B) e ∙ (over_before out B s (omega (arith, ap length t, length-append B s)) ∙ ap (over out 0) (sym t)))
