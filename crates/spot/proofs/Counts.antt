-- Counting byte by byte. Assumes nothing.
use Rattle.std.proofs.Common.{◌≡◌, ℕ, ◌+◌, ◌<◌, ◌≤◌, List, [], ◌∷◌, ◌++◌, length, get_or, take, refl, ap, ◌∙◌, arith}
use Rattle.std.proofs.lemmas.List.{take_more}
use Rattle.std.proofs.lemmas.Bool.Decides.{nat_tests}
use Rattle.spot.specs.declared.Cursor.{Cursor}
use Rattle.spot.specs.Spots.{step, counted, start}

counted_last : (c : Cursor) (s : List ℕ) (b : ℕ) → counted c (s ++ b ∷ []) ≡ step (counted c s) b
counted_last c [] b = refl
counted_last c (x ∷ s) b = counted_last (step c x) s b

-- one byte more
pub counted_more : (s : List ℕ) (i : ℕ) → i < length s → counted start (take (i + 1) s) ≡ step (counted start (take i s)) (get_or s i 0)
counted_more s i h = ap (counted start) (take_more s i 0 h) ∙ counted_last start (take i s) (get_or s i 0)

-- a byte ends at most one line and is at most one column
pub step_line : (c : Cursor) (b : ℕ) → (step c b).line ≤ c.line + 1
step_line c b = grind (arith, nat_tests)

pub step_column : (c : Cursor) (b : ℕ) (n : ℕ) → 1 ≤ n → c.column ≤ n → (step c b).column ≤ n + 1
step_column c b n one h = grind (arith, nat_tests)
