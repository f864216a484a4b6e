-- Lines and columns of a text. Assumes nothing.
use Rattle.std.specs.Prelude.{ℕ, ◌+◌, true, false, cond, List, [], ◌∷◌, ◌++◌, take, ◌==◌, codes, decimal}
use Rattle.grammar.specs.Parse.{within}
use Rattle.grammar.specs.Classes.{Tail}
use Rattle.spot.specs.declared.Cursor.{Cursor}
use Rattle.spot.specs.declared.Spot.{Spot}

-- where a text begins
abbrev pub start : Cursor
start = record { line = 1; column = 1; returned = false }

-- behind one byte more: CR ends a line, and LF does unless a CR stands right before it; a byte that goes on a character is no column
abbrev pub step : Cursor → ℕ → Cursor
step c b =
    cond (b == 13) (record { line = c.line + 1; column = 1; returned = true })
    (cond (b == 10) (record { line = cond c.returned c.line (c.line + 1); column = 1; returned = false })
    (record { line = c.line; column = cond (within Tail b) c.column (c.column + 1); returned = false }))

-- behind these bytes
abbrev pub counted : Cursor → List ℕ → Cursor
counted c [] = c
counted c (b ∷ t) = counted (step c b) t

-- the line and column behind the first `at` bytes
abbrev pub spot_at : List ℕ → ℕ → Spot
spot_at s at = record { line = (counted start (take at s)).line; column = (counted start (take at s)).column }

-- as it is printed: `line 3 column 14`
abbrev pub printed : Spot → List ℕ
printed s = codes "line " ++ (decimal s.line ++ (codes " column " ++ decimal s.column))
