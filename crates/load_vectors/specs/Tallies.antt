-- How a tally counts, and how it is printed. Assumes nothing.
use Rattle.std.specs.Prelude.{ℕ, ◌+◌, ◌-◌, ◌^◌, min, List, ◌++◌, codes, decimal}
use Rattle.load_vectors.specs.declared.tally.Tally.{Tally}

-- a count with one more; one that is full stays so
abbrev pub one_more : ℕ → ℕ
one_more n = min (n + 1) (2 ^ 32 - 1)

-- as it is printed: `269 cases, 269 outcomes and 75 shapes compared, 0 differ`
abbrev pub printed : Tally → List ℕ
printed t =
    decimal t.cases ++ (codes " cases, " ++ (decimal t.loads ++ (codes " outcomes and "
    ++ (decimal t.shapes ++ (codes " shapes compared, " ++ (decimal t.wrong ++ codes " differ"))))))
