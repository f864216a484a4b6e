use Rattle.std.proofs.Common.{ℕ, List, length, Result}
use Rattle.std.specs.Borrow.{Bor}
use Rattle.grammar.specs.Reader.{block_p}
use Rattle.lexemes.specs.declared.mismatch.Mismatch.{Mismatch}
use Rattle.lexemes.specs.Scan.{Goes}
use Rattle.lexemes.proofs.comments.behind_block.Given as goal

abbrev pub invariant-loop-tail : goal.invariant-loop-tail
invariant-loop-tail l = (r : Result (Bor (List ℕ)) Mismatch) → Goes block_p l.rest r → Goes block_p l.text r

abbrev pub decreases-loop-tail : goal.decreases-loop-tail
decreases-loop-tail l = length l.rest
