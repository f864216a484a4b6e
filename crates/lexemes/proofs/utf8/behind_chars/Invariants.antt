use Rattle.std.proofs.Common.{ℕ, List, length, Result}
use Rattle.std.specs.Borrow.{Bor}
use Rattle.grammar.specs.Reader.{chars_p}
use Rattle.lexemes.specs.declared.mismatch.Mismatch.{Mismatch}
use Rattle.lexemes.specs.ByteClasses.{bytes_of}
use Rattle.lexemes.specs.Scan.{Goes}
use Rattle.lexemes.proofs.utf8.behind_chars.Given as goal

abbrev pub invariant-loop-single : goal.invariant-loop-single
invariant-loop-single l = (r : Result (Bor (List ℕ)) Mismatch) → Goes (chars_p (bytes_of l.single)) l.rest r → Goes (chars_p (bytes_of l.single)) l.text r

abbrev pub decreases-loop-single : goal.decreases-loop-single
decreases-loop-single l = length l.rest
