use Rattle.std.proofs.Common.{ℕ, List, length, Result}
use Rattle.std.specs.Borrow.{Bor}
use Rattle.grammar.specs.Reader.{StringFirst, many_p, string_char_p}
use Rattle.lexemes.specs.declared.mismatch.Mismatch.{Mismatch}
use Rattle.lexemes.specs.Scan.{Goes}
use Rattle.lexemes.proofs.strings.behind_string_chars.Given as goal

abbrev pub invariant-loop-rest : goal.invariant-loop-rest
invariant-loop-rest l = (r : Result (Bor (List ℕ)) Mismatch) → Goes (many_p StringFirst string_char_p) l.rest r → Goes (many_p StringFirst string_char_p) l.text r

abbrev pub decreases-loop-rest : goal.decreases-loop-rest
decreases-loop-rest l = length l.rest
