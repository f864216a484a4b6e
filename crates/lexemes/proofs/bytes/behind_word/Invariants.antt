use Rattle.std.proofs.Common.{ℕ, List, drop, Result}
use Rattle.std.specs.Borrow.{Bor}
use Rattle.grammar.specs.Reader.{word_p}
use Rattle.lexemes.specs.declared.mismatch.Mismatch.{Mismatch}
use Rattle.lexemes.specs.Scan.{Goes}
use Rattle.lexemes.proofs.bytes.behind_word.Given as goal

abbrev pub invariant-loop-letter : goal.invariant-loop-letter
invariant-loop-letter l = (r : Result (Bor (List ℕ)) Mismatch) → Goes (word_p (drop l.letter-index l.word)) l.rest r → Goes (word_p l.word) l.text r
