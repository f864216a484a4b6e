use Rattle.std.proofs.Common.{length}
use Rattle.grammar.specs.Reader.{trivia_p}
use Rattle.text.specs.Reports.{Rest, Makes}
use Rattle.text.proofs.gaps.read_trivia.Given as goal

abbrev pub invariant-loop-next : goal.invariant-loop-next
invariant-loop-next g l = (r : Rest) (b : g.row.S.Denot) → Makes g.S.Sink.after (trivia_p l.last) l.rest l.sink r b → Makes g.S.Sink.after (trivia_p l.last) l.text l.initial.sink r b

abbrev pub decreases-loop-next : goal.decreases-loop-next
decreases-loop-next g l = length l.rest
