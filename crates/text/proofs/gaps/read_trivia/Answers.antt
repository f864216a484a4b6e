use Rattle.std.proofs.Common.{Ok, Err, subst}
use Rattle.std.proofs.lemmas.Result.{err_from_is_err_and}
use Rattle.grammar.specs.Reader.{unit_p}
use Rattle.text.specs.Reports.{Turns}
use Rattle.text.proofs.Spells.{steps_unit}
use Rattle.text.proofs.Telling.{loop_more, loop_done, loop_stops, loop_moves}
use Rattle.text.proofs.gaps.read_trivia.Goals as goal

pub returns-in_err-next : goal.returns-in_err-next
returns-in_err-next g c =
    let p = err_from_is_err_and c.from_residual.result c.from_residual.ensures.1 in
    let e = c.in_err-next in
    rw (p.1, p.2) (c.loop-next.invariant (Err e.field-0.0) c.read_unit.new.sink (loop_stops g.S.Sink.after g.S.Sink.idle g.S.Sink.joined (unit_p c.args.last) (steps_unit c.args.last) c.loop-next.rest.now e.field-0.0 e.ensures))

pub loop-next-smaller : goal.loop-next-smaller
loop-next-smaller g c =
    let x = subst (λ z. Turns g.S.Sink.after (unit_p c.args.last) c.loop-next.rest.now c.loop-next.sink (Ok z) c.read_unit.new.sink) c.in-Continue.is c.in_ok-next.ensures in
    loop_moves g.S.Sink.after g.S.Sink.idle g.S.Sink.joined (unit_p c.args.last) (steps_unit c.args.last) c.loop-next.rest.now c.loop-next.sink c.in-Continue.next c.read_unit.new.sink x

pub loop-next-preserved : goal.loop-next-preserved
loop-next-preserved g c =
    let x = subst (λ z. Turns g.S.Sink.after (unit_p c.args.last) c.loop-next.rest.now c.loop-next.sink (Ok z) c.read_unit.new.sink) c.in-Continue.is c.in_ok-next.ensures in
    λ r b m. c.loop-next.invariant r b (loop_more g.S.Sink.after g.S.Sink.idle g.S.Sink.joined (unit_p c.args.last) (steps_unit c.args.last) c.loop-next.rest.now c.loop-next.sink c.in-Continue.next c.read_unit.new.sink x r b m)

pub returns-in-Break : goal.returns-in-Break
returns-in-Break g c =
    let x = subst (λ z. Turns g.S.Sink.after (unit_p c.args.last) c.loop-next.rest.now c.loop-next.sink (Ok z) c.read_unit.new.sink) c.in-Break.is c.in_ok-next.ensures in
    c.loop-next.invariant (Ok c.in-Break.end) c.read_unit.new.sink (loop_done g.S.Sink.after g.S.Sink.idle g.S.Sink.joined (unit_p c.args.last) (steps_unit c.args.last) c.loop-next.rest.now c.loop-next.sink c.in-Break.end c.read_unit.new.sink x)
