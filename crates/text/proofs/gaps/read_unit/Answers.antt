use Rattle.std.proofs.Common.{sym}
use Rattle.text.proofs.Trivia.{unit_comment, space_left, unit_space, unit_none}
use Rattle.text.proofs.gaps.read_unit.Goals as goal

pub returns-then-next_is : goal.returns-then-next_is
returns-then-next_is g c =
    unit_comment g.S.Sink.after g.S.Sink.idle g.S.Sink.joined c.args.last c.args.text.now c.args.sink.now c.read_comment.new.sink (sym c.if-next_is.ensures) c.read_comment.result c.read_comment.ensures

pub put_part-requires : goal.put_part-requires
put_part-requires g c =
    space_left g.S.Sink.after g.S.Sink.idle g.S.Sink.joined c.args.last c.args.text.now c.args.sink.now c.args.sink.now c.in-Ok.blanks.now c.in-Ok.ensures c.behind_run-rest.result c.behind_run-rest.ensures

pub returns-in-Ok : goal.returns-in-Ok
returns-in-Ok g c =
    unit_space g.S.Sink.after g.S.Sink.idle g.S.Sink.joined c.args.last c.args.text.now c.args.sink.now c.put_part.new.sink c.in-Ok.blanks.now c.in-Ok.ensures c.behind_run-rest.result c.behind_run-rest.ensures
    (sym c.if-next_is.ensures) c.put_part.ensures

pub returns-then-not-next_is : goal.returns-then-not-next_is
returns-then-not-next_is g c =
    unit_none g.S.Sink.after g.S.Sink.idle g.S.Sink.joined c.args.last c.args.text c.args.sink.now (sym c.if-next_is.ensures) c.in_default.field-0.rest.now c.in_default.ensures (sym c.if-not-next_is.ensures)
