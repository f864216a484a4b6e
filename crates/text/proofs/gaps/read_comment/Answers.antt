use Rattle.std.proofs.Common.{sym}
use Rattle.std.proofs.lemmas.Result.{err_from_is_err_and}
use Rattle.text.proofs.Trivia.{block_left, block_made, block_open, line_left, line_broken, line_late, line_made, line_last}
use Rattle.text.proofs.gaps.read_comment.Goals as goal

pub returns-in_err-rest : goal.returns-in_err-rest
returns-in_err-rest g c =
    let p = err_from_is_err_and c.from_residual-in_err-rest.result c.from_residual-in_err-rest.ensures.1 in
    let e = c.in_err-rest in
    rw (p.1, p.2) (block_open c.args.last c.args.text.now c.in_ok-mark.mark.now c.in_ok-mark.ensures c.in-Ok.block.now c.in-Ok.ensures e.field-0.0.rest e.ensures)

pub put_part-requires : goal.put_part-requires
put_part-requires g c = block_left c.args.last c.args.text.now c.in_ok-mark.mark.now c.in_ok-mark.ensures c.in-Ok.block.now c.in-Ok.ensures c.in_ok-rest.rest.now c.in_ok-rest.ensures

pub returns-in-Ok : goal.returns-in-Ok
returns-in-Ok g c =
    block_made c.args.last c.args.text.now c.in_ok-mark.mark.now c.in_ok-mark.ensures c.in-Ok.block.now c.in-Ok.ensures g.S.Sink.after c.args.sink.now c.put_part.new.sink c.in_ok-rest.rest c.in_ok-rest.ensures c.put_part.ensures

pub returns-in_err-rest-2 : goal.returns-in_err-rest-2
returns-in_err-rest-2 g c =
    let p = err_from_is_err_and c.from_residual-in_err-rest-2.result c.from_residual-in_err-rest-2.ensures.1 in
    let e = c.in_err-rest-2 in
    rw (p.1, p.2) (line_broken c.args.last c.args.text.now c.in_ok-mark.mark.now c.in_ok-mark.ensures c.in_default.field-0.rest.now c.in_default.ensures c.in_ok-line.line.now c.in_ok-line.ensures e.field-0.0.rest e.ensures)

pub put_part-requires-2 : goal.put_part-requires-2
put_part-requires-2 g c =
    line_left c.args.last c.args.text.now c.in_ok-mark.mark.now c.in_ok-mark.ensures c.in_default.field-0.rest.now c.in_default.ensures c.in_ok-line.line.now c.in_ok-line.ensures c.in_ok-rest-2.rest c.in_ok-rest-2.ensures

pub returns-then-is_open_line : goal.returns-then-is_open_line
returns-then-is_open_line g c =
    line_last c.args.last c.args.text.now c.in_ok-mark.mark.now c.in_ok-mark.ensures c.in_default.field-0.rest.now c.in_default.ensures c.in_ok-line.line.now c.in_ok-line.ensures c.in_ok-rest-2.rest c.in_ok-rest-2.ensures
    g.S.Sink.after g.S.Sink.joined c.args.sink.now c.put_part-2.new.sink c.put_part-2.ensures (sym c.if-is_open_line.ensures)

pub returns-in_err-next : goal.returns-in_err-next
returns-in_err-next g c =
    let p = err_from_is_err_and c.from_residual-in_err-next.result c.from_residual-in_err-next.ensures.1 in
    let e = c.in_err-next in
    rw (p.1, p.2) (line_late c.args.last c.args.text.now c.in_ok-mark.mark.now c.in_ok-mark.ensures c.in_default.field-0.rest.now c.in_default.ensures c.in_ok-line.line.now c.in_ok-line.ensures c.in_ok-rest-2.rest c.in_ok-rest-2.ensures
    (sym c.if-is_open_line.ensures) e.field-0.0 e.ensures)

pub returns : goal.returns
returns g c =
    line_made c.args.last c.args.text.now c.in_ok-mark.mark.now c.in_ok-mark.ensures c.in_default.field-0.rest.now c.in_default.ensures c.in_ok-line.line.now c.in_ok-line.ensures c.in_ok-rest-2.rest c.in_ok-rest-2.ensures
    g.S.Sink.after g.S.Sink.joined c.args.sink.now c.put_part-2.new.sink c.put_part-2.ensures (sym c.if-is_open_line.ensures) c.in_ok-next.next c.read_newline.new.sink c.in_ok-next.ensures
