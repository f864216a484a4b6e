use Rattle.std.proofs.lemmas.Result.{err_from_is_err_and}
use Rattle.text.proofs.Leaves.{name_stops, gap_stops, colon_stops, label_made}
use Rattle.text.proofs.scalars.read_label.Goals as goal

pub returns-in_err-gap : goal.returns-in_err-gap
returns-in_err-gap g c =
    let p = err_from_is_err_and c.from_residual.result c.from_residual.ensures.1 in
    let e = c.in_err-gap in
    rw (p.1, p.2) (name_stops g.S.Sink.after g.S.Sink.idle g.S.Sink.joined c.args.text.now c.args.sink.now e.field-0.0 e.ensures)

pub returns-in_err-colon : goal.returns-in_err-colon
returns-in_err-colon g c =
    let p = err_from_is_err_and c.from_residual-in_err-colon.result c.from_residual-in_err-colon.ensures.1 in
    let e = c.in_err-colon in
    rw (p.1, p.2) (gap_stops g.S.Sink.after g.S.Sink.idle g.S.Sink.joined c.args.text.now c.args.sink.now c.in_ok-gap.gap c.read_name.new.sink c.in_ok-gap.ensures e.field-0.0 e.ensures)

pub returns-in_err-gap-2 : goal.returns-in_err-gap-2
returns-in_err-gap-2 g c =
    let p = err_from_is_err_and c.from_residual-in_err-gap-2.result c.from_residual-in_err-gap-2.ensures.1 in
    let e = c.in_err-gap-2 in
    rw (p.1, p.2) (colon_stops g.S.Sink.after g.S.Sink.idle g.S.Sink.joined c.args.text.now c.args.sink.now c.in_ok-gap.gap c.read_name.new.sink c.in_ok-gap.ensures c.in_ok-colon.colon c.read_trivia.new.sink c.in_ok-colon.ensures e.field-0.0 e.ensures)

pub returns : goal.returns
returns g c =
    label_made g.S.Sink.after g.S.Sink.idle g.S.Sink.joined c.args.text.now c.args.sink.now c.in_ok-gap.gap c.read_name.new.sink c.in_ok-gap.ensures c.in_ok-colon.colon c.read_trivia.new.sink c.in_ok-colon.ensures
    c.in_ok-gap-2.gap c.read_token.new.sink c.in_ok-gap-2.ensures c.read_trivia-2.result c.read_trivia-2.new.sink c.read_trivia-2.ensures
