use Rattle.std.proofs.Common.{sym}
use Rattle.std.proofs.lemmas.Result.{err_from_is_err_and}
use Rattle.text.proofs.Nests.{text_nothing, text_stops, text_value_lem}
use Rattle.text.proofs.values.read_text.Goals as goal

pub returns-then-not-next_is : goal.returns-then-not-next_is
returns-then-not-next_is g c =
    text_nothing g.S.Sink.after g.S.Sink.idle g.S.Sink.joined 64 c.args.text.now c.args.sink.now c.in_ok-value.value c.read_trivia.new.sink c.in_ok-value.ensures (sym c.if-not-next_is.ensures)

pub returns-in_err-gap : goal.returns-in_err-gap
returns-in_err-gap g c =
    let p = err_from_is_err_and c.from_residual-in_err-gap.result c.from_residual-in_err-gap.ensures.1 in
    let e = c.in_err-gap in
    rw (p.1, p.2) (text_stops g.S.Sink.after g.S.Sink.idle g.S.Sink.joined 64 c.args.text.now c.args.sink.now c.in_ok-value.value c.read_trivia.new.sink c.in_ok-value.ensures (sym c.if-not-next_is.ensures) e.field-0.0 e.ensures)

pub returns : goal.returns
returns g c =
    text_value_lem g.S.Sink.after g.S.Sink.idle g.S.Sink.joined 64 c.args.text.now c.args.sink.now c.in_ok-value.value c.read_trivia.new.sink c.in_ok-value.ensures (sym c.if-not-next_is.ensures)
    c.in_ok-gap.gap c.read_value.new.sink c.in_ok-gap.ensures c.read_trivia-2.result c.read_trivia-2.new.sink c.read_trivia-2.ensures
