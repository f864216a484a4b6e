-- Each answer of the check, and each size, decides as load does. Assumes nothing.
use Rattle.std.proofs.Common.{sym, ◌∙◌}
use Rattle.std.proofs.lemmas.Result.{err_from_is_err_and}
use Rattle.grammar.specs.Answer.{read}
use Rattle.loader.proofs.Judged.{taken, nodes_refused, stored_refused, all_fits, text_refused}
use Rattle.loader.proofs.judge.Goals as goal

pub returns-in_err-extent : goal.returns-in_err-extent
returns-in_err-extent c =
    let t = c.args.text.now in
    let p = err_from_is_err_and c.from_residual.result c.from_residual.ensures.1 in
    rw (p.1, p.2) (text_refused c.args.records c.args.room c.in_err-extent.field-0.0 (read 64 t) (sym c.in_err-extent.was ∙ (c.check_text.ensures.answer ∙ taken t c.requires)))

pub returns-then-extent-records : goal.returns-then-extent-records
returns-then-extent-records c =
    let t = c.args.text.now in
    let e = c.in_ok-extent in
    nodes_refused c.args.records c.args.room e.extent (read 64 t) (sym e.was ∙ (c.check_text.ensures.answer ∙ taken t c.requires)) c.if-extent-records.true

pub returns-then-extent-room : goal.returns-then-extent-room
returns-then-extent-room c =
    let t = c.args.text.now in
    let e = c.in_ok-extent in
    stored_refused c.args.records c.args.room e.extent (read 64 t) (sym e.was ∙ (c.check_text.ensures.answer ∙ taken t c.requires)) c.if-extent-records.false
    c.if-extent-room.true

pub returns : goal.returns
returns c =
    let t = c.args.text.now in
    let e = c.in_ok-extent in
    all_fits c.args.records c.args.room e.extent (read 64 t) (sym e.was ∙ (c.check_text.ensures.answer ∙ taken t c.requires)) c.if-extent-records.false
    c.if-extent-room.false
