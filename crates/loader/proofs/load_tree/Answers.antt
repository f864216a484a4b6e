-- What was built is the document that load gives. Assumes nothing.
use Rattle.std.proofs.Common.{sym, ap, ◌∙◌}
use Rattle.grammar.specs.Answer.{read}
use Rattle.model.specs.State.{Given}
use Rattle.std.proofs.lemmas.Result.{err_from_is_err_and}
use Rattle.loader.proofs.Judged.{fitting_read, load_given, load_refused, want_memory}
use Rattle.loader.proofs.Filled.{built_well, built_state_lem}
use Rattle.loader.proofs.load_tree.Goals as goal

pub finish-requires : goal.finish-requires
finish-requires c =
    let r = c.args.records in
    let m = c.args.room in
    let t = c.args.text.now in
    let f = fitting_read r m (read 64 t) c.in_ok-judge.ensures in
    built_well r m f.0 f.2 f.3 c.in_ok-builder.builder c.tell.new.builder c.in_ok-builder.ensures (c.tell.ensures f.0 f.1) t f.1

pub returns : goal.returns
returns c =
    let r = c.args.records in
    let m = c.args.room in
    let t = c.args.text.now in
    let f = fitting_read r m (read 64 t) c.in_ok-judge.ensures in
    load_given r m t (sym c.if-refuses_sizes.ensures) f.0 f.1 f.2 f.3
    ∙ ap Given (sym (c.finish.ensures ∙ built_state_lem r m f.0 f.2 f.3 c.in_ok-builder.builder c.tell.new.builder c.in_ok-builder.ensures (c.tell.ensures f.0 f.1)))

pub returns-in_err-builder : goal.returns-in_err-builder
returns-in_err-builder c =
    let p = err_from_is_err_and c.from_residual.result c.from_residual.ensures.1 in
    rw (p.1, p.2) (want_memory c.args.records c.args.room c.args.text.now (sym c.if-refuses_sizes.ensures) c.in_err-builder.field-0.0 c.in_err-builder.ensures)

pub returns-in_err-judge : goal.returns-in_err-judge
returns-in_err-judge c =
    let p = err_from_is_err_and c.from_residual-in_err-judge.result c.from_residual-in_err-judge.ensures.1 in
    rw (p.1, p.2) (load_refused c.args.records c.args.room c.args.text.now (sym c.if-refuses_sizes.ensures) c.in_err-judge.field-0.0 c.in_err-judge.ensures)
