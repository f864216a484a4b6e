use Rattle.std.proofs.Common.{Err}
use Rattle.std.proofs.lemmas.Result.{err_from_is_err_and}
use Rattle.grammar.specs.Reader.{cat_p, minus_p, int_p, frac_p, exp_p}
use Rattle.lexemes.proofs.Ties.{cat_goes, cat_fails}
use Rattle.lexemes.proofs.numbers.behind_number.Goals as goal

pub returns-in_err-frac : goal.returns-in_err-frac
returns-in_err-frac c =
    let x = err_from_is_err_and c.from_residual.result c.from_residual.ensures.1 in
    let e = c.in_err-frac in
    rw (x.1, x.2) (cat_goes minus_p (cat_p int_p (cat_p frac_p exp_p)) c.args.text.now c.behind_minus-int.result.now c.behind_minus-int.ensures (Err e.field-0.0)
    (cat_fails int_p (cat_p frac_p exp_p) c.behind_minus-int.result.now e.field-0.0.rest.now e.ensures))

pub returns-in_err-exp : goal.returns-in_err-exp
returns-in_err-exp c =
    let x = err_from_is_err_and c.from_residual-in_err-exp.result c.from_residual-in_err-exp.ensures.1 in
    let e = c.in_err-exp in
    let r = Err e.field-0.0 in
    rw (x.1, x.2) (cat_goes minus_p (cat_p int_p (cat_p frac_p exp_p)) c.args.text.now c.behind_minus-int.result.now c.behind_minus-int.ensures r
    (cat_goes int_p (cat_p frac_p exp_p) c.behind_minus-int.result.now c.in_ok-frac.frac.now c.in_ok-frac.ensures r
    (cat_fails frac_p exp_p c.in_ok-frac.frac.now e.field-0.0.rest.now e.ensures)))

pub returns : goal.returns
returns c =
    let r = c.behind_exp.result in
    cat_goes minus_p (cat_p int_p (cat_p frac_p exp_p)) c.args.text.now c.behind_minus-int.result.now c.behind_minus-int.ensures r
    (cat_goes int_p (cat_p frac_p exp_p) c.behind_minus-int.result.now c.in_ok-frac.frac.now c.in_ok-frac.ensures r
    (cat_goes frac_p exp_p c.in_ok-frac.frac.now c.in_ok-exp.exp.now c.in_ok-exp.ensures r c.behind_exp.ensures))
