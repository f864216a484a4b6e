use Rattle.std.proofs.Common.{Ok}
use Rattle.grammar.specs.Classes.{only, Digit, Digit1To9}
use Rattle.grammar.specs.Reader.{byte_p, cat_p, run_p}
use Rattle.lexemes.proofs.Ties.{unchosen, cat_goes}
use Rattle.lexemes.proofs.numbers.behind_int.Goals as goal

pub returns : goal.returns
returns c =
    let r = Ok c.behind_run.result in
    unchosen (only 48) (byte_p (only 48)) (cat_p (byte_p Digit1To9) (run_p Digit)) c.args.text.now c.in_default.field-0.rest.now c.in_default.ensures r
    (cat_goes (byte_p Digit1To9) (run_p Digit) c.args.text.now c.in_ok-digits.digits.now c.in_ok-digits.ensures r c.behind_run.ensures)
