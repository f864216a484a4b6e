use Rattle.std.proofs.Common.{Ok}
use Rattle.grammar.specs.Classes.{Digit}
use Rattle.grammar.specs.Reader.{byte_p, run_p}
use Rattle.lexemes.proofs.Ties.{cat_goes}
use Rattle.lexemes.proofs.numbers.behind_digits.Goals as goal

pub returns : goal.returns
returns c = cat_goes (byte_p Digit) (run_p Digit) c.args.text.now c.in_ok-digits.digits.now c.in_ok-digits.ensures (Ok c.behind_run.result) c.behind_run.ensures
