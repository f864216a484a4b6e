use Rattle.grammar.specs.Classes.{only}
use Rattle.grammar.specs.Reader.{digits_p, empty_p}
use Rattle.lexemes.proofs.Ties.{chosen}
use Rattle.lexemes.proofs.numbers.behind_frac.Goals as goal

pub returns-in-Ok : goal.returns-in-Ok
returns-in-Ok c = chosen (only 46) digits_p empty_p c.args.text.now c.in-Ok.digits.now c.in-Ok.ensures c.behind_digits.result c.behind_digits.ensures
