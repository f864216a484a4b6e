use Rattle.grammar.specs.Classes.{Signs}
use Rattle.grammar.specs.Reader.{digits_p}
use Rattle.lexemes.proofs.Ties.{chosen}
use Rattle.lexemes.proofs.numbers.behind_power.Goals as goal

pub returns-in-Ok : goal.returns-in-Ok
returns-in-Ok c = chosen Signs digits_p digits_p c.args.text.now c.in-Ok.digits.now c.in-Ok.ensures c.behind_digits.result c.behind_digits.ensures
