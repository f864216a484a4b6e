use Rattle.grammar.specs.Classes.{Exponent}
use Rattle.grammar.specs.Reader.{power_p, empty_p}
use Rattle.lexemes.proofs.Ties.{chosen}
use Rattle.lexemes.proofs.numbers.behind_exp.Goals as goal

pub returns-in-Ok : goal.returns-in-Ok
returns-in-Ok c = chosen Exponent power_p empty_p c.args.text.now c.in-Ok.power.now c.in-Ok.ensures c.behind_power.result c.behind_power.ensures
