use Rattle.std.proofs.Common.{[], ◌∷◌}
use Rattle.grammar.specs.Reader.{byte_p, tail_p}
use Rattle.lexemes.proofs.Ties.{cat_goes}
use Rattle.lexemes.proofs.utf8.behind_two.Goals as goal

pub returns : goal.returns
returns c = cat_goes (byte_p ((194, 223) ∷ [])) tail_p c.args.text.now c.in_ok-tail.tail.now c.in_ok-tail.ensures c.behind_tail.result c.behind_tail.ensures
