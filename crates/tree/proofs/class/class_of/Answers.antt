use Rattle.std.proofs.Common.{sym, ap, ◌∙◌}
use Rattle.model.specs.Nodes.{class}
use Rattle.tree.specs.Sorts.{sort_for}
use Rattle.tree.specs.Classes.{plain}
use Rattle.tree.proofs.class.class_of.Goals as goal

pub returns-in-Token : goal.returns-in-Token
returns-in-Token c t = c.token_class.ensures t ∙ ap (λ k. plain (class (sort_for k t))) (sym c.in-Token.is)
