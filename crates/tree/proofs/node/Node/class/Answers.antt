use Rattle.std.proofs.Common.{ap, ◌∙◌}
use Rattle.model.specs.Nodes.{class}
use Rattle.tree.specs.Classes.{plain}
use Rattle.tree.proofs.node.Node.class.Goals as goal

pub returns : goal.returns
returns c = (let m = c.kind.ensures in c.class_of.ensures m.0 ∙ ap (λ y. plain (class y)) m.1)
