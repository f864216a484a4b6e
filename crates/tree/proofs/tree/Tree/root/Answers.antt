use Rattle.std.proofs.Common.{◌∙◌}
use Rattle.tree.proofs.Seen.{root_is_there}
use Rattle.tree.proofs.tree.Tree.root.Goals as goal

pub returns-clause-spot : goal.returns-clause-spot
returns-clause-spot c = c.node.ensures.spot ∙ root_is_there c.args.self.now
