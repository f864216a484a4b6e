use Rattle.tree.proofs.Rooms.{ancestors_few}
use Rattle.tree.proofs.node.Node.ancestors.Goals as goal

pub returns-clause-few : goal.returns-clause-few
returns-clause-few c = ancestors_few c.args.self
