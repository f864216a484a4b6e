use Rattle.tree.proofs.Rooms.{children_few}
use Rattle.tree.proofs.node.Node.children.Goals as goal

pub returns-clause-few : goal.returns-clause-few
returns-clause-few c = children_few c.args.self
