use Rattle.tree.proofs.Rooms.{later_few}
use Rattle.tree.proofs.node.Node.following.Goals as goal

pub returns-clause-few : goal.returns-clause-few
returns-clause-few c = later_few c.args.self
