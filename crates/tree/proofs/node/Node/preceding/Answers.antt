use Rattle.tree.proofs.Rooms.{earlier_few}
use Rattle.tree.proofs.node.Node.preceding.Goals as goal

pub returns-clause-few : goal.returns-clause-few
returns-clause-few c = earlier_few c.args.self
