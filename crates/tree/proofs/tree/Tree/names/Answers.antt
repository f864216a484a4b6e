use Rattle.tree.proofs.Seen.{names_is}
use Rattle.tree.proofs.tree.Tree.names.Goals as goal

pub returns : goal.returns
returns c = names_is c.args.self.now c.args.handle.place c.args.handle.number c.holds.result c.holds.ensures
