use Rattle.tree.proofs.Seen.{in_table, handle_is}
use Rattle.tree.proofs.node.Node.handle.Goals as goal

pub own-requires : goal.own-requires
own-requires c = in_table c.args.self.tree.now c.args.self.place c.args.self.stands

pub returns : goal.returns
returns c = (let n = c.args.self in handle_is n.tree.now n.place n.stands c.own.result c.own.ensures)
