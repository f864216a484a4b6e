use Rattle.tree.proofs.Seen.{in_table, index_is}
use Rattle.tree.proofs.node.Node.child_index.Goals as goal

pub child_index-requires : goal.child_index-requires
child_index-requires c = in_table c.args.self.tree.now c.args.self.place c.args.self.stands

pub returns : goal.returns
returns c = (let n = c.args.self in index_is n.tree.now n.place n.stands c.child_index.result c.child_index.ensures)
