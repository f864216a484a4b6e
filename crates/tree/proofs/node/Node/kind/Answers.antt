use Rattle.std.proofs.Common.{vec_items, ap}
use Rattle.tree.specs.Sorts.{bytes_in}
use Rattle.tree.proofs.Seen.{in_table, own_is}
use Rattle.tree.proofs.node.Node.kind.Goals as goal

pub own-requires : goal.own-requires
own-requires c = in_table c.args.self.tree.now c.args.self.place c.args.self.stands

pub returns : goal.returns
returns c =
    let n = c.args.self in
    (bytes_in (vec_items n.tree.now.store) c.own.result, ap (λ y. y.sort) (own_is n.tree.now n.place n.stands c.own.result c.own.ensures))
