-- Each node of a tree has a record, so a queue of as many places as there are records has room for a node with all below it.
use Rattle.std.proofs.Common.{◌+◌, ◌≤◌, vec_items, ap, arith}
use Rattle.forest.specs.Forest.{size}
use Rattle.forest.proofs.Maps.{map_size}
use Rattle.table.specs.Tables as table
use Rattle.table.proofs.Seen.{tree_size}
use Rattle.tree.specs.declared.node.Node.{Node}
use Rattle.tree.specs.Sorts.{own_for}
use Rattle.tree.specs.Well.{whole}
use Rattle.tree.specs.Trees.{state}
use Rattle.tree.specs.Steps.{spot}
use Rattle.tree.proofs.Rooms.{plug_size}
use Rattle.tree.proofs.Seen.{rooted, plug_is}

-- a node and all below it have a record each
pub below_records : (n : Node) → 1 + size (spot n).kids ≤ (state n.tree.now).records
unfolding whole
below_records n =
    let t = n.tree.now in
    omega (arith, plug_size (spot n), ap (λ y. size y) (plug_is t n.place n.stands), ap (λ y. size y) (rooted t), map_size (own_for (vec_items t.store)) (table.tree t.table), tree_size t.table)
