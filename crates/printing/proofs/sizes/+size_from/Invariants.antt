use Rattle.std.proofs.Common.{◌≡◌, ◌+◌, ◌≤◌, length}
use Rattle.forest.specs.Forest.{size}
use Rattle.model.specs.Nodes.{print}
use Rattle.tree.specs.Walks.{nodes_left}
use Rattle.printing.proofs.sizes.+size_from.Given as goal

abbrev pub decreases-size_from : goal.decreases-size_from
decreases-size_from l = size (nodes_left l.siblings)

abbrev pub invariant-loop-node : goal.invariant-loop-node
invariant-loop-node l =
    (l.size + length (print (nodes_left l.node-iterator)) ≡ length (print (nodes_left l.fn.siblings)))
    × (size (nodes_left l.node-iterator) ≤ size (nodes_left l.fn.siblings))
