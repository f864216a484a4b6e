use Rattle.std.proofs.Common.{◌≡◌, ◌+◌, ◌≤◌, length}
use Rattle.forest.specs.Forest.{size}
use Rattle.model.specs.Nodes.{print}
use Rattle.tree.specs.Walks.{nodes_left}
use Rattle.printing.specs.Buffers.{over}
use Rattle.printing.proofs.writes.+write_from.Given as goal

abbrev pub decreases-write_from : goal.decreases-write_from
decreases-write_from l = size (nodes_left l.siblings)

abbrev pub invariant-loop-node : goal.invariant-loop-node
invariant-loop-node l =
    (l.end + length (print (nodes_left l.node-iterator)) ≡ l.initial.end + length (print (nodes_left l.fn.siblings)))
    × (over l.out l.end (print (nodes_left l.node-iterator)) ≡ over l.initial.out l.initial.end (print (nodes_left l.fn.siblings)))
    × (size (nodes_left l.node-iterator) ≤ size (nodes_left l.fn.siblings))
