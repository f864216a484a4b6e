-- The children ahead are still to be put.
use Rattle.tree.specs.Steps.{spot}
use Rattle.tree.specs.Walks.{nodes_left}
use Rattle.style.proofs.Filling.{Filling}
use Rattle.style.proofs.children.push_children.Given as goal

abbrev pub invariant-loop-child : goal.invariant-loop-child
invariant-loop-child l = Filling (spot l.fn.node).kids l.fn.queue (nodes_left l.child-iterator) l.queue
