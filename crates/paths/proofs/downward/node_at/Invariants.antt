use Rattle.std.proofs.Common.{◌≡◌, Some, drop}
use Rattle.model.specs.Nodes.{parts}
use Rattle.model.specs.Asks.{at_path}
use Rattle.tree.specs.Steps.{spot}
use Rattle.paths.specs.Ways.{landed}
use Rattle.paths.proofs.downward.node_at.Given as goal

abbrev pub invariant-loop-ordinal : goal.invariant-loop-ordinal
invariant-loop-ordinal l = landed (Some l.node) (drop l.ordinal-index l.path) ≡ at_path (parts (spot l.root).kids) l.path
