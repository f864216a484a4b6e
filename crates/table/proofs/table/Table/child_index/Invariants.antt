use Rattle.std.proofs.Common.{◌≡◌, ◌+◌, ◌<◌}
use Rattle.forest.specs.Forest.{count}
use Rattle.forest.specs.Asks.{index_in}
use Rattle.table.specs.Tables.{tree}
use Rattle.table.proofs.table.Table.child_index.Given as goal

abbrev pub invariant-loop-before : goal.invariant-loop-before
invariant-loop-before l =
    (0 < count l.at (tree l.self)) × (index_in l.at 0 (tree l.self) + l.index ≡ index_in l.place 0 (tree l.self))

abbrev pub decreases-loop-before : goal.decreases-loop-before
decreases-loop-before l = index_in l.at 0 (tree l.self)
