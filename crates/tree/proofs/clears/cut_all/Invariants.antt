use Rattle.std.proofs.Common.{◌≡◌, ◌++◌, reverse}
use Rattle.forest.specs.Forest.{places, size}
use Rattle.table.specs.Tables.{tree, free}
use Rattle.tree.specs.Cleared.{alone}
use Rattle.tree.specs.Well.{below}
use Rattle.tree.proofs.clears.cut_all.Given as goal

abbrev pub invariant-loop-child : goal.invariant-loop-child
invariant-loop-child l =
    (alone (tree l.table) ≡ alone (tree l.initial.table))
    × (reverse (places (below (tree l.table))) ++ free l.table ≡ reverse (places (below (tree l.initial.table))) ++ free l.initial.table)

abbrev pub decreases-loop-child : goal.decreases-loop-child
decreases-loop-child l = size (tree l.table)
