-- The first answer level by level is the first in the queue; what is in the queue and below it gets less.
use Rattle.std.proofs.Common.{List, ◌∷◌}
use Rattle.forest.specs.Forest.{size}
use Rattle.model.specs.Nodes.{Nodes, Sort}
use Rattle.model.specs.Asks.{layers, first_of}
use Rattle.tree.specs.Steps.{spot}
use Rattle.tree.specs.Trees.{kids}
use Rattle.worklist.specs.Listed.{listed}
use Rattle.style.specs.Found.{Answers}
use Rattle.style.specs.Standing.{standing}
use Rattle.style.proofs.Queues.{Seeks}
use Rattle.style.proofs.Waiting.{Waiting}
use Rattle.style.proofs.levels.first_by_level.Given as goal

abbrev pub invariant-loop-place : goal.invariant-loop-place
invariant-loop-place g l =
    let s = spot l.fn.node in
    Waiting (kids l.tree) l.waiting
    × ((h : Sort → Nodes → List _) → Answers (goal.F-post g l.ask) h
    → Seeks (kids l.tree) h (listed l.waiting) (first_of (h s.here.own.sort s.kids ∷ layers h s.kids)))

abbrev pub decreases-loop-place : goal.decreases-loop-place
decreases-loop-place g l = size (standing (kids l.tree) (listed l.waiting))
