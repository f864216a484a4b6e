use Rattle.std.proofs.Common.{◌≡◌, ◌-◌, vec_items, vec_len, vec_capacity}
use Rattle.table.specs.Nodes.{forest_at}
use Rattle.table.proofs.Frees.{Walk}
use Rattle.table.proofs.release.release.Given as goal

abbrev pub invariant-loop-step : goal.invariant-loop-step
invariant-loop-step l =
    Walk l.initial.nodes (vec_items l.initial.spare) (forest_at l.initial.nodes l.fn.start.0) l.nodes (vec_items l.spare) l.step
    × (vec_capacity l.spare ≡ vec_capacity l.initial.spare)

abbrev pub decreases-loop-step : goal.decreases-loop-step
decreases-loop-step l = vec_capacity l.spare - vec_len l.spare
