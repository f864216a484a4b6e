-- A tree of which the root alone is left, and what an edit without an answer tells. Assumes nothing.
use Rattle.std.specs.Prelude.{None, Ok, Err, Option, Result}
use Rattle.refusal.specs.declared.Refusal.{Refusal}
use Rattle.forest.specs.Forest.{Forest, end, node}
use Rattle.model.specs.Nodes.{Handle}
use Rattle.model.specs.State.{Outcome, Given, Refused}

-- the first of these without its children
abbrev pub alone : {X : Type 0} → Forest X → Forest X
alone end = end
alone (node p i ks ts) = node p i end ts

-- an edit that answers nothing
abbrev pub done : Result (Unit {0}) Refusal → Outcome (Option Handle)
done (Ok _) = Given None
done (Err e) = Refused e
