-- What the steps on the way to a node, and down from it, find. Assumes nothing.
use Rattle.std.specs.Prelude.{ℕ, ◌≤◌, List, [], ◌∷◌, ◌++◌, length, drop, Some, None, Option}
use Rattle.model.specs.Nodes.{Handle, parts}
use Rattle.model.specs.Asks.{spot_handle, at, path}
use Rattle.model.specs.State.{Outcome, Given, Refused}
use Rattle.tree.specs.declared.node.Node.{Node}
use Rattle.tree.specs.Trees.{kids}
use Rattle.tree.specs.Steps.{spot}

-- a node's path in its document
abbrev pub path_of : Node → Option (List ℕ)
path_of n = path (spot_handle (spot n)) (parts (kids n.tree.now))

-- how many ordinals a path has
abbrev pub measured : Option (List ℕ) → Option ℕ
measured None = None
measured (Some p) = Some (length p)

-- no path has more than 128 ordinals
abbrev pub Few : Option ℕ → Type 0
Few None = Unit {0}
Few (Some n) = n ≤ 128

-- what stands at the path q below the node that was found, the node itself at none
abbrev pub landed : Option Node → List ℕ → Option Handle
landed None q = None
landed (Some n) [] = Some (spot_handle (spot n))
landed (Some n) (j ∷ q) = at (parts (spot n).kids) j q

-- how many ordinals a path that is answered has
abbrev pub counted : Outcome (List ℕ) → Outcome ℕ
counted (Given p) = Given (length p)
counted (Refused r) = Refused r

-- what the list holds then: the path at its start and the rest as it was; a refusal leaves it as it was
abbrev pub written : Outcome (List ℕ) → List ℕ → List ℕ
written (Given p) xs = p ++ drop (length p) xs
written (Refused r) xs = xs
