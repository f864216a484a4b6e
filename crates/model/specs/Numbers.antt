-- The numbers of nodes. Assumes nothing.
use Rattle.std.specs.Prelude.{ℕ, List, [], ◌∷◌, ◌++◌}
use Rattle.forest.specs.Forest.{end, node}
use Rattle.model.specs.Nodes.{Nodes}

-- the nodes' numbers in text order
abbrev pub numbers : Nodes → List ℕ
numbers end = []
numbers (node p i ks ts) = i.number ∷ (numbers ks ++ numbers ts)
