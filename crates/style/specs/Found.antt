-- What was found, and what a question finds. Assumes nothing.
use Rattle.std.specs.Prelude.{◌≡◌, List, [], ◌∷◌, Some, None, Option}
use Rattle.model.specs.Nodes.{Nodes, Sort}
use Rattle.tree.specs.declared.node.Node.{Node}
use Rattle.tree.specs.Steps.{spot}

-- what was found, if anything
abbrev pub found : {X : Type 0} → Option X → List X
found None = []
found (Some x) = x ∷ []

-- the question, which may answer r of the node n where `answers n r`, answers of each node what h finds there
abbrev pub Answers : {X : Type 0} → (Node → Option X → Type 0) → (Sort → Nodes → List X) → Type 0
Answers answers h = (n : Node) (r : _) → answers n r → found r ≡ h (spot n).here.own.sort (spot n).kids
