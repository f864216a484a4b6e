-- Where the node at a place stands in a document. Assumes nothing.
use Rattle.std.specs.Prelude.{ℕ, ◌<◌, []}
use Rattle.forest.specs.Forest.{end, count}
use Rattle.model.specs.Nodes.{Nodes, root}
use Rattle.model.specs.Asks.{Spot, tree, or_given, spot_at}

-- a spot that stands nowhere
abbrev pub nowhere : Spot
nowhere = record { here = record { before = end; place = 0; own = record { number = 0; sort = root }; after = end }; kids = end; ups = [] }

-- where the node at the place k stands in a document, of its root's children
unfoldable pub spot_of : ℕ → Nodes → Spot
spot_of k ks = or_given (spot_at k ks) nowhere

-- a node stands at the place
abbrev pub Stands : ℕ → Nodes → Type 0
Stands k ks = 0 < count k (tree ks)
