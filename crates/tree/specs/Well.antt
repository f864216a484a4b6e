-- When a table and a store are a document. Assumes nothing.
use Rattle.std.specs.Prelude.{◌≡◌, ℕ, ◌<◌, ◌≤◌, List, length}
use Rattle.grammar.specs.Layout.{levels}
use Rattle.grammar.specs.Pieces.{layout}
use Rattle.forest.specs.Forest.{Forest, end, node, map}
use Rattle.table.specs.declared.table.Table.{Table}
use Rattle.table.specs.Tables as table
use Rattle.model.specs.Nodes.{Nodes, pieces}
use Rattle.model.specs.Asks.{tree}
use Rattle.model.specs.Fits.{Document}
use Rattle.tree.specs.Sorts.{own_for, Inside}

-- the children of the first of these
abbrev pub below : {X : Type 0} → Forest X → Forest X
below end = end
below (node p i ks ts) = ks

-- the nodes of a table whose bytes are in the store s, the root with all below it
unfoldable pub whole : Table → List ℕ → Nodes
whole t s = map (own_for s) (table.tree t)

-- the root's children
unfoldable pub kids_in : Table → List ℕ → Nodes
kids_in t s = below (whole t s)

-- The root, as every document has it, is above a document of at most 64 levels; each node's bytes lie in the store; the store has bytes s, room for as
-- many as are asked for, and no more than are asked for; and numbers are handed out from above the root's, up to 4,294,967,295.
pub record Well (t : Table) (s : List ℕ) (fresh room cap : ℕ) : Type 0 where
  pub rooted : whole t s ≡ tree (kids_in t s)
  pub document : Document (kids_in t s)
  pub shallow : levels (layout (pieces (kids_in t s))) ≤ 64
  pub inside : Inside (length s) (table.tree t)
  pub used : length s ≤ room
  pub roomy : room ≤ cap
  pub large : room ≤ 1048576
  pub begun : 1 < fresh
  pub few : fresh ≤ 4294967296
