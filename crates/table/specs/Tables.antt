-- What the crates above see of a table. Assumes nothing.
use Rattle.std.specs.Prelude.{◌≡◌, ℕ, zero, suc, ◌+◌, ◌-◌, ◌<◌, ◌≤◌, Bool, false, List, [], ◌∷◌, reverse, Some, None, Ok, Err, vec_items, vec_len, Result, nat_eq}
use Rattle.forest.specs.Forest.{Forest, end, node}
use Rattle.forest.specs.Asks.{own_in}
use Rattle.table.specs.declared.node.Own.{Own}
use Rattle.table.specs.declared.table.Table.{Table}
use Rattle.table.specs.declared.table.NoTable.{NoTable}
use Rattle.table.specs.declared.table.NoTable.TheVariants.{Size, Memory}
use Rattle.table.specs.Nodes.{forest_at}

-- the nodes: one root, at the place 0, with all below it
unfoldable pub tree : Table → Forest Own
tree t = forest_at (vec_items t.nodes) 0

-- the free places, in the order in which they will be taken
unfoldable pub free : Table → List ℕ
free t = reverse (vec_items t.spare)

-- how many records there are, of nodes and free places
unfoldable pub records : Table → ℕ
records t = vec_len t.nodes

-- n places from k on
abbrev pub run : ℕ → ℕ → List ℕ
run k zero = []
run k (suc n) = k ∷ run (k + 1) n

-- what comes of a new table of n records with the root i: refused where n is not one of 1 to 65,535, and else, if there is memory, the
-- root alone, with all other places free from 1 on
abbrev pub Started : ℕ → Own → Result Table NoTable → Type 0
Started n i (Ok t) = ((0 < n) × (n ≤ 65535)) × ((tree t ≡ node 0 i end end) × (free t ≡ run 1 (n - 1)))
Started n i (Err Size) = 0 < n → n ≤ 65535 → ⊥
Started n i (Err Memory) = (0 < n) × (n ≤ 65535)

-- whether the place k has a node with the number n
unfoldable pub holds_in : ℕ → ℕ → Forest Own → Bool
holds_in k n ts = elim (own_in k ts) [ Some o ↦ nat_eq o.number n | None ↦ false ]
