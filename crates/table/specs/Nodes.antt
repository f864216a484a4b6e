-- A table of records as fields by place. Assumes nothing.
use Rattle.std.specs.Prelude.{ℕ, zero, suc, cond, List, length, ◌==◌, slice_index_or}
use Rattle.forest.specs.Forest.{Forest, end, node}
use Rattle.forest.specs.Links.{none}
use Rattle.table.specs.declared.kind.Kind.TheVariants.{Null}
use Rattle.table.specs.declared.link.Link.{Link}
use Rattle.table.specs.declared.node.Own.{Own}
use Rattle.table.specs.declared.node.Node.{Node}

-- the link to a place
abbrev pub to : ℕ → Link
to k = record { 0 = k }

-- a record with its links and no children
abbrev pub leaf : Own → ℕ → ℕ → ℕ → Node
leaf i u q x = record { own = i; parent = to u; prev = to q; next = to x; first = to none; last = to none }

-- what a free place holds at the start
abbrev pub blank : Node
blank = leaf (record { number = 0; kind = Null; start = 0; len = 0 }) none none none

-- the record at a place
abbrev pub at : List Node → ℕ → Node
at xs k = slice_index_or xs k blank

-- the own data at a place
abbrev pub own_of : List Node → ℕ → Own
own_of xs k = (at xs k).own

-- the link to the parent
abbrev pub up_of : List Node → ℕ → ℕ
up_of xs k = (at xs k).parent.0

-- the link to the sibling before
abbrev pub prev_of : List Node → ℕ → ℕ
prev_of xs k = (at xs k).prev.0

-- the link to the sibling after
abbrev pub next_of : List Node → ℕ → ℕ
next_of xs k = (at xs k).next.0

-- the link to the first child
abbrev pub first_of : List Node → ℕ → ℕ
first_of xs k = (at xs k).first.0

-- the link to the last child
abbrev pub last_of : List Node → ℕ → ℕ
last_of xs k = (at xs k).last.0

-- the forest that the links lead to from a place, with at most fuel nodes on each way
abbrev pub read : List Node → ℕ → ℕ → Forest Own
read xs zero k = end
read xs (suc fuel) k = cond (k == none) end (node k (own_of xs k) (read xs fuel (first_of xs k)) (read xs fuel (next_of xs k)))

-- the forest that the links lead to from a place
abbrev pub forest_at : List Node → ℕ → Forest Own
forest_at xs k = read xs (length xs) k
