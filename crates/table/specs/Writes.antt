-- The single writes to a table of records, and those that link a leaf in or cut a node off. Assumes nothing.
use Rattle.std.specs.Prelude.{ℕ, cond, List, ◌==◌, slice_set}
use Rattle.forest.specs.Links.{none}
use Rattle.table.specs.declared.node.Own.{Own}
use Rattle.table.specs.declared.node.Node.{Node}
use Rattle.table.specs.Nodes.{to, leaf, at, up_of, prev_of, next_of, first_of, last_of}

-- a record with another link to the sibling after
abbrev pub with_next : Node → ℕ → Node
with_next x v = record { own = x.own; parent = x.parent; prev = x.prev; next = to v; first = x.first; last = x.last }

-- a record with another link to the sibling before
abbrev pub with_prev : Node → ℕ → Node
with_prev x v = record { own = x.own; parent = x.parent; prev = to v; next = x.next; first = x.first; last = x.last }

-- a record with another link to the first child
abbrev pub with_first : Node → ℕ → Node
with_first x v = record { own = x.own; parent = x.parent; prev = x.prev; next = x.next; first = to v; last = x.last }

-- a record with another link to the last child
abbrev pub with_last : Node → ℕ → Node
with_last x v = record { own = x.own; parent = x.parent; prev = x.prev; next = x.next; first = x.first; last = to v }

-- a record with other own data
abbrev pub with_own : Node → Own → Node
with_own x v = record { own = v; parent = x.parent; prev = x.prev; next = x.next; first = x.first; last = x.last }

-- own data with another number
abbrev pub renumbered : Own → ℕ → Own
renumbered o n = record { number = n; kind = o.kind; start = o.start; len = o.len }

-- own data with its bytes at another part of the store
abbrev pub moved : Own → ℕ → ℕ → Own
moved o s l = record { number = o.number; kind = o.kind; start = s; len = l }

-- a table whose record k has another link to the sibling after
abbrev pub set_next : List Node → ℕ → ℕ → List Node
set_next xs k v = slice_set xs k (with_next (at xs k) v)

-- a table whose record k has another link to the sibling before
abbrev pub set_prev : List Node → ℕ → ℕ → List Node
set_prev xs k v = slice_set xs k (with_prev (at xs k) v)

-- a table whose record k has another link to the first child
abbrev pub set_first : List Node → ℕ → ℕ → List Node
set_first xs k v = slice_set xs k (with_first (at xs k) v)

-- a table whose record k has another link to the last child
abbrev pub set_last : List Node → ℕ → ℕ → List Node
set_last xs k v = slice_set xs k (with_last (at xs k) v)

-- a table whose record k has other own data
abbrev pub set_own : List Node → ℕ → Own → List Node
set_own xs k v = slice_set xs k (with_own (at xs k) v)

-- the record k with the number 0
abbrev pub cleared : List Node → ℕ → List Node
cleared xs k = set_own xs k (renumbered (at xs k).own 0)

-- the leaf n, which leads on to what came after s, with s before it
abbrev pub joined : List Node → ℕ → ℕ → Own → List Node
joined xs s n i = set_next (slice_set xs n (leaf i (up_of xs s) s (next_of xs s))) s n

-- the leaf n linked in after s: what came after s, or the parent where nothing did, leads back to n
abbrev pub link_after : List Node → ℕ → ℕ → Own → List Node
link_after xs s n i =
    cond (next_of xs s == none) (set_last (joined xs s n i) (up_of xs s) n) (set_prev (joined xs s n i) (next_of xs s) n)

-- the leaf n, which leads on to the first child of v, as that first child
abbrev pub headed : List Node → ℕ → ℕ → Own → List Node
headed xs v n i = set_first (slice_set xs n (leaf i v none (first_of xs v))) v n

-- the leaf n linked in as the first child of v: what was the first child, or v where nothing was, leads back to n
abbrev pub link_first : List Node → ℕ → ℕ → Own → List Node
link_first xs v n i =
    cond (first_of xs v == none) (set_last (headed xs v n i) v n) (set_prev (headed xs v n i) (first_of xs v) n)

-- what stands before a node, or the parent u where nothing does, leads past it
abbrev pub cut_left : List Node → ℕ → ℕ → ℕ → List Node
cut_left xs u q x = cond (q == none) (set_first xs u x) (set_next xs q x)

-- what stands after a node, or the parent u where nothing does, leads back past it
abbrev pub cut_right : List Node → ℕ → ℕ → ℕ → List Node
cut_right xs u q x = cond (x == none) (set_last xs u q) (set_prev xs x q)

-- what stands on either side of a node leads past it
abbrev pub cut_both : List Node → ℕ → ℕ → ℕ → List Node
cut_both xs u q x = cut_right (cut_left xs u q x) u q x

-- the node c is cut off, and leads to its own children alone
abbrev pub unlinked : List Node → ℕ → List Node
unlinked xs c = set_next (cut_both xs (up_of xs c) (prev_of xs c) (next_of xs c)) c none

-- the children of k, if any, come before what comes after k
abbrev pub spliced : List Node → ℕ → List Node
spliced xs k = cond (first_of xs k == none) xs (set_next xs (last_of xs k) (next_of xs k))

-- which node comes after k then
abbrev pub afterwards : List Node → ℕ → ℕ
afterwards xs k = cond (first_of xs k == none) (next_of xs k) (first_of xs k)
