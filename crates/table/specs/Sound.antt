-- When a table of records with its stack of free places stands for a forest. Assumes nothing.
use Rattle.std.specs.Prelude.{◌≡◌, ℕ, ◌+◌, ◌<◌, ◌≤◌, cond, List, ◌++◌, length, ◌≢◌, nat_lt}
use Rattle.forest.specs.Forest.{Forest, count, size, places, occurs, Distinct, head_or, last_or}
use Rattle.forest.specs.Links.{none, Owns, Ups, Prevs, Nexts, Firsts, Lasts}
use Rattle.table.specs.declared.node.Own.{Own}
use Rattle.table.specs.declared.node.Node.{Node}
use Rattle.table.specs.Nodes.{at, own_of, up_of, prev_of, next_of, first_of, last_of, forest_at}

-- each node of the forest has the data and the links that its position says
pub record Holds (xs : List Node) (ts : Forest Own) : Type 0 where
  pub owns : Owns (own_of xs) ts
  pub ups : Ups (up_of xs) none ts
  pub prevs : Prevs (prev_of xs) none ts
  pub nexts : Nexts (next_of xs) ts
  pub firsts : Firsts (first_of xs) ts
  pub lasts : Lasts (last_of xs) ts

-- 1 where k is below n, else 0
abbrev pub within : ℕ → ℕ → ℕ
within k n = cond (nat_lt k n) 1 0

-- the forest has one root, at the place 0; its places and the free ones are all the places of the table, each once; and the free
-- places are those with the number 0
pub record Sound (xs : List Node) (free : List ℕ) (ts : Forest Own) : Type 0 where
  pub holds : Holds xs ts
  pub starts : head_or ts none ≡ 0
  pub stops : last_or ts none ≡ 0
  pub once : (k : ℕ) → count k ts + occurs k free ≡ within k (length xs)
  pub sized : size ts + length free ≡ length xs
  pub small : length xs ≤ none
  pub freed : (k : ℕ) → 0 < occurs k free → (at xs k).own.number ≡ 0
  pub live : (k : ℕ) → 0 < count k ts → (at xs k).own.number ≢ 0

-- a table that stands for the forest that its links lead to from the place 0, with room on its stack for each place
pub record Good (xs : List Node) (free : List ℕ) (room : ℕ) : Type 0 where
  pub sound : Sound xs free (forest_at xs 0)
  pub roomy : length xs ≤ room

-- a forest that is cut off from all else, to be given back: its links lead through it, and each place is in the table
pub record Loose (xs : List Node) (k : ℕ) (ts : Forest Own) : Type 0 where
  pub starts : head_or ts none ≡ k
  pub nexts : Nexts (next_of xs) ts
  pub firsts : Firsts (first_of xs) ts
  pub lasts : Lasts (last_of xs) ts
  pub once : Distinct ts
  pub inside : (j : ℕ) → 0 < count j ts → j < length xs
  pub small : length xs ≤ none

-- the places of the forest ts are free now and lie on the stack in text order, and no other place has changed
pub record Released (xs : List Node) (free : List ℕ) (ts : Forest Own) (ys : List Node) (more : List ℕ) : Type 0 where
  pub long : length ys ≡ length xs
  pub off : (j : ℕ) → count j ts ≡ 0 → at ys j ≡ at xs j
  pub zeros : (j : ℕ) → 0 < count j ts → (at ys j).own.number ≡ 0
  pub stack : more ≡ free ++ places ts
