-- What a forest says of the node at a place k. Assumes nothing.
use Rattle.std.specs.Prelude.{ℕ, ◌+◌, cond, Some, None, Option, ◌==◌, nat_lt}
use Rattle.forest.specs.Forest.{Forest, end, node, count}

-- the answer at the node itself, else that of its children, if k is among them, else that of the siblings after it
abbrev pub pick : {X R : Type 0} → ℕ → ℕ → Forest X → R → R → R → R
pick k p ks here below after = cond (p == k) here (cond (nat_lt 0 (count k ks)) below after)

-- the first sibling's place
abbrev pub head_of : {X : Type 0} → Forest X → Option ℕ
head_of end = None
head_of (node p i ks ts) = Some p

-- the last sibling's place, where q is what comes before them
abbrev pub last_of : {X : Type 0} → Option ℕ → Forest X → Option ℕ
last_of q end = q
last_of q (node p i ks ts) = last_of (Some p) ts

-- the payload
abbrev pub own_in : {X : Type 0} → ℕ → Forest X → Option X
own_in k end = None
own_in k (node p i ks ts) = pick k p ks (Some i) (own_in k ks) (own_in k ts)

-- the parent, where the forest's own parent is u
abbrev pub parent_in : {X : Type 0} → ℕ → Option ℕ → Forest X → Option ℕ
parent_in k u end = None
parent_in k u (node p i ks ts) = pick k p ks u (parent_in k (Some p) ks) (parent_in k u ts)

-- the sibling before, where q stands before the forest
abbrev pub prev_in : {X : Type 0} → ℕ → Option ℕ → Forest X → Option ℕ
prev_in k q end = None
prev_in k q (node p i ks ts) = pick k p ks q (prev_in k None ks) (prev_in k (Some p) ts)

-- the sibling after
abbrev pub next_in : {X : Type 0} → ℕ → Forest X → Option ℕ
next_in k end = None
next_in k (node p i ks ts) = pick k p ks (head_of ts) (next_in k ks) (next_in k ts)

-- the first child
abbrev pub first_in : {X : Type 0} → ℕ → Forest X → Option ℕ
first_in k end = None
first_in k (node p i ks ts) = pick k p ks (head_of ks) (first_in k ks) (first_in k ts)

-- the last child
abbrev pub last_in : {X : Type 0} → ℕ → Forest X → Option ℕ
last_in k end = None
last_in k (node p i ks ts) = pick k p ks (last_of None ks) (last_in k ks) (last_in k ts)

-- how many siblings stand before the node, where m stand before the forest
abbrev pub index_in : {X : Type 0} → ℕ → ℕ → Forest X → ℕ
index_in k m end = 0
index_in k m (node p i ks ts) = pick k p ks m (index_in k 0 ks) (index_in k (m + 1) ts)
