-- Siblings in order with all below them, each node at a place and with a payload. Assumes nothing.
use Rattle.std.specs.Prelude.{ℕ, ◌+◌, ◌≤◌, cond, List, [], ◌∷◌, ◌++◌, ◌==◌}

-- siblings in order: none, or a node (its place, its payload, its children) and the siblings after it
pub data Forest (X : Type 0) : Type 0 where
  end : Forest X
  node : ℕ → X → Forest X → Forest X → Forest X

-- 1 where the places are one, else 0
abbrev pub one : ℕ → ℕ → ℕ
one p k = cond (p == k) 1 0

-- how often the place k stands in a forest
abbrev pub count : {X : Type 0} → ℕ → Forest X → ℕ
count k end = 0
count k (node p i ks ts) = one p k + (count k ks + count k ts)

-- how many nodes a forest has
abbrev pub size : {X : Type 0} → Forest X → ℕ
size end = 0
size (node p i ks ts) = 1 + (size ks + size ts)

-- the places in text order, a node before its children and they before its later siblings
abbrev pub places : {X : Type 0} → Forest X → List ℕ
places end = []
places (node p i ks ts) = p ∷ (places ks ++ places ts)

-- how often k stands in a list
abbrev pub occurs : ℕ → List ℕ → ℕ
occurs k [] = 0
occurs k (x ∷ xs) = one x k + occurs k xs

-- no place stands twice
abbrev pub Distinct : {X : Type 0} → Forest X → Type 0
Distinct ts = (k : ℕ) → count k ts ≤ 1

-- the first sibling's place, or x where there is none
abbrev pub head_or : {X : Type 0} → Forest X → ℕ → ℕ
head_or end x = x
head_or (node p i ks ts) x = p

-- the last sibling's place, or x where there is none
abbrev pub last_or : {X : Type 0} → Forest X → ℕ → ℕ
last_or end x = x
last_or (node p i ks ts) x = last_or ts p

-- the siblings us after the siblings ts
abbrev pub append : {X : Type 0} → Forest X → Forest X → Forest X
append end us = us
append (node p i ks ts) us = node p i ks (append ts us)

-- the same forest with f of each payload
abbrev pub map : {X Y : Type 0} → (X → Y) → Forest X → Forest Y
map f end = end
map f (node p i ks ts) = node p (f i) (map f ks) (map f ts)
