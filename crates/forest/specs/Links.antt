-- What functions of a place say of a forest whose links they hold. Assumes nothing.
use Rattle.std.specs.Prelude.{◌≡◌, ℕ, cond, Some, None, Option, ◌==◌}
use Rattle.forest.specs.Forest.{Forest, end, node, head_or, last_or}

-- the link that leads nowhere
abbrev pub none : ℕ
none = 65535

-- where a link leads
abbrev pub target : ℕ → Option ℕ
target n = cond (n == none) None (Some n)

-- f has each node's payload
abbrev pub Owns : {X : Type 0} → (ℕ → X) → Forest X → Type 0
Owns f end = Unit {0}
Owns f (node p i ks ts) = (f p ≡ i) × Owns f ks × Owns f ts

-- f has each node's parent, and u is that of the forest itself
abbrev pub Ups : {X : Type 0} → (ℕ → ℕ) → ℕ → Forest X → Type 0
Ups f u end = Unit {0}
Ups f u (node p i ks ts) = (f p ≡ u) × Ups f p ks × Ups f u ts

-- f has the sibling before each node, and q stands before the forest
abbrev pub Prevs : {X : Type 0} → (ℕ → ℕ) → ℕ → Forest X → Type 0
Prevs f q end = Unit {0}
Prevs f q (node p i ks ts) = (f p ≡ q) × Prevs f none ks × Prevs f p ts

-- f has the sibling after each node
abbrev pub Nexts : {X : Type 0} → (ℕ → ℕ) → Forest X → Type 0
Nexts f end = Unit {0}
Nexts f (node p i ks ts) = (f p ≡ head_or ts none) × Nexts f ks × Nexts f ts

-- f has each node's first child
abbrev pub Firsts : {X : Type 0} → (ℕ → ℕ) → Forest X → Type 0
Firsts f end = Unit {0}
Firsts f (node p i ks ts) = (f p ≡ head_or ks none) × Firsts f ks × Firsts f ts

-- f has each node's last child
abbrev pub Lasts : {X : Type 0} → (ℕ → ℕ) → Forest X → Type 0
Lasts f end = Unit {0}
Lasts f (node p i ks ts) = (f p ≡ last_or ks none) × Lasts f ks × Lasts f ts
