-- Edits of a forest at one place. Assumes nothing.
use Rattle.std.specs.Prelude.{ℕ, cond, List, ◌∷◌, ◌==◌, nat_lt}
use Rattle.forest.specs.Forest.{Forest, end, node, count, places, append}

-- a new leaf n right after the sibling s
abbrev pub ins_after : {X : Type 0} → ℕ → ℕ → X → Forest X → Forest X
ins_after s n i end = end
ins_after s n i (node p j ks ts) =
    cond (p == s) (node p j ks (node n i end ts)) (node p j (ins_after s n i ks) (ins_after s n i ts))

-- f of the children of the node c, and all else as it was
abbrev pub edited : {X : Type 0} → ℕ → (Forest X → Forest X) → Forest X → Forest X
edited c f end = end
edited c f (node p j ks ts) = cond (p == c) (node p j (f ks) ts) (node p j (edited c f ks) (edited c f ts))

-- siblings with a new leaf n before them
abbrev pub put_first : {X : Type 0} → ℕ → X → Forest X → Forest X
put_first n i ts = node n i end ts

-- siblings with a new leaf n behind them
abbrev pub put_last : {X : Type 0} → ℕ → X → Forest X → Forest X
put_last n i ts = append ts (node n i end end)

-- siblings with a new leaf n right after the sibling s
abbrev pub put_after : {X : Type 0} → ℕ → ℕ → X → Forest X → Forest X
put_after s n i end = end
put_after s n i (node p j ks ts) = cond (p == s) (node p j ks (node n i end ts)) (node p j ks (put_after s n i ts))

-- siblings without the sibling c and all below it
abbrev pub without : {X : Type 0} → ℕ → Forest X → Forest X
without c end = end
without c (node p j ks ts) = cond (p == c) ts (node p j ks (without c ts))

-- a new leaf n as the first child of the node v
abbrev pub ins_first : {X : Type 0} → ℕ → ℕ → X → Forest X → Forest X
ins_first v n i ts = edited v (put_first n i) ts

-- a new leaf n as the last child of the node v
abbrev pub ins_last : {X : Type 0} → ℕ → ℕ → X → Forest X → Forest X
ins_last v n i ts = edited v (put_last n i) ts

-- the forest without the node c and all below it
abbrev pub delete : {X : Type 0} → ℕ → Forest X → Forest X
delete c end = end
delete c (node p j ks ts) = cond (p == c) ts (node p j (delete c ks) (delete c ts))

-- the children of the node c
abbrev pub kids : {X : Type 0} → ℕ → Forest X → Forest X
kids c end = end
kids c (node p j ks ts) = cond (p == c) ks (cond (nat_lt 0 (count c ks)) (kids c ks) (kids c ts))

-- the places of the node c and of all below it, in text order
abbrev pub family : {X : Type 0} → ℕ → Forest X → List ℕ
family c ts = c ∷ places (kids c ts)

-- f of the payload of the node k, and all else as it was
abbrev pub update : {X : Type 0} → ℕ → (X → X) → Forest X → Forest X
update k f end = end
update k f (node p j ks ts) = node p (cond (p == k) (f j) j) (update k f ks) (update k f ts)
