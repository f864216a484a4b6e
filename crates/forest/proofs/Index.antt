-- The sibling before a node has the index before the node's.
use Rattle.std.proofs.Common.{◌≡◌, ℕ, ◌+◌, ◌<◌, Some, None, Option, sym, refl, ap, ◌∙◌, arith}
use Rattle.forest.specs.Forest.{Forest, end, node, count, size, Distinct}
use Rattle.forest.specs.Asks.{prev_in, index_in}
use Rattle.forest.proofs.Frames.{one_same, one_eq, here, below, after, find}
use Rattle.forest.proofs.Picks.{pick_here, pick_below, pick_after, picked}

-- what stands before k: what stands before the forest, nothing, or the sibling x
pub data Before (X : Type 0) (k : ℕ) (q : Option ℕ) (m : ℕ) (ts : Forest X) : Type 0 where
  outside : prev_in k q ts ≡ q → index_in k m ts ≡ m → Before X k q m ts
  nothing : prev_in k q ts ≡ None → index_in k m ts ≡ 0 → Before X k q m ts
  sibling : (x : ℕ) → prev_in k q ts ≡ Some x → count x ts ≡ 1 → index_in k m ts ≡ index_in x m ts + 1 → Before X k q m ts

module _ {X : Type 0} where
  pub before : (k : ℕ) (q : Option ℕ) (m : ℕ) (ts : Forest X) → Distinct ts → count k ts ≡ 1 → Before X k q m ts
  before k q m end u c = absurd (omega arith)
  before k q m (node p i ks ts) u c =
      elim (find k p i ks ts c) [
        | here e a b ↦
            outside (pick_here k p ks q (prev_in k None ks) (prev_in k (Some p) ts) e) (pick_here k p ks m (index_in k 0 ks) (index_in k (m + 1) ts) e)
        | below d a b ↦
            let P : prev_in k q (node p i ks ts) ≡ prev_in k None ks = pick_below k p ks q (prev_in k None ks) (prev_in k (Some p) ts) d (omega arith) in
            let I : index_in k m (node p i ks ts) ≡ index_in k 0 ks = pick_below k p ks m (index_in k 0 ks) (index_in k (m + 1) ts) d (omega arith) in
            elim (before k None 0 ks (λ j. omega (arith, u j)) a) [
              | outside r s ↦ nothing (P ∙ r) (I ∙ s)
              | nothing r s ↦ nothing (P ∙ r) (I ∙ s)
              | sibling x r n s ↦
                  sibling x (P ∙ r) (omega (arith, u x))
                  (I ∙ (s ∙ ap (λ z. z + 1) (sym (pick_below x p ks m (index_in x 0 ks) (index_in x (m + 1) ts) (λ e. omega (arith, u x, one_eq p x e)) (omega arith)))))
            ]
        | after d a b ↦
            let P : prev_in k q (node p i ks ts) ≡ prev_in k (Some p) ts = pick_after k p ks q (prev_in k None ks) (prev_in k (Some p) ts) d a in
            let I : index_in k m (node p i ks ts) ≡ index_in k (m + 1) ts = pick_after k p ks m (index_in k 0 ks) (index_in k (m + 1) ts) d a in
            elim (before k (Some p) (m + 1) ts (λ j. omega (arith, u j)) b) [
              | outside r s ↦
                  sibling p (P ∙ r) (omega (arith, u p, one_same p))
                  (I ∙ (s ∙ ap (λ z. z + 1) (sym (pick_here p p ks m (index_in p 0 ks) (index_in p (m + 1) ts) refl))))
              | nothing r s ↦ nothing (P ∙ r) (I ∙ s)
              | sibling x r n s ↦
                  sibling x (P ∙ r) (omega (arith, u x))
                  (I ∙ (s ∙ ap (λ z. z + 1) (sym (pick_after x p ks m (index_in x 0 ks) (index_in x (m + 1) ts) (λ e. omega (arith, u x, one_eq p x e)) (omega (arith, u x))))))
            ]
      ]

  -- a node with no sibling before it has the index 0
  pub index_none : (k : ℕ) (ts : Forest X) → Distinct ts → count k ts ≡ 1 → prev_in k None ts ≡ None → index_in k 0 ts ≡ 0
  index_none k ts u c e =
      elim (before k None 0 ts u c) [
        | outside r s ↦ s
        | nothing r s ↦ s
        | sibling x r n s ↦ absurd (let z : ◌≡◌ {A = ℕ} 0 1 = cc in omega arith)
      ]

  -- and any other has one more than the sibling x before it
  pub index_some : (k x : ℕ) (ts : Forest X) → Distinct ts → count k ts ≡ 1 → prev_in k None ts ≡ Some x
      → (count x ts ≡ 1) × (index_in k 0 ts ≡ index_in x 0 ts + 1)
  index_some k x ts u c e =
      elim (before k None 0 ts u c) [
        | outside r s ↦ absurd (let z : ◌≡◌ {A = ℕ} 0 1 = cc in omega arith)
        | nothing r s ↦ absurd (let z : ◌≡◌ {A = ℕ} 0 1 = cc in omega arith)
        | sibling y r n s ↦ let q : y ≡ x = cc in (ap (λ z. count z ts) (sym q) ∙ n, s ∙ ap (λ z. index_in z 0 ts + 1) q)
      ]

  pub index_size : (k m : ℕ) (ts : Forest X) → count k ts ≡ 1 → index_in k m ts < m + size ts
  index_size k m end c = absurd (omega arith)
  index_size k m (node p i ks ts) c =
      picked k p ks m (index_in k 0 ks) (index_in k (m + 1) ts) (λ z. z < m + (1 + (size ks + size ts))) i ts c
      (λ e. omega arith) (λ a. omega (arith, index_size k 0 ks a)) (λ b. omega (arith, index_size k (m + 1) ts b))
