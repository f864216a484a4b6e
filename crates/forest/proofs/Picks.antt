-- An answer by where the place stands.
use Rattle.std.proofs.Common.{◌≡◌, ℕ, ◌<◌, cond, eqb, ltb, sym, ◌∙◌, subst, arith}
use Rattle.std.proofs.lemmas.Bool.{eq-eqb, ne_eqb, cond-true, cond-false, lt-ltb, le-ltb}
use Rattle.forest.specs.Forest.{Forest, node, count}
use Rattle.forest.specs.Asks.{pick}
use Rattle.forest.proofs.Frames.{here, below, after, find}

module _ {X R : Type 0} (k p : ℕ) (ks : Forest X) (x y z : R) where
  pub pick_here : p ≡ k → pick k p ks x y z ≡ x
  pick_here e = cond-true (eqb p k) x (cond (ltb 0 (count k ks)) y z) (eq-eqb p k e)

  pub pick_below : (p ≡ k → ⊥) → 0 < count k ks → pick k p ks x y z ≡ y
  pick_below d l =
      cond-false (eqb p k) x (cond (ltb 0 (count k ks)) y z) (ne_eqb p k d) ∙ cond-true (ltb 0 (count k ks)) y z (lt-ltb 0 (count k ks) l)

  pub pick_after : (p ≡ k → ⊥) → count k ks ≡ 0 → pick k p ks x y z ≡ z
  pick_after d l =
      cond-false (eqb p k) x (cond (ltb 0 (count k ks)) y z) (ne_eqb p k d) ∙ cond-false (ltb 0 (count k ks)) y z (le-ltb 0 (count k ks) (omega arith))

  pub picked : (P : R → Type 0) (i : X) (ts : Forest X) → count k (node p i ks ts) ≡ 1
      → (p ≡ k → P x) → (count k ks ≡ 1 → P y) → (count k ts ≡ 1 → P z) → P (pick k p ks x y z)
  picked P i ts c H B R =
      elim (find k p i ks ts c) [
        | here e a b ↦ subst P (sym (pick_here e)) (H e)
        | below d a b ↦ subst P (sym (pick_below d (omega arith))) (B a)
        | after d a b ↦ subst P (sym (pick_after d a)) (R b)
      ]
