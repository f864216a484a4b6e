-- The one root of a table, at the place 0.
use Rattle.std.proofs.Common.{◌≡◌, ℕ, ◌+◌, sym, ap, ◌∙◌, subst, ⊎_elim, arith}
use Rattle.forest.specs.Forest.{Forest, end, node, one, count, Distinct, head_or, last_or}
use Rattle.forest.specs.Links.{none, Ups}
use Rattle.forest.proofs.Frames.{one_eq, one_other, up_inside}
use Rattle.forest.proofs.Appends.{last_inside}

module _ {X : Type 0} where
  -- a forest whose first sibling and last sibling are the place 0 has one root
  pub one_root : (ts : Forest X) → Distinct ts → head_or ts none ≡ 0 → last_or ts none ≡ 0 → (i : X) × ((ks : Forest X) × (ts ≡ node 0 i ks end))
  one_root end u e f = absurd (omega arith)
  one_root (node p i ks end) u e f = (i, (ks, ap (λ z. node z i ks end) e))
  one_root (node p i ks (node q j ls ts)) u e f =
      absurd (omega (arith, u 0, one_eq p 0 e, ap (λ z. count z (node q j ls ts)) (sym f), last_inside q j ls ts p))

  -- each node but the root has a parent
  pub up_there : (f : ℕ → ℕ) (c : ℕ) (ts : Forest X) → Distinct ts → count none ts ≡ 0 → head_or ts none ≡ 0 → last_or ts none ≡ 0 → Ups f none ts
      → count c ts ≡ 1 → (c ≡ 0 → ⊥) → f c ≡ none → ⊥
  up_there f c ts u z e l h o d r = go (one_root ts u e l)
    where
      go : ((i : X) × ((ks : Forest X) × (ts ≡ node 0 i ks end))) → ⊥
      go (i, (ks, q)) =
          let H : Ups f none (node 0 i ks end) = subst (λ y. Ups f none y) q h in
          let C : (k : ℕ) → count k ts ≡ one 0 k + (count k ks + 0) = λ k. ap (λ y. count k y) q in
          let o' : count c ks ≡ 1 = omega (arith, C c, one_other 0 c (λ e. d (sym e))) in
          ⊎_elim (λ a. omega (arith, sym a ∙ r)) (λ a. omega (arith, ap (λ y. count y ks) r, C none)) (up_inside f 0 c ks H.1 o')
