-- Functions that hold a forest's links answer what the forest says.
use Rattle.std.proofs.Common.{◌≡◌, ℕ, eqb, Some, None, Option, sym, refl, ap, ◌∙◌, arith}
use Rattle.std.proofs.lemmas.Bool.{ne_eqb, cond-false}
use Rattle.forest.specs.Forest.{Forest, end, node, count, head_or, last_or}
use Rattle.forest.specs.Links.{none, target, Owns, Ups, Prevs, Nexts, Firsts, Lasts}
use Rattle.forest.specs.Asks.{head_of, last_of, own_in, parent_in, prev_in, next_in, first_in, last_in}
use Rattle.forest.proofs.Frames.{one_eq}
use Rattle.forest.proofs.Picks.{pick_after, picked}

pub target_place : (p : ℕ) → (p ≡ none → ⊥) → target p ≡ Some p
target_place p d = cond-false (eqb p none) None (Some p) (ne_eqb p none d)

module _ {X : Type 0} where
  pub target_head : (ts : Forest X) → count none ts ≡ 0 → target (head_or ts none) ≡ head_of ts
  target_head end z = refl
  target_head (node p i ks ts) z = target_place p (λ e. omega (arith, one_eq p none e))

  pub target_last : (q : ℕ) (o : Option ℕ) (ts : Forest X) → count none ts ≡ 0 → target q ≡ o → target (last_or ts q) ≡ last_of o ts
  target_last q o end z e = e
  target_last q o (node p i ks ts) z e = target_last p (Some p) ts (omega arith) (target_place p (λ r. omega (arith, one_eq p none r)))

  pub own_told : (f : ℕ → X) (k : ℕ) (ts : Forest X) → count k ts ≡ 1 → Owns f ts → Some (f k) ≡ own_in k ts
  own_told f k end c h = absurd (omega arith)
  own_told f k (node p i ks ts) c h =
      picked k p ks (Some i) (own_in k ks) (own_in k ts) (λ z. Some (f k) ≡ z) i ts c (λ e. ap (λ z. Some z) (ap f (sym e) ∙ h.0))
      (λ a. own_told f k ks a h.1) (λ b. own_told f k ts b h.2)

  -- a place that is not in the forest has no payload there
  pub own_none : (k : ℕ) (ts : Forest X) → count k ts ≡ 0 → own_in k ts ≡ None
  own_none k end c = refl
  own_none k (node p i ks ts) c =
      pick_after k p ks (Some i) (own_in k ks) (own_in k ts) (λ e. omega (arith, one_eq p k e)) (omega arith) ∙ own_none k ts (omega arith)

  pub up_told : (f : ℕ → ℕ) (k u : ℕ) (o : Option ℕ) (ts : Forest X) → target u ≡ o → count none ts ≡ 0 → count k ts ≡ 1 → Ups f u ts
      → target (f k) ≡ parent_in k o ts
  up_told f k u o end e z c h = absurd (omega arith)
  up_told f k u o (node p i ks ts) e z c h =
      picked k p ks o (parent_in k (Some p) ks) (parent_in k o ts) (λ y. target (f k) ≡ y) i ts c (λ q. ap target (ap f (sym q) ∙ h.0) ∙ e)
      (λ a. up_told f k p (Some p) ks (target_place p (λ r. omega (arith, one_eq p none r))) (omega arith) a h.1)
      (λ b. up_told f k u o ts e (omega arith) b h.2)

  pub prev_told : (f : ℕ → ℕ) (k q : ℕ) (o : Option ℕ) (ts : Forest X) → target q ≡ o → count none ts ≡ 0 → count k ts ≡ 1 → Prevs f q ts
      → target (f k) ≡ prev_in k o ts
  prev_told f k q o end e z c h = absurd (omega arith)
  prev_told f k q o (node p i ks ts) e z c h =
      picked k p ks o (prev_in k None ks) (prev_in k (Some p) ts) (λ y. target (f k) ≡ y) i ts c (λ r. ap target (ap f (sym r) ∙ h.0) ∙ e)
      (λ a. prev_told f k none None ks refl (omega arith) a h.1)
      (λ b. prev_told f k p (Some p) ts (target_place p (λ r. omega (arith, one_eq p none r))) (omega arith) b h.2)

  pub next_told : (f : ℕ → ℕ) (k : ℕ) (ts : Forest X) → count none ts ≡ 0 → count k ts ≡ 1 → Nexts f ts → target (f k) ≡ next_in k ts
  next_told f k end z c h = absurd (omega arith)
  next_told f k (node p i ks ts) z c h =
      picked k p ks (head_of ts) (next_in k ks) (next_in k ts) (λ y. target (f k) ≡ y) i ts c
      (λ e. ap target (ap f (sym e) ∙ h.0) ∙ target_head ts (omega arith))
      (λ a. next_told f k ks (omega arith) a h.1) (λ b. next_told f k ts (omega arith) b h.2)

  pub first_told : (f : ℕ → ℕ) (k : ℕ) (ts : Forest X) → count none ts ≡ 0 → count k ts ≡ 1 → Firsts f ts → target (f k) ≡ first_in k ts
  first_told f k end z c h = absurd (omega arith)
  first_told f k (node p i ks ts) z c h =
      picked k p ks (head_of ks) (first_in k ks) (first_in k ts) (λ y. target (f k) ≡ y) i ts c
      (λ e. ap target (ap f (sym e) ∙ h.0) ∙ target_head ks (omega arith))
      (λ a. first_told f k ks (omega arith) a h.1) (λ b. first_told f k ts (omega arith) b h.2)

  pub last_told : (f : ℕ → ℕ) (k : ℕ) (ts : Forest X) → count none ts ≡ 0 → count k ts ≡ 1 → Lasts f ts → target (f k) ≡ last_in k ts
  last_told f k end z c h = absurd (omega arith)
  last_told f k (node p i ks ts) z c h =
      picked k p ks (last_of None ks) (last_in k ks) (last_in k ts) (λ y. target (f k) ≡ y) i ts c
      (λ e. ap target (ap f (sym e) ∙ h.0) ∙ target_last none None ks (omega arith) refl)
      (λ a. last_told f k ks (omega arith) a h.1) (λ b. last_told f k ts (omega arith) b h.2)
