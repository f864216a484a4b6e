-- A field of a table that is as it was at a forest's places says of it what it said; where a place stands.
use Rattle.std.proofs.Common.{◌≡◌, ℕ, ◌<◌, ◌≤◌, ◌⊎◌, sym, refl, ap, ◌∙◌, subst, inl, inr, ⊎_elim, arith}
use Rattle.std.proofs.lemmas.Bool.{cases_eq, cases_lt}
use Rattle.std.proofs.lemmas.Bool.Decides.{nat_tests}
use Rattle.forest.specs.Forest.{Forest, end, node, one, count, Distinct, head_or, last_or}
use Rattle.forest.specs.Links.{none, Owns, Ups, Prevs, Nexts, Firsts, Lasts}

-- two functions agree at the places of a forest
abbrev pub Same : {V X : Type 0} → (ℕ → V) → (ℕ → V) → Forest X → Type 0
Same f g ts = (k : ℕ) → 0 < count k ts → g k ≡ f k

pub one_same : (p : ℕ) → one p p ≡ 1
one_same p = grind (arith, nat_tests)

pub one_eq : (p k : ℕ) → p ≡ k → one p k ≡ 1
one_eq p k e = grind (arith, nat_tests)

pub one_other : (p k : ℕ) → (p ≡ k → ⊥) → one p k ≡ 0
one_other p k h = grind (arith, nat_tests)

pub one_le : (p k : ℕ) → one p k ≤ 1
one_le p k = grind (arith, nat_tests)

-- where the place s stands in a node and what follows it
pub data Where (X : Type 0) (s p : ℕ) (ks ts : Forest X) : Type 0 where
  here : p ≡ s → count s ks ≡ 0 → count s ts ≡ 0 → Where X s p ks ts
  below : (p ≡ s → ⊥) → count s ks ≡ 1 → count s ts ≡ 0 → Where X s p ks ts
  after : (p ≡ s → ⊥) → count s ks ≡ 0 → count s ts ≡ 1 → Where X s p ks ts

module _ {X : Type 0} where
  module _ {V : Type 0} (f g : ℕ → V) (p : ℕ) (i : X) (ks ts : Forest X) (s : Same f g (node p i ks ts)) where
    pub same_here : g p ≡ f p
    same_here = s p (omega (arith, one_same p))

    pub same_kids : Same f g ks
    same_kids k h = s k (omega arith)

    pub same_rest : Same f g ts
    same_rest k h = s k (omega arith)

  pub owns_kept : (f g : ℕ → X) (ts : Forest X) → Same f g ts → Owns f ts → Owns g ts
  owns_kept f g end s h = tt
  owns_kept f g (node p i ks ts) s h =
      (same_here f g p i ks ts s ∙ h.0, owns_kept f g ks (same_kids f g p i ks ts s) h.1, owns_kept f g ts (same_rest f g p i ks ts s) h.2)

  pub ups_kept : (f g : ℕ → ℕ) (u : ℕ) (ts : Forest X) → Same f g ts → Ups f u ts → Ups g u ts
  ups_kept f g u end s h = tt
  ups_kept f g u (node p i ks ts) s h =
      (same_here f g p i ks ts s ∙ h.0, ups_kept f g p ks (same_kids f g p i ks ts s) h.1, ups_kept f g u ts (same_rest f g p i ks ts s) h.2)

  pub prevs_kept : (f g : ℕ → ℕ) (q : ℕ) (ts : Forest X) → Same f g ts → Prevs f q ts → Prevs g q ts
  prevs_kept f g q end s h = tt
  prevs_kept f g q (node p i ks ts) s h =
      (same_here f g p i ks ts s ∙ h.0, prevs_kept f g none ks (same_kids f g p i ks ts s) h.1, prevs_kept f g p ts (same_rest f g p i ks ts s) h.2)

  pub nexts_kept : (f g : ℕ → ℕ) (ts : Forest X) → Same f g ts → Nexts f ts → Nexts g ts
  nexts_kept f g end s h = tt
  nexts_kept f g (node p i ks ts) s h =
      (same_here f g p i ks ts s ∙ h.0, nexts_kept f g ks (same_kids f g p i ks ts s) h.1, nexts_kept f g ts (same_rest f g p i ks ts s) h.2)

  pub firsts_kept : (f g : ℕ → ℕ) (ts : Forest X) → Same f g ts → Firsts f ts → Firsts g ts
  firsts_kept f g end s h = tt
  firsts_kept f g (node p i ks ts) s h =
      (same_here f g p i ks ts s ∙ h.0, firsts_kept f g ks (same_kids f g p i ks ts s) h.1, firsts_kept f g ts (same_rest f g p i ks ts s) h.2)

  pub lasts_kept : (f g : ℕ → ℕ) (ts : Forest X) → Same f g ts → Lasts f ts → Lasts g ts
  lasts_kept f g end s h = tt
  lasts_kept f g (node p i ks ts) s h =
      (same_here f g p i ks ts s ∙ h.0, lasts_kept f g ks (same_kids f g p i ks ts s) h.1, lasts_kept f g ts (same_rest f g p i ks ts s) h.2)

  pub find : (s p : ℕ) (i : X) (ks ts : Forest X) → count s (node p i ks ts) ≡ 1 → Where X s p ks ts
  find s p i ks ts h =
      ⊎_elim (λ e. here e (omega (arith, one_eq p s e)) (omega (arith, one_eq p s e)))
      (λ d. ⊎_elim (λ l. below d (omega (arith, one_other p s d)) (omega (arith, one_other p s d)))
      (λ l. after d (omega (arith, one_other p s d)) (omega (arith, one_other p s d))) (cases_lt 0 (count s ks)))
      (cases_eq p s)

  pub head_inside : (ts : Forest X) → (head_or ts none ≡ none) ⊎ (0 < count (head_or ts none) ts)
  head_inside end = inl refl
  head_inside (node p i ks ts) = inr (omega (arith, one_same p))

  -- the next of a place of the forest is none or a place of the forest
  pub next_inside : (f : ℕ → ℕ) (s : ℕ) (ts : Forest X) → Nexts f ts → count s ts ≡ 1 → (f s ≡ none) ⊎ (0 < count (f s) ts)
  next_inside f s end h c = inl (omega arith)
  next_inside f s (node p i ks ts) h c =
      elim (find s p i ks ts c) [
        | here e a b ↦
            let q : f s ≡ head_or ts none = ap f (sym e) ∙ h.0 in
            ⊎_elim (λ l. inl (q ∙ l)) (λ r. inr (let r' : 0 < count (f s) ts = subst (λ z. 0 < count z ts) (sym q) r in omega arith)) (head_inside ts)
        | below d a b ↦ ⊎_elim (λ l. inl l) (λ r. inr (omega arith)) (next_inside f s ks h.1 a)
        | after d a b ↦ ⊎_elim (λ l. inl l) (λ r. inr (omega arith)) (next_inside f s ts h.2 b)
      ]

  -- the parent of a place of the forest is the forest's own, or a place of the forest
  pub up_inside : (f : ℕ → ℕ) (u s : ℕ) (ts : Forest X) → Ups f u ts → count s ts ≡ 1 → (f s ≡ u) ⊎ (0 < count (f s) ts)
  up_inside f u s end h c = inl (omega arith)
  up_inside f u s (node p i ks ts) h c =
      elim (find s p i ks ts c) [
        | here e a b ↦ inl (ap f (sym e) ∙ h.0)
        | below d a b ↦ ⊎_elim (λ l. inr (omega (arith, one_eq p (f s) (sym l)))) (λ r. inr (omega arith)) (up_inside f p s ks h.1 a)
        | after d a b ↦ ⊎_elim (λ l. inl l) (λ r. inr (omega arith)) (up_inside f u s ts h.2 b)
      ]

  -- the prev of a place of the forest is none, the forest's own, or a place of the forest
  pub prev_inside : (f : ℕ → ℕ) (q s : ℕ) (ts : Forest X) → Prevs f q ts → count s ts ≡ 1 → (f s ≡ q) ⊎ ((f s ≡ none) ⊎ (0 < count (f s) ts))
  prev_inside f q s end h c = inl (omega arith)
  prev_inside f q s (node p i ks ts) h c =
      elim (find s p i ks ts c) [
        | here e a b ↦ inl (ap f (sym e) ∙ h.0)
        | below d a b ↦ ⊎_elim (λ l. inr (inl l)) (λ w. ⊎_elim (λ l. inr (inl l)) (λ r. inr (inr (omega arith))) w) (prev_inside f none s ks h.1 a)
        | after d a b ↦
            ⊎_elim (λ l. inr (inr (omega (arith, one_eq p (f s) (sym l)))))
            (λ w. ⊎_elim (λ l. inr (inl l)) (λ r. inr (inr (omega arith))) w) (prev_inside f p s ts h.2 b)
      ]

  -- the last of siblings, where there is one, does not ask what stands before them
  pub last_any : (p : ℕ) (i : X) (ks ts : Forest X) (x y : ℕ) → last_or (node p i ks ts) x ≡ last_or (node p i ks ts) y
  last_any p i ks ts x y = refl

  -- the siblings that come after q come after another
  pub relinked : (f g : ℕ → ℕ) (q r : ℕ) (ts : Forest X) → g (head_or ts none) ≡ r ⊎ (head_or ts none ≡ none)
      → ((k : ℕ) → (k ≡ head_or ts none → ⊥) → 0 < count k ts → g k ≡ f k) → Distinct ts → count none ts ≡ 0
      → Prevs f q ts → Prevs g r ts
  relinked f g q r end to off u z h = tt
  relinked f g q r (node p j ks ts) to off u z h = (
    ⊎_elim (λ e. e) (λ e. absurd (omega (arith, one_eq p none e))) to,
    prevs_kept f g none ks (λ k l. off k (λ e. omega (arith, u p, ap (λ x. count x ks) e, one_same p)) (omega arith)) h.1,
    prevs_kept f g p ts (λ k l. off k (λ e. omega (arith, u p, ap (λ x. count x ts) e, one_same p)) (omega arith)) h.2,
  )
