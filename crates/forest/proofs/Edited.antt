-- A change of the children of one node c.
use Rattle.std.proofs.Common.{◌≡◌, ℕ, ◌+◌, ◌<◌, ◌≤◌, Bool, true, false, cond, eqb, None, sym, refl, ap, ◌∙◌, subst, arith}
use Rattle.std.proofs.lemmas.Bool.{eq-eqb, ne_eqb, cond-true, cond-false}
use Rattle.forest.specs.Forest.{Forest, end, node, one, count, size, Distinct, head_or}
use Rattle.forest.specs.Edits.{edited, kids}
use Rattle.forest.specs.Asks.{head_of, last_of, first_in, last_in}
use Rattle.forest.proofs.Frames.{one_same, one_eq, here, below, after, find}
use Rattle.forest.proofs.Picks.{pick_here, pick_below, pick_after}

module _ {X : Type 0} (c : ℕ) where
  module _ (f : Forest X → Forest X) where
    -- a forest without c stays as it is
    pub edited_off : (ts : Forest X) → count c ts ≡ 0 → edited c f ts ≡ ts
    edited_off end z = refl
    edited_off (node p j ks ts) z =
        cond-false (eqb p c) (node p j (f ks) ts) (node p j (edited c f ks) (edited c f ts)) (ne_eqb p c (λ e. omega (arith, one_eq p c e)))
        ∙ (ap (λ y. node p j y (edited c f ts)) (edited_off ks (omega arith)) ∙ ap (λ y. node p j ks y) (edited_off ts (omega arith)))

    pub edited_here : (p : ℕ) (j : X) (ks ts : Forest X) → p ≡ c → edited c f (node p j ks ts) ≡ node p j (f ks) ts
    edited_here p j ks ts e = cond-true (eqb p c) (node p j (f ks) ts) (node p j (edited c f ks) (edited c f ts)) (eq-eqb p c e)

    pub edited_below : (p : ℕ) (j : X) (ks ts : Forest X) → (p ≡ c → ⊥) → count c ts ≡ 0 → edited c f (node p j ks ts) ≡ node p j (edited c f ks) ts
    edited_below p j ks ts d z =
        cond-false (eqb p c) (node p j (f ks) ts) (node p j (edited c f ks) (edited c f ts)) (ne_eqb p c d)
        ∙ ap (λ y. node p j (edited c f ks) y) (edited_off ts z)

    pub edited_rest : (p : ℕ) (j : X) (ks ts : Forest X) → (p ≡ c → ⊥) → count c ks ≡ 0 → edited c f (node p j ks ts) ≡ node p j ks (edited c f ts)
    edited_rest p j ks ts d z =
        cond-false (eqb p c) (node p j (f ks) ts) (node p j (edited c f ks) (edited c f ts)) (ne_eqb p c d)
        ∙ ap (λ y. node p j y (edited c f ts)) (edited_off ks z)

    -- a property of the new forest and of the children of c as they were, by where c stands
    pub by_edit : (P : Forest X → Forest X → Type 0) (p : ℕ) (j : X) (ks ts : Forest X) → count c (node p j ks ts) ≡ 1
        → (p ≡ c → count c ks ≡ 0 → count c ts ≡ 0 → P (node p j (f ks) ts) ks)
        → ((p ≡ c → ⊥) → count c ks ≡ 1 → count c ts ≡ 0 → P (node p j (edited c f ks) ts) (kids c ks))
        → ((p ≡ c → ⊥) → count c ks ≡ 0 → count c ts ≡ 1 → P (node p j ks (edited c f ts)) (kids c ts))
        → P (edited c f (node p j ks ts)) (kids c (node p j ks ts))
    by_edit P p j ks ts o H B R =
        elim (find c p j ks ts o) [
          | here e a b ↦
              subst (λ y. P y (kids c (node p j ks ts))) (sym (edited_here p j ks ts e))
              (subst (λ y. P (node p j (f ks) ts) y) (sym (pick_here c p ks ks (kids c ks) (kids c ts) e)) (H e a b))
          | below d a b ↦
              subst (λ y. P y (kids c (node p j ks ts))) (sym (edited_below p j ks ts d b))
              (subst (λ y. P (node p j (edited c f ks) ts) y) (sym (pick_below c p ks ks (kids c ks) (kids c ts) d (omega arith))) (B d a b))
          | after d a b ↦
              subst (λ y. P y (kids c (node p j ks ts))) (sym (edited_rest p j ks ts d a))
              (subst (λ y. P (node p j ks (edited c f ts)) y) (sym (pick_after c p ks ks (kids c ks) (kids c ts) d a)) (R d a b))
        ]

    -- what the change does to the children it does to the whole
    pub edited_count : (k : ℕ) (ts : Forest X) → count c ts ≡ 1 → count k (edited c f ts) + count k (kids c ts) ≡ count k ts + count k (f (kids c ts))
    edited_count k end o = absurd (omega arith)
    edited_count k (node p j ks ts) o =
        by_edit (λ d s. count k d + count k s ≡ (one p k + (count k ks + count k ts)) + count k (f s)) p j ks ts o
        (λ e a b. omega arith) (λ e a b. omega (arith, edited_count k ks a)) (λ e a b. omega (arith, edited_count k ts b))

    pub edited_size : (ts : Forest X) → count c ts ≡ 1 → size (edited c f ts) + size (kids c ts) ≡ size ts + size (f (kids c ts))
    edited_size end o = absurd (omega arith)
    edited_size (node p j ks ts) o =
        by_edit (λ d s. size d + size s ≡ (1 + (size ks + size ts)) + size (f s)) p j ks ts o
        (λ e a b. omega arith) (λ e a b. omega (arith, edited_size ks a)) (λ e a b. omega (arith, edited_size ts b))

    -- the first and the last sibling stay
    pub edited_head : (ts : Forest X) (x : ℕ) → head_or (edited c f ts) x ≡ head_or ts x
    edited_head end x = refl
    edited_head (node p j ks ts) x = go (eqb p c)
      where
        go : (b : Bool) → head_or (cond b (node p j (f ks) ts) (node p j (edited c f ks) (edited c f ts))) x ≡ p
        go true = refl
        go false = refl

  -- two changes that agree on the children of c agree
  pub edited_same : (f g : Forest X → Forest X) (ts : Forest X) → count c ts ≡ 1 → f (kids c ts) ≡ g (kids c ts) → edited c f ts ≡ edited c g ts
  edited_same f g end o = λ h. refl
  edited_same f g (node p j ks ts) o =
      by_edit f (λ y s. f s ≡ g s → y ≡ edited c g (node p j ks ts)) p j ks ts o
      (λ e a b h. ap (λ y. node p j y ts) h ∙ sym (edited_here g p j ks ts e))
      (λ d a b h. ap (λ y. node p j y ts) (edited_same f g ks a h) ∙ sym (edited_below g p j ks ts d b))
      (λ d a b h. ap (λ y. node p j ks y) (edited_same f g ts b h) ∙ sym (edited_rest g p j ks ts d a))

  -- the first child and the last are those of the children's list
  pub first_kids : (ts : Forest X) → count c ts ≡ 1 → first_in c ts ≡ head_of (kids c ts)
  first_kids end o = refl
  first_kids (node p j ks ts) o =
      by_edit (λ y. y) (λ _ s. first_in c (node p j ks ts) ≡ head_of s) p j ks ts o
      (λ e a b. pick_here c p ks (head_of ks) (first_in c ks) (first_in c ts) e)
      (λ d a b. pick_below c p ks (head_of ks) (first_in c ks) (first_in c ts) d (omega arith) ∙ first_kids ks a)
      (λ d a b. pick_after c p ks (head_of ks) (first_in c ks) (first_in c ts) d a ∙ first_kids ts b)

  pub last_kids : (ts : Forest X) → count c ts ≡ 1 → last_in c ts ≡ last_of None (kids c ts)
  last_kids end o = refl
  last_kids (node p j ks ts) o =
      by_edit (λ y. y) (λ _ s. last_in c (node p j ks ts) ≡ last_of None s) p j ks ts o
      (λ e a b. pick_here c p ks (last_of None ks) (last_in c ks) (last_in c ts) e)
      (λ d a b. pick_below c p ks (last_of None ks) (last_in c ks) (last_in c ts) d (omega arith) ∙ last_kids ks a)
      (λ d a b. pick_after c p ks (last_of None ks) (last_in c ks) (last_in c ts) d a ∙ last_kids ts b)

  -- the children are part of the forest, and c is not among them
  pub kids_part : (k : ℕ) (ts : Forest X) → count c ts ≡ 1 → one c k + count k (kids c ts) ≤ count k ts
  kids_part k end o = absurd (omega arith)
  kids_part k (node p j ks ts) o =
      by_edit (λ y. y) (λ _ s. one c k + count k s ≤ one p k + (count k ks + count k ts)) p j ks ts o
      (λ e a b. omega (arith, ap (λ y. one y k) e)) (λ d a b. omega (arith, kids_part k ks a)) (λ d a b. omega (arith, kids_part k ts b))

  -- the first node of a forest is nobody's child
  pub head_no_kid : (p : ℕ) (j : X) (ks ts : Forest X) → Distinct (node p j ks ts) → count c (node p j ks ts) ≡ 1 → 0 < count p (kids c (node p j ks ts)) → ⊥
  head_no_kid p j ks ts u o =
      by_edit (λ y. y) (λ _ s. 0 < count p s → ⊥) p j ks ts o
      (λ e a b l. omega (arith, u p, one_same p)) (λ d a b l. omega (arith, u p, one_same p, kids_part p ks a)) (λ d a b l. omega (arith, u p, one_same p, kids_part p ts b))
