-- A change of one node's payload.
use Rattle.std.proofs.Common.{◌≡◌, ℕ, cond, eqb, ◌⊎◌, ◌∷◌, ◌++◌, sym, refl, ap, ◌∙◌, inl, inr, arith}
use Rattle.std.proofs.lemmas.Bool.{cases_eq, eq-eqb, ne_eqb, cond-true, cond-false}
use Rattle.forest.specs.Forest.{Forest, end, node, count, size, places, head_or, last_or}
use Rattle.forest.specs.Edits.{update}
use Rattle.forest.specs.Links.{none, Owns, Ups, Prevs, Nexts, Firsts, Lasts}
use Rattle.forest.proofs.Frames.{one_eq}

module _ {X : Type 0} (c : ℕ) (f : X → X) where
  -- a forest without c stays as it is
  pub update_off : (ts : Forest X) → count c ts ≡ 0 → update c f ts ≡ ts
  update_off end z = refl
  update_off (node p j ks ts) z =
      ap (λ y. node p y (update c f ks) (update c f ts)) (cond-false (eqb p c) (f j) j (ne_eqb p c (λ e. omega (arith, one_eq p c e))))
      ∙ (ap (λ y. node p j y (update c f ts)) (update_off ks (omega arith)) ∙ ap (λ y. node p j ks y) (update_off ts (omega arith)))

  pub update_count : (k : ℕ) (ts : Forest X) → count k (update c f ts) ≡ count k ts
  update_count k end = refl
  update_count k (node p j ks ts) = omega (arith, update_count k ks, update_count k ts)

  pub update_size : (ts : Forest X) → size (update c f ts) ≡ size ts
  update_size end = refl
  update_size (node p j ks ts) = omega (arith, update_size ks, update_size ts)

  pub update_places : (ts : Forest X) → places (update c f ts) ≡ places ts
  update_places end = refl
  update_places (node p j ks ts) = ap (λ y. p ∷ (y ++ places (update c f ts))) (update_places ks) ∙ ap (λ y. p ∷ (places ks ++ y)) (update_places ts)

  pub update_head : (ts : Forest X) (x : ℕ) → head_or (update c f ts) x ≡ head_or ts x
  update_head end x = refl
  update_head (node p j ks ts) x = refl

  pub update_last : (ts : Forest X) (x : ℕ) → last_or (update c f ts) x ≡ last_or ts x
  update_last end x = refl
  update_last (node p j ks ts) x = update_last ts p

  -- the payloads change at c alone
  pub update_owns : (g h : ℕ → X) (ts : Forest X) → h c ≡ f (g c) → ((k : ℕ) → (k ≡ c → ⊥) → h k ≡ g k) → Owns g ts → Owns h (update c f ts)
  update_owns g h end at off o = tt
  update_owns g h (node p j ks ts) at off o = (here (cases_eq p c), update_owns g h ks at off o.1, update_owns g h ts at off o.2)
    where
      here : ((p ≡ c) ⊎ (p ≡ c → ⊥)) → h p ≡ cond (eqb p c) (f j) j
      here (inl e) = ap h e ∙ (at ∙ (ap (λ y. f (g y)) (sym e) ∙ (ap f o.0 ∙ sym (cond-true (eqb p c) (f j) j (eq-eqb p c e)))))
      here (inr d) = off p d ∙ (o.0 ∙ sym (cond-false (eqb p c) (f j) j (ne_eqb p c d)))

  -- and no link does
  pub update_ups : (g : ℕ → ℕ) (u : ℕ) (ts : Forest X) → Ups g u ts → Ups g u (update c f ts)
  update_ups g u end h = tt
  update_ups g u (node p j ks ts) h = (h.0, update_ups g p ks h.1, update_ups g u ts h.2)

  pub update_prevs : (g : ℕ → ℕ) (q : ℕ) (ts : Forest X) → Prevs g q ts → Prevs g q (update c f ts)
  update_prevs g q end h = tt
  update_prevs g q (node p j ks ts) h = (h.0, update_prevs g none ks h.1, update_prevs g p ts h.2)

  pub update_nexts : (g : ℕ → ℕ) (ts : Forest X) → Nexts g ts → Nexts g (update c f ts)
  update_nexts g end h = tt
  update_nexts g (node p j ks ts) h = (h.0 ∙ sym (update_head ts none), update_nexts g ks h.1, update_nexts g ts h.2)

  pub update_firsts : (g : ℕ → ℕ) (ts : Forest X) → Firsts g ts → Firsts g (update c f ts)
  update_firsts g end h = tt
  update_firsts g (node p j ks ts) h = (h.0 ∙ sym (update_head ks none), update_firsts g ks h.1, update_firsts g ts h.2)

  pub update_lasts : (g : ℕ → ℕ) (ts : Forest X) → Lasts g ts → Lasts g (update c f ts)
  update_lasts g end h = tt
  update_lasts g (node p j ks ts) h = (h.0 ∙ sym (update_last ks none), update_lasts g ks h.1, update_lasts g ts h.2)
