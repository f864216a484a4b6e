-- The edits of a whole forest at a node are edits of the children of its parent.
use Rattle.std.proofs.Common.{◌≡◌, ℕ, ◌<◌, eqb, ◌⊎◌, Some, None, Option, sym, ap, ◌∙◌, inl, inr, ⊎_elim, arith}
use Rattle.std.proofs.lemmas.Bool.{cases_eq, eq-eqb, ne_eqb, cond-true, cond-false}
use Rattle.forest.specs.Forest.{Forest, end, node, count, Distinct}
use Rattle.forest.specs.Edits.{edited, ins_after, put_after, delete, without}
use Rattle.forest.specs.Asks.{parent_in}
use Rattle.forest.proofs.Frames.{one_same, one_eq, here, below, after, find}
use Rattle.forest.proofs.Picks.{pick_here, pick_below, pick_after}
use Rattle.forest.proofs.Edited.{edited_here, edited_below, edited_rest}
use Rattle.forest.proofs.Inserts.{ins_here, ins_below, ins_rest}
use Rattle.forest.proofs.Deletes.{del_off}

module _ {X : Type 0} where
  -- the parent of a place of the forest is the forest's own, or a place of the forest
  pub parent_inside : (s : ℕ) (v : Option ℕ) (u : ℕ) (ts : Forest X) → count s ts ≡ 1 → parent_in s v ts ≡ Some u → (v ≡ Some u) ⊎ (0 < count u ts)
  parent_inside s v u end c e = absurd (omega arith)
  parent_inside s v u (node p j ks ts) c e =
      elim (find s p j ks ts c) [
        | here d a b ↦ inl (sym (pick_here s p ks v (parent_in s (Some p) ks) (parent_in s v ts) d) ∙ e)
        | below d a b ↦
            ⊎_elim (λ l. let q : p ≡ u = cc in inr (omega (arith, one_eq p u q))) (λ l. inr (omega arith))
            (parent_inside s (Some p) u ks a (sym (pick_below s p ks v (parent_in s (Some p) ks) (parent_in s v ts) d (omega arith)) ∙ e))
        | after d a b ↦
            ⊎_elim (λ l. inl l) (λ l. inr (omega arith))
            (parent_inside s v u ts b (sym (pick_after s p ks v (parent_in s (Some p) ks) (parent_in s v ts) d a) ∙ e))
      ]

  -- F edits at s wherever s stands, and G edits at s among siblings
  module _ (s : ℕ) (F G : Forest X → Forest X)
      (F-below : (p : ℕ) (j : X) (ks ts : Forest X) → (p ≡ s → ⊥) → count s ts ≡ 0 → F (node p j ks ts) ≡ node p j (F ks) ts)
      (F-rest : (p : ℕ) (j : X) (ks ts : Forest X) → (p ≡ s → ⊥) → count s ks ≡ 0 → F (node p j ks ts) ≡ node p j ks (F ts))
      (FG-here : (p : ℕ) (j : X) (ks ts : Forest X) → p ≡ s → F (node p j ks ts) ≡ G (node p j ks ts))
      (G-rest : (p : ℕ) (j : X) (ks ts : Forest X) → (p ≡ s → ⊥) → G (node p j ks ts) ≡ node p j ks (G ts)) where
    among : (u : ℕ) (ts : Forest X) → count u ts ≡ 0 → count s ts ≡ 1 → parent_in s (Some u) ts ≡ Some u → F ts ≡ G ts
    among u end w c e = absurd (omega arith)
    among u (node p j ks ts) w c e =
        elim (find s p j ks ts c) [
          | here d a b ↦ FG-here p j ks ts d
          | below d a b ↦
              absurd (⊎_elim (λ l. let q : p ≡ u = cc in omega (arith, one_eq p u q)) (λ l. omega arith)
              (parent_inside s (Some p) u ks a (sym (pick_below s p ks (Some u) (parent_in s (Some p) ks) (parent_in s (Some u) ts) d (omega arith)) ∙ e)))
          | after d a b ↦
              F-rest p j ks ts d a
              ∙ (ap (λ z. node p j ks z) (among u ts (omega arith) b (sym (pick_after s p ks (Some u) (parent_in s (Some p) ks) (parent_in s (Some u) ts) d a) ∙ e))
              ∙ sym (G-rest p j ks ts d))
        ]

    pub local : (v : Option ℕ) (u : ℕ) (ts : Forest X) → Distinct ts → (v ≡ Some u → ⊥) → count s ts ≡ 1 → parent_in s v ts ≡ Some u → F ts ≡ edited u G ts
    local v u end q w c e = absurd (omega arith)
    local v u (node p j ks ts) q w c e =
        elim (find s p j ks ts c) [
          | here d a b ↦ absurd (w (sym (pick_here s p ks v (parent_in s (Some p) ks) (parent_in s v ts) d) ∙ e))
          | below d a b ↦
              let e' : parent_in s (Some p) ks ≡ Some u = sym (pick_below s p ks v (parent_in s (Some p) ks) (parent_in s v ts) d (omega arith)) ∙ e in
              F-below p j ks ts d b ∙ inside a e' (λ o. local (Some p) u ks (λ k. omega (arith, q k)) o a e') (cases_eq p u)
          | after d a b ↦
              let e' : parent_in s v ts ≡ Some u = sym (pick_after s p ks v (parent_in s (Some p) ks) (parent_in s v ts) d a) ∙ e in
              let l : 0 < count u ts = ⊎_elim (λ l. absurd (w l)) (λ l. l) (parent_inside s v u ts b e') in
              F-rest p j ks ts d a
              ∙ (ap (λ z. node p j ks z) (local v u ts (λ k. omega (arith, q k)) w b e')
              ∙ sym (edited_rest u G p j ks ts (λ r. omega (arith, q u, one_eq p u r)) (omega (arith, q u))))
        ]
      where
        inside : count s ks ≡ 1 → parent_in s (Some p) ks ≡ Some u → ((Some p ≡ Some u → ⊥) → F ks ≡ edited u G ks) → ((p ≡ u) ⊎ (p ≡ u → ⊥))
            → node p j (F ks) ts ≡ edited u G (node p j ks ts)
        inside a e r (inl d) =
            ap (λ z. node p j z ts) (among p ks (omega (arith, q p, one_same p)) a (e ∙ ap (λ z. Some z) (sym d)))
            ∙ sym (edited_here u G p j ks ts d)
        inside a e r (inr d) =
            let o : Some p ≡ Some u → ⊥ = λ x. d (let y : p ≡ u = cc in y) in
            let l : 0 < count u ks = ⊎_elim (λ x. absurd (o x)) (λ x. x) (parent_inside s (Some p) u ks a e) in
            ap (λ z. node p j z ts) (r o) ∙ sym (edited_below u G p j ks ts d (omega (arith, q u)))

  -- the insertion after s, and the removal of c, edit the children of the parent alone
  pub after_edits : (s n : ℕ) (i : X) (u : ℕ) (ts : Forest X) → Distinct ts → count s ts ≡ 1 → parent_in s None ts ≡ Some u
      → ins_after s n i ts ≡ edited u (put_after s n i) ts
  after_edits s n i u ts q c e =
      local s (ins_after s n i) (put_after s n i) (λ p j ks ts d b. ins_below s n i p j ks ts d b) (λ p j ks ts d a. ins_rest s n i p j ks ts d a)
      (λ p j ks ts e. ins_here s n i p j ks ts e ∙ sym (cond-true (eqb p s) (node p j ks (node n i end ts)) (node p j ks (put_after s n i ts)) (eq-eqb p s e)))
      (λ p j ks ts d. cond-false (eqb p s) (node p j ks (node n i end ts)) (node p j ks (put_after s n i ts)) (ne_eqb p s d))
      None u ts q (λ z. let y : ◌≡◌ {A = ℕ} 0 1 = cc in omega arith) c e

  pub delete_edits : (c u : ℕ) (ts : Forest X) → Distinct ts → count c ts ≡ 1 → parent_in c None ts ≡ Some u
      → delete c ts ≡ edited u (without c) ts
  delete_edits c u ts q o e =
      local c (delete c) (without c)
      (λ p j ks ts d b. cond-false (eqb p c) ts (node p j (delete c ks) (delete c ts)) (ne_eqb p c d) ∙ ap (λ z. node p j (delete c ks) z) (del_off c ts b))
      (λ p j ks ts d a. cond-false (eqb p c) ts (node p j (delete c ks) (delete c ts)) (ne_eqb p c d) ∙ ap (λ z. node p j z (delete c ts)) (del_off c ks a))
      (λ p j ks ts e. cond-true (eqb p c) ts (node p j (delete c ks) (delete c ts)) (eq-eqb p c e) ∙ sym (cond-true (eqb p c) ts (node p j ks (without c ts)) (eq-eqb p c e)))
      (λ p j ks ts d. cond-false (eqb p c) ts (node p j ks (without c ts)) (ne_eqb p c d))
      None u ts q (λ z. let y : ◌≡◌ {A = ℕ} 0 1 = cc in omega arith) o e
