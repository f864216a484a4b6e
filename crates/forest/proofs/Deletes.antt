-- A forest without the node c and all below it.
use Rattle.std.proofs.Common.{◌≡◌, ℕ, ◌+◌, ◌<◌, cond, eqb, ltb, ◌⊎◌, sym, refl, ap, ◌∙◌, subst, inl, inr, ⊎_elim, arith}
use Rattle.std.proofs.lemmas.Bool.{cases_eq, eq-eqb, ne_eqb, cond-true, cond-false, lt-ltb, le-ltb}
use Rattle.forest.specs.Forest.{Forest, end, node, one, count, size, Distinct, head_or, last_or}
use Rattle.forest.specs.Edits.{delete, kids}
use Rattle.forest.specs.Links.{none, Owns, Ups, Prevs, Nexts, Firsts, Lasts}
use Rattle.forest.proofs.Frames.{one_same, one_eq, prevs_kept, nexts_kept, firsts_kept, lasts_kept, here, below, after, find, head_inside, next_inside, up_inside, prev_inside, relinked}
use Rattle.forest.proofs.Appends.{last_inside}

-- q is no place of the forest
abbrev pub Out : {X : Type 0} → ℕ → Forest X → Type 0
Out q ts = (q ≡ none) ⊎ (count q ts ≡ 0)

module _ {X : Type 0} where
  pub out_off : (q k : ℕ) (ts : Forest X) → Out q ts → count none ts ≡ 0 → 0 < count k ts → k ≡ q → ⊥
  out_off q k ts (inl n) z l e = omega (arith, ap (λ y. count y ts) (e ∙ n))
  out_off q k ts (inr n) z l e = omega (arith, ap (λ y. count y ts) e)

  module _ (c : ℕ) where
    pub del_off : (ts : Forest X) → count c ts ≡ 0 → delete c ts ≡ ts
    del_off end z = refl
    del_off (node p j ks ts) z =
        cond-false (eqb p c) ts (node p j (delete c ks) (delete c ts)) (ne_eqb p c (λ e. omega (arith, one_eq p c e)))
        ∙ (ap (λ y. node p j y (delete c ts)) (del_off ks (omega arith)) ∙ ap (λ y. node p j ks y) (del_off ts (omega arith)))

    -- a property of the new forest and of the children of c, by where c stands
    pub by_del : (P : Forest X → Forest X → Type 0) (p : ℕ) (j : X) (ks ts : Forest X) → count c (node p j ks ts) ≡ 1
        → (p ≡ c → count c ks ≡ 0 → count c ts ≡ 0 → P ts ks)
        → ((p ≡ c → ⊥) → count c ks ≡ 1 → count c ts ≡ 0 → P (node p j (delete c ks) ts) (kids c ks))
        → ((p ≡ c → ⊥) → count c ks ≡ 0 → count c ts ≡ 1 → P (node p j ks (delete c ts)) (kids c ts))
        → P (delete c (node p j ks ts)) (kids c (node p j ks ts))
    by_del P p j ks ts o H B R =
        elim (find c p j ks ts o) [
          | here e a b ↦
              subst (λ y. P y (kids c (node p j ks ts))) (sym (cond-true (eqb p c) ts (node p j (delete c ks) (delete c ts)) (eq-eqb p c e)))
              (subst (λ y. P ts y) (sym (cond-true (eqb p c) ks (cond (ltb 0 (count c ks)) (kids c ks) (kids c ts)) (eq-eqb p c e))) (H e a b))
          | below d a b ↦
              subst (λ y. P y (kids c (node p j ks ts)))
              (sym (cond-false (eqb p c) ts (node p j (delete c ks) (delete c ts)) (ne_eqb p c d) ∙ ap (λ y. node p j (delete c ks) y) (del_off ts b)))
              (subst (λ y. P (node p j (delete c ks) ts) y)
              (sym (cond-false (eqb p c) ks (cond (ltb 0 (count c ks)) (kids c ks) (kids c ts)) (ne_eqb p c d)
              ∙ cond-true (ltb 0 (count c ks)) (kids c ks) (kids c ts) (lt-ltb 0 (count c ks) (omega arith)))) (B d a b))
          | after d a b ↦
              subst (λ y. P y (kids c (node p j ks ts)))
              (sym (cond-false (eqb p c) ts (node p j (delete c ks) (delete c ts)) (ne_eqb p c d) ∙ ap (λ y. node p j y (delete c ts)) (del_off ks a)))
              (subst (λ y. P (node p j ks (delete c ts)) y)
              (sym (cond-false (eqb p c) ks (cond (ltb 0 (count c ks)) (kids c ks) (kids c ts)) (ne_eqb p c d)
              ∙ cond-false (ltb 0 (count c ks)) (kids c ks) (kids c ts) (le-ltb 0 (count c ks) (omega arith)))) (R d a b))
        ]

    pub del_count : (k : ℕ) (ts : Forest X) → count c ts ≡ 1 → count k ts ≡ count k (delete c ts) + (one c k + count k (kids c ts))
    del_count k end o = absurd (omega arith)
    del_count k (node p j ks ts) o =
        by_del (λ d s. one p k + (count k ks + count k ts) ≡ count k d + (one c k + count k s)) p j ks ts o
        (λ e a b. omega (arith, ap (λ y. one y k) e)) (λ e a b. omega (arith, del_count k ks a)) (λ e a b. omega (arith, del_count k ts b))

    pub del_size : (ts : Forest X) → count c ts ≡ 1 → size ts ≡ size (delete c ts) + (1 + size (kids c ts))
    del_size end o = absurd (omega arith)
    del_size (node p j ks ts) o =
        by_del (λ d s. 1 + (size ks + size ts) ≡ size d + (1 + size s)) p j ks ts o
        (λ e a b. omega arith) (λ e a b. omega (arith, del_size ks a)) (λ e a b. omega (arith, del_size ts b))

    -- the children of c have their own links
    pub kid_owns : (f : ℕ → X) (ts : Forest X) → count c ts ≡ 1 → Owns f ts → Owns f (kids c ts)
    kid_owns f end o h = tt
    kid_owns f (node p j ks ts) o h =
        by_del (λ _ s. Owns f s) p j ks ts o (λ e a b. h.1) (λ e a b. kid_owns f ks a h.1) (λ e a b. kid_owns f ts b h.2)

    pub kid_nexts : (f : ℕ → ℕ) (ts : Forest X) → count c ts ≡ 1 → Nexts f ts → Nexts f (kids c ts)
    kid_nexts f end o h = tt
    kid_nexts f (node p j ks ts) o h =
        by_del (λ _ s. Nexts f s) p j ks ts o (λ e a b. h.1) (λ e a b. kid_nexts f ks a h.1) (λ e a b. kid_nexts f ts b h.2)

    pub kid_firsts : (f : ℕ → ℕ) (ts : Forest X) → count c ts ≡ 1 → Firsts f ts → Firsts f (kids c ts)
    kid_firsts f end o h = tt
    kid_firsts f (node p j ks ts) o h =
        by_del (λ _ s. Firsts f s) p j ks ts o (λ e a b. h.1) (λ e a b. kid_firsts f ks a h.1) (λ e a b. kid_firsts f ts b h.2)

    pub kid_lasts : (f : ℕ → ℕ) (ts : Forest X) → count c ts ≡ 1 → Lasts f ts → Lasts f (kids c ts)
    kid_lasts f end o h = tt
    kid_lasts f (node p j ks ts) o h =
        by_del (λ _ s. Lasts f s) p j ks ts o (λ e a b. h.1) (λ e a b. kid_lasts f ks a h.1) (λ e a b. kid_lasts f ts b h.2)

    -- and the links of c itself lead to them
    pub kid_head : (f : ℕ → ℕ) (ts : Forest X) → count c ts ≡ 1 → Firsts f ts → f c ≡ head_or (kids c ts) none
    kid_head f end o h = absurd (omega arith)
    kid_head f (node p j ks ts) o h =
        by_del (λ _ s. f c ≡ head_or s none) p j ks ts o (λ e a b. ap f (sym e) ∙ h.0) (λ e a b. kid_head f ks a h.1) (λ e a b. kid_head f ts b h.2)

    pub kid_last : (f : ℕ → ℕ) (ts : Forest X) → count c ts ≡ 1 → Lasts f ts → f c ≡ last_or (kids c ts) none
    kid_last f end o h = absurd (omega arith)
    kid_last f (node p j ks ts) o h =
        by_del (λ _ s. f c ≡ last_or s none) p j ks ts o (λ e a b. ap f (sym e) ∙ h.0) (λ e a b. kid_last f ks a h.1) (λ e a b. kid_last f ts b h.2)

    -- neither the prev nor the parent of c is below c
    pub prev_apart : (f : ℕ → ℕ) (q : ℕ) (ts : Forest X) → Distinct ts → Out q ts → count c ts ≡ 1 → Prevs f q ts → Out (f c) (kids c ts)
    prev_apart f q end u w o h = absurd (omega arith)
    prev_apart f q (node p j ks ts) u w o h =
        by_del (λ _ s. Out (f c) s) p j ks ts o
        (λ e a b. let q_is : f c ≡ q = ap f (sym e) ∙ h.0 in
        ⊎_elim (λ l. inl (q_is ∙ l)) (λ l. inr (omega (arith, ap (λ y. count y ks) q_is))) w)
        (λ e a b. prev_apart f none ks (λ k. omega (arith, u k)) (inl refl) a h.1)
        (λ e a b. prev_apart f p ts (λ k. omega (arith, u k)) (inr (omega (arith, u p, one_same p))) b h.2)

    pub up_apart : (f : ℕ → ℕ) (v : ℕ) (ts : Forest X) → Distinct ts → count v ts ≡ 0 → count c ts ≡ 1 → Ups f v ts → count (f c) (kids c ts) ≡ 0
    up_apart f v end u w o h = absurd (omega arith)
    up_apart f v (node p j ks ts) u w o h =
        by_del (λ _ s. count (f c) s ≡ 0) p j ks ts o
        (λ e a b. omega (arith, ap (λ y. count y ks) (ap f (sym e) ∙ h.0)))
        (λ e a b. up_apart f p ks (λ k. omega (arith, u k)) (omega (arith, u p, one_same p)) a h.1)
        (λ e a b. up_apart f v ts (λ k. omega (arith, u k)) (omega arith) b h.2)

    pub next_apart : (f : ℕ → ℕ) (ts : Forest X) → Distinct ts → count none ts ≡ 0 → count c ts ≡ 1 → Nexts f ts → count (f c) (kids c ts) ≡ 0
    next_apart f end u z o h = absurd (omega arith)
    next_apart f (node p j ks ts) u z o h =
        by_del (λ _ s. count (f c) s ≡ 0) p j ks ts o
        (λ e a b. let q_is : f c ≡ head_or ts none = ap f (sym e) ∙ h.0 in
        ⊎_elim (λ l. omega (arith, ap (λ y. count y ks) (q_is ∙ l))) (λ l. omega (arith, u (head_or ts none), ap (λ y. count y ks) q_is)) (head_inside ts))
        (λ e a b. next_apart f ks (λ k. omega (arith, u k)) (omega arith) a h.1)
        (λ e a b. next_apart f ts (λ k. omega (arith, u k)) (omega arith) b h.2)

    pub del_owns : (f : ℕ → X) (ts : Forest X) → count c ts ≡ 1 → Owns f ts → Owns f (delete c ts)
    del_owns f end o h = tt
    del_owns f (node p j ks ts) o h =
        by_del (λ d _. Owns f d) p j ks ts o (λ e a b. h.2) (λ e a b. (h.0, del_owns f ks a h.1, h.2)) (λ e a b. (h.0, h.1, del_owns f ts b h.2))

    pub del_ups : (f : ℕ → ℕ) (v : ℕ) (ts : Forest X) → count c ts ≡ 1 → Ups f v ts → Ups f v (delete c ts)
    del_ups f v end o h = tt
    del_ups f v (node p j ks ts) o h =
        by_del (λ d _. Ups f v d) p j ks ts o (λ e a b. h.2) (λ e a b. (h.0, del_ups f p ks a h.1, h.2)) (λ e a b. (h.0, h.1, del_ups f v ts b h.2))

    -- the next of what stands before c is the next of c
    pub del_head : (ts : Forest X) (x : ℕ) → count c ts ≡ 1 → (head_or ts none ≡ c → ⊥) → head_or (delete c ts) x ≡ head_or ts x
    del_head end x o d = refl
    del_head (node p j ks ts) x o d =
        by_del (λ y _. head_or y x ≡ p) p j ks ts o (λ e a b. absurd (d e)) (λ e a b. refl) (λ e a b. refl)

    pub del_head_c : (nx : ℕ → ℕ) (ts : Forest X) → count c ts ≡ 1 → head_or ts none ≡ c → Nexts nx ts → head_or (delete c ts) none ≡ nx c
    del_head_c nx end o d h = absurd (omega arith)
    del_head_c nx (node p j ks ts) o d h =
        by_del (λ y _. head_or y none ≡ nx c) p j ks ts o (λ e a b. sym (ap nx (sym e) ∙ h.0)) (λ e a b. absurd (e d)) (λ e a b. absurd (e d))

    pub prev_head : (pv : ℕ → ℕ) (q : ℕ) (ts : Forest X) → count c ts ≡ 1 → (head_or ts none ≡ c → ⊥) → Prevs pv q ts → (pv c ≡ none) ⊎ (0 < count (pv c) ts)
    prev_head pv q end o d h = absurd (omega arith)
    prev_head pv q (node p j ks ts) o d h =
        elim (find c p j ks ts o) [
          | here e a b ↦ absurd (d e)
          | below e a b ↦ ⊎_elim (λ l. inl l) (λ w. ⊎_elim (λ l. inl l) (λ r. inr (omega arith)) w) (prev_inside pv none c ks h.1 a)
          | after e a b ↦
              ⊎_elim (λ l. inr (omega (arith, one_eq p (pv c) (sym l)))) (λ w. ⊎_elim (λ l. inl l) (λ r. inr (omega arith)) w) (prev_inside pv p c ts h.2 b)
        ]

    head_prev : (pv : ℕ → ℕ) (q : ℕ) (ts : Forest X) → count c ts ≡ 1 → head_or ts none ≡ c → Prevs pv q ts → pv c ≡ q
    head_prev pv q end o d h = absurd (omega arith)
    head_prev pv q (node p j ks ts) o d h = ap pv (sym d) ∙ h.0

    pub head_up : (up : ℕ → ℕ) (v : ℕ) (ts : Forest X) → count c ts ≡ 1 → head_or ts none ≡ c → Ups up v ts → up c ≡ v
    head_up up v end o d h = absurd (omega arith)
    head_up up v (node p j ks ts) o d h = ap up (sym d) ∙ h.0

    module _ (pv f g : ℕ → ℕ) (to : (pv c ≡ none → ⊥) → g (pv c) ≡ f c) (off : (k : ℕ) → (k ≡ c → ⊥) → (k ≡ pv c → ⊥) → g k ≡ f k) where
      nexts_off : (ts : Forest X) → count c ts ≡ 0 → count none ts ≡ 0 → Out (pv c) ts → Nexts f ts → Nexts g ts
      nexts_off ts a z w h = nexts_kept f g ts (λ k l. off k (λ e. omega (arith, ap (λ y. count y ts) e)) (out_off (pv c) k ts w z l)) h

      pub del_nexts : (q : ℕ) (ts : Forest X) → Distinct ts → count none ts ≡ 0 → Out q ts → count c ts ≡ 1
          → Prevs pv q ts → Nexts f ts → Nexts g (delete c ts)
      del_nexts q end u z w o x h = tt
      del_nexts q (node p j ks ts) u z w o x h =
          by_del (λ d _. Nexts g d) p j ks ts o
          (λ e a b. let q_is : pv c ≡ q = ap pv (sym e) ∙ x.0 in
          nexts_off ts b (omega arith) (⊎_elim (λ l. inl (q_is ∙ l)) (λ l. inr (omega (arith, ap (λ y. count y ts) q_is))) w) h.2)
          (λ e a b. let i : (pv c ≡ none) ⊎ (0 < count (pv c) ks) = ⊎_elim (λ l. inl l) (λ r. r) (prev_inside pv none c ks x.1 a) in (
            off p e (λ r. ⊎_elim (λ l. omega (arith, one_eq p none (r ∙ l))) (λ l. omega (arith, u (pv c), one_eq p (pv c) r)) i) ∙ h.0,
            del_nexts none ks (λ k. omega (arith, u k)) (omega arith) (inl refl) a x.1 h.1,
            nexts_off ts b (omega arith) (⊎_elim (λ l. inl l) (λ l. inr (omega (arith, u (pv c)))) i) h.2,
          ))
          (λ e a b. let i : (pv c ≡ p) ⊎ ((pv c ≡ none) ⊎ (0 < count (pv c) ts)) = prev_inside pv p c ts x.2 b in (
            p_next e b (cases_eq (head_or ts none) c),
            nexts_off ks a (omega arith)
                (⊎_elim (λ l. inr (omega (arith, u p, one_same p, ap (λ y. count y ks) l))) (λ v. ⊎_elim (λ l. inl l) (λ l. inr (omega (arith, u (pv c)))) v) i) h.1,
            del_nexts p ts (λ k. omega (arith, u k)) (omega arith) (inr (omega (arith, u p, one_same p))) b x.2 h.2,
          ))
        where
          p_next : (p ≡ c → ⊥) → count c ts ≡ 1 → ((head_or ts none ≡ c) ⊎ (head_or ts none ≡ c → ⊥)) → g p ≡ head_or (delete c ts) none
          p_next e b (inl l) =
              let q_is : pv c ≡ p = head_prev pv p ts b l x.2 in
              ap g (sym q_is) ∙ (to (λ r. omega (arith, one_eq p none (sym q_is ∙ r))) ∙ sym (del_head_c f ts b l h.2))
          p_next e b (inr l) =
              off p e (λ r. ⊎_elim (λ m. omega (arith, one_eq p none (r ∙ m))) (λ m. omega (arith, u (pv c), one_eq p (pv c) r)) (prev_head pv p ts b l x.2))
              ∙ (h.0 ∙ sym (del_head ts none b l))

    module _ (nx f g : ℕ → ℕ) (to : (nx c ≡ none → ⊥) → g (nx c) ≡ f c) (off : (k : ℕ) → (k ≡ nx c → ⊥) → g k ≡ f k) where
      prevs_off : (q : ℕ) (ts : Forest X) → count none ts ≡ 0 → Out (nx c) ts → Prevs f q ts → Prevs g q ts
      prevs_off q ts z w h = prevs_kept f g q ts (λ k l. off k (out_off (nx c) k ts w z l)) h

      pub del_prevs : (q : ℕ) (ts : Forest X) → Distinct ts → count none ts ≡ 0 → count c ts ≡ 1
          → Nexts nx ts → Prevs f q ts → Prevs g q (delete c ts)
      del_prevs q end u z o x h = tt
      del_prevs q (node p j ks ts) u z o x h =
          by_del (λ d _. Prevs g q d) p j ks ts o
          (λ e a b. let q_is : nx c ≡ head_or ts none = ap nx (sym e) ∙ x.0 in
          relinked f g p q ts
          (⊎_elim (λ l. inr (sym q_is ∙ l)) (λ l. inl (ap g (sym q_is) ∙ (to l ∙ (ap f (sym e) ∙ h.0)))) (cases_eq (nx c) none))
          (λ k d l. off k (λ r. d (r ∙ q_is))) (λ k. omega (arith, u k)) (omega arith) h.2)
          (λ e a b. let i : (nx c ≡ none) ⊎ (0 < count (nx c) ks) = next_inside nx c ks x.1 a in (
            off p (λ r. ⊎_elim (λ l. omega (arith, one_eq p none (r ∙ l))) (λ l. omega (arith, u (nx c), one_eq p (nx c) r)) i) ∙ h.0,
            del_prevs none ks (λ k. omega (arith, u k)) (omega arith) a x.1 h.1,
            prevs_off p ts (omega arith) (⊎_elim (λ l. inl l) (λ l. inr (omega (arith, u (nx c)))) i) h.2,
          ))
          (λ e a b. let i : (nx c ≡ none) ⊎ (0 < count (nx c) ts) = next_inside nx c ts x.2 b in (
            off p (λ r. ⊎_elim (λ l. omega (arith, one_eq p none (r ∙ l))) (λ l. omega (arith, u (nx c), one_eq p (nx c) r)) i) ∙ h.0,
            prevs_off none ks (omega arith) (⊎_elim (λ l. inl l) (λ l. inr (omega (arith, u (nx c)))) i) h.1,
            del_prevs p ts (λ k. omega (arith, u k)) (omega arith) b x.2 h.2,
          ))

    -- a child of v that has no prev is the first child
    pub top_first : (up pv : ℕ → ℕ) (v q : ℕ) (ts : Forest X) → count v ts ≡ 0 → count none ts ≡ 0 → count c ts ≡ 1 → Ups up v ts → Prevs pv q ts
        → up c ≡ v → pv c ≡ none → head_or ts none ≡ c
    top_first up pv v q end w z o y x e1 e2 = absurd (omega arith)
    top_first up pv v q (node p j ks ts) w z o y x e1 e2 =
        elim (find c p j ks ts o) [
          | here e a b ↦ e
          | below e a b ↦ absurd (⊎_elim (λ l. omega (arith, one_eq p v (sym l ∙ e1))) (λ r. omega (arith, ap (λ k. count k ks) e1)) (up_inside up p c ks y.1 a))
          | after e a b ↦
              absurd (omega (arith, one_eq p none (sym (head_prev pv p ts b (top_first up pv v p ts (omega arith) (omega arith) b y.2 x.2 e1 e2) x.2) ∙ e2)))
        ]

    -- a child of v that has no next is the last child, and the other way round
    pub top_last : (up nx : ℕ → ℕ) (v x : ℕ) (ts : Forest X) → count v ts ≡ 0 → count none ts ≡ 0 → count c ts ≡ 1 → Ups up v ts → Nexts nx ts
        → up c ≡ v → nx c ≡ none → last_or ts x ≡ c
    top_last up nx v x end w z o y h e1 e2 = absurd (omega arith)
    top_last up nx v x (node p j ks ts) w z o y h e1 e2 =
        elim (find c p j ks ts o) [
          | here e a b ↦ no_rest ts (sym h.0 ∙ (ap nx e ∙ e2)) (omega arith) e
          | below e a b ↦ absurd (⊎_elim (λ l. omega (arith, one_eq p v (sym l ∙ e1))) (λ r. omega (arith, ap (λ k. count k ks) e1)) (up_inside up p c ks y.1 a))
          | after e a b ↦ top_last up nx v p ts (omega arith) (omega arith) b y.2 h.2 e1 e2
        ]
      where
        no_rest : (us : Forest X) → head_or us none ≡ none → count none us ≡ 0 → p ≡ c → last_or us p ≡ c
        no_rest end e1 e2 e = e
        no_rest (node a j ks us) e1 e2 e = absurd (omega (arith, one_eq a none e1))

    -- siblings whose last is c, where c is not among them, are none
    last_end : (us : Forest X) (x : ℕ) → count c us ≡ 0 → last_or us x ≡ c → us ≡ end
    last_end end x o e = refl
    last_end (node a j ks us) x o e = absurd (omega (arith, last_inside a j ks us x, ap (λ k. count k (node a j ks us)) e))

    last_is : (up nx : ℕ → ℕ) (v x : ℕ) (ts : Forest X) → count c ts ≡ 1 → Ups up v ts → Nexts nx ts → last_or ts x ≡ c → (up c ≡ v) × (nx c ≡ none)
    last_is up nx v x end o y h e = absurd (omega arith)
    last_is up nx v x (node p j ks ts) o y h e =
        elim (find c p j ks ts o) [
          | here d a b ↦ (ap up (sym d) ∙ y.0, ap nx (sym d) ∙ (h.0 ∙ ap (λ k. head_or k none) (last_end ts p b e)))
          | below d a b ↦ absurd (d (ap (λ k. last_or k p) (sym (last_end ts p b e)) ∙ e))
          | after d a b ↦ last_is up nx v p ts b y.2 h.2 e
        ]

    del_last_c : (pv : ℕ → ℕ) (x : ℕ) (ts : Forest X) → count c ts ≡ 1 → Prevs pv x ts → last_or ts x ≡ c → last_or (delete c ts) x ≡ pv c
    del_last_c pv x end o h e = absurd (omega arith)
    del_last_c pv x (node p j ks ts) o h e =
        by_del (λ y _. last_or y x ≡ pv c) p j ks ts o
        (λ d a b. ap (λ k. last_or k x) (last_end ts p b e) ∙ (sym h.0 ∙ ap pv d))
        (λ d a b. absurd (d (ap (λ k. last_or k p) (sym (last_end ts p b e)) ∙ e)))
        (λ d a b. del_last_c pv p ts b h.2 e)

    pub del_last_off : (x : ℕ) (ts : Forest X) → count c ts ≡ 1 → (last_or ts x ≡ c → ⊥) → last_or (delete c ts) x ≡ last_or ts x
    del_last_off x end o e = refl
    del_last_off x (node p j ks ts) o e =
        by_del (λ y _. last_or y x ≡ last_or ts p) p j ks ts o
        (λ d a b. some_rest ts (λ l. e (ap (λ k. last_or k p) l ∙ d))) (λ d a b. refl) (λ d a b. del_last_off p ts b e)
      where
        some_rest : (us : Forest X) → (us ≡ end → ⊥) → last_or us x ≡ last_or us p
        some_rest end e = absurd (e refl)
        some_rest (node a j ks us) e = refl

    module _ (pv up nx f g : ℕ → ℕ) (to : pv c ≡ none → g (up c) ≡ nx c) (off : (k : ℕ) → ((k ≡ up c → ⊥) ⊎ (pv c ≡ none → ⊥)) → g k ≡ f k) where
      firsts_off : (ts : Forest X) → count (up c) ts ≡ 0 → Firsts f ts → Firsts g ts
      firsts_off ts a h = firsts_kept f g ts (λ k l. off k (inl (λ e. omega (arith, ap (λ y. count y ts) e)))) h

      pub del_firsts : (v q : ℕ) (ts : Forest X) → Distinct ts → count none ts ≡ 0 → count v ts ≡ 0 → count c ts ≡ 1
          → Prevs pv q ts → Ups up v ts → Nexts nx ts → Firsts f ts → Firsts g (delete c ts)
      del_firsts v q end u z w o x y m h = tt
      del_firsts v q (node p j ks ts) u z w o x y m h =
          by_del (λ d _. Firsts g d) p j ks ts o
          (λ e a b. firsts_off ts (omega (arith, ap (λ k. count k ts) (ap up (sym e) ∙ y.0))) h.2)
          (λ e a b. (
            p_first a (cases_eq (head_or ks none) c),
            del_firsts p none ks (λ k. omega (arith, u k)) (omega arith) (omega (arith, u p, one_same p)) a x.1 y.1 m.1 h.1,
            firsts_off ts (⊎_elim (λ l. omega (arith, u (up c), one_eq p (up c) (sym l))) (λ r. omega (arith, u (up c))) (up_inside up p c ks y.1 a)) h.2,
          ))
          (λ e a b. let i : (up c ≡ v) ⊎ (0 < count (up c) ts) = up_inside up v c ts y.2 b in (
            off p (inl (λ r. ⊎_elim (λ l. omega (arith, one_eq p v (r ∙ l))) (λ l. omega (arith, u (up c), one_eq p (up c) r)) i)) ∙ h.0,
            firsts_off ks (⊎_elim (λ l. omega (arith, ap (λ k. count k ks) l)) (λ l. omega (arith, u (up c))) i) h.1,
            del_firsts v p ts (λ k. omega (arith, u k)) (omega arith) (omega arith) b x.2 y.2 m.2 h.2,
          ))
        where
          p_first : count c ks ≡ 1 → ((head_or ks none ≡ c) ⊎ (head_or ks none ≡ c → ⊥)) → g p ≡ head_or (delete c ks) none
          p_first a (inl l) =
              ap g (sym (head_up up p ks a l y.1)) ∙ (to (head_prev pv none ks a l x.1) ∙ sym (del_head_c nx ks a l m.1))
          p_first a (inr l) =
              off p (not_both (cases_eq (up c) p)) ∙ (h.0 ∙ sym (del_head ks none a l))
            where
              not_both : ((up c ≡ p) ⊎ (up c ≡ p → ⊥)) → (p ≡ up c → ⊥) ⊎ (pv c ≡ none → ⊥)
              not_both (inl e) = inr (λ r. l (top_first up pv p none ks (omega (arith, u p, one_same p)) (omega arith) a y.1 x.1 e r))
              not_both (inr e) = inl (λ r. e (sym r))

    module _ (pv up nx f g : ℕ → ℕ) (to : nx c ≡ none → g (up c) ≡ pv c) (off : (k : ℕ) → ((k ≡ up c → ⊥) ⊎ (nx c ≡ none → ⊥)) → g k ≡ f k) where
      lasts_off : (ts : Forest X) → count (up c) ts ≡ 0 → Lasts f ts → Lasts g ts
      lasts_off ts a h = lasts_kept f g ts (λ k l. off k (inl (λ e. omega (arith, ap (λ y. count y ts) e)))) h

      pub del_lasts : (v q : ℕ) (ts : Forest X) → Distinct ts → count none ts ≡ 0 → count v ts ≡ 0 → count c ts ≡ 1
          → Prevs pv q ts → Ups up v ts → Nexts nx ts → Lasts f ts → Lasts g (delete c ts)
      del_lasts v q end u z w o x y m h = tt
      del_lasts v q (node p j ks ts) u z w o x y m h =
          by_del (λ d _. Lasts g d) p j ks ts o
          (λ e a b. lasts_off ts (omega (arith, ap (λ k. count k ts) (ap up (sym e) ∙ y.0))) h.2)
          (λ e a b. (
            p_last a (cases_eq (last_or ks none) c),
            del_lasts p none ks (λ k. omega (arith, u k)) (omega arith) (omega (arith, u p, one_same p)) a x.1 y.1 m.1 h.1,
            lasts_off ts (⊎_elim (λ l. omega (arith, u (up c), one_eq p (up c) (sym l))) (λ r. omega (arith, u (up c))) (up_inside up p c ks y.1 a)) h.2,
          ))
          (λ e a b. let i : (up c ≡ v) ⊎ (0 < count (up c) ts) = up_inside up v c ts y.2 b in (
            off p (inl (λ r. ⊎_elim (λ l. omega (arith, one_eq p v (r ∙ l))) (λ l. omega (arith, u (up c), one_eq p (up c) r)) i)) ∙ h.0,
            lasts_off ks (⊎_elim (λ l. omega (arith, ap (λ k. count k ks) l)) (λ l. omega (arith, u (up c))) i) h.1,
            del_lasts v p ts (λ k. omega (arith, u k)) (omega arith) (omega arith) b x.2 y.2 m.2 h.2,
          ))
        where
          p_last : count c ks ≡ 1 → ((last_or ks none ≡ c) ⊎ (last_or ks none ≡ c → ⊥)) → g p ≡ last_or (delete c ks) none
          p_last a (inl l) =
              let i : (up c ≡ p) × (nx c ≡ none) = last_is up nx p none ks a y.1 m.1 l in
              ap g (sym i.0) ∙ (to i.1 ∙ sym (del_last_c pv none ks a x.1 l))
          p_last a (inr l) =
              off p (not_both (cases_eq (up c) p)) ∙ (h.0 ∙ sym (del_last_off none ks a l))
            where
              not_both : ((up c ≡ p) ⊎ (up c ≡ p → ⊥)) → (p ≡ up c → ⊥) ⊎ (nx c ≡ none → ⊥)
              not_both (inl e) = inr (λ r. l (top_last up nx p none ks (omega (arith, u p, one_same p)) (omega arith) a y.1 m.1 e r))
              not_both (inr e) = inl (λ r. e (sym r))

    -- c is neither its own prev nor its own parent
    pub prev_self : (pv : ℕ → ℕ) (q : ℕ) (ts : Forest X) → Distinct ts → count none ts ≡ 0 → Out q ts → count c ts ≡ 1 → Prevs pv q ts → pv c ≡ c → ⊥
    prev_self pv q end u z w o h e = omega arith
    prev_self pv q (node p j ks ts) u z w o h e =
        elim (find c p j ks ts o) [
          | here d a b ↦ out_off q c (node p j ks ts) w z (omega arith) (sym e ∙ (ap pv (sym d) ∙ h.0))
          | below d a b ↦ prev_self pv none ks (λ k. omega (arith, u k)) (omega arith) (inl refl) a h.1 e
          | after d a b ↦ prev_self pv p ts (λ k. omega (arith, u k)) (omega arith) (inr (omega (arith, u p, one_same p))) b h.2 e
        ]

    pub up_self : (up : ℕ → ℕ) (v : ℕ) (ts : Forest X) → Distinct ts → count v ts ≡ 0 → count c ts ≡ 1 → Ups up v ts → up c ≡ c → ⊥
    up_self up v end u w o h e = omega arith
    up_self up v (node p j ks ts) u w o h e =
        elim (find c p j ks ts o) [
          | here d a b ↦ omega (arith, ap (λ k. count k (node p j ks ts)) (sym e ∙ (ap up (sym d) ∙ h.0)))
          | below d a b ↦ up_self up p ks (λ k. omega (arith, u k)) (omega (arith, u p, one_same p)) a h.1 e
          | after d a b ↦ up_self up v ts (λ k. omega (arith, u k)) (omega arith) b h.2 e
        ]
