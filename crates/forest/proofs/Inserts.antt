-- A new leaf n right after the sibling s.
use Rattle.std.proofs.Common.{◌≡◌, ℕ, ◌+◌, ◌<◌, eqb, ◌⊎◌, sym, refl, ap, ◌∙◌, subst, inl, inr, ⊎_elim, arith}
use Rattle.std.proofs.lemmas.Bool.{cases_eq, eq-eqb, ne_eqb, cond-true, cond-false}
use Rattle.forest.specs.Forest.{Forest, end, node, one, count, size, Distinct, head_or, last_or}
use Rattle.forest.specs.Edits.{ins_after}
use Rattle.forest.specs.Links.{none, Owns, Ups, Prevs, Nexts, Firsts, Lasts}
use Rattle.forest.proofs.Frames.{Same, one_same, one_eq, owns_kept, ups_kept, prevs_kept, nexts_kept, firsts_kept, lasts_kept, here, below, after, find, head_inside, next_inside, up_inside, relinked}

module _ {X : Type 0} where
  module _ (s n : ℕ) (i : X) where
    pub ins_off : (ts : Forest X) → count s ts ≡ 0 → ins_after s n i ts ≡ ts
    ins_off end c = refl
    ins_off (node p j ks ts) c =
        let d : p ≡ s → ⊥ = λ e. omega (arith, one_eq p s e) in
        cond-false (eqb p s) (node p j ks (node n i end ts)) (node p j (ins_after s n i ks) (ins_after s n i ts)) (ne_eqb p s d)
        ∙ (ap (λ z. node p j z (ins_after s n i ts)) (ins_off ks (omega arith)) ∙ ap (λ z. node p j ks z) (ins_off ts (omega arith)))

    pub ins_here : (p : ℕ) (j : X) (ks ts : Forest X) → p ≡ s → ins_after s n i (node p j ks ts) ≡ node p j ks (node n i end ts)
    ins_here p j ks ts e =
        cond-true (eqb p s) (node p j ks (node n i end ts)) (node p j (ins_after s n i ks) (ins_after s n i ts)) (eq-eqb p s e)

    pub ins_below : (p : ℕ) (j : X) (ks ts : Forest X) → (p ≡ s → ⊥) → count s ts ≡ 0 → ins_after s n i (node p j ks ts) ≡ node p j (ins_after s n i ks) ts
    ins_below p j ks ts d c =
        cond-false (eqb p s) (node p j ks (node n i end ts)) (node p j (ins_after s n i ks) (ins_after s n i ts)) (ne_eqb p s d)
        ∙ ap (λ z. node p j (ins_after s n i ks) z) (ins_off ts c)

    pub ins_rest : (p : ℕ) (j : X) (ks ts : Forest X) → (p ≡ s → ⊥) → count s ks ≡ 0 → ins_after s n i (node p j ks ts) ≡ node p j ks (ins_after s n i ts)
    ins_rest p j ks ts d c =
        cond-false (eqb p s) (node p j ks (node n i end ts)) (node p j (ins_after s n i ks) (ins_after s n i ts)) (ne_eqb p s d)
        ∙ ap (λ z. node p j z (ins_after s n i ts)) (ins_off ks c)

    -- a property of the new forest, by where s stands
    pub by_where : (P : Forest X → Type 0) (p : ℕ) (j : X) (ks ts : Forest X) → count s (node p j ks ts) ≡ 1
        → (p ≡ s → count s ks ≡ 0 → count s ts ≡ 0 → P (node p j ks (node n i end ts)))
        → ((p ≡ s → ⊥) → count s ks ≡ 1 → count s ts ≡ 0 → P (node p j (ins_after s n i ks) ts))
        → ((p ≡ s → ⊥) → count s ks ≡ 0 → count s ts ≡ 1 → P (node p j ks (ins_after s n i ts)))
        → P (ins_after s n i (node p j ks ts))
    by_where P p j ks ts c H B R =
        elim (find s p j ks ts c) [
          | here e a b ↦ subst P (sym (ins_here p j ks ts e)) (H e a b)
          | below d a b ↦ subst P (sym (ins_below p j ks ts d b)) (B d a b)
          | after d a b ↦ subst P (sym (ins_rest p j ks ts d a)) (R d a b)
        ]

    pub ins_count : (k : ℕ) (ts : Forest X) → count s ts ≡ 1 → count k (ins_after s n i ts) ≡ one n k + count k ts
    ins_count k end c = omega arith
    ins_count k (node p j ks ts) c =
        by_where (λ z. count k z ≡ one n k + count k (node p j ks ts)) p j ks ts c
        (λ e a b. omega arith) (λ d a b. omega (arith, ins_count k ks a)) (λ d a b. omega (arith, ins_count k ts b))

    pub ins_size : (ts : Forest X) → count s ts ≡ 1 → size (ins_after s n i ts) ≡ 1 + size ts
    ins_size end c = omega arith
    ins_size (node p j ks ts) c =
        by_where (λ z. size z ≡ 1 + size (node p j ks ts)) p j ks ts c
        (λ e a b. omega arith) (λ d a b. omega (arith, ins_size ks a)) (λ d a b. omega (arith, ins_size ts b))

    pub ins_head : (ts : Forest X) (x : ℕ) → count s ts ≡ 1 → head_or (ins_after s n i ts) x ≡ head_or ts x
    ins_head end x c = refl
    ins_head (node p j ks ts) x c =
        by_where (λ z. head_or z x ≡ p) p j ks ts c (λ e a b. refl) (λ d a b. refl) (λ d a b. refl)

    module _ (f g : ℕ → X) (at : g n ≡ i) (off : (k : ℕ) → (k ≡ n → ⊥) → g k ≡ f k) where
      same_owns : (ts : Forest X) → count n ts ≡ 0 → Same f g ts
      same_owns ts c k h = off k (λ e. omega (arith, ap (λ z. count z ts) e))

      pub ins_owns : (ts : Forest X) → count s ts ≡ 1 → count n ts ≡ 0 → Owns f ts → Owns g (ins_after s n i ts)
      ins_owns end c w h = tt
      ins_owns (node p j ks ts) c w h =
          let p_is : g p ≡ j = off p (λ e. omega (arith, one_eq p n e)) ∙ h.0 in
          let K : Owns g ks = owns_kept f g ks (same_owns ks (omega arith)) h.1 in
          let R : Owns g ts = owns_kept f g ts (same_owns ts (omega arith)) h.2 in
          by_where (Owns g) p j ks ts c
          (λ e a b. (p_is, K, (at, tt, R)))
          (λ d a b. (p_is, ins_owns ks a (omega arith) h.1, R))
          (λ d a b. (p_is, K, ins_owns ts b (omega arith) h.2))

    module _ (f g : ℕ → ℕ) where
      same_off : (x : ℕ) (ts : Forest X) → ((k : ℕ) → (k ≡ x → ⊥) → g k ≡ f k) → count x ts ≡ 0 → Same f g ts
      same_off x ts off c k h = off k (λ e. omega (arith, ap (λ z. count z ts) e))

      pub ins_ups : (u : ℕ) (ts : Forest X) → g n ≡ f s → ((k : ℕ) → (k ≡ n → ⊥) → g k ≡ f k)
          → count s ts ≡ 1 → count n ts ≡ 0 → Ups f u ts → Ups g u (ins_after s n i ts)
      ins_ups u end at off c w h = tt
      ins_ups u (node p j ks ts) at off c w h =
          let p_is : g p ≡ u = off p (λ e. omega (arith, one_eq p n e)) ∙ h.0 in
          let K : Ups g p ks = ups_kept f g p ks (same_off n ks off (omega arith)) h.1 in
          let R : Ups g u ts = ups_kept f g u ts (same_off n ts off (omega arith)) h.2 in
          by_where (Ups g u) p j ks ts c
          (λ e a b. (p_is, K, (at ∙ (ap f (sym e) ∙ h.0), tt, R)))
          (λ d a b. (p_is, ins_ups p ks at off a (omega arith) h.1, R))
          (λ d a b. (p_is, K, ins_ups u ts at off b (omega arith) h.2))

      pub ins_firsts : (ts : Forest X) → g n ≡ none → ((k : ℕ) → (k ≡ n → ⊥) → g k ≡ f k)
          → count s ts ≡ 1 → count n ts ≡ 0 → Firsts f ts → Firsts g (ins_after s n i ts)
      ins_firsts end at off c w h = tt
      ins_firsts (node p j ks ts) at off c w h =
          let p_is : g p ≡ head_or ks none = off p (λ e. omega (arith, one_eq p n e)) ∙ h.0 in
          let K : Firsts g ks = firsts_kept f g ks (same_off n ks off (omega arith)) h.1 in
          let R : Firsts g ts = firsts_kept f g ts (same_off n ts off (omega arith)) h.2 in
          by_where (Firsts g) p j ks ts c
          (λ e a b. (p_is, K, (at, tt, R)))
          (λ d a b. (p_is ∙ sym (ins_head ks none a), ins_firsts ks at off a (omega arith) h.1, R))
          (λ d a b. (p_is, K, ins_firsts ts at off b (omega arith) h.2))

      same_off2 : (x y : ℕ) (ts : Forest X) → ((k : ℕ) → (k ≡ x → ⊥) → (k ≡ y → ⊥) → g k ≡ f k) → count x ts ≡ 0 → count y ts ≡ 0 → Same f g ts
      same_off2 x y ts off a b k h = off k (λ e. omega (arith, ap (λ z. count z ts) e)) (λ e. omega (arith, ap (λ z. count z ts) e))

      pub ins_nexts : (ts : Forest X) → g n ≡ f s → g s ≡ n → ((k : ℕ) → (k ≡ n → ⊥) → (k ≡ s → ⊥) → g k ≡ f k)
          → count s ts ≡ 1 → count n ts ≡ 0 → Nexts f ts → Nexts g (ins_after s n i ts)
      ins_nexts end at to off c w h = tt
      ins_nexts (node p j ks ts) at to off c w h =
          by_where (Nexts g) p j ks ts c
          (λ e a b. (
            ap g e ∙ to,
            nexts_kept f g ks (same_off2 n s ks off (omega arith) a) h.1,
            (at ∙ (ap f (sym e) ∙ h.0), tt, nexts_kept f g ts (same_off2 n s ts off (omega arith) b) h.2),
          ))
          (λ d a b. (
            off p (λ e. omega (arith, one_eq p n e)) d ∙ h.0,
            ins_nexts ks at to off a (omega arith) h.1,
            nexts_kept f g ts (same_off2 n s ts off (omega arith) b) h.2,
          ))
          (λ d a b. (
            off p (λ e. omega (arith, one_eq p n e)) d ∙ (h.0 ∙ sym (ins_head ts none b)),
            nexts_kept f g ks (same_off2 n s ks off (omega arith) a) h.1,
            ins_nexts ts at to off b (omega arith) h.2,
          ))

    -- nx has the nexts, and q is the next of s
    module _ (nx f g : ℕ → ℕ) (at : g n ≡ s) (to : (g (nx s) ≡ n) ⊎ (nx s ≡ none))
        (off : (k : ℕ) → (k ≡ n → ⊥) → (k ≡ nx s → ⊥) → g k ≡ f k) where
      pub ins_prevs : (q : ℕ) (ts : Forest X) → Distinct ts → count none ts ≡ 0
          → count s ts ≡ 1 → count n ts ≡ 0 → Nexts nx ts → Prevs f q ts → Prevs g q (ins_after s n i ts)
      ins_prevs q end u z c w x h = tt
      ins_prevs q (node p j ks ts) u z c w x h =
          by_where (Prevs g q) p j ks ts c
          (λ e a b.
          let q_is : nx s ≡ head_or ts none = ap nx (sym e) ∙ x.0 in
          let in_rest : (nx s ≡ none) ⊎ (0 < count (nx s) ts) =
          ⊎_elim (λ l. inl (q_is ∙ l)) (λ r. inr (subst (λ y. 0 < count y ts) (sym q_is) r)) (head_inside ts) in (
            p_kept (⊎_elim (λ l. inl l) (λ r. inr (omega arith)) in_rest),
            kids_kept (⊎_elim (λ l. inl l) (λ r. inr (omega (arith, u (nx s)))) in_rest),
            (
              at ∙ sym e,
              tt,
              relinked f g p n ts (⊎_elim (λ l. inl (ap g (sym q_is) ∙ l)) (λ l. inr (sym q_is ∙ l)) to)
                  (λ k ne l. off k (λ e'. omega (arith, ap (λ y. count y ts) e')) (λ e'. ne (e' ∙ q_is)))
                  (λ k. omega (arith, u k)) (omega arith) h.2,
            ),
          ))
          (λ d a b.
          let q_in : (nx s ≡ none) ⊎ (0 < count (nx s) ks) = next_inside nx s ks x.1 a in (
            p_kept (⊎_elim (λ l. inl l) (λ r. inr (omega arith)) q_in),
            ins_prevs none ks (λ k. omega (arith, u k)) (omega arith) a (omega arith) x.1 h.1,
            rest_kept (⊎_elim (λ l. inl l) (λ r. inr (omega (arith, u (nx s)))) q_in),
          ))
          (λ d a b.
          let q_in : (nx s ≡ none) ⊎ (0 < count (nx s) ts) = next_inside nx s ts x.2 b in (
            p_kept (⊎_elim (λ l. inl l) (λ r. inr (omega arith)) q_in),
            kids_kept (⊎_elim (λ l. inl l) (λ r. inr (omega (arith, u (nx s)))) q_in),
            ins_prevs p ts (λ k. omega (arith, u k)) (omega arith) b (omega arith) x.2 h.2,
          ))
        where
          p_kept : (nx s ≡ none) ⊎ (0 < count (nx s) ks + count (nx s) ts) → g p ≡ q
          p_kept v =
              off p (λ e. omega (arith, one_eq p n e))
              (λ e. ⊎_elim (λ l. omega (arith, one_eq p none (e ∙ l))) (λ r. omega (arith, u (nx s), one_eq p (nx s) e)) v) ∙ h.0

          kids_kept : (nx s ≡ none) ⊎ (count (nx s) ks ≡ 0) → Prevs g none ks
          kids_kept v =
              prevs_kept f g none ks
              (λ k l. off k (λ e. omega (arith, ap (λ y. count y ks) e))
              (λ e. ⊎_elim (λ m. omega (arith, ap (λ y. count y ks) (e ∙ m))) (λ m. omega (arith, ap (λ y. count y ks) e)) v)) h.1

          rest_kept : (nx s ≡ none) ⊎ (count (nx s) ts ≡ 0) → Prevs g p ts
          rest_kept v =
              prevs_kept f g p ts
              (λ k l. off k (λ e. omega (arith, ap (λ y. count y ts) e))
              (λ e. ⊎_elim (λ m. omega (arith, ap (λ y. count y ts) (e ∙ m))) (λ m. omega (arith, ap (λ y. count y ts) e)) v)) h.2

    -- the last of the siblings changes where s is the last of them
    module _ (nx up : ℕ → ℕ) where
      pub ins_last_lem : (u x : ℕ) (ts : Forest X) → count u ts ≡ 0 → count s ts ≡ 1 → count none ts ≡ 0
          → Nexts nx ts → Ups up u ts → up s ≡ u → nx s ≡ none → last_or (ins_after s n i ts) x ≡ n
      ins_last_lem u x end z c w h v e1 e2 = omega arith
      ins_last_lem u x (node p j ks ts) z c w h v e1 e2 =
          by_where (λ y. last_or y x ≡ n) p j ks ts c
          (λ e a b. no_rest ts (sym h.0 ∙ (ap nx e ∙ e2)) (omega arith))
          (λ d a b. absurd (⊎_elim (λ l. omega (arith, one_eq p u (sym l ∙ e1))) (λ r. omega (arith, ap (λ y. count y ks) e1)) (up_inside up p s ks v.1 a)))
          (λ d a b. ins_last_lem u p ts (omega arith) b (omega arith) h.2 v.2 e1 e2)
        where
          no_rest : (us : Forest X) → head_or us none ≡ none → count none us ≡ 0 → last_or us n ≡ n
          no_rest end e1 e2 = refl
          no_rest (node a j ks us) e1 e2 = absurd (omega (arith, one_eq a none e1))

      pub ins_not_last : (u x : ℕ) (ts : Forest X) → count s ts ≡ 1 → Nexts nx ts → Ups up u ts
          → ((up s ≡ u → ⊥) ⊎ (nx s ≡ none → ⊥)) → last_or (ins_after s n i ts) x ≡ last_or ts x
      ins_not_last u x end c h v e = refl
      ins_not_last u x (node p j ks ts) c h v w =
          by_where (λ y. last_or y x ≡ last_or ts p) p j ks ts c
          (λ e a b. ⊎_elim (λ l. absurd (l (ap up (sym e) ∙ v.0))) (λ r. some_rest ts (λ l. r (ap nx (sym e) ∙ (h.0 ∙ l)))) w)
          (λ d a b. refl)
          (λ d a b. ins_not_last u p ts b h.2 v.2 w)
        where
          some_rest : (us : Forest X) → (head_or us none ≡ none → ⊥) → last_or us n ≡ last_or us p
          some_rest end e = absurd (e refl)
          some_rest (node a j ks us) e = refl

    module _ (nx up f g : ℕ → ℕ) (at : g n ≡ none) (to : nx s ≡ none → g (up s) ≡ n)
        (off : (k : ℕ) → (k ≡ n → ⊥) → ((k ≡ up s → ⊥) ⊎ (nx s ≡ none → ⊥)) → g k ≡ f k) where
      lasts_off : (ts : Forest X) → count n ts ≡ 0 → count (up s) ts ≡ 0 → Lasts f ts → Lasts g ts
      lasts_off ts a b h =
          lasts_kept f g ts (λ k l. off k (λ e. omega (arith, ap (λ y. count y ts) e)) (inl (λ e. omega (arith, ap (λ y. count y ts) e)))) h

      pub ins_lasts : (u : ℕ) (ts : Forest X) → Distinct ts → count none ts ≡ 0 → count u ts ≡ 0
          → count s ts ≡ 1 → count n ts ≡ 0 → Nexts nx ts → Ups up u ts → Lasts f ts → Lasts g (ins_after s n i ts)
      ins_lasts u end q z v c w x y h = tt
      ins_lasts u (node p j ks ts) q z v c w x y h =
          by_where (Lasts g) p j ks ts c
          (λ e a b.
          let u_is : up s ≡ u = ap up (sym e) ∙ y.0 in (
            p_kept (inl (λ e'. omega (arith, one_eq p u (e' ∙ u_is)))),
            lasts_off ks (omega arith) (omega (arith, ap (λ y. count y ks) u_is)) h.1,
            (at, tt, lasts_off ts (omega arith) (omega (arith, ap (λ y. count y ts) u_is)) h.2),
          ))
          (λ d a b. (
            p_below a (cases_eq (up s) p) (cases_eq (nx s) none),
            ins_lasts p ks (λ k. omega (arith, q k)) (omega arith) (omega (arith, q p, one_same p)) a (omega arith) x.1 y.1 h.1,
            lasts_off ts (omega arith)
                (⊎_elim (λ l. omega (arith, q (up s), one_eq p (up s) (sym l))) (λ r. omega (arith, q (up s))) (up_inside up p s ks y.1 a)) h.2,
          ))
          (λ d a b.
          let u_in : (up s ≡ u) ⊎ (0 < count (up s) ts) = up_inside up u s ts y.2 b in (
            p_kept (inl (λ e. ⊎_elim (λ l. omega (arith, one_eq p u (e ∙ l))) (λ r. omega (arith, q (up s), one_eq p (up s) e)) u_in)),
            lasts_off ks (omega arith) (⊎_elim (λ l. omega (arith, ap (λ y. count y ks) l)) (λ r. omega (arith, q (up s))) u_in) h.1,
            ins_lasts u ts (λ k. omega (arith, q k)) (omega arith) (omega arith) b (omega arith) x.2 y.2 h.2,
          ))
        where
          p_kept : ((p ≡ up s → ⊥) ⊎ (nx s ≡ none → ⊥)) → g p ≡ last_or ks none
          p_kept v = off p (λ e. omega (arith, one_eq p n e)) v ∙ h.0

          p_below : count s ks ≡ 1 → ((up s ≡ p) ⊎ (up s ≡ p → ⊥)) → ((nx s ≡ none) ⊎ (nx s ≡ none → ⊥)) → g p ≡ last_or (ins_after s n i ks) none
          p_below a (inl l) (inl m) =
              ap g (sym l) ∙ (to m ∙ sym (ins_last_lem nx up p none ks (omega (arith, q p, one_same p)) a (omega arith) x.1 y.1 l m))
          p_below a (inr l) m = p_kept (inl (λ e. l (sym e))) ∙ sym (ins_not_last nx up p none ks a x.1 y.1 (inl l))
          p_below a (inl l) (inr m) = p_kept (inr m) ∙ sym (ins_not_last nx up p none ks a x.1 y.1 (inr m))
