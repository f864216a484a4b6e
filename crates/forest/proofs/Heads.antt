-- A new leaf n as the first child of the node v.
use Rattle.std.proofs.Common.{◌≡◌, ℕ, ◌+◌, ◌<◌, eqb, ◌⊎◌, sym, refl, ap, ◌∙◌, subst, inl, inr, ⊎_elim, arith}
use Rattle.std.proofs.lemmas.Bool.{eq-eqb, ne_eqb, cond-true, cond-false}
use Rattle.forest.specs.Forest.{Forest, end, node, one, count, size, Distinct, head_or, last_or}
use Rattle.forest.specs.Edits.{ins_first}
use Rattle.forest.specs.Links.{none, Owns, Ups, Prevs, Nexts, Firsts, Lasts}
use Rattle.forest.proofs.Frames.{one_eq, owns_kept, ups_kept, prevs_kept, nexts_kept, firsts_kept, lasts_kept, here, below, after, find, head_inside, relinked}

module _ {X : Type 0} where
  -- the first child of a place of the forest is none or a place of the forest
  pub first_inside : (f : ℕ → ℕ) (s : ℕ) (ts : Forest X) → Firsts f ts → count s ts ≡ 1 → (f s ≡ none) ⊎ (0 < count (f s) ts)
  first_inside f s end h c = inl (omega arith)
  first_inside f s (node p i ks ts) h c =
      elim (find s p i ks ts c) [
        | here e a b ↦
            let q : f s ≡ head_or ks none = ap f (sym e) ∙ h.0 in
            ⊎_elim (λ l. inl (q ∙ l)) (λ r. inr (let r' : 0 < count (f s) ks = subst (λ z. 0 < count z ks) (sym q) r in omega arith)) (head_inside ks)
        | below d a b ↦ ⊎_elim (λ l. inl l) (λ r. inr (omega arith)) (first_inside f s ks h.1 a)
        | after d a b ↦ ⊎_elim (λ l. inl l) (λ r. inr (omega arith)) (first_inside f s ts h.2 b)
      ]

  module _ (v n : ℕ) (i : X) where
    pub fst_off : (ts : Forest X) → count v ts ≡ 0 → ins_first v n i ts ≡ ts
    fst_off end c = refl
    fst_off (node p j ks ts) c =
        cond-false (eqb p v) (node p j (node n i end ks) ts) (node p j (ins_first v n i ks) (ins_first v n i ts)) (ne_eqb p v (λ e. omega (arith, one_eq p v e)))
        ∙ (ap (λ z. node p j z (ins_first v n i ts)) (fst_off ks (omega arith)) ∙ ap (λ z. node p j ks z) (fst_off ts (omega arith)))

    by_where : (P : Forest X → Type 0) (p : ℕ) (j : X) (ks ts : Forest X) → count v (node p j ks ts) ≡ 1
        → (p ≡ v → count v ks ≡ 0 → count v ts ≡ 0 → P (node p j (node n i end ks) ts))
        → ((p ≡ v → ⊥) → count v ks ≡ 1 → count v ts ≡ 0 → P (node p j (ins_first v n i ks) ts))
        → ((p ≡ v → ⊥) → count v ks ≡ 0 → count v ts ≡ 1 → P (node p j ks (ins_first v n i ts)))
        → P (ins_first v n i (node p j ks ts))
    by_where P p j ks ts c H B R =
        elim (find v p j ks ts c) [
          | here e a b ↦ subst P (sym (cond-true (eqb p v) (node p j (node n i end ks) ts) (node p j (ins_first v n i ks) (ins_first v n i ts)) (eq-eqb p v e))) (H e a b)
          | below d a b ↦
              subst P (sym (cond-false (eqb p v) (node p j (node n i end ks) ts) (node p j (ins_first v n i ks) (ins_first v n i ts)) (ne_eqb p v d)
              ∙ ap (λ z. node p j (ins_first v n i ks) z) (fst_off ts b))) (B d a b)
          | after d a b ↦
              subst P (sym (cond-false (eqb p v) (node p j (node n i end ks) ts) (node p j (ins_first v n i ks) (ins_first v n i ts)) (ne_eqb p v d)
              ∙ ap (λ z. node p j z (ins_first v n i ts)) (fst_off ks a))) (R d a b)
        ]

    pub fst_count : (k : ℕ) (ts : Forest X) → count v ts ≡ 1 → count k (ins_first v n i ts) ≡ one n k + count k ts
    fst_count k end c = omega arith
    fst_count k (node p j ks ts) c =
        by_where (λ z. count k z ≡ one n k + count k (node p j ks ts)) p j ks ts c
        (λ e a b. omega arith) (λ d a b. omega (arith, fst_count k ks a)) (λ d a b. omega (arith, fst_count k ts b))

    pub fst_size : (ts : Forest X) → count v ts ≡ 1 → size (ins_first v n i ts) ≡ 1 + size ts
    fst_size end c = omega arith
    fst_size (node p j ks ts) c =
        by_where (λ z. size z ≡ 1 + size (node p j ks ts)) p j ks ts c
        (λ e a b. omega arith) (λ d a b. omega (arith, fst_size ks a)) (λ d a b. omega (arith, fst_size ts b))

    pub fst_head : (ts : Forest X) (x : ℕ) → count v ts ≡ 1 → head_or (ins_first v n i ts) x ≡ head_or ts x
    fst_head end x c = refl
    fst_head (node p j ks ts) x c = by_where (λ z. head_or z x ≡ p) p j ks ts c (λ e a b. refl) (λ d a b. refl) (λ d a b. refl)

    pub fst_last : (ts : Forest X) (x : ℕ) → count v ts ≡ 1 → last_or (ins_first v n i ts) x ≡ last_or ts x
    fst_last end x c = refl
    fst_last (node p j ks ts) x c = by_where (λ z. last_or z x ≡ last_or ts p) p j ks ts c (λ e a b. refl) (λ d a b. refl) (λ d a b. fst_last ts p b)

    pub fst_owns : (f g : ℕ → X) (ts : Forest X) → g n ≡ i → ((k : ℕ) → (k ≡ n → ⊥) → g k ≡ f k)
        → count v ts ≡ 1 → count n ts ≡ 0 → Owns f ts → Owns g (ins_first v n i ts)
    fst_owns f g end at off c w h = tt
    fst_owns f g (node p j ks ts) at off c w h =
        let p_is : g p ≡ j = off p (λ e. omega (arith, one_eq p n e)) ∙ h.0 in
        let K : Owns g ks = owns_kept f g ks (λ k l. off k (λ e. omega (arith, ap (λ z. count z ks) e))) h.1 in
        let R : Owns g ts = owns_kept f g ts (λ k l. off k (λ e. omega (arith, ap (λ z. count z ts) e))) h.2 in
        by_where (Owns g) p j ks ts c
        (λ e a b. (p_is, (at, tt, K), R)) (λ d a b. (p_is, fst_owns f g ks at off a (omega arith) h.1, R)) (λ d a b. (p_is, K, fst_owns f g ts at off b (omega arith) h.2))

    pub fst_ups : (f g : ℕ → ℕ) (u : ℕ) (ts : Forest X) → g n ≡ v → ((k : ℕ) → (k ≡ n → ⊥) → g k ≡ f k)
        → count v ts ≡ 1 → count n ts ≡ 0 → Ups f u ts → Ups g u (ins_first v n i ts)
    fst_ups f g u end at off c w h = tt
    fst_ups f g u (node p j ks ts) at off c w h =
        let p_is : g p ≡ u = off p (λ e. omega (arith, one_eq p n e)) ∙ h.0 in
        let K : Ups g p ks = ups_kept f g p ks (λ k l. off k (λ e. omega (arith, ap (λ z. count z ks) e))) h.1 in
        let R : Ups g u ts = ups_kept f g u ts (λ k l. off k (λ e. omega (arith, ap (λ z. count z ts) e))) h.2 in
        by_where (Ups g u) p j ks ts c
        (λ e a b. (p_is, (at ∙ sym e, tt, K), R))
        (λ d a b. (p_is, fst_ups f g p ks at off a (omega arith) h.1, R)) (λ d a b. (p_is, K, fst_ups f g u ts at off b (omega arith) h.2))

    pub fst_nexts : (fs f g : ℕ → ℕ) (ts : Forest X) → g n ≡ fs v → ((k : ℕ) → (k ≡ n → ⊥) → g k ≡ f k)
        → count v ts ≡ 1 → count n ts ≡ 0 → Firsts fs ts → Nexts f ts → Nexts g (ins_first v n i ts)
    fst_nexts fs f g end at off c w x h = tt
    fst_nexts fs f g (node p j ks ts) at off c w x h =
        let p_is : g p ≡ head_or ts none = off p (λ e. omega (arith, one_eq p n e)) ∙ h.0 in
        let K : Nexts g ks = nexts_kept f g ks (λ k l. off k (λ e. omega (arith, ap (λ z. count z ks) e))) h.1 in
        let R : Nexts g ts = nexts_kept f g ts (λ k l. off k (λ e. omega (arith, ap (λ z. count z ts) e))) h.2 in
        by_where (Nexts g) p j ks ts c
        (λ e a b. (p_is, (at ∙ (ap fs (sym e) ∙ x.0), tt, K), R))
        (λ d a b. (p_is, fst_nexts fs f g ks at off a (omega arith) x.1 h.1, R))
        (λ d a b. (p_is ∙ sym (fst_head ts none b), K, fst_nexts fs f g ts at off b (omega arith) x.2 h.2))

    pub fst_firsts : (f g : ℕ → ℕ) (ts : Forest X) → g n ≡ none → g v ≡ n → ((k : ℕ) → (k ≡ n → ⊥) → (k ≡ v → ⊥) → g k ≡ f k)
        → count v ts ≡ 1 → count n ts ≡ 0 → Firsts f ts → Firsts g (ins_first v n i ts)
    fst_firsts f g end at to off c w h = tt
    fst_firsts f g (node p j ks ts) at to off c w h =
        by_where (Firsts g) p j ks ts c
        (λ e a b. (ap g e ∙ to, (at, tt, S ks (omega arith) a h.1), S ts (omega arith) b h.2))
        (λ d a b. (off p (λ e. omega (arith, one_eq p n e)) d ∙ (h.0 ∙ sym (fst_head ks none a)), fst_firsts f g ks at to off a (omega arith) h.1, S ts (omega arith) b h.2))
        (λ d a b. (off p (λ e. omega (arith, one_eq p n e)) d ∙ h.0, S ks (omega arith) a h.1, fst_firsts f g ts at to off b (omega arith) h.2))
      where
        S : (us : Forest X) → count n us ≡ 0 → count v us ≡ 0 → Firsts f us → Firsts g us
        S us a b h = firsts_kept f g us (λ k l. off k (λ e. omega (arith, ap (λ z. count z us) e)) (λ e. omega (arith, ap (λ z. count z us) e))) h

    module _ (fs f g : ℕ → ℕ) (at : g n ≡ none) (to : (g (fs v) ≡ n) ⊎ (fs v ≡ none))
        (off : (k : ℕ) → (k ≡ n → ⊥) → (k ≡ fs v → ⊥) → g k ≡ f k) where
      pub fst_prevs : (q : ℕ) (ts : Forest X) → Distinct ts → count none ts ≡ 0
          → count v ts ≡ 1 → count n ts ≡ 0 → Firsts fs ts → Prevs f q ts → Prevs g q (ins_first v n i ts)
      fst_prevs q end u z c w x h = tt
      fst_prevs q (node p j ks ts) u z c w x h =
          by_where (Prevs g q) p j ks ts c
          (λ e a b.
          let q_is : fs v ≡ head_or ks none = ap fs (sym e) ∙ x.0 in
          let q_in : (fs v ≡ none) ⊎ (0 < count (fs v) ks) =
          ⊎_elim (λ l. inl (q_is ∙ l)) (λ r. inr (subst (λ y. 0 < count y ks) (sym q_is) r)) (head_inside ks) in (
            p_kept (⊎_elim (λ l. inl l) (λ r. inr (omega arith)) q_in),
            (
              at,
              tt,
              relinked f g none n ks (⊎_elim (λ l. inl (ap g (sym q_is) ∙ l)) (λ l. inr (sym q_is ∙ l)) to)
                  (λ k ne l. off k (λ e'. omega (arith, ap (λ y. count y ks) e')) (λ e'. ne (e' ∙ q_is)))
                  (λ k. omega (arith, u k)) (omega arith) h.1,
            ),
            S p ts (omega arith) (omega arith) (⊎_elim (λ l. inl l) (λ r. inr (omega (arith, u (fs v)))) q_in) h.2,
          ))
          (λ d a b.
          let q_in : (fs v ≡ none) ⊎ (0 < count (fs v) ks) = first_inside fs v ks x.1 a in (
            p_kept (⊎_elim (λ l. inl l) (λ r. inr (omega arith)) q_in),
            fst_prevs none ks (λ k. omega (arith, u k)) (omega arith) a (omega arith) x.1 h.1,
            S p ts (omega arith) (omega arith) (⊎_elim (λ l. inl l) (λ r. inr (omega (arith, u (fs v)))) q_in) h.2,
          ))
          (λ d a b.
          let q_in : (fs v ≡ none) ⊎ (0 < count (fs v) ts) = first_inside fs v ts x.2 b in (
            p_kept (⊎_elim (λ l. inl l) (λ r. inr (omega arith)) q_in),
            S none ks (omega arith) (omega arith) (⊎_elim (λ l. inl l) (λ r. inr (omega (arith, u (fs v)))) q_in) h.1,
            fst_prevs p ts (λ k. omega (arith, u k)) (omega arith) b (omega arith) x.2 h.2,
          ))
        where
          p_kept : (fs v ≡ none) ⊎ (0 < count (fs v) ks + count (fs v) ts) → g p ≡ q
          p_kept m =
              off p (λ e. omega (arith, one_eq p n e))
              (λ e. ⊎_elim (λ l. omega (arith, one_eq p none (e ∙ l))) (λ r. omega (arith, u (fs v), one_eq p (fs v) e)) m) ∙ h.0

          S : (r : ℕ) (us : Forest X) → count n us ≡ 0 → count none us ≡ 0 → (fs v ≡ none) ⊎ (count (fs v) us ≡ 0) → Prevs f r us → Prevs g r us
          S r us a b m h =
              prevs_kept f g r us
              (λ k l. off k (λ e. omega (arith, ap (λ y. count y us) e))
              (λ e. ⊎_elim (λ m. omega (arith, ap (λ y. count y us) (e ∙ m))) (λ m. omega (arith, ap (λ y. count y us) e)) m)) h

    module _ (fs f g : ℕ → ℕ) (at : g n ≡ none) (to : fs v ≡ none → g v ≡ n)
        (off : (k : ℕ) → (k ≡ n → ⊥) → ((k ≡ v → ⊥) ⊎ (fs v ≡ none → ⊥)) → g k ≡ f k) where
      pub fst_lasts : (ts : Forest X) → count none ts ≡ 0 → count v ts ≡ 1 → count n ts ≡ 0 → Firsts fs ts → Lasts f ts → Lasts g (ins_first v n i ts)
      fst_lasts end z c w x h = tt
      fst_lasts (node p j ks ts) z c w x h =
          by_where (Lasts g) p j ks ts c
          (λ e a b. (p_last e ks (ap fs (sym e) ∙ x.0) h.0 (omega arith), (at, tt, S ks (omega arith) a h.1), S ts (omega arith) b h.2))
          (λ d a b. (off p (λ e. omega (arith, one_eq p n e)) (inl d) ∙ (h.0 ∙ sym (fst_last ks none a)), fst_lasts ks (omega arith) a (omega arith) x.1 h.1, S ts (omega arith) b h.2))
          (λ d a b. (off p (λ e. omega (arith, one_eq p n e)) (inl d) ∙ h.0, S ks (omega arith) a h.1, fst_lasts ts (omega arith) b (omega arith) x.2 h.2))
        where
          S : (us : Forest X) → count n us ≡ 0 → count v us ≡ 0 → Lasts f us → Lasts g us
          S us a b h = lasts_kept f g us (λ k l. off k (λ e. omega (arith, ap (λ z. count z us) e)) (inl (λ e. omega (arith, ap (λ z. count z us) e)))) h

          p_last : p ≡ v → (us : Forest X) → fs v ≡ head_or us none → f p ≡ last_or us none → count none us ≡ 0 → g p ≡ last_or us n
          p_last e end q l m = ap g e ∙ to q
          p_last e (node a j ls us) q l m = off p (λ r. omega (arith, one_eq p n r)) (inr (λ r. omega (arith, one_eq a none (sym q ∙ r)))) ∙ l
