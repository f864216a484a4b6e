-- Edits leave the payload of every node that they do not name.
use Rattle.std.proofs.Common.{◌≡◌, ℕ, ◌+◌, cond, eqb, ltb, ◌⊎◌, Some, None, sym, refl, ap, ◌∙◌, inl, inr, arith}
use Rattle.std.proofs.lemmas.Bool.{cases_eq, eq-eqb, ne_eqb, cond-true, cond-false}
use Rattle.forest.specs.Forest.{Forest, end, node, one, count, append}
use Rattle.forest.specs.Edits.{edited, kids, put_first, put_last, ins_after, ins_first, ins_last, delete, update}
use Rattle.forest.specs.Asks.{pick, own_in}
use Rattle.forest.proofs.Frames.{one_same, one_eq, one_other, here, below, after, find}
use Rattle.forest.proofs.Picks.{pick_here, pick_below, pick_after}
use Rattle.forest.proofs.Appends.{append_count}
use Rattle.forest.proofs.Edited.{by_edit, edited_count}
use Rattle.forest.proofs.Inserts.{by_where, ins_count}
use Rattle.forest.proofs.Deletes.{by_del, del_count}
use Rattle.forest.proofs.Updates.{update_count}

module _ {X : Type 0} where
  -- an answer asks of the children only whether the place is among them
  pick_same : {R : Type 0} (k p : ℕ) (ks ls : Forest X) (x y z y' z' : R) → count k ls ≡ count k ks → y' ≡ y → z' ≡ z → pick k p ls x y' z' ≡ pick k p ks x y z
  pick_same k p ks ls x y z y' z' c e f =
      ap (λ n. cond (eqb p k) x (cond (ltb 0 n) y' z')) c ∙ (ap (λ w. pick k p ks x w z') e ∙ ap (λ w. pick k p ks x y w) f)

  -- a change of children that leaves k leaves it in the whole
  pub own_edited : (k c : ℕ) (f : Forest X → Forest X) (ts : Forest X) → count c ts ≡ 1
      → count k (f (kids c ts)) ≡ count k (kids c ts) → own_in k (f (kids c ts)) ≡ own_in k (kids c ts) → own_in k (edited c f ts) ≡ own_in k ts
  own_edited k c f end o = λ a e. refl
  own_edited k c f (node p j ks ts) o =
      by_edit c f (λ y s. count k (f s) ≡ count k s → own_in k (f s) ≡ own_in k s → own_in k y ≡ own_in k (node p j ks ts)) p j ks ts o
      (λ d a b m e. pick_same k p ks (f ks) (Some j) (own_in k ks) (own_in k ts) (own_in k (f ks)) (own_in k ts) m e refl)
      (λ d a b m e. pick_same k p ks (edited c f ks) (Some j) (own_in k ks) (own_in k ts) (own_in k (edited c f ks)) (own_in k ts)
      (omega (arith, edited_count c f k ks a)) (own_edited k c f ks a m e) refl)
      (λ d a b m e. pick_same k p ks ks (Some j) (own_in k ks) (own_in k ts) (own_in k ks) (own_in k (edited c f ts)) refl refl (own_edited k c f ts b m e))

  own_append : (k : ℕ) (ts us : Forest X) → count k us ≡ 0 → own_in k us ≡ None → own_in k (append ts us) ≡ own_in k ts
  own_append k end us c e = e
  own_append k (node p j ks ts) us c e =
      pick_same k p ks ks (Some j) (own_in k ks) (own_in k ts) (own_in k ks) (own_in k (append ts us)) refl refl (own_append k ts us c e)

  -- the leaf n is not k
  module _ (n : ℕ) (i : X) (k : ℕ) (d : n ≡ k → ⊥) where
    own_leaf : (ts : Forest X) → own_in k (node n i end ts) ≡ own_in k ts
    own_leaf ts = pick_after {X = X} k n end (Some i) (own_in k end) (own_in k ts) d refl

    pub own_ins_first : (v : ℕ) (ts : Forest X) → count v ts ≡ 1 → own_in k (ins_first v n i ts) ≡ own_in k ts
    own_ins_first v ts o = own_edited k v (put_first n i) ts o (omega (arith, one_other n k d)) (own_leaf (kids v ts))

    pub own_ins_last : (v : ℕ) (ts : Forest X) → count v ts ≡ 1 → own_in k (ins_last v n i ts) ≡ own_in k ts
    own_ins_last v ts o =
        own_edited k v (put_last n i) ts o (omega (arith, append_count k (kids v ts) (node n i end end), one_other n k d))
        (own_append k (kids v ts) (node n i end end) (omega (arith, one_other n k d)) (own_leaf end))

    pub own_ins_after : (s : ℕ) (ts : Forest X) → count s ts ≡ 1 → own_in k (ins_after s n i ts) ≡ own_in k ts
    own_ins_after s end o = refl
    own_ins_after s (node p j ks ts) o =
        by_where s n i (λ y. own_in k y ≡ own_in k (node p j ks ts)) p j ks ts o
        (λ e a b. pick_same k p ks ks (Some j) (own_in k ks) (own_in k ts) (own_in k ks) (own_in k (node n i end ts)) refl refl (own_leaf ts))
        (λ e a b. pick_same k p ks (ins_after s n i ks) (Some j) (own_in k ks) (own_in k ts) (own_in k (ins_after s n i ks)) (own_in k ts)
        (omega (arith, ins_count s n i k ks a, one_other n k d)) (own_ins_after s ks a) refl)
        (λ e a b. pick_same k p ks ks (Some j) (own_in k ks) (own_in k ts) (own_in k ks) (own_in k (ins_after s n i ts)) refl refl (own_ins_after s ts b))

  -- a node that is neither c nor below it
  pub own_delete : (k c : ℕ) (ts : Forest X) → count c ts ≡ 1 → one c k + count k (kids c ts) ≡ 0 → own_in k (delete c ts) ≡ own_in k ts
  own_delete k c end o = λ z. refl
  own_delete k c (node p j ks ts) o =
      by_del c (λ y s. one c k + count k s ≡ 0 → own_in k y ≡ own_in k (node p j ks ts)) p j ks ts o
      (λ e a b z. sym (pick_after k p ks (Some j) (own_in k ks) (own_in k ts) (λ q. omega (arith, one_eq c k (sym e ∙ q))) (omega arith)))
      (λ e a b z. pick_same k p ks (delete c ks) (Some j) (own_in k ks) (own_in k ts) (own_in k (delete c ks)) (own_in k ts)
      (omega (arith, del_count c k ks a)) (own_delete k c ks a z) refl)
      (λ e a b z. pick_same k p ks ks (Some j) (own_in k ks) (own_in k ts) (own_in k ks) (own_in k (delete c ts)) refl refl (own_delete k c ts b z))

  -- a change of the payload of c, at c and elsewhere
  pub own_update : (c : ℕ) (f : X → X) (x : X) (ts : Forest X) → count c ts ≡ 1 → own_in c ts ≡ Some x → own_in c (update c f ts) ≡ Some (f x)
  own_update c f x end o e = absurd (omega arith)
  own_update c f x (node p j ks ts) o e =
      elim (find c p j ks ts o) [
        | here d a b ↦
            let q : Some j ≡ Some x = sym (pick_here c p ks (Some j) (own_in c ks) (own_in c ts) d) ∙ e in
            let r : j ≡ x = cc in
            pick_here c p (update c f ks) (Some (cond (eqb p c) (f j) j)) (own_in c (update c f ks)) (own_in c (update c f ts)) d
            ∙ ap (λ y. Some y) (cond-true (eqb p c) (f j) j (eq-eqb p c d) ∙ ap f r)
        | below d a b ↦
            pick_below c p (update c f ks) (Some (cond (eqb p c) (f j) j)) (own_in c (update c f ks)) (own_in c (update c f ts)) d (omega (arith, update_count c f c ks))
            ∙ own_update c f x ks a (sym (pick_below c p ks (Some j) (own_in c ks) (own_in c ts) d (omega arith)) ∙ e)
        | after d a b ↦
            pick_after c p (update c f ks) (Some (cond (eqb p c) (f j) j)) (own_in c (update c f ks)) (own_in c (update c f ts)) d (omega (arith, update_count c f c ks))
            ∙ own_update c f x ts b (sym (pick_after c p ks (Some j) (own_in c ks) (own_in c ts) d a) ∙ e)
      ]

  pub own_update_off : (k c : ℕ) (f : X → X) (ts : Forest X) → (c ≡ k → ⊥) → own_in k (update c f ts) ≡ own_in k ts
  own_update_off k c f end d = refl
  own_update_off k c f (node p j ks ts) d =
      pick_same k p ks (update c f ks) (Some (cond (eqb p c) (f j) j)) (own_in k ks) (own_in k ts) (own_in k (update c f ks)) (own_in k (update c f ts))
      (update_count c f k ks) (own_update_off k c f ks d) (own_update_off k c f ts d)
      ∙ at_p (cases_eq p k)
    where
      at_p : ((p ≡ k) ⊎ (p ≡ k → ⊥)) → pick k p ks (Some (cond (eqb p c) (f j) j)) (own_in k ks) (own_in k ts) ≡ own_in k (node p j ks ts)
      at_p (inl e) = ap (λ y. pick k p ks (Some y) (own_in k ks) (own_in k ts)) (cond-false (eqb p c) (f j) j (ne_eqb p c (λ q. d (sym q ∙ e))))
      at_p (inr e) =
          cond-false (eqb p k) (Some (cond (eqb p c) (f j) j)) (cond (ltb 0 (count k ks)) (own_in k ks) (own_in k ts)) (ne_eqb p k e)
          ∙ sym (cond-false (eqb p k) (Some j) (cond (ltb 0 (count k ks)) (own_in k ks) (own_in k ts)) (ne_eqb p k e))

  -- the new leaf has its payload
  module _ (n : ℕ) (i : X) where
    pub own_new_after : (s : ℕ) (ts : Forest X) → count s ts ≡ 1 → count n ts ≡ 0 → own_in n (ins_after s n i ts) ≡ Some i
    own_new_after s end o z = absurd (omega arith)
    own_new_after s (node p j ks ts) o z =
        by_where s n i (λ y. own_in n y ≡ Some i) p j ks ts o
        (λ e a b. pick_after n p ks (Some j) (own_in n ks) (own_in n (node n i end ts)) off (omega arith) ∙ pick_here {X = X} n n end (Some i) (own_in n end) (own_in n ts) refl)
        (λ e a b. pick_below n p (ins_after s n i ks) (Some j) (own_in n (ins_after s n i ks)) (own_in n ts) off (omega (arith, ins_count s n i n ks a, one_same n))
        ∙ own_new_after s ks a (omega arith))
        (λ e a b. pick_after n p ks (Some j) (own_in n ks) (own_in n (ins_after s n i ts)) off (omega arith) ∙ own_new_after s ts b (omega arith))
      where
        off : p ≡ n → ⊥
        off e = omega (arith, one_eq p n e)

    -- among the children of v
    own_new_edited : (v : ℕ) (f : Forest X → Forest X) (ts : Forest X) → ((ks : Forest X) → count n (f ks) ≡ 1 + count n ks)
        → ((ks : Forest X) → count n ks ≡ 0 → own_in n (f ks) ≡ Some i) → count v ts ≡ 1 → count n ts ≡ 0 → own_in n (edited v f ts) ≡ Some i
    own_new_edited v f end m h o z = absurd (omega arith)
    own_new_edited v f (node p j ks ts) m h o z =
        by_edit v f (λ y _. own_in n y ≡ Some i) p j ks ts o
        (λ e a b. pick_below n p (f ks) (Some j) (own_in n (f ks)) (own_in n ts) off (omega (arith, m ks)) ∙ h ks (omega arith))
        (λ e a b. pick_below n p (edited v f ks) (Some j) (own_in n (edited v f ks)) (own_in n ts) off (omega (arith, edited_count v f n ks a, m (kids v ks)))
        ∙ own_new_edited v f ks m h a (omega arith))
        (λ e a b. pick_after n p ks (Some j) (own_in n ks) (own_in n (edited v f ts)) off (omega arith) ∙ own_new_edited v f ts m h b (omega arith))
      where
        off : p ≡ n → ⊥
        off e = omega (arith, one_eq p n e)

    pub own_new_first : (v : ℕ) (ts : Forest X) → count v ts ≡ 1 → count n ts ≡ 0 → own_in n (ins_first v n i ts) ≡ Some i
    own_new_first v ts o z =
        own_new_edited v (put_first n i) ts (λ ks. omega (arith, one_same n)) (λ ks _. pick_here {X = X} n n end (Some i) (own_in n end) (own_in n ks) refl) o z

    pub own_new_last : (v : ℕ) (ts : Forest X) → count v ts ≡ 1 → count n ts ≡ 0 → own_in n (ins_last v n i ts) ≡ Some i
    own_new_last v ts o z =
        own_new_edited v (put_last n i) ts (λ ks. omega (arith, one_same n, append_count n ks (node n i end end))) behind o z
      where
        behind : (ks : Forest X) → count n ks ≡ 0 → own_in n (put_last n i ks) ≡ Some i
        behind end c = pick_here {X = X} n n end (Some i) (own_in n end) (own_in n end) refl
        behind (node p j ls ks) c =
            pick_after n p ls (Some j) (own_in n ls) (own_in n (append ks (node n i end end))) (λ e. omega (arith, one_eq p n e)) (omega arith) ∙ behind ks (omega arith)
