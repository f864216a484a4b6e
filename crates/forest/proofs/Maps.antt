-- Counting, asking and editing commute with a change of the payloads.
use Rattle.std.proofs.Common.{◌≡◌, ℕ, ◌+◌, Bool, true, false, cond, eqb, ltb, ◌∷◌, ◌++◌, Some, None, Option, sym, refl, ap, ◌∙◌, arith}
use Rattle.forest.specs.Forest.{Forest, end, node, count, size, places, append, map}
use Rattle.forest.specs.Edits.{edited, ins_after, ins_first, ins_last, put_first, put_last, put_after, without, delete, kids, update}
use Rattle.forest.specs.Asks.{pick, head_of, last_of, own_in, parent_in, prev_in, next_in, first_in, last_in, index_in}

-- a function of a conditional value
on_cond : {X Y : Type 0} (g : X → Y) (b : Bool) (x y : X) (u v : Y) → g x ≡ u → g y ≡ v → g (cond b x y) ≡ cond b u v
on_cond g true x y u v a e = a
on_cond g false x y u v a e = e

module _ {X Y : Type 0} (g : X → Y) where
  pub map_count : (k : ℕ) (ts : Forest X) → count k (map g ts) ≡ count k ts
  map_count k end = refl
  map_count k (node p j ks ts) = omega (arith, map_count k ks, map_count k ts)

  pub map_size : (ts : Forest X) → size (map g ts) ≡ size ts
  map_size end = refl
  map_size (node p j ks ts) = omega (arith, map_size ks, map_size ts)

  pub map_places : (ts : Forest X) → places (map g ts) ≡ places ts
  map_places end = refl
  map_places (node p j ks ts) = ap (λ y. p ∷ (y ++ places (map g ts))) (map_places ks) ∙ ap (λ y. p ∷ (places ks ++ y)) (map_places ts)

  pub map_append : (ts us : Forest X) → map g (append ts us) ≡ append (map g ts) (map g us)
  map_append end us = refl
  map_append (node p j ks ts) us = ap (λ z. node p (g j) (map g ks) z) (map_append ts us)

  -- edits
  pub map_edited : (c : ℕ) (f : Forest X → Forest X) (f' : Forest Y → Forest Y) → ((ks : Forest X) → map g (f ks) ≡ f' (map g ks)) → (ts : Forest X)
      → map g (edited c f ts) ≡ edited c f' (map g ts)
  map_edited c f f' h end = refl
  map_edited c f f' h (node p j ks ts) =
      on_cond (map g) (eqb p c) (node p j (f ks) ts) (node p j (edited c f ks) (edited c f ts))
      (node p (g j) (f' (map g ks)) (map g ts)) (node p (g j) (edited c f' (map g ks)) (edited c f' (map g ts)))
      (ap (λ z. node p (g j) z (map g ts)) (h ks))
      (ap (λ z. node p (g j) z (map g (edited c f ts))) (map_edited c f f' h ks) ∙ ap (λ z. node p (g j) (edited c f' (map g ks)) z) (map_edited c f f' h ts))

  pub map_ins_first : (v n : ℕ) (i : X) (ts : Forest X) → map g (ins_first v n i ts) ≡ ins_first v n (g i) (map g ts)
  map_ins_first v n i ts = map_edited v (put_first n i) (put_first n (g i)) (λ _. refl) ts

  pub map_ins_last : (v n : ℕ) (i : X) (ts : Forest X) → map g (ins_last v n i ts) ≡ ins_last v n (g i) (map g ts)
  map_ins_last v n i ts = map_edited v (put_last n i) (put_last n (g i)) (λ ks. map_append ks (node n i end end)) ts

  pub map_ins_after : (s n : ℕ) (i : X) (ts : Forest X) → map g (ins_after s n i ts) ≡ ins_after s n (g i) (map g ts)
  map_ins_after s n i end = refl
  map_ins_after s n i (node p j ks ts) =
      on_cond (map g) (eqb p s) (node p j ks (node n i end ts)) (node p j (ins_after s n i ks) (ins_after s n i ts))
      (node p (g j) (map g ks) (node n (g i) end (map g ts))) (node p (g j) (ins_after s n (g i) (map g ks)) (ins_after s n (g i) (map g ts)))
      refl
      (ap (λ z. node p (g j) z (map g (ins_after s n i ts))) (map_ins_after s n i ks) ∙ ap (λ z. node p (g j) (ins_after s n (g i) (map g ks)) z) (map_ins_after s n i ts))

  pub map_put_after : (s n : ℕ) (i : X) (ts : Forest X) → map g (put_after s n i ts) ≡ put_after s n (g i) (map g ts)
  map_put_after s n i end = refl
  map_put_after s n i (node p j ks ts) =
      on_cond (map g) (eqb p s) (node p j ks (node n i end ts)) (node p j ks (put_after s n i ts))
      (node p (g j) (map g ks) (node n (g i) end (map g ts))) (node p (g j) (map g ks) (put_after s n (g i) (map g ts)))
      refl (ap (λ z. node p (g j) (map g ks) z) (map_put_after s n i ts))

  pub map_without : (c : ℕ) (ts : Forest X) → map g (without c ts) ≡ without c (map g ts)
  map_without c end = refl
  map_without c (node p j ks ts) =
      on_cond (map g) (eqb p c) ts (node p j ks (without c ts)) (map g ts) (node p (g j) (map g ks) (without c (map g ts)))
      refl (ap (λ z. node p (g j) (map g ks) z) (map_without c ts))

  pub map_delete : (c : ℕ) (ts : Forest X) → map g (delete c ts) ≡ delete c (map g ts)
  map_delete c end = refl
  map_delete c (node p j ks ts) =
      on_cond (map g) (eqb p c) ts (node p j (delete c ks) (delete c ts)) (map g ts) (node p (g j) (delete c (map g ks)) (delete c (map g ts)))
      refl (ap (λ z. node p (g j) z (map g (delete c ts))) (map_delete c ks) ∙ ap (λ z. node p (g j) (delete c (map g ks)) z) (map_delete c ts))

  pub map_update : (c : ℕ) (f : X → X) (f' : Y → Y) → ((x : X) → g (f x) ≡ f' (g x)) → (ts : Forest X) → map g (update c f ts) ≡ update c f' (map g ts)
  map_update c f f' h end = refl
  map_update c f f' h (node p j ks ts) =
      ap (λ z. node p z (map g (update c f ks)) (map g (update c f ts))) (on_cond g (eqb p c) (f j) j (f' (g j)) (g j) (h j) refl)
      ∙ (ap (λ z. node p (cond (eqb p c) (f' (g j)) (g j)) z (map g (update c f ts))) (map_update c f f' h ks)
      ∙ ap (λ z. node p (cond (eqb p c) (f' (g j)) (g j)) (update c f' (map g ks)) z) (map_update c f f' h ts))

  -- asks
  pick_same : {R S : Type 0} (m : R → S) (k p : ℕ) (ks : Forest X) (x y z : R) (u v w : S) → m x ≡ u → m y ≡ v → m z ≡ w
      → m (pick k p ks x y z) ≡ pick k p (map g ks) u v w
  pick_same m k p ks x y z u v w a b c =
      on_cond m (eqb p k) x (cond (ltb 0 (count k ks)) y z) u (cond (ltb 0 (count k (map g ks))) v w) a
      (on_cond m (ltb 0 (count k ks)) y z v w b c ∙ ap (λ n. cond (ltb 0 n) v w) (sym (map_count k ks)))

  pub map_kids : (c : ℕ) (ts : Forest X) → map g (kids c ts) ≡ kids c (map g ts)
  map_kids c end = refl
  map_kids c (node p j ks ts) =
      pick_same (map g) c p ks ks (kids c ks) (kids c ts) (map g ks) (kids c (map g ks)) (kids c (map g ts)) refl (map_kids c ks) (map_kids c ts)

  pub map_own : (k : ℕ) (x : X) (ts : Forest X) → own_in k ts ≡ Some x → own_in k (map g ts) ≡ Some (g x)
  map_own k x ts e = sym (go ts) ∙ ap m e
    where
      m : Option X → Option Y
      m o = elim o [ Some x ↦ Some (g x) | None ↦ None ]

      go : (ts : Forest X) → elim (own_in k ts) [ Some x ↦ Some (g x) | None ↦ None ] ≡ own_in k (map g ts)
      go end = refl
      go (node p j ks ts) =
          pick_same m k p ks (Some j) (own_in k ks) (own_in k ts) (Some (g j)) (own_in k (map g ks)) (own_in k (map g ts)) refl (go ks) (go ts)

  map_head_of : (ts : Forest X) → head_of ts ≡ head_of (map g ts)
  map_head_of end = refl
  map_head_of (node p j ks ts) = refl

  map_last_of : (q : Option ℕ) (ts : Forest X) → last_of q ts ≡ last_of q (map g ts)
  map_last_of q end = refl
  map_last_of q (node p j ks ts) = map_last_of (Some p) ts

  pub map_parent : (k : ℕ) (u : Option ℕ) (ts : Forest X) → parent_in k u ts ≡ parent_in k u (map g ts)
  map_parent k u end = refl
  map_parent k u (node p j ks ts) =
      pick_same (λ o. o) k p ks u (parent_in k (Some p) ks) (parent_in k u ts) u (parent_in k (Some p) (map g ks)) (parent_in k u (map g ts)) refl
      (map_parent k (Some p) ks) (map_parent k u ts)

  pub map_prev : (k : ℕ) (q : Option ℕ) (ts : Forest X) → prev_in k q ts ≡ prev_in k q (map g ts)
  map_prev k q end = refl
  map_prev k q (node p j ks ts) =
      pick_same (λ o. o) k p ks q (prev_in k None ks) (prev_in k (Some p) ts) q (prev_in k None (map g ks)) (prev_in k (Some p) (map g ts)) refl
      (map_prev k None ks) (map_prev k (Some p) ts)

  pub map_next : (k : ℕ) (ts : Forest X) → next_in k ts ≡ next_in k (map g ts)
  map_next k end = refl
  map_next k (node p j ks ts) =
      pick_same (λ o. o) k p ks (head_of ts) (next_in k ks) (next_in k ts) (head_of (map g ts)) (next_in k (map g ks)) (next_in k (map g ts))
      (map_head_of ts) (map_next k ks) (map_next k ts)

  pub map_first : (k : ℕ) (ts : Forest X) → first_in k ts ≡ first_in k (map g ts)
  map_first k end = refl
  map_first k (node p j ks ts) =
      pick_same (λ o. o) k p ks (head_of ks) (first_in k ks) (first_in k ts) (head_of (map g ks)) (first_in k (map g ks)) (first_in k (map g ts))
      (map_head_of ks) (map_first k ks) (map_first k ts)

  pub map_last : (k : ℕ) (ts : Forest X) → last_in k ts ≡ last_in k (map g ts)
  map_last k end = refl
  map_last k (node p j ks ts) =
      pick_same (λ o. o) k p ks (last_of None ks) (last_in k ks) (last_in k ts) (last_of None (map g ks)) (last_in k (map g ks)) (last_in k (map g ts))
      (map_last_of None ks) (map_last k ks) (map_last k ts)

  pub map_index : (k m : ℕ) (ts : Forest X) → index_in k m ts ≡ index_in k m (map g ts)
  map_index k m end = refl
  map_index k m (node p j ks ts) =
      pick_same (λ o. o) k p ks m (index_in k 0 ks) (index_in k (m + 1) ts) m (index_in k 0 (map g ks)) (index_in k (m + 1) (map g ts)) refl
      (map_index k 0 ks) (map_index k (m + 1) ts)
