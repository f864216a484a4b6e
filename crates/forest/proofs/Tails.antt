-- A new leaf n as the last child of the node v: the first child of a node without children, else right after the last child.
use Rattle.std.proofs.Common.{◌≡◌, ℕ, ◌+◌, ◌<◌, ◌≤◌, Some, None, Option, sym, refl, ap, ◌∙◌, arith}
use Rattle.forest.specs.Forest.{Forest, end, node, one, count, size, Distinct}
use Rattle.forest.specs.Edits.{kids, put_first, put_last, ins_after, ins_first, ins_last}
use Rattle.forest.specs.Asks.{last_of, last_in}
use Rattle.forest.proofs.Frames.{one_eq, here, below, after, find}
use Rattle.forest.proofs.Picks.{pick_here, pick_below, pick_after}
use Rattle.forest.proofs.Edited.{edited_here, edited_below, edited_rest, edited_same, edited_count, edited_size, last_kids, kids_part}
use Rattle.forest.proofs.Inserts.{ins_here, ins_below, ins_rest}
use Rattle.forest.proofs.Appends.{append_count, append_size}

module _ {X : Type 0} where
  some_last : (p : ℕ) (ts : Forest X) → last_of (Some p) ts ≡ None → ⊥
  some_last p end e = let z : ◌≡◌ {A = ℕ} 0 1 = cc in omega arith
  some_last p (node q j ks ts) e = some_last q ts e

  -- the last of siblings is one of them
  pub last_among : (q : Option ℕ) (s p : ℕ) (j : X) (ks ts : Forest X) → last_of q (node p j ks ts) ≡ Some s → 0 < count s (node p j ks ts)
  last_among q s p j ks end e = let r : p ≡ s = cc in omega (arith, one_eq p s r)
  last_among q s p j ks (node a i ls ts) e = omega (arith, last_among (Some p) s a i ls ts e)

  -- the last child is one of the children
  pub last_in_lem : (v s : ℕ) (ts : Forest X) → count v ts ≡ 1 → last_in v ts ≡ Some s → 0 < count s (kids v ts)
  last_in_lem v s ts o e = go (kids v ts) (sym (last_kids v ts o) ∙ e)
    where
      go : (ks : Forest X) → last_of None ks ≡ Some s → 0 < count s ks
      go end e = let z : ◌≡◌ {A = ℕ} 0 1 = cc in absurd (omega arith)
      go (node p j ls ks) e = last_among None s p j ls ks e

  module _ (v n : ℕ) (i : X) where
    pub tail_first : (ts : Forest X) → count v ts ≡ 1 → last_in v ts ≡ None → ins_last v n i ts ≡ ins_first v n i ts
    tail_first ts o e = edited_same v (put_last n i) (put_first n i) ts o (go (kids v ts) (sym (last_kids v ts o) ∙ e))
      where
        go : (ks : Forest X) → last_of None ks ≡ None → put_last n i ks ≡ put_first n i ks
        go end e = refl
        go (node p j ls ks) e = absurd (some_last p ks e)

    -- among siblings, after their last is behind them all
    tail_siblings : (q : Option ℕ) (s p : ℕ) (j : X) (ks ts : Forest X) → Distinct (node p j ks ts) → last_of q (node p j ks ts) ≡ Some s
        → ins_after s n i (node p j ks ts) ≡ put_last n i (node p j ks ts)
    tail_siblings q s p j ks end u e = let r : p ≡ s = cc in ins_here s n i p j ks end r
    tail_siblings q s p j ks (node a l ls ts) u e =
        let in_rest : 0 < count s (node a l ls ts) = last_among (Some p) s a l ls ts e in
        ins_rest s n i p j ks (node a l ls ts) (λ r. omega (arith, u s, one_eq p s r)) (omega (arith, u s))
        ∙ ap (λ z. node p j ks z) (tail_siblings (Some p) s a l ls ts (λ k. omega (arith, u k)) e)

    pub tail_after : (s : ℕ) (ts : Forest X) → Distinct ts → count v ts ≡ 1 → last_in v ts ≡ Some s → ins_last v n i ts ≡ ins_after s n i ts
    tail_after s end u o e = refl
    tail_after s (node p j ks ts) u o e =
        elim (find v p j ks ts o) [
          | here d a b ↦
              let e' : last_of None ks ≡ Some s = sym (pick_here v p ks (last_of None ks) (last_in v ks) (last_in v ts) d) ∙ e in
              edited_here v (put_last n i) p j ks ts d ∙ at_kids ks e' (λ k. omega (arith, u k)) (λ k. omega (arith, u k))
          | below d a b ↦
              let e' : last_in v ks ≡ Some s = sym (pick_below v p ks (last_of None ks) (last_in v ks) (last_in v ts) d (omega arith)) ∙ e in
              let l : 0 < count s ks = let h : one v s + count s (kids v ks) ≤ count s ks = kids_part v s ks a in omega (arith, last_in_lem v s ks a e') in
              edited_below v (put_last n i) p j ks ts d b
              ∙ (ap (λ z. node p j z ts) (tail_after s ks (λ k. omega (arith, u k)) a e')
              ∙ sym (ins_below s n i p j ks ts (λ r. omega (arith, u s, one_eq p s r)) (omega (arith, u s))))
          | after d a b ↦
              let e' : last_in v ts ≡ Some s = sym (pick_after v p ks (last_of None ks) (last_in v ks) (last_in v ts) d a) ∙ e in
              let l : 0 < count s ts = let h : one v s + count s (kids v ts) ≤ count s ts = kids_part v s ts b in omega (arith, last_in_lem v s ts b e') in
              edited_rest v (put_last n i) p j ks ts d a
              ∙ (ap (λ z. node p j ks z) (tail_after s ts (λ k. omega (arith, u k)) b e')
              ∙ sym (ins_rest s n i p j ks ts (λ r. omega (arith, u s, one_eq p s r)) (omega (arith, u s))))
        ]
      where
        at_kids : (ls : Forest X) → last_of None ls ≡ Some s → ((k : ℕ) → one p k + (count k ls + count k ts) ≤ 1) → Distinct ls
            → node p j (put_last n i ls) ts ≡ ins_after s n i (node p j ls ts)
        at_kids end e w x = let z : ◌≡◌ {A = ℕ} 0 1 = cc in absurd (omega arith)
        at_kids (node a k ms ls) e w x =
            let l : 0 < count s (node a k ms ls) = last_among None s a k ms ls e in
            ap (λ z. node p j z ts) (sym (tail_siblings None s a k ms ls x e))
            ∙ sym (ins_below s n i p j (node a k ms ls) ts (λ r. omega (arith, w s, one_eq p s r)) (omega (arith, w s)))

    pub tail_count : (k : ℕ) (ts : Forest X) → count v ts ≡ 1 → count k (ins_last v n i ts) ≡ one n k + count k ts
    tail_count k ts o = omega (arith, edited_count v (put_last n i) k ts o, append_count k (kids v ts) (node n i end end))

    pub tail_size : (ts : Forest X) → count v ts ≡ 1 → size (ins_last v n i ts) ≡ 1 + size ts
    tail_size ts o = omega (arith, edited_size v (put_last n i) ts o, append_size (kids v ts) (node n i end end))
