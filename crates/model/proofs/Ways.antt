-- Values by place and by path. Assumes nothing.
use Rattle.std.proofs.Common.{◌≡◌, ℕ, ◌+◌, false, cond, eqb, List, [], ◌∷◌, sym, refl, ap, ◌∙◌, arith}
use Rattle.std.proofs.lemmas.Bool.{eq-eqb, cond_both, cond-true, cond-false}
use Rattle.grammar.specs.Layout.{Label, Parts, nil, part}
use Rattle.forest.specs.Forest.{end, node, one, count}
use Rattle.model.specs.Nodes.{Handle, handle, Own, Nodes, Class, gap, mark, value, class, pieces, parts, parts_at, label_of}
use Rattle.model.specs.Changes.{changed, changed_under, lost, chain, swapped}
use Rattle.model.specs.Account.{change, others, instead, deleted, put}
use Rattle.model.specs.Accounted.{counted, Among, first, later, Below, child, deeper, along, Lies, on_top, inside, Alone}

-- a place that stands nowhere here is not this one
pub off : (p k n : ℕ) → one p k + n ≡ 0 → eqb p k ≡ false
off p k n e = cond_both (eqb p k) 1 0 (λ y. y + n ≡ 0 → eqb p k ≡ false) (λ z h. absurd (omega arith)) (λ z h. z) e

-- a class that is a value's, put for it
pub as_value : (p : ℕ) (i : Own) (ks ts : Nodes) → class i.sort ≡ value → parts (node p i ks ts) ≡ part (handle p i) (label_of i.sort (pieces ks)) (parts ks) (parts ts)
as_value p i ks ts v = ap (λ c. parts_at c (handle p i) (label_of i.sort (pieces ks)) (parts ks) (parts ts)) v

-- where nothing is at the place, nothing changes
pub changed_off : (c : ℕ) (G : Parts Handle → Parts Handle) (ts : Nodes) → count c ts ≡ 0 → changed c G (parts ts) ≡ parts ts
changed_off c G end z = refl
changed_off c G (node p i ks ts) z = go (class i.sort) (changed_off c G ks (omega arith)) (changed_off c G ts (omega arith))
  where
    go : (x : Class) → changed c G (parts ks) ≡ parts ks → changed c G (parts ts) ≡ parts ts
        → changed c G (parts_at x (handle p i) (label_of i.sort (pieces ks)) (parts ks) (parts ts)) ≡ parts_at x (handle p i) (label_of i.sort (pieces ks)) (parts ks) (parts ts)
    go (gap g) h k = k
    go (mark m) h k = k
    go value h k =
        cond-false (eqb p c) (part (handle p i) (label_of i.sort (pieces ks)) (G (parts ks)) (parts ts)) (part (handle p i) (label_of i.sort (pieces ks)) (changed c G (parts ks)) (changed c G (parts ts))) (off p c (count c ks + count c ts) z)
        ∙ (ap (λ y. part (handle p i) (label_of i.sort (pieces ks)) y (changed c G (parts ts))) h ∙ ap (part (handle p i) (label_of i.sort (pieces ks)) (parts ks)) k)

-- G changes the part at a place as f does at its path
module _ (h : Handle) (G f X : Parts Handle → Parts Handle)
    (by_place : (i : Handle) (l : Label) (ks ts : Parts Handle) → G (part i l ks ts) ≡ cond (eqb i.place h.place) (X ts) (part i l ks (G ts)))
    (by-path : (i : Handle) (l : Label) (ks ts : Parts Handle) → f (part i l ks ts) ≡ X ts) where
  -- among siblings: at the place and at the ordinal
  among_change : (ts : Nodes) (n : ℕ) → Among h ts n → G (parts ts) ≡ change f (parts ts) n []
  among_change _ _ (first p i ks ts e v) =
      let l : Label = label_of i.sort (pieces ks) in
      ap G (as_value p i ks ts v) ∙ (by_place (handle p i) l (parts ks) (parts ts)
      ∙ (cond-true (eqb p h.place) (X (parts ts)) (part (handle p i) l (parts ks) (G (parts ts))) (eq-eqb p h.place (ap (λ y. y.place) e))
      ∙ (sym (by-path (handle p i) l (parts ks) (parts ts)) ∙ ap (λ y. change f y 0 []) (sym (as_value p i ks ts v)))))
  among_change _ _ (later p i ks ts n e a) = go (class i.sort) (among_change ts n a)
    where
      go : (c : Class) → G (parts ts) ≡ change f (parts ts) n []
          → G (parts_at c (handle p i) (label_of i.sort (pieces ks)) (parts ks) (parts ts)) ≡ change f (parts_at c (handle p i) (label_of i.sort (pieces ks)) (parts ks) (parts ts)) (counted c n) []
      go (gap g) r = r
      go (mark m) r = r
      go value r =
          by_place (handle p i) (label_of i.sort (pieces ks)) (parts ks) (parts ts)
          ∙ (cond-false (eqb p h.place) (X (parts ts)) (part (handle p i) (label_of i.sort (pieces ks)) (parts ks) (G (parts ts))) e
          ∙ ap (part (handle p i) (label_of i.sort (pieces ks)) (parts ks)) r)

  -- below siblings: at the place and at the path
  below_change : (c : ℕ) (ts : Nodes) (n : ℕ) (q : List ℕ) → Below c h ts n q → changed c G (parts ts) ≡ change f (parts ts) n q
  below_change c _ _ _ (child p i ks ts j e v a) =
      let l : Label = label_of i.sort (pieces ks) in
      ap (changed c G) (as_value p i ks ts v)
      ∙ (cond-true (eqb p c) (part (handle p i) l (G (parts ks)) (parts ts)) (part (handle p i) l (changed c G (parts ks)) (changed c G (parts ts))) (eq-eqb p c e)
      ∙ (ap (λ y. part (handle p i) l y (parts ts)) (among_change ks j a) ∙ ap (λ y. change f y 0 (j ∷ [])) (sym (as_value p i ks ts v))))
  below_change c _ _ _ (deeper p i ks ts j q e z v b) =
      let l : Label = label_of i.sort (pieces ks) in
      ap (changed c G) (as_value p i ks ts v)
      ∙ (cond-false (eqb p c) (part (handle p i) l (G (parts ks)) (parts ts)) (part (handle p i) l (changed c G (parts ks)) (changed c G (parts ts))) e
      ∙ (ap (λ y. part (handle p i) l (changed c G (parts ks)) y) (changed_off c G ts z)
      ∙ (ap (λ y. part (handle p i) l y (parts ts)) (below_change c ks j q b) ∙ ap (λ y. change f y 0 (j ∷ q)) (sym (as_value p i ks ts v)))))
  below_change c _ _ _ (along p i ks ts n q e z b) = go (class i.sort) (below_change c ts n q b)
    where
      go : (x : Class) → changed c G (parts ts) ≡ change f (parts ts) n q
          → changed c G (parts_at x (handle p i) (label_of i.sort (pieces ks)) (parts ks) (parts ts)) ≡ change f (parts_at x (handle p i) (label_of i.sort (pieces ks)) (parts ks) (parts ts)) (counted x n) q
      go (gap g) r = r
      go (mark m) r = r
      go value r =
          cond-false (eqb p c) (part (handle p i) (label_of i.sort (pieces ks)) (G (parts ks)) (parts ts)) (part (handle p i) (label_of i.sort (pieces ks)) (changed c G (parts ks)) (changed c G (parts ts))) e
          ∙ (ap (λ y. part (handle p i) (label_of i.sort (pieces ks)) y (changed c G (parts ts))) (changed_off c G ks z) ∙ ap (part (handle p i) (label_of i.sort (pieces ks)) (parts ks)) r)

  -- in the whole document
  pub lies_change : (c : ℕ) (ts : Nodes) (n : ℕ) (q : List ℕ) → Lies c h ts n q → changed_under c G (parts ts) ≡ change f (parts ts) n q
  lies_change c ts _ _ (on_top n e a) = cond-true (eqb c 0) (G (parts ts)) (changed c G (parts ts)) (eq-eqb c 0 e) ∙ among_change ts n a
  lies_change c ts _ _ (inside n q e b) = cond-false (eqb c 0) (G (parts ts)) (changed c G (parts ts)) e ∙ below_change c ts n q b

-- a part lost by its place is deleted at its path
pub lost_by_path : (c : ℕ) (h : Handle) (ts : Nodes) (p : List ℕ) → Lies c h ts 0 p → changed_under c (lost h.place) (parts ts) ≡ deleted (parts ts) p
lost_by_path c h ts p a = lies_change h (lost h.place) others (λ y. y) (λ i l ks us. refl) (λ i l ks us. refl) c ts 0 p a

-- a part put in another's place is put at its path
pub swapped_by_path : (c : ℕ) (h : Handle) (ts : Nodes) (p : List ℕ) (v : Parts Handle) → Alone v → Lies c h ts 0 p → changed_under c (swapped h.place v) (parts ts) ≡ put v (parts ts) p
swapped_by_path c h ts p nil o a = absurd o
swapped_by_path c h ts p (part i l ks us) o a =
    lies_change h (swapped h.place (part i l ks us)) (instead (part i l ks us)) (λ y. chain (part i l ks us) y) (λ j m vs ws. refl)
    (λ j m vs ws. ap (λ y. part i l ks (chain y ws)) (sym o)) c ts 0 p a
