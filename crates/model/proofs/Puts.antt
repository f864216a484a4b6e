-- A value put in the place of another, in any container: a property keeps its name. Assumes nothing.
use Rattle.std.proofs.Common.{◌≡◌, ℕ, zero, suc, ◌≤◌, false, cond, eqb, List, [], ◌∷◌, ◌++◌, Some, Option, sym, refl, ap, ◌∙◌, subst, inl, inr, true≢false, arith}
use Rattle.std.proofs.lemmas.Bool.{eqb-true, eq-eqb, cond_both}
use Rattle.std.proofs.lemmas.Option.{none-some}
use Rattle.grammar.specs.Layout.{Label, Member, Parts, nil, part}
use Rattle.grammar.specs.Pieces.{Box, array, object, property, Pieces, name_of}
use Rattle.forest.specs.Forest.{end, node, count, append}
use Rattle.forest.proofs.Frames.{one_eq}
use Rattle.model.specs.Nodes.{Handle, handle, Sort, root, within, single, Own, Nodes, Class, gap, mark, value, class, piece, pieces, parts, label_of}
use Rattle.model.specs.Asks.{is_value, value_in, at}
use Rattle.model.specs.Edits.{onto, local_from, local, exchanged, exchange}
use Rattle.model.specs.Fits.{of, here, start, step, run, Ends, Fits, Holds, Whole, bare}
use Rattle.model.specs.Changes.{At, changed_under, swapped, IsContainer, IsElement}
use Rattle.model.specs.Account.{or_nobody, handled, with_handles, change, instead, put}
use Rattle.model.specs.Accounted.{counted, Among, first, later, Below, child, deeper, along, Lies, on_top, inside, Alone}
use Rattle.model.proofs.Prints.{no_dead}
use Rattle.model.proofs.Edited.{at_count, at_once}
use Rattle.model.proofs.Exchanges.{exchange_parts}
use Rattle.model.proofs.Kept.{at_inside, whole_at, parts_under}
use Rattle.model.proofs.Spots.{holds_at}
use Rattle.model.proofs.Ways.{off}
use Rattle.model.proofs.Walks.{among_count, below_count}

-- THE NAME STAYS

-- siblings before, of which the farthest has a piece of its own
abbrev Solid : Nodes → Type 0
Solid end = ⊥
Solid (node p i ks end) = (us vs : Pieces) → name_of (piece i.sort (pieces ks) us) ≡ name_of (piece i.sort (pieces ks) vs)
Solid (node p i ks (node q j ls bs)) = Solid (node q j ls bs)

-- one sibling more changes nothing of that
solid_more : (p : ℕ) (i : Own) (ks bs : Nodes) → Solid bs → Solid (node p i ks bs)
solid_more p i ks end h = absurd h
solid_more p i ks (node q j ls bs) h = h

-- what stands behind them does not change the name
name_onto : (bs x y : Nodes) → Solid bs → name_of (pieces (onto bs x)) ≡ name_of (pieces (onto bs y))
name_onto end x y h = absurd h
name_onto (node p i ks end) x y h = h (pieces x) (pieces y)
name_onto (node p i ks (node q j ls bs)) x y h = name_onto (node q j ls bs) (node p i ks x) (node p i ks y) h

-- so a value put behind them keeps the name
name_from : (k : ℕ) (us bs ts : Nodes) → Solid bs → name_of (pieces (local_from (exchanged us) k bs ts)) ≡ name_of (pieces (onto bs ts))
name_from k us bs end h = refl
name_from k us bs (node p i ks ts) h = cond_both (eqb p k) (onto bs (append us ts)) (local_from (exchanged us) k (node p i ks bs) ts) (λ y. name_of (pieces y) ≡ name_of (pieces (onto bs (node p i ks ts))))
    (λ e. name_onto bs (append us ts) (node p i ks ts) h) (λ e. name_from k us (node p i ks bs) ts (solid_more p i ks bs h))

-- the first child of a property is no value
first_mark : (c : Class) (ts : Nodes) → Ends (of property) (run (step (here start false) c) ts) → c ≡ value → ⊥
first_mark (gap g) ts e v = no_dead (of property) ts e
first_mark (mark m) ts e v = (let y : ◌≡◌ {A = ℕ} 0 1 = cc in omega arith)
first_mark value ts e v = no_dead (of property) ts e

-- every node but the root has a piece of its own
solid_sort : (s : Sort) (ks : Nodes) → Holds s ks → (us vs : Pieces) → name_of (piece s (pieces ks) us) ≡ name_of (piece s (pieces ks) vs)
solid_sort root ks h us vs = absurd h
solid_sort (within b) ks h us vs = refl
solid_sort (single x) ks h us vs = refl

-- a value put in a property keeps its name
pub name_exchanged : (k : ℕ) (us ks : Nodes) → Fits (of property) ks → Whole ks → ((i : Own) (vs : Nodes) → At k i vs ks → class i.sort ≡ value) → name_of (pieces (local (exchanged us) k ks)) ≡ name_of (pieces ks)
name_exchanged k us end f w v = refl
name_exchanged k us (node p i ks ts) f w v = cond_both (eqb p k) (onto end (append us ts)) (local_from (exchanged us) k (node p i ks end) ts) (λ y. name_of (pieces y) ≡ name_of (pieces (node p i ks ts)))
    (λ e. absurd (first_mark (class i.sort) ts f.ends (v i ks (inl (eqb-true p k e, refl, refl)))))
    (λ e. name_from k us (node p i ks end) ts (solid_sort i.sort ks w.0))

-- a container whose name stays keeps its label
label_kept : (j : Own) (b : Box) (us vs : Pieces) → j.sort ≡ within b → (b ≡ property → name_of us ≡ name_of vs) → label_of j.sort us ≡ label_of j.sort vs
label_kept j array us vs e n = ap (λ s. label_of s us) e ∙ sym (ap (λ s. label_of s vs) e)
label_kept j object us vs e n = ap (λ s. label_of s us) e ∙ sym (ap (λ s. label_of s vs) e)
label_kept j property us vs e n = ap (λ s. label_of s us) e ∙ (ap Member (n refl) ∙ sym (ap (λ s. label_of s vs) e))

-- the value of the whole after a value took another's place
pub exchange_named : (c k : ℕ) (us ts : Nodes) → IsContainer c ts → IsElement k ts → Whole ts → parts (exchange c k us ts) ≡ changed_under c (swapped k (parts us)) (parts ts)
exchange_named c k us ts b v w = parts_under c (local (exchanged us) k) ts (swapped k (parts us))
    (λ j ks a. (let x = b j ks a in let at-k : (i : Own) (vs : Nodes) → At k i vs ks → class i.sort ≡ value = λ i vs z. (v i vs (at_inside c k j i ks vs ts a z)).0 in (
      ap class x.1,
      exchange_parts k us ks at-k,
      label_kept j x.0 (pieces (local (exchanged us) k ks)) (pieces ks) x.1
          (λ e. name_exchanged k us ks (subst (λ y. Fits (of y) ks) e (subst (λ y. Holds y ks) x.1 (holds_at c j ks ts a w))) (whole_at c j ks ts a w) at-k),
    )))
    (λ e. exchange_parts k us ts (λ i vs z. (v i vs z).0))

-- THE VALUE OF A PROPERTY

-- the first value of a child list is the one of ordinal 0
pub value_among : (o : Handle) (ts : Nodes) → ((k : ℕ) → count k ts ≤ 1) → value_in ts ≡ Some o → Among o ts 0
value_among o end c = λ e. absurd (none-some o e)
value_among o (node p i ks ts) c = go (class i.sort) refl (value_among o ts (λ k. omega (arith, c k)))
  where
    go : (x : Class) → class i.sort ≡ x → (value_in ts ≡ Some o → Among o ts 0) → cond (is_value x) (Some (handle p i)) (value_in ts) ≡ Some o → Among o (node p i ks ts) 0
    go value z r e = (let y : handle p i ≡ o = cc in first p i ks ts y z)
    go (gap g) z r e = (let m = r e in let n = among_count o ts 0 m in let l = c o.place in
        subst (λ y. Among o (node p i ks ts) y) (ap (λ y. counted y 0) z) (later p i ks ts 0 (off p o.place 0 (omega arith)) m))
    go (mark g) z r e = (let m = r e in let n = among_count o ts 0 m in let l = c o.place in
        subst (λ y. Among o (node p i ks ts) y) (ap (λ y. counted y 0) z) (later p i ks ts 0 (off p o.place 0 (omega arith)) m))

-- a child of a node that lies at a path lies one level further
module _ (h o : Handle) (i : Own) (us : Nodes) (j : ℕ) (m : Among o us j) where
  -- the child of one of the siblings
  among_down : (ts : Nodes) (n : ℕ) → Among h ts n → count h.place ts ≤ 1 → At h.place i us ts → Below h.place o ts n (j ∷ [])
  among_down _ _ (first p k ks ts e v) c a =
      let x = at_once h.place k i ks us (node p k ks ts) c (inl (ap (λ y. y.place) e, refl, refl)) a in
      child p k ks ts j (ap (λ y. y.place) e) v (subst (λ y. Among o y j) (sym x.1) m)
  among_down _ _ (later p k ks ts n e r) c (inl a) = absurd (true≢false (sym (eq-eqb p h.place a.0) ∙ e))
  among_down _ _ (later p k ks ts n e r) c (inr (inl a)) = absurd (omega (arith, among_count h ts n r, at_count h.place i us ks a))
  among_down _ _ (later p k ks ts n e r) c (inr (inr a)) = along p k ks ts n (j ∷ []) e (omega (arith, among_count h ts n r)) (among_down ts n r (omega arith) a)

  -- the child of one below them
  below_down : (c : ℕ) (ts : Nodes) (n : ℕ) (q : List ℕ) → Below c h ts n q → count h.place ts ≤ 1 → At h.place i us ts → Below h.place o ts n (q ++ j ∷ [])
  below_down c _ _ _ (child p k ks ts n e v r) l (inl a) = absurd (omega (arith, among_count h ks n r, one_eq p h.place a.0))
  below_down c _ _ _ (child p k ks ts n e v r) l (inr (inl a)) = (let z = among_count h ks n r in deeper p k ks ts n (j ∷ []) (off p h.place 0 (omega arith)) (omega arith) v (among_down ks n r (omega arith) a))
  below_down c _ _ _ (child p k ks ts n e v r) l (inr (inr a)) = absurd (omega (arith, among_count h ks n r, at_count h.place i us ts a))
  below_down c _ _ _ (deeper p k ks ts n q e z v r) l (inl a) = absurd (omega (arith, (below_count c h ks n q r).1, one_eq p h.place a.0))
  below_down c _ _ _ (deeper p k ks ts n q e z v r) l (inr (inl a)) = (let y = (below_count c h ks n q r).1 in deeper p k ks ts n (q ++ j ∷ []) (off p h.place 0 (omega arith)) (omega arith) v (below_down c ks n q r (omega arith) a))
  below_down c _ _ _ (deeper p k ks ts n q e z v r) l (inr (inr a)) = absurd (omega (arith, (below_count c h ks n q r).1, at_count h.place i us ts a))
  below_down c _ _ _ (along p k ks ts n q e z r) l (inl a) = absurd (omega (arith, (below_count c h ts n q r).1, one_eq p h.place a.0))
  below_down c _ _ _ (along p k ks ts n q e z r) l (inr (inl a)) = absurd (omega (arith, (below_count c h ts n q r).1, at_count h.place i us ks a))
  below_down c _ _ _ (along p k ks ts n q e z r) l (inr (inr a)) = (let y = (below_count c h ts n q r).1 in along p k ks ts n (q ++ j ∷ []) (off p h.place 0 (omega arith)) (omega arith) (below_down c ts n q r (omega arith) a))

  -- the child of any node
  pub lies_down : (c : ℕ) (ts : Nodes) (n : ℕ) (q : List ℕ) → eqb h.place 0 ≡ false → Lies c h ts n q → count h.place ts ≤ 1 → At h.place i us ts → Lies h.place o ts n (q ++ j ∷ [])
  lies_down c ts _ _ z (on_top n e r) l a = inside n (j ∷ []) z (among_down ts n r l a)
  lies_down c ts _ _ z (inside n q e r) l a = inside n (q ++ j ∷ []) z (below_down c ts n q r l a)

-- THE HANDLES

-- the handles that the paths answer are those of the value
handled_is : (f : ℕ → List ℕ → Option Handle) (v : Parts Handle) → ((k : ℕ) (p : List ℕ) → f k p ≡ at v k p) → handled f (bare v) ≡ v
handled_is f nil e = refl
handled_is f (part i l ks ts) e =
    ap (λ x. part (or_nobody x) l (handled (λ j p. f 0 (j ∷ p)) (bare ks)) (handled (λ k p. f (suc k) p) (bare ts))) (e 0 [])
    ∙ (ap (λ x. part i l x (handled (λ k p. f (suc k) p) (bare ts))) (handled_is (λ j p. f 0 (j ∷ p)) ks (λ j p. e 0 (j ∷ p)))
    ∙ ap (λ x. part i l ks x) (handled_is (λ k p. f (suc k) p) ts (λ k p. e (suc k) p)))

-- one value with the handles that its paths answer is itself
pub with_at : (f : List ℕ → Option Handle) (v : Parts Handle) → Alone v → ((p : List ℕ) → f p ≡ at v 0 p) → with_handles f (bare v) ≡ v
with_at f nil e h = refl
with_at f (part i l ks ts) e h =
    ap (λ x. part (or_nobody x) l (handled (λ j p. f (j ∷ p)) (bare ks)) nil) (h [])
    ∙ (ap (λ x. part i l x nil) (handled_is (λ j p. f (j ∷ p)) ks (λ j p. h (j ∷ p))) ∙ ap (λ x. part i l ks x) (sym e))

-- straight after a value was put at a path, the paths below it answer with its handles
at_change : (i : Handle) (l : Label) (ks us v : Parts Handle) (k : ℕ) (p q : List ℕ) (h : Handle) → at v k p ≡ Some h → at (change (instead (part i l ks us)) v k p) k (p ++ q) ≡ at (part i l ks nil) 0 q
at_change i l ks us nil k p q h e = absurd (none-some h e)
at_change i l ks us (part j m vs ws) zero [] [] h e = refl
at_change i l ks us (part j m vs ws) zero [] (n ∷ q) h e = refl
at_change i l ks us (part j m vs ws) zero (n ∷ p) q h e = at_change i l ks us vs n p q h e
at_change i l ks us (part j m vs ws) (suc k) [] q h e = at_change i l ks us ws k [] q h e
at_change i l ks us (part j m vs ws) (suc k) (n ∷ p) q h e = at_change i l ks us ws k (n ∷ p) q h e

-- the same, of a value put at a path of a document
pub at_put : (w v : Parts Handle) (p q : List ℕ) (h : Handle) → Alone w → at v 0 p ≡ Some h → at (put w v p) 0 (p ++ q) ≡ at w 0 q
at_put nil v p q h o e = absurd o
at_put (part i l ks us) v p q h o e = at_change i l ks us v 0 p q h e ∙ ap (λ y. at (part i l ks y) 0 q) (sym o)
