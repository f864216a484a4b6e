-- Where there is room, a builder that was told pieces has their nodes behind the children of the node where it stands. Assumes nothing.
use Rattle.std.proofs.Common.{◌≡◌, ℕ, suc, ◌+◌, ◌≤◌, Bool, true, false, cond, eqb, List, [], ◌∷◌, ◌++◌, length, Some, None, Option, sym, refl, ap, ◌∙◌, append_assoc, append-nil, arith, length-append}
use Rattle.std.proofs.lemmas.Bool.{eq-eqb, ne_eqb, cond-true, cond-false}
use Rattle.std.proofs.lemmas.Bool.Decides.{nat_tests}
use Rattle.grammar.specs.Pieces.{Leaf, Box, Pieces, end as no_pieces, leaf, box, kept, nodes, stored}
use Rattle.forest.specs.Forest.{Forest, end, node, one, count, size, occurs, append}
use Rattle.forest.specs.Asks.{parent_in}
use Rattle.forest.specs.Edits.{edited, kids, ins_last}
use Rattle.forest.proofs.Frames.{one_same, one_eq}
use Rattle.forest.proofs.Edited.{edited_off, by_edit, edited_count, edited_size}
use Rattle.forest.proofs.Appends as appends
use Rattle.forest.proofs.Appends.{append_count, append_size}
use Rattle.forest.proofs.Picks.{pick_here, pick_below, pick_after}
use Rattle.table.specs.declared.kind.Kind.{Kind}
use Rattle.table.specs.declared.node.Own.{Own}
use Rattle.text.specs.Events.{Put, Enter, Leave, events}
use Rattle.checking.specs.Counted.{fold, fold_app}
use Rattle.model.specs.State.{up_from}
use Rattle.loader.specs.Kinds.{leaf_kind, box_kind}
use Rattle.loader.specs.Sites.{Site, fits, next_own, placed, added, place_for, turned, step}

-- a node's own data
abbrev pub own_data : ℕ → Kind → ℕ → ℕ → Own
own_data n k s l = record { number = n; kind = k; start = s; len = l }

-- pieces as nodes: places from p, numbers from n, bytes from s
abbrev pub laid : ℕ → ℕ → ℕ → Pieces → Forest Own
laid p n s no_pieces = end
laid p n s (leaf x r) = node p (own_data n (leaf_kind x) s (length (kept x))) end (laid (suc p) (suc n) (s + length (kept x)) r)
laid p n s (box b c r) =
    node p (own_data n (box_kind b) s 0) (laid (suc p) (suc n) s c) (laid (suc (p + nodes c)) (suc (n + nodes c)) (s + length (stored c)) r)

-- changes of the children of a node
module _ {X : Type 0} where
  edited_twice : (c : ℕ) (f g : Forest X → Forest X) (ts : Forest X) → edited c f (edited c g ts) ≡ edited c (λ ks. f (g ks)) ts
  edited_twice c f g end = refl
  edited_twice c f g (node p j ks ts) = go (eqb p c) refl (edited_twice c f g ks) (edited_twice c f g ts)
    where
      go : (b : Bool) → eqb p c ≡ b → edited c f (edited c g ks) ≡ edited c (λ y. f (g y)) ks → edited c f (edited c g ts) ≡ edited c (λ y. f (g y)) ts
          → edited c f (cond b (node p j (g ks) ts) (node p j (edited c g ks) (edited c g ts))) ≡ cond b (node p j (f (g ks)) ts) (node p j (edited c (λ y. f (g y)) ks) (edited c (λ y. f (g y)) ts))
      go true e h k = cond-true (eqb p c) (node p j (f (g ks)) ts) (node p j (edited c f (g ks)) (edited c f ts)) e
      go false e h k =
          cond-false (eqb p c) (node p j (f (edited c g ks)) (edited c g ts)) (node p j (edited c f (edited c g ks)) (edited c f (edited c g ts))) e
          ∙ (ap (λ y. node p j y (edited c f (edited c g ts))) h ∙ ap (λ y. node p j (edited c (λ y. f (g y)) ks) y) k)

  edited_like : (c : ℕ) (f g : Forest X → Forest X) (ts : Forest X) → ((ks : Forest X) → f ks ≡ g ks) → edited c f ts ≡ edited c g ts
  edited_like c f g ts h = λ i. edited c (λ ks. h ks i) ts

  -- the siblings L behind the children of v
  abbrev pub extended : ℕ → Forest X → Forest X → Forest X
  extended v l ts = edited v (λ ks. append ks l) ts

  extended_count : (k v : ℕ) (l ts : Forest X) → count v ts ≡ 1 → count k (extended v l ts) ≡ count k ts + count k l
  extended_count k v l ts o = omega (arith, edited_count v (λ ks. append ks l) k ts o, append_count k (kids v ts) l)

  extended_size : (v : ℕ) (l ts : Forest X) → count v ts ≡ 1 → size (extended v l ts) ≡ size ts + size l
  extended_size v l ts o = omega (arith, edited_size v (λ ks. append ks l) ts o, append_size (kids v ts) l)

  module _ (p : ℕ) (i : X) where
    -- a change of the children of the last sibling, which has none
    last_edited : (f : Forest X → Forest X) (ks : Forest X) → count p ks ≡ 0 → edited p f (append ks (node p i end end)) ≡ append ks (node p i (f end) end)
    last_edited f end z = cond-true (eqb p p) (node p i (f end) end) (node p i end end) (eq-eqb p p refl)
    last_edited f (node q j ks ts) z =
        cond-false (eqb q p) (node q j (f ks) (append ts (node p i end end))) (node q j (edited p f ks) (edited p f (append ts (node p i end end)))) (ne_eqb q p (λ e. omega (arith, one_eq q p e)))
        ∙ (ap (λ y. node q j y (edited p f (append ts (node p i end end)))) (edited_off p f ks (omega arith)) ∙ ap (λ y. node q j ks y) (last_edited f ts (omega arith)))

    -- children of a new leaf
    new_edited : (v : ℕ) (f : Forest X → Forest X) (ts : Forest X) → count p ts ≡ 0 → edited p f (ins_last v p i ts) ≡ extended v (node p i (f end) end) ts
    new_edited v f end z = refl
    new_edited v f (node q j ks ts) z = go (eqb q v) (new_edited v f ks (omega arith)) (new_edited v f ts (omega arith))
      where
        d : q ≡ p → ⊥
        d e = omega (arith, one_eq q p e)

        go : (b : Bool) → edited p f (ins_last v p i ks) ≡ extended v (node p i (f end) end) ks → edited p f (ins_last v p i ts) ≡ extended v (node p i (f end) end) ts
            → edited p f (cond b (node q j (append ks (node p i end end)) ts) (node q j (ins_last v p i ks) (ins_last v p i ts)))
            ≡ cond b (node q j (append ks (node p i (f end) end)) ts) (node q j (extended v (node p i (f end) end) ks) (extended v (node p i (f end) end) ts))
        go true h k =
            cond-false (eqb q p) (node q j (f (append ks (node p i end end))) ts) (node q j (edited p f (append ks (node p i end end))) (edited p f ts)) (ne_eqb q p d)
            ∙ (ap (λ y. node q j y (edited p f ts)) (last_edited f ks (omega arith)) ∙ ap (λ y. node q j (append ks (node p i (f end) end)) y) (edited_off p f ts (omega arith)))
        go false h k =
            cond-false (eqb q p) (node q j (f (ins_last v p i ks)) (ins_last v p i ts)) (node q j (edited p f (ins_last v p i ks)) (edited p f (ins_last v p i ts))) (ne_eqb q p d)
            ∙ (ap (λ y. node q j y (edited p f (ins_last v p i ts))) h ∙ ap (λ y. node q j (extended v (node p i (f end) end) ks) y) k)

    -- its parent
    module _ (l : Forest X) where
      last_parent : (u : Option ℕ) (ks : Forest X) → count p ks ≡ 0 → parent_in p u (append ks (node p i l end)) ≡ u
      last_parent u end z = pick_here p p l u (parent_in p (Some p) l) None refl
      last_parent u (node q j ks ts) z =
          pick_after p q ks u (parent_in p (Some q) ks) (parent_in p u (append ts (node p i l end))) (λ e. omega (arith, one_eq q p e)) (omega arith)
          ∙ last_parent u ts (omega arith)

      new_parent : (v : ℕ) (u : Option ℕ) (ts : Forest X) → count p ts ≡ 0 → count v ts ≡ 1 → parent_in p u (extended v (node p i l end) ts) ≡ Some v
      new_parent v u end z o = absurd (omega arith)
      new_parent v u (node q j ks ts) z o =
          by_edit v (λ y. append y (node p i l end)) (λ y _. parent_in p u y ≡ Some v) q j ks ts o
          (λ e a b. pick_below p q (append ks (node p i l end)) u (parent_in p (Some q) (append ks (node p i l end))) (parent_in p u ts) d (omega (arith, append_count p ks (node p i l end), one_same p))
          ∙ (last_parent (Some q) ks (omega arith) ∙ ap Some e))
          (λ e a b. pick_below p q (extended v (node p i l end) ks) u (parent_in p (Some q) (extended v (node p i l end) ks)) (parent_in p u ts) d (omega (arith, extended_count p v (node p i l end) ks a, one_same p))
          ∙ new_parent v (Some q) ks (omega arith) a)
          (λ e a b. pick_after p q ks u (parent_in p (Some q) ks) (parent_in p u (extended v (node p i l end) ts)) d (omega arith) ∙ new_parent v u ts (omega arith) b)
        where
          d : q ≡ p → ⊥
          d e = omega (arith, one_eq q p e)

-- how many nodes pieces have, and at which places
pub laid_size : (p n s : ℕ) (a : Pieces) → size (laid p n s a) ≡ nodes a
laid_size p n s no_pieces = refl
laid_size p n s (leaf x r) = omega (arith, laid_size (suc p) (suc n) (s + length (kept x)) r)
laid_size p n s (box b c r) =
    omega (arith, laid_size (suc p) (suc n) s c, laid_size (suc (p + nodes c)) (suc (n + nodes c)) (s + length (stored c)) r)

laid_count : (k p n s m : ℕ) (a : Pieces) → count k (laid p n s a) + occurs k (up_from (p + nodes a) m) ≡ occurs k (up_from p (nodes a + m))
laid_count k p n s m no_pieces =
    let e : p + 0 ≡ p = omega arith in
    let f : 0 + m ≡ m = omega arith in
    let g : occurs k (up_from (p + 0) m) ≡ occurs k (up_from p (0 + m)) = ap (λ y. occurs k (up_from y m)) e ∙ ap (λ y. occurs k (up_from p y)) (sym f) in
    omega arith
laid_count k p n s m (leaf x r) =
    let e : p + suc (nodes r) ≡ suc p + nodes r = omega arith in
    let f : suc (nodes r) + m ≡ suc (nodes r + m) = omega arith in
    let h = laid_count k (suc p) (suc n) (s + length (kept x)) m r in
    omega (arith, ap (λ y. occurs k (up_from y m)) e, ap (λ y. occurs k (up_from p y)) f, h)
laid_count k p n s m (box b c r) =
    let e : p + suc (nodes c + nodes r) ≡ suc (p + nodes c) + nodes r = omega arith in
    let f : suc (nodes c + nodes r) + m ≡ suc (nodes c + (nodes r + m)) = omega arith in
    let g : suc p + nodes c ≡ suc (p + nodes c) = omega arith in
    let h = laid_count k (suc p) (suc n) s (nodes r + m) c in
    let j = laid_count k (suc (p + nodes c)) (suc (n + nodes c)) (s + length (stored c)) m r in
    omega (arith, ap (λ y. occurs k (up_from y m)) e, ap (λ y. occurs k (up_from p y)) f, ap (λ y. occurs k (up_from y (nodes r + m))) g, h, j)

-- a site with the pieces a, whose nodes are at the places from p on, behind the children of the node where it stands; m places stay free
abbrev pub grown : Site → ℕ → ℕ → ℕ → Pieces → Site
grown s p n m a = record {
  tree = extended s.at (laid p n (length s.bytes) a) s.tree;
  free = up_from (p + nodes a) m;
  bytes = s.bytes ++ stored a;
  room = s.room;
  at = s.at;
}

-- a site has places from p on for the pieces, which stand nowhere in its tree, and room for their bytes; n is the next number
pub record Ready (s : Site) (p n m : ℕ) (a : Pieces) : Type 0 where
  pub frees : s.free ≡ up_from p (nodes a + m)
  pub numbers : size s.tree + 1 ≡ n
  pub holds : length s.bytes + length (stored a) ≤ s.room
  pub apart : (k : ℕ) → count k s.tree + occurs k (up_from p (nodes a + m)) ≤ 1
  pub stands : count s.at s.tree ≡ 1

-- a site, by its parts
abbrev pub mk : Forest Own → List ℕ → List ℕ → ℕ → ℕ → Site
mk t f b m v = record { tree = t; free = f; bytes = b; room = m; at = v }

same_site : (t u : Forest Own) (f g : List ℕ) (b d : List ℕ) (m v : ℕ) → t ≡ u → f ≡ g → b ≡ d → mk t f b m v ≡ mk u g d m v
same_site t u f g b d m v h k l = λ i. mk (h i) (k i) (l i) m v

fits_true : (s : Site) (t : List ℕ) → length s.bytes + length t ≤ s.room → fits s t ≡ true
fits_true s t h = grind (arith, nat_tests)

module _ (s : Site) (k : Kind) (t : List ℕ) (p : ℕ) (ps : List ℕ) (h : length s.bytes + length t ≤ s.room) where
  added_fits : (fs : List ℕ) → fs ≡ p ∷ ps → added s fs k t ≡ placed s p ps k t
  added_fits fs e = ap (λ y. added s y k t) e ∙ cond-true (fits s t) (placed s p ps k t) s (fits_true s t h)

  place_fits : (fs : List ℕ) → fs ≡ p ∷ ps → place_for s fs t ≡ Some p
  place_fits fs e = ap (λ y. place_for s y t) e ∙ cond-true (fits s t) (Some p) None (fits_true s t h)

module _ {X : Type 0} where
  extended_end : (v : ℕ) (ts : Forest X) → extended v end ts ≡ ts
  extended_end v end = refl
  extended_end v (node p j ks ts) = go (eqb p v) (extended_end v ks) (extended_end v ts)
    where
      go : (b : Bool) → extended v end ks ≡ ks → extended v end ts ≡ ts → cond b (node p j (append ks end) ts) (node p j (extended v end ks) (extended v end ts)) ≡ node p j ks ts
      go true h k = ap (λ y. node p j y ts) (appends.append_end ks)
      go false h k = ap (λ y. node p j y (extended v end ts)) h ∙ ap (λ y. node p j ks y) k

  -- one more sibling, and then more
  extended_more : (v p : ℕ) (i : X) (c l ts : Forest X) → extended v l (extended v (node p i c end) ts) ≡ extended v (node p i c l) ts
  extended_more v p i c l ts =
      edited_twice v (λ ks. append ks l) (λ ks. append ks (node p i c end)) ts ∙ edited_like v (λ ks. append (append ks (node p i c end)) l) (λ ks. append ks (node p i c l)) ts (λ ks. appends.append_assoc ks (node p i c end) l)

-- a leaf, and then what follows it
module _ (x : Leaf) (r : Pieces) (s : Site) (p n m : ℕ) (h : Ready s p n m (leaf x r)) where
  leaf_first : s.free ≡ p ∷ up_from (suc p) (nodes r + m)
  leaf_first = let e : suc (nodes r) + m ≡ suc (nodes r + m) = omega arith in h.frees ∙ ap (λ y. up_from p y) e

  leaf_occurs : (k : ℕ) → occurs k (up_from p (suc (nodes r) + m)) ≡ one p k + occurs k (up_from (suc p) (nodes r + m))
  leaf_occurs k = let e : suc (nodes r) + m ≡ suc (nodes r + m) = omega arith in ap (λ y. occurs k (up_from p y)) e

  leaf_holds : length s.bytes + length (kept x) + length (stored r) ≤ s.room
  leaf_holds = omega (arith, h.holds, length-append (kept x) (stored r))

  pub leaf_site : Site
  leaf_site = placed s p (up_from (suc p) (nodes r + m)) (leaf_kind x) (kept x)

  pub leaf_step : step s (Put x) ≡ leaf_site
  unfolding leaf_site
  leaf_step = added_fits s (leaf_kind x) (kept x) p (up_from (suc p) (nodes r + m)) (omega (arith, leaf_holds)) s.free leaf_first

  leaf_count : (k : ℕ) → count k leaf_site.tree ≡ one p k + count k s.tree
  unfolding leaf_site
  leaf_count k = omega (arith, extended_count k s.at (node p (next_own s (leaf_kind x) (length (kept x))) end end) s.tree h.stands)

  pub leaf_ready : Ready leaf_site (suc p) (suc n) m r
  unfolding leaf_site
  leaf_ready = record {
    frees = refl;
    numbers = omega (arith, h.numbers, extended_size s.at (node p (next_own s (leaf_kind x) (length (kept x))) end end) s.tree h.stands);
    holds = omega (arith, leaf_holds, length-append s.bytes (kept x));
    apart = λ k. omega (arith, h.apart k, leaf_occurs k, leaf_count k);
    stands = omega (arith, h.apart s.at, h.stands, leaf_occurs s.at, leaf_count s.at);
  }

  pub leaf_grown : grown leaf_site (suc p) (suc n) m r ≡ grown s p n m (leaf x r)
  unfolding leaf_site
  leaf_grown =
      let i = next_own s (leaf_kind x) (length (kept x)) in
      let o = own_data n (leaf_kind x) (length s.bytes) (length (kept x)) in
      let j : i ≡ o = ap (λ y. own_data y (leaf_kind x) (length s.bytes) (length (kept x))) h.numbers in
      let L : ℕ → Forest Own = λ y. laid (suc p) (suc n) y r in
      let e : suc p + nodes r ≡ p + suc (nodes r) = omega arith in
      same_site _ _ _ _ _ _ s.room s.at
      (ap (λ y. extended s.at (L y) (ins_last s.at p i s.tree)) (length-append s.bytes (kept x))
      ∙ (extended_more s.at p i end (L (length s.bytes + length (kept x))) s.tree ∙ ap (λ y. extended s.at (node p y end (L (length s.bytes + length (kept x)))) s.tree) j))
      (ap (λ y. up_from y m) e) (append_assoc s.bytes (kept x) (stored r))

-- a container: it is entered, filled and left
module _ (b : Box) (c r : Pieces) (s : Site) (p n m : ℕ) (h : Ready s p n m (box b c r)) where
  box_nodes : suc (nodes c + nodes r) + m ≡ suc (nodes c + (nodes r + m))
  box_nodes = omega arith

  box_first : s.free ≡ p ∷ up_from (suc p) (nodes c + (nodes r + m))
  box_first = h.frees ∙ ap (λ y. up_from p y) box_nodes

  box_occurs : (k : ℕ) → occurs k (up_from p (suc (nodes c + nodes r) + m)) ≡ one p k + occurs k (up_from (suc p) (nodes c + (nodes r + m)))
  box_occurs k = ap (λ y. occurs k (up_from p y)) box_nodes

  box_holds : length s.bytes + length (stored c) + length (stored r) ≤ s.room
  box_holds = omega (arith, h.holds, length-append (stored c) (stored r))

  pub inner_site : Site
  inner_site = turned (placed s p (up_from (suc p) (nodes c + (nodes r + m))) (box_kind b) []) (Some p)

  pub box_step : step s (Enter b) ≡ inner_site
  unfolding inner_site
  box_step =
      ap (λ y. turned y (place_for s s.free [])) (added_fits s (box_kind b) [] p (up_from (suc p) (nodes c + (nodes r + m))) (omega (arith, box_holds)) s.free box_first)
      ∙ ap (λ y. turned (placed s p (up_from (suc p) (nodes c + (nodes r + m))) (box_kind b) []) y) (place_fits s (box_kind b) [] p (up_from (suc p) (nodes c + (nodes r + m))) (omega (arith, box_holds)) s.free box_first)

  inner_count : (k : ℕ) → count k inner_site.tree ≡ one p k + count k s.tree
  unfolding inner_site
  inner_count k = omega (arith, extended_count k s.at (node p (next_own s (box_kind b) 0) end end) s.tree h.stands)

  pub inner_ready : Ready inner_site (suc p) (suc n) (nodes r + m) c
  unfolding inner_site
  inner_ready = record {
    frees = refl;
    numbers = omega (arith, h.numbers, extended_size s.at (node p (next_own s (box_kind b) 0) end end) s.tree h.stands);
    holds = omega (arith, box_holds, length-append s.bytes []);
    apart = λ k. omega (arith, h.apart k, box_occurs k, inner_count k);
    stands = omega (arith, h.apart p, box_occurs p, inner_count p, one_same p);
  }

  C : Forest Own
  C = laid (suc p) (suc n) (length s.bytes) c

  new : Forest Own
  new = node p (own_data n (box_kind b) (length s.bytes) 0) C end

  -- filled, and then left
  pub full_site : ℕ → Site
  full_site v = mk (extended s.at new s.tree) (up_from (suc (p + nodes c)) (nodes r + m)) (s.bytes ++ stored c) s.room v

  absent : count p s.tree ≡ 0
  absent = omega (arith, h.apart p, box_occurs p, one_same p)

  pub inner_full : grown inner_site (suc p) (suc n) (nodes r + m) c ≡ full_site p
  unfolding inner_site full_site new C
  inner_full =
      let i = next_own s (box_kind b) 0 in
      let o = own_data n (box_kind b) (length s.bytes) 0 in
      let j : i ≡ o = ap (λ y. own_data y (box_kind b) (length s.bytes) 0) h.numbers in
      let L : ℕ → Forest Own = λ y. laid (suc p) (suc n) y c in
      let z : length (s.bytes ++ []) ≡ length s.bytes = ap length (append-nil s.bytes) in
      let e : suc p + nodes c ≡ suc (p + nodes c) = omega arith in
      same_site _ _ _ _ _ _ s.room p
      (ap (λ y. extended p (L y) (ins_last s.at p i s.tree)) z
      ∙ (new_edited p i s.at (λ ks. append ks (L (length s.bytes))) s.tree absent ∙ ap (λ y. extended s.at (node p y (L (length s.bytes)) end) s.tree) j))
      (ap (λ y. up_from y (nodes r + m)) e) (ap (λ y. y ++ stored c) (append-nil s.bytes))

  pub box_left : step (full_site p) (Leave b) ≡ full_site s.at
  unfolding full_site new
  box_left = ap (λ y. turned (full_site p) y) (new_parent p (own_data n (box_kind b) (length s.bytes) 0) C s.at None s.tree absent h.stands)

  full_count : (k : ℕ) → count k (full_site s.at).tree + occurs k (up_from (suc (p + nodes c)) (nodes r + m)) ≡ count k s.tree + occurs k (up_from p (suc (nodes c + nodes r) + m))
  unfolding full_site new C
  full_count k =
      let e : suc p + nodes c ≡ suc (p + nodes c) = omega arith in
      omega (arith, box_occurs k, extended_count k s.at new s.tree h.stands, laid_count k (suc p) (suc n) (length s.bytes) (nodes r + m) c, ap (λ y. occurs k (up_from y (nodes r + m))) e)

  pub full_ready : Ready (full_site s.at) (suc (p + nodes c)) (suc (n + nodes c)) m r
  unfolding full_site new C
  full_ready = record {
    frees = refl;
    numbers = omega (arith, h.numbers, extended_size s.at new s.tree h.stands, laid_size (suc p) (suc n) (length s.bytes) c);
    holds = omega (arith, box_holds, length-append s.bytes (stored c));
    apart = λ k. omega (arith, h.apart k, full_count k);
    stands = omega (arith, h.apart s.at, h.stands, full_count s.at, extended_count s.at s.at new s.tree h.stands);
  }

  pub full_grown : grown (full_site s.at) (suc (p + nodes c)) (suc (n + nodes c)) m r ≡ grown s p n m (box b c r)
  unfolding full_site new C
  full_grown =
      let o = own_data n (box_kind b) (length s.bytes) 0 in
      let R : ℕ → Forest Own = λ y. laid (suc (p + nodes c)) (suc (n + nodes c)) y r in
      let e : suc (p + nodes c) + nodes r ≡ p + suc (nodes c + nodes r) = omega arith in
      same_site _ _ _ _ _ _ s.room s.at
      (ap (λ y. extended s.at (R y) (extended s.at (node p o C end) s.tree)) (length-append s.bytes (stored c))
      ∙ extended_more s.at p o C (R (length s.bytes + length (stored c))) s.tree)
      (ap (λ y. up_from y m) e) (append_assoc s.bytes (stored c) (stored r))

-- told pieces for which there is room, a site has their nodes
pub grows : (a : Pieces) (s : Site) (p n m : ℕ) → Ready s p n m a → fold step s (events a) ≡ grown s p n m a
grows no_pieces s p n m h =
    let e : p + 0 ≡ p = omega arith in
    let f : 0 + m ≡ m = omega arith in
    same_site _ _ _ _ _ _ s.room s.at (sym (extended_end s.at s.tree))
    (h.frees ∙ (ap (λ y. up_from p y) f ∙ ap (λ y. up_from y m) (sym e))) (sym (append-nil s.bytes))
grows (leaf x r) s p n m h =
    ap (λ y. fold step y (events r)) (leaf_step x r s p n m h)
    ∙ (grows r (leaf_site x r s p n m h) (suc p) (suc n) m (leaf_ready x r s p n m h) ∙ leaf_grown x r s p n m h)
grows (box b c r) s p n m h =
    let s1 = inner_site b c r s p n m h in
    ap (λ y. fold step y (events c ++ Leave b ∷ events r)) (box_step b c r s p n m h)
    ∙ (sym (fold_app step s1 (events c) (Leave b ∷ events r))
    ∙ (ap (λ y. fold step (step y (Leave b)) (events r)) (grows c s1 (suc p) (suc n) (nodes r + m) (inner_ready b c r s p n m h) ∙ inner_full b c r s p n m h)
    ∙ (ap (λ y. fold step y (events r)) (box_left b c r s p n m h)
    ∙ (grows r (full_site b c r s p n m h s.at) (suc (p + nodes c)) (suc (n + nodes c)) m (full_ready b c r s p n m h) ∙ full_grown b c r s p n m h))))
