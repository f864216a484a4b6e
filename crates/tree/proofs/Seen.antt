-- What a tree's ghost field says of its nodes, and where the table's links lead in them.
use mathlib.Core.HLevel.{Unit-prop, ×_prop, ×₃_prop}
use Rattle.std.proofs.Common.{◌≡◌, ℕ, ◌+◌, ◌<◌, ◌≤◌, Bool, false, cond, eqb, ltb, List, [], length, Some, None, vec_items, vec_len, vec_capacity, Option, sym, refl, ap, ◌∙◌, subst, inl, inr, arith}
use mathlib.Core.Logic.{∥∥₁_elim}
use native.Mathlib.Nat.{ℕ_set}
use native.Mathlib.Bridge.{le_prop}
use base.Stored.{Coded-set}
use Rattle.std.proofs.lemmas.Bool.{cases_lt, cond-true, cond-false, cond_both, cases_Bool}
use Rattle.forest.specs.Forest.{Forest, end, node, count, map, Distinct}
use Rattle.forest.specs.Asks.{own_in, parent_in, prev_in, next_in, first_in, index_in}
use Rattle.forest.proofs.Maps.{map_count, map_own, map_parent, map_prev, map_next, map_first, map_index}
use Rattle.forest.proofs.Told.{own_none}
use Rattle.table.specs.declared.kind.Kind.{Kind}
use Rattle.table.specs.declared.kind.Kind.TheVariants.{Root, Array, Object, Property, Null, Boolean, Number, String, Name, Token, Whitespace, Newline, LineComment, BlockComment}
use Rattle.table.specs.contracts.kind.Kind as K
use Rattle.table.specs.declared.node.Own as record_of
use Rattle.table.specs.Tables as table
use Rattle.table.proofs.Seen as of_table
use Rattle.model.specs.Nodes.{root}
use Rattle.model.specs.Asks.{Spot, tree, then, named, numbered_so, width, spelt, spot_handle}
use Rattle.tree.specs.declared.tree.Tree.{Tree}
use Rattle.tree.specs.Sorts.{sort_for, own_for, handle_for, bytes_in, Inside}
use Rattle.tree.specs.Well.{below, whole, kids_in, Well}
use Rattle.tree.specs.Trees.{kids}
use Rattle.tree.specs.Places.{spot_of, Stands}
use Rattle.tree.specs.Steps.{root_spot, later_spots, earlier_spots, child_spots, Names}
use Rattle.tree.proofs.Spots.{plug, spot_stands, spot_links, no_spot, from, back_from, Reached, Risen, rest_after, back_before, rest_kids, up_parent}

-- a kind whose sort is the root's is the root's
root_kind : (k : Kind) (t : List ℕ) → sort_for k t ≡ root → k ≡ Root
root_kind Root t e = refl
root_kind Array t e = let z : ◌≡◌ {A = ℕ} 0 1 = cc in absurd (omega arith)
root_kind Object t e = let z : ◌≡◌ {A = ℕ} 0 1 = cc in absurd (omega arith)
root_kind Property t e = let z : ◌≡◌ {A = ℕ} 0 1 = cc in absurd (omega arith)
root_kind Null t e = let z : ◌≡◌ {A = ℕ} 0 1 = cc in absurd (omega arith)
root_kind (Boolean b) t e = let z : ◌≡◌ {A = ℕ} 0 1 = cc in absurd (omega arith)
root_kind Number t e = let z : ◌≡◌ {A = ℕ} 0 1 = cc in absurd (omega arith)
root_kind String t e = let z : ◌≡◌ {A = ℕ} 0 1 = cc in absurd (omega arith)
root_kind Name t e = let z : ◌≡◌ {A = ℕ} 0 1 = cc in absurd (omega arith)
root_kind (Token c) t e = let z : ◌≡◌ {A = ℕ} 0 1 = cc in absurd (omega arith)
root_kind Whitespace t e = let z : ◌≡◌ {A = ℕ} 0 1 = cc in absurd (omega arith)
root_kind (Newline k) t e = let z : ◌≡◌ {A = ℕ} 0 1 = cc in absurd (omega arith)
root_kind LineComment t e = let z : ◌≡◌ {A = ℕ} 0 1 = cc in absurd (omega arith)
root_kind BlockComment t e = let z : ◌≡◌ {A = ℕ} 0 1 = cc in absurd (omega arith)

kind_set : IsSet Kind
kind_set = Coded-set (K.the_row).coded

inside_prop : (n : ℕ) (ts : Forest record_of.Own) → IsProp (Inside n ts)
inside_prop n end = Unit-prop
inside_prop n (node p o ks ts) = ×₃_prop le_prop (inside_prop n ks) (inside_prop n ts)

-- what holds of each node's record holds of one
inside_at : (n k : ℕ) (o : record_of.Own) (ts : Forest record_of.Own) → Inside n ts → own_in k ts ≡ Some o → o.start + o.len ≤ n
inside_at n k o end h = λ e. (let z : ◌≡◌ {A = ℕ} 0 1 = cc in absurd (omega arith))
inside_at n k o (node p i ks ts) (a, b, c) =
    cond_both (eqb p k) (Some i) (cond (ltb 0 (count k ks)) (own_in k ks) (own_in k ts)) (λ y. y ≡ Some o → o.start + o.len ≤ n)
    (λ _ e. (let z : i ≡ o = cc in subst (λ y. y.start + y.len ≤ n) z a))
    (λ _. cond_both (ltb 0 (count k ks)) (own_in k ks) (own_in k ts) (λ y. y ≡ Some o → o.start + o.len ≤ n) (λ _. inside_at n k o ks b) (λ _. inside_at n k o ts c))

module _ (t : Tree) where
  -- the root's record
  root_says : (i : record_of.Own) (ks : Forest record_of.Own) → table.tree t.table ≡ node 0 i ks end → Well t.table (vec_items t.store) t.fresh t.room (vec_capacity t.store)
      → (i.number ≡ 1) × (i.kind ≡ Root)
  unfolding whole
  root_says i ks e w =
      let m : node 0 (own_for (vec_items t.store) i) (map (own_for (vec_items t.store)) ks) end ≡ tree (kids_in t.table (vec_items t.store)) = sym (ap (map (own_for (vec_items t.store))) e) ∙ w.rooted in
      let o : own_for (vec_items t.store) i ≡ record { number = 1; sort = root } = cc in
      (ap (λ y. y.number) o, root_kind i.kind (bytes_in (vec_items t.store) i) (ap (λ y. y.sort) o))

  pub root_is : (i : record_of.Own) × (ks : Forest record_of.Own) × (table.tree t.table ≡ node 0 i ks end) × (i.number ≡ 1) × (i.kind ≡ Root)
  root_is = go (of_table.tree_root t.table)
    where
      go : ((i : record_of.Own) × ((ks : Forest record_of.Own) × (table.tree t.table ≡ node 0 i ks end)))
          → (i : record_of.Own) × (ks : Forest record_of.Own) × (table.tree t.table ≡ node 0 i ks end) × (i.number ≡ 1) × (i.kind ≡ Root)
      go (i, (ks, e)) = (let m = ∥∥₁_elim t.ok (×_prop (ℕ_set i.number 1) (kind_set i.kind Root)) (root_says i ks e) in (i, ks, e, m.0, m.1))

  -- the nodes are the root above its children
  pub rooted : whole t.table (vec_items t.store) ≡ tree (kids t)
  unfolding whole kids_in
  rooted = go root_is
    where
      go : ((i : record_of.Own) × (ks : Forest record_of.Own) × (table.tree t.table ≡ node 0 i ks end) × (i.number ≡ 1) × (i.kind ≡ Root))
          → map (own_for (vec_items t.store)) (table.tree t.table) ≡ tree (below (map (own_for (vec_items t.store)) (table.tree t.table)))
      go (i, ks, e, n, k) =
          let f = own_for (vec_items t.store) in
          let o : f i ≡ record { number = 1; sort = root } = ap (λ y. record { number = y; sort = sort_for i.kind (bytes_in (vec_items t.store) i) }) n ∙ ap (λ y. record { number = 1; sort = sort_for y (bytes_in (vec_items t.store) i) }) k in
          ap (map f) e ∙ (ap (λ y. node 0 y (map f ks) end) o ∙ ap (λ y. tree (below (map f y))) (sym e))

  -- the bytes of each node lie in the store
  pub bytes_inside : Inside (length (vec_items t.store)) (table.tree t.table)
  bytes_inside = ∥∥₁_elim t.ok (inside_prop (length (vec_items t.store)) (table.tree t.table)) (λ w. w.inside)

  -- the store's bytes are few
  pub store_few : length (vec_items t.store) ≤ 1048576
  store_few = ∥∥₁_elim t.ok le_prop (λ w. (let a = w.used in let b = w.large in omega arith))

  -- a place stands in the table where it stands in the document
  pub count_is : (k : ℕ) → count k (tree (kids t)) ≡ count k (table.tree t.table)
  unfolding whole
  count_is k = ap (λ y. count k y) (sym rooted) ∙ map_count (own_for (vec_items t.store)) k (table.tree t.table)

  pub distinct : Distinct (tree (kids t))
  distinct k = omega (arith, count_is k, of_table.tree_distinct t.table k)

  pub root_stands : Stands 0 (kids t)
  root_stands = omega arith

  -- the root's spot
  pub root_is_there : spot_of 0 (kids t) ≡ root_spot (kids t)
  unfolding spot_of
  root_is_there = refl

  module _ (k : ℕ) (c : Stands k (kids t)) where
    pub in_table : 0 < count k (table.tree t.table)
    in_table = omega (arith, count_is k)

    pub place_is : (spot_of k (kids t)).here.place ≡ k
    place_is = (spot_links (kids t) distinct k c).here

    pub own_is : (o : record_of.Own) → Some o ≡ own_in k (table.tree t.table) → own_for (vec_items t.store) o ≡ (spot_of k (kids t)).here.own
    unfolding whole
    own_is o e =
        let m : own_in k (tree (kids t)) ≡ Some (own_for (vec_items t.store) o) = ap (λ y. own_in k y) (sym rooted) ∙ map_own (own_for (vec_items t.store)) k o (table.tree t.table) (sym e) in
        let l : own_in k (tree (kids t)) ≡ Some (spot_of k (kids t)).here.own = (spot_links (kids t) distinct k c).own in
        cc

    pub handle_is : (o : record_of.Own) → Some o ≡ own_in k (table.tree t.table) → handle_for (record { place = k; number = o.number }) ≡ spot_handle (spot_of k (kids t))
    handle_is o e =
        ap (λ y. record { place = y; number = o.number }) (sym place_is) ∙ ap (λ y. record { place = (spot_of k (kids t)).here.place; number = y.number }) (own_is o e)

    -- the whole document stands round it
    pub plug_is : plug (spot_of k (kids t)) ≡ tree (kids t)
    plug_is = (spot_links (kids t) distinct k c).whole

    -- a node's bytes lie in the store
    pub part_is : (o : record_of.Own) → Some o ≡ own_in k (table.tree t.table) → o.start + o.len ≤ vec_len t.store
    part_is o e =
        let l : vec_len t.store ≡ length (vec_items t.store) = t.store.ok.0 in
        omega (arith, inside_at (length (vec_items t.store)) k o (table.tree t.table) bytes_inside (sym e))

    -- what a node of a kind prints
    pub spelt_is : (o : record_of.Own) → Some o ≡ own_in k (table.tree t.table) → (x : Kind) → o.kind ≡ x → spelt (sort_for x (bytes_in (vec_items t.store) o)) ≡ spelt (spot_of k (kids t)).here.own.sort
    spelt_is o e x z = ap (λ y. spelt (sort_for y (bytes_in (vec_items t.store) o))) (sym z) ∙ ap (λ y. spelt y.sort) (own_is o e)

    pub next_is : (r : Option ℕ) → r ≡ next_in k (table.tree t.table) → Reached from later_spots r (kids t) (spot_of k (kids t)).here.after (later_spots (spot_of k (kids t)))
    unfolding whole
    next_is r e = rest_after (kids t) distinct k c r (e ∙ (map_next (own_for (vec_items t.store)) k (table.tree t.table) ∙ (ap (λ y. next_in k y) rooted ∙ (spot_links (kids t) distinct k c).next)))

    pub previous_is : (r : Option ℕ) → r ≡ prev_in k None (table.tree t.table) → Reached back_from earlier_spots r (kids t) (spot_of k (kids t)).here.before (earlier_spots (spot_of k (kids t)))
    unfolding whole
    previous_is r e = back_before (kids t) distinct k c r (e ∙ (map_prev (own_for (vec_items t.store)) k None (table.tree t.table) ∙ (ap (λ y. prev_in k None y) rooted ∙ (spot_links (kids t) distinct k c).prev)))

    pub first_is : (r : Option ℕ) → r ≡ first_in k (table.tree t.table) → Reached from later_spots r (kids t) (spot_of k (kids t)).kids (child_spots (spot_of k (kids t)))
    unfolding whole
    first_is r e = rest_kids (kids t) distinct k c r (e ∙ (map_first (own_for (vec_items t.store)) k (table.tree t.table) ∙ (ap (λ y. first_in k y) rooted ∙ (spot_links (kids t) distinct k c).first)))

    pub parent_is : (r : Option ℕ) → r ≡ parent_in k None (table.tree t.table) → Risen r (kids t) (spot_of k (kids t))
    unfolding whole
    parent_is r e = up_parent (kids t) distinct k c r (e ∙ (map_parent (own_for (vec_items t.store)) k None (table.tree t.table) ∙ (ap (λ y. parent_in k None y) rooted ∙ (spot_links (kids t) distinct k c).up)))

    pub index_is : (r : ℕ) → r ≡ index_in k 0 (table.tree t.table) → r ≡ width (spot_of k (kids t)).here.before
    unfolding whole
    index_is r e = e ∙ (map_index (own_for (vec_items t.store)) k 0 (table.tree t.table) ∙ (ap (λ y. index_in k 0 y) rooted ∙ (spot_links (kids t) distinct k c).index))

-- whether a handle names a node
module _ (t : Tree) (k n : ℕ) where
  told : Option record_of.Own → Bool
  told o = elim o [ Some v ↦ eqb v.number n | None ↦ false ]

  named_there : (r : Bool) (o : record_of.Own) → Stands k (kids t) → own_in k (table.tree t.table) ≡ Some o → r ≡ eqb o.number n → Names r (record { place = k; number = n }) (kids t)
  named_there r o c e f =
      let s : Spot = spot_of k (kids t) in
      let w : own_for (vec_items t.store) o ≡ (spot_of k (kids t)).here.own = own_is t k c o (sym e) in
      let m : named (record { place = k; number = n }) (kids t) ≡ numbered_so n s = ap (λ y. then y (numbered_so n)) (spot_stands (kids t) (distinct t) k c) in
      let g : r ≡ eqb s.here.own.number n = f ∙ ap (λ y. eqb y.number n) w in
      elim (cases_Bool r) [
        | inl y ↦ subst (λ z. Names z (record { place = k; number = n }) (kids t)) (sym y) (c, m ∙ cond-true (eqb s.here.own.number n) (Some s) None (sym g ∙ y))
        | inr y ↦ subst (λ z. Names z (record { place = k; number = n }) (kids t)) (sym y) (m ∙ cond-false (eqb s.here.own.number n) (Some s) None (sym g ∙ y))
      ]

  pub names_is : (r : Bool) → r ≡ table.holds_in k n (table.tree t.table) → Names r (record { place = k; number = n }) (kids t)
  unfolding table.holds_in told
  names_is r e =
      elim (cases_lt 0 (count k (tree (kids t)))) [
        | inl c ↦ named_there r _ c (of_table.own_at t.table k (in_table t k c)) (e ∙ ap told (of_table.own_at t.table k (in_table t k c)))
        | inr c ↦ subst (λ y. Names y (record { place = k; number = n }) (kids t)) (sym (e ∙ ap told (own_none k (table.tree t.table) (omega (arith, count_is t k)))))
            (ap (λ o. then o (numbered_so n)) (no_spot k [] end (tree (kids t)) (omega arith)))
      ]
