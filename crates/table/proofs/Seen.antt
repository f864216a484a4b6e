-- What a table's ghost field says of its tree and its free places, and of the links that are read.
use Rattle.std.proofs.Common.{◌≡◌, ℕ, ◌+◌, ◌<◌, ◌≤◌, Bool, true, false, eqb, List, length, get_or, Some, None, vec_items, vec_len, vec_capacity, Option, sym, refl, ap, ◌∙◌, subst, ⊎_elim, arith}
use Rattle.std.specs.Vec.{with_items}
use Rattle.std.proofs.lemmas.List.{get_or_default, length-reverse, with_items_is}
use Rattle.std.proofs.lemmas.Bool.{cases_lt, ne_eqb, both_ways}
use Rattle.forest.specs.Forest.{Forest, end, node, count, size, occurs, Distinct}
use Rattle.forest.specs.Links.{none, target}
use Rattle.forest.specs.Asks.{own_in, parent_in, prev_in, next_in, first_in, last_in, index_in}
use Rattle.forest.specs.Edits.{kids}
use Rattle.forest.proofs.Places.{occurs_reverse}
use Rattle.forest.proofs.Edited.{kids_part, head_no_kid}
use Rattle.forest.proofs.Tails.{last_in_lem}
use Rattle.forest.proofs.Index.{index_none, index_some, index_size}
use Rattle.forest.proofs.Told.{own_told, own_none, up_told, prev_told, next_told, first_told, last_told}
use Rattle.table.specs.declared.node.Own.{Own}
use Rattle.table.specs.declared.node.Node.{Node}
use Rattle.table.specs.declared.table.Table.{Table}
use Rattle.table.specs.Nodes.{at, blank, own_of, up_of, prev_of, next_of, first_of, last_of, forest_at}
use Rattle.table.specs.Sound.{Sound, Good, within}
use Rattle.table.specs.Tables.{tree, free, records, holds_in}
use Rattle.table.proofs.Writes.{within_le, within_lt, lt_within}
use Rattle.table.proofs.Standing.{none_out}
use Rattle.table.proofs.Roots.{one_root}
use Rattle.table.proofs.Props.{held}

module _ (t : Table) where
  pub good : Good (vec_items t.nodes) (vec_items t.spare) (vec_capacity t.spare)
  good = held (vec_items t.nodes) (vec_items t.spare) (vec_capacity t.spare) t.ok

  pub sound : Sound (vec_items t.nodes) (vec_items t.spare) (tree t)
  unfolding tree
  sound = good.sound

  pub nodes_long : vec_len t.nodes ≡ length (vec_items t.nodes)
  nodes_long = t.nodes.ok.0

  pub spare_long : vec_len t.spare ≡ length (free t)
  unfolding free
  spare_long = let e : vec_len t.spare ≡ length (vec_items t.spare) = t.spare.ok.0 in e ∙ sym (length-reverse (vec_items t.spare))

  -- each place of the table is once in the tree or once on the stack
  pub tree_free : (k : ℕ) → count k (tree t) + occurs k (free t) ≡ within k (records t)
  unfolding free records
  tree_free k =
      omega (arith, sound.once k, occurs_reverse k (vec_items t.spare), ap (λ z. within k z) nodes_long)

  -- no place stands twice in the tree
  pub tree_distinct : Distinct (tree t)
  tree_distinct k = omega (arith, tree_free k, within_le k (records t))

  -- every record is that of a node or of a free place
  pub tree_size : size (tree t) + length (free t) ≡ records t
  unfolding free records
  tree_size = omega (arith, sound.sized, nodes_long, length-reverse (vec_items t.spare))

  pub records_few : records t ≤ none
  unfolding records
  records_few = omega (arith, sound.small, nodes_long)

  -- the tree has one root, at the place 0
  pub tree_root : (i : Own) × ((ks : Forest Own) × (tree t ≡ node 0 i ks end))
  tree_root = one_root (tree t) tree_distinct sound.starts sound.stops

  pub root_there : 0 < count 0 (tree t)
  root_there = go tree_root
    where
      go : ((i : Own) × ((ks : Forest Own) × (tree t ≡ node 0 i ks end))) → 0 < count 0 (tree t)
      go (i, (ks, e)) = omega (arith, ap (λ z. count 0 z) e)

  no_none : count none (tree t) ≡ 0
  no_none = none_out (vec_items t.nodes) (vec_items t.spare) (tree t) sound

  -- the same of the records as they are lent
  module _ (xs : List Node) (e : xs ≡ vec_items t.nodes) where
    pub good_of : Good xs (vec_items t.spare) (vec_capacity t.spare)
    good_of = subst (λ y. Good y (vec_items t.spare) (vec_capacity t.spare)) (sym e) good

    pub tree_of : forest_at xs 0 ≡ tree t
    unfolding tree
    tree_of = ap (λ y. forest_at y 0) e

    pub there_of : (k : ℕ) → 0 < count k (tree t) → 0 < count k (forest_at xs 0)
    there_of k c = omega (arith, c, ap (λ y. count k y) tree_of)

    -- as many records written back are those
    pub written_of : (ys : List Node) → length ys ≡ length xs → vec_items (with_items t.nodes ys) ≡ ys
    written_of ys l = with_items_is t.nodes ys (omega (arith, l, ap (λ y. length y) e, nodes_long))

  -- a node of the tree
  module _ (k : ℕ) (c : 0 < count k (tree t)) where
    pub there_once : count k (tree t) ≡ 1
    there_once = omega (arith, tree_distinct k)

    pub there_in : k < vec_len t.nodes
    unfolding records
    there_in = lt_within k (records t) (omega (arith, tree_free k))

    -- its record is what its position says
    pub own_is : Some (own_of (vec_items t.nodes) k) ≡ own_in k (tree t)
    own_is = own_told (own_of (vec_items t.nodes)) k (tree t) there_once sound.holds.owns

    pub parent_is : target (up_of (vec_items t.nodes) k) ≡ parent_in k None (tree t)
    parent_is = up_told (up_of (vec_items t.nodes)) k none None (tree t) refl no_none there_once sound.holds.ups

    pub prev_is : target (prev_of (vec_items t.nodes) k) ≡ prev_in k None (tree t)
    prev_is = prev_told (prev_of (vec_items t.nodes)) k none None (tree t) refl no_none there_once sound.holds.prevs

    pub next_is : target (next_of (vec_items t.nodes) k) ≡ next_in k (tree t)
    next_is = next_told (next_of (vec_items t.nodes)) k (tree t) no_none there_once sound.holds.nexts

    pub first_is : target (first_of (vec_items t.nodes) k) ≡ first_in k (tree t)
    first_is = first_told (first_of (vec_items t.nodes)) k (tree t) no_none there_once sound.holds.firsts

    pub last_is : target (last_of (vec_items t.nodes) k) ≡ last_in k (tree t)
    last_is = last_told (last_of (vec_items t.nodes)) k (tree t) no_none there_once sound.holds.lasts

    -- the sibling before it is a node of the tree, with an index one less
    pub index_before : (x : ℕ) → prev_in k None (tree t) ≡ Some x → (0 < count x (tree t)) × (index_in k 0 (tree t) ≡ index_in x 0 (tree t) + 1)
    index_before x e =
        let s : (count x (tree t) ≡ 1) × (index_in k 0 (tree t) ≡ index_in x 0 (tree t) + 1) = index_some k x (tree t) tree_distinct there_once e in
        (omega (arith, s.0), s.1)

    pub index_start : prev_in k None (tree t) ≡ None → index_in k 0 (tree t) ≡ 0
    index_start e = index_none k (tree t) tree_distinct there_once e

    pub index_few : index_in k 0 (tree t) < none
    index_few = omega (arith, index_size k 0 (tree t) there_once, tree_size, records_few)

    -- its last child is a node of the tree, and not the root
    last_below : (s : ℕ) → last_in k (tree t) ≡ Some s → (0 < count s (tree t)) × (s ≡ 0 → ⊥)
    last_below s e = (omega (arith, kids_part k s (tree t) there_once, last_in_lem k s (tree t) there_once e), λ z. go z tree_root)
      where
        go : s ≡ 0 → ((i : Own) × ((ks : Forest Own) × (tree t ≡ node 0 i ks end))) → ⊥
        go z (i, (ks, q)) = head_no_kid k 0 i ks end (subst Distinct q tree_distinct) (ap (λ y. count k y) (sym q) ∙ there_once)
            (subst (λ y. 0 < count y (kids k (node 0 i ks end))) z (subst (λ y. 0 < count s (kids k y)) q (last_in_lem k s (tree t) there_once e)))

    pub last_there : (s : ℕ) → last_in k (tree t) ≡ Some s → 0 < count s (tree t)
    last_there s e = (last_below s e).0

    pub last_inner : (s : ℕ) → last_in k (tree t) ≡ Some s → s ≡ 0 → ⊥
    last_inner s e = (last_below s e).1

    pub own_at : own_in k (tree t) ≡ Some (own_of (vec_items t.nodes) k)
    own_at = sym own_is

    pub own_live : (o : Own) → own_in k (tree t) ≡ Some o → o.number ≡ 0 → ⊥
    own_live o e z = sound.live k c (ap (λ y. y.number) q ∙ z)
      where
        q : own_of (vec_items t.nodes) k ≡ o
        q = let s : Some (own_of (vec_items t.nodes) k) ≡ Some o = sym own_at ∙ e in cc

  -- whether a place holds a number
  told : Option Own → ℕ → Bool
  told o n = elim o [ Some v ↦ eqb v.number n | None ↦ false ]

  out_false : (k n : ℕ) → count k (tree t) ≡ 0 → holds_in k n (tree t) ≡ false
  unfolding told holds_in
  out_false k n c = ap (λ o. told o n) (own_none k (tree t) c)

  in_tells : (k n : ℕ) (c : 0 < count k (tree t)) → holds_in k n (tree t) ≡ eqb (own_of (vec_items t.nodes) k).number n
  unfolding told holds_in
  in_tells k n c = ap (λ o. told o n) (own_at k c)

  pub holds_zero : (k : ℕ) → holds_in k 0 (tree t) ≡ false
  holds_zero k =
      ⊎_elim (λ c. in_tells k 0 c ∙ ne_eqb (own_of (vec_items t.nodes) k).number 0 (sound.live k c))
      (λ c. out_false k 0 (omega arith)) (cases_lt 0 (count k (tree t)))

  -- what a handle holds is there
  pub holds_there : (k n : ℕ) → holds_in k n (tree t) ≡ true → 0 < count k (tree t)
  holds_there k n e = ⊎_elim (λ c. c) (λ c. absurd (both_ways (holds_in k n (tree t)) (out_false k n (omega arith)) e)) (cases_lt 0 (count k (tree t)))

  pub holds_past : (k n : ℕ) → vec_len t.nodes ≤ k → holds_in k n (tree t) ≡ false
  holds_past k n l =
      ⊎_elim (λ c. absurd (omega (arith, there_in k c))) (λ c. out_false k n (omega arith)) (cases_lt 0 (count k (tree t)))

  pub holds_is : (k n : ℕ) (x : Node) → k < vec_len t.nodes → (n ≡ 0 → ⊥) → x ≡ get_or (vec_items t.nodes) k x
      → eqb x.own.number n ≡ holds_in k n (tree t)
  unfolding free records
  holds_is k n x l d e =
      ap (λ y. eqb y.own.number n) (e ∙ get_or_default (vec_items t.nodes) k x blank (omega (arith, nodes_long)))
      ∙ ⊎_elim (λ c. sym (in_tells k n c)) (λ c. free_false (omega arith)) (cases_lt 0 (count k (tree t)))
    where
      free_false : count k (tree t) ≡ 0 → eqb (at (vec_items t.nodes) k).own.number n ≡ holds_in k n (tree t)
      free_false c =
          let z : (at (vec_items t.nodes) k).own.number ≡ 0 =
          sound.freed k (omega (arith, tree_free k, within_lt k (records t) l, occurs_reverse k (vec_items t.spare))) in
          ne_eqb (at (vec_items t.nodes) k).own.number n (λ q. d (sym q ∙ z)) ∙ sym (out_false k n c)
