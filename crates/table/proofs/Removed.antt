-- A table without the node c, which is not the root, and all below it.
use Rattle.std.proofs.Common.{◌≡◌, ℕ, ◌+◌, ◌<◌, ◌≤◌, List, ◌++◌, reverse, length, vec_items, vec_len, vec_capacity, sym, ap, ◌∙◌, subst, arith}
use mathlib.Core.List.{reverse-append}
use Rattle.std.specs.Vec.{with_items}
use Rattle.forest.specs.Forest.{count, size}
use Rattle.forest.specs.Edits.{delete, family}
use Rattle.table.specs.declared.node.Node.{Node}
use Rattle.table.specs.declared.table.Table.{Table}
use Rattle.table.specs.Nodes.{forest_at}
use Rattle.table.specs.Writes.{unlinked}
use Rattle.table.specs.Sound.{Good, Loose, Released}
use Rattle.table.specs.Tables.{tree, free}
use Rattle.table.proofs.Goods.{cut_loose, cut_room, remove_good, remove_stack}
use Rattle.table.proofs.Seen.{good_of, tree_of, there_of, written_of}

-- cut off
module _ (t : Table) (xs : List Node) (same : xs ≡ vec_items t.nodes) (c : ℕ) (o : 0 < count c (tree t)) (inner : c ≡ 0 → ⊥) (ys : List Node) (e : ys ≡ unlinked xs c) where
  pub off_loose : (k : ℕ) → k ≡ c → Loose ys k (forest_at ys k)
  off_loose k at_c = subst (λ z. Loose ys z (forest_at ys z)) (sym at_c) (cut_loose xs (vec_items t.spare) (vec_capacity t.spare) c (good_of t xs same) (there_of t xs same c o) inner ys e)

  pub off_room : (k : ℕ) → k ≡ c → vec_len t.spare + size (forest_at ys k) ≤ vec_capacity t.spare
  off_room k at_c =
      let l : vec_len t.spare ≡ length (vec_items t.spare) = t.spare.ok.0 in
      omega (arith, cut_room xs (vec_items t.spare) (vec_capacity t.spare) c (good_of t xs same) (there_of t xs same c o) inner ys e, ap (λ z. size (forest_at ys z)) at_c)

  -- and given back
  module _ (zs : List Node) (more : List ℕ) (w : Released ys (vec_items t.spare) (forest_at ys c) zs more) (l : length zs ≡ length xs) where
    back : Released ys (vec_items t.spare) (forest_at ys c) (vec_items (with_items t.nodes zs)) more
    back = subst (λ z. Released ys (vec_items t.spare) (forest_at ys c) z more) (sym (written_of t xs same zs l)) w

    pub gone : (room : ℕ) → room ≡ vec_capacity t.spare
        → Good (vec_items (with_items t.nodes zs)) more room × (forest_at (vec_items (with_items t.nodes zs)) 0 ≡ delete c (tree t))
    gone room r =
        let m = remove_good xs (vec_items t.spare) (vec_capacity t.spare) c (good_of t xs same) (there_of t xs same c o) inner ys e (vec_items (with_items t.nodes zs)) more back in
        (subst (λ y. Good (vec_items (with_items t.nodes zs)) more y) (sym r) m.0, m.1 ∙ ap (λ y. delete c y) (tree_of t xs same))

    pub free_given : reverse more ≡ reverse (family c (tree t)) ++ free t
    unfolding free
    free_given =
        ap reverse (remove_stack xs (vec_items t.spare) (vec_capacity t.spare) c (good_of t xs same) (there_of t xs same c o) inner ys e zs more w
        ∙ ap (λ y. vec_items t.spare ++ family c y) (tree_of t xs same))
        ∙ reverse-append (vec_items t.spare) (family c (tree t))
