-- A table with a new leaf at the free place n, which is on top of the stack, beside or below the node s.
use Rattle.std.proofs.Common.{◌≡◌, ℕ, ◌<◌, List, [], ◌∷◌, ◌++◌, reverse, length, vec_items, vec_capacity, sym, ap, ◌∙◌, subst}
use mathlib.Core.List.{reverse-append}
use Rattle.std.specs.Vec.{with_items}
use Rattle.forest.specs.Forest.{count}
use Rattle.forest.specs.Edits.{ins_after, ins_first}
use Rattle.table.specs.declared.node.Own.{Own}
use Rattle.table.specs.declared.node.Node.{Node}
use Rattle.table.specs.declared.table.Table.{Table}
use Rattle.table.specs.Nodes.{forest_at}
use Rattle.table.specs.Writes.{link_after, link_first}
use Rattle.table.specs.Sound.{Good}
use Rattle.table.specs.Tables.{tree, free}
use Rattle.table.proofs.Goods.{top_in, first_good, after_good}
use Rattle.table.proofs.Seen.{good_of, tree_of, there_of, written_of}

pub free_taken : (t : Table) (fs : List ℕ) (n : ℕ) → vec_items t.spare ≡ fs ++ n ∷ [] → free t ≡ n ∷ reverse fs
unfolding free
free_taken t fs n e = ap reverse e ∙ reverse-append fs (n ∷ [])

module _ (t : Table) (xs : List Node) (same : xs ≡ vec_items t.nodes) (fs : List ℕ) (n s : ℕ) (top : vec_items t.spare ≡ fs ++ n ∷ []) (c : 0 < count s (tree t)) where
  pub top_fits : n < length xs
  top_fits = top_in xs fs n s (vec_capacity t.spare) (vec_items t.spare) top (good_of t xs same) (there_of t xs same s c)

  pub first_put : (i : Own) → (i.number ≡ 0 → ⊥) → (ys : List Node) → ys ≡ link_first xs s n i → length ys ≡ length xs → (room : ℕ) → room ≡ vec_capacity t.spare
      → Good (vec_items (with_items t.nodes ys)) fs room × (forest_at (vec_items (with_items t.nodes ys)) 0 ≡ ins_first s n i (tree t))
  first_put i nz ys e l room r =
      let m = first_good xs fs n s (vec_capacity t.spare) (vec_items t.spare) top (good_of t xs same) (there_of t xs same s c) i nz (vec_items (with_items t.nodes ys)) (written_of t xs same ys l ∙ e) in
      (subst (λ y. Good (vec_items (with_items t.nodes ys)) fs y) (sym r) m.0, m.1 ∙ ap (λ y. ins_first s n i y) (tree_of t xs same))

  pub after_put : (s ≡ 0 → ⊥) → (i : Own) → (i.number ≡ 0 → ⊥) → (ys : List Node) → ys ≡ link_after xs s n i → length ys ≡ length xs → (room : ℕ) → room ≡ vec_capacity t.spare
      → Good (vec_items (with_items t.nodes ys)) fs room × (forest_at (vec_items (with_items t.nodes ys)) 0 ≡ ins_after s n i (tree t))
  after_put inner i nz ys e l room r =
      let m = after_good xs fs n s (vec_capacity t.spare) (vec_items t.spare) top (good_of t xs same) (there_of t xs same s c) inner i nz (vec_items (with_items t.nodes ys)) (written_of t xs same ys l ∙ e) in
      (subst (λ y. Good (vec_items (with_items t.nodes ys)) fs y) (sym r) m.0, m.1 ∙ ap (λ y. ins_after s n i y) (tree_of t xs same))
