-- A node's siblings, ancestors and children are nodes of its tree, and so they are few.
use Rattle.std.proofs.Common.{◌≡◌, suc, ◌+◌, ◌≤◌, ◌<◌, List, [], ◌∷◌, length, vec_items, ap, arith}
use Rattle.forest.specs.Forest.{end, node, size}
use Rattle.forest.proofs.Maps.{map_size}
use Rattle.table.specs.Tables as table
use Rattle.table.proofs.Seen as of_table
use Rattle.model.specs.Nodes.{Nodes}
use Rattle.model.specs.Asks.{Frame, Spot, tree, width}
use Rattle.model.specs.Edits.{onto}
use Rattle.tree.specs.declared.node.Node.{Node}
use Rattle.tree.specs.Sorts.{own_for}
use Rattle.tree.specs.Well.{whole}
use Rattle.tree.specs.Trees.{kids}
use Rattle.tree.specs.Steps.{spot, child_spots, later_spots, earlier_spots, ancestor_spots}
use Rattle.tree.proofs.Spots.{fill, plug}
use Rattle.tree.proofs.Seen.{rooted, plug_is}
use Rattle.tree.proofs.Listed.{length_on, length_back, length_up}

size_onto : (b t : Nodes) → size (onto b t) ≡ size b + size t
size_onto end t = omega arith
size_onto (node p i ks b) t = omega (arith, size_onto b (node p i ks t))

size_fill : (us : List Frame) (t : Nodes) → size t + length us ≤ size (fill us t)
size_fill [] t = omega arith
size_fill (f ∷ us) t = omega (arith, size_fill us (onto f.before (node f.place f.own t f.after)), size_onto f.before (node f.place f.own t f.after))

pub width_size : (t : Nodes) → width t ≤ size t
width_size end = omega arith
width_size (node p i ks t) = omega (arith, width_size t)

-- a node, its siblings, what is below it and its ancestors are no more than the nodes of the whole tree
pub plug_size : (s : Spot) → size s.here.before + (suc (size s.kids + size s.here.after) + length s.ups) ≤ size (plug s)
plug_size s =
    let N : Nodes = node s.here.place s.here.own s.kids s.here.after in
    omega (arith, size_onto s.here.before N, size_fill s.ups (onto s.here.before N))

module _ (n : Node) where
  pub tree_few : size (tree (kids n.tree.now)) ≤ 65535
  unfolding whole
  tree_few = omega (arith, ap (λ y. size y) (rooted n.tree.now), map_size (own_for (vec_items n.tree.now.store)) (table.tree n.tree.now.table), of_table.tree_size n.tree.now.table, of_table.records_few n.tree.now.table)

  few : size (spot n).here.before + (suc (size (spot n).kids + size (spot n).here.after) + length (spot n).ups) ≤ 65535
  few = omega (arith, plug_size (spot n), ap (λ y. size y) (plug_is n.tree.now n.place n.stands), tree_few)

  pub children_few : length (child_spots (spot n)) < 65535
  children_few = omega (arith, few, length_on ((spot n).here ∷ (spot n).ups) end (spot n).kids, width_size (spot n).kids)

  pub later_few : length (later_spots (spot n)) < 65535
  later_few = omega (arith, few, length_on (spot n).ups (node (spot n).here.place (spot n).here.own (spot n).kids (spot n).here.before) (spot n).here.after, width_size (spot n).here.after)

  pub earlier_few : length (earlier_spots (spot n)) < 65535
  earlier_few = omega (arith, few, length_back (spot n).ups (node (spot n).here.place (spot n).here.own (spot n).kids (spot n).here.after) (spot n).here.before, width_size (spot n).here.before)

  pub ancestors_few : length (ancestor_spots (spot n)) < 65535
  ancestors_few = omega (arith, few, length_up (spot n) (spot n).ups)
