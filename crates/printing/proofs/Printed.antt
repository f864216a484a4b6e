-- What is printed below a node, and how much that is at most.
use Rattle.std.proofs.Common.{◌≡◌, ℕ, ◌+◌, ◌*◌, ◌≤◌, Bool, true, false, cond, List, [], ◌∷◌, ◌++◌, length, drop, vec_items, sym, refl, ap, ◌∙◌, arith, length-append, length-drop, length-take}
use Rattle.std.proofs.lemmas.Bool.{cond_both}
use Rattle.forest.specs.Forest.{Forest, end, node, size, map}
use Rattle.table.specs.declared.kind.Kind.{Kind}
use Rattle.table.specs.declared.kind.Kind.TheVariants.{Root, Array, Object, Property, Null, Boolean, Number, String, Name, Token, Whitespace, Newline, LineComment, BlockComment}
use Rattle.line_break.specs.declared.NewlineKind.TheVariants.{LineFeed, CarriageReturn, CarriageReturnLineFeed}
use Rattle.table.specs.declared.node.Own as record_of
use Rattle.table.specs.Tables as table
use Rattle.table.proofs.Seen as of_table
use Rattle.model.specs.Nodes.{Sort, root, within, single, Own, Nodes, print}
use Rattle.model.specs.Asks.{Frame, Spot, sort_of, tree, spelt}
use Rattle.model.specs.Edits.{onto}
use Rattle.tree.specs.declared.tree.Tree.{Tree}
use Rattle.tree.specs.declared.node.Node.{Node}
use Rattle.tree.specs.Sorts.{sort_for, own_for, bytes_in}
use Rattle.tree.specs.Well.{whole}
use Rattle.tree.specs.Trees.{kids}
use Rattle.tree.specs.declared.walks.Onward.{Onward}
use Rattle.tree.specs.declared.walks.Onward.TheVariants.{Into, Past}
use Rattle.tree.specs.declared.walks.Siblings.{Siblings}
use Rattle.tree.specs.Steps.{is_box, spot, child_spots}
use Rattle.tree.proofs.Spots.{fill}
use Rattle.tree.proofs.Seen.{rooted, plug_is, store_few}
use Rattle.tree.specs.Walks.{nodes_from, siblings_left, nodes_left}
use Rattle.tree.proofs.Listed.{rest_is, turn_on}

-- a node prints its own bytes, what is inside it, and then come its siblings
node_printed : (p : ℕ) (i : Own) (ks ts : Nodes) → print (node p i ks ts) ≡ spelt i.sort ++ (print (cond (is_box i.sort) ks end) ++ print ts)
node_printed p i ks ts = go i.sort
  where
    go : (s : Sort) → print (node p (record { number = i.number; sort = s }) ks ts) ≡ spelt s ++ (print (cond (is_box s) ks end) ++ print ts)
    go root = refl
    go (within b) = refl
    go (single x) = refl

-- so much for each node
abbrev pub weight : Nodes → ℕ
weight end = 0
weight (node p i ks ts) = length (spelt i.sort) + (weight ks + weight ts)

printed_weight : (ts : Nodes) → length (print ts) ≤ weight ts
printed_weight end = omega arith
printed_weight (node p i ks ts) =
    let m : length (print (cond (is_box i.sort) ks end)) ≤ weight ks = cond_both (is_box i.sort) ks end (λ y. length (print y) ≤ weight ks) (λ _. printed_weight ks) (λ _. omega arith) in
    let n = printed_weight ts in
    omega (arith, ap length (node_printed p i ks ts), length-append (spelt i.sort) (print (cond (is_box i.sort) ks end) ++ print ts), length-append (print (cond (is_box i.sort) ks end)) (print ts))

-- siblings put together, and put into their frames again, weigh as much or more
weight_onto : (b t : Nodes) → weight (onto b t) ≡ weight b + weight t
weight_onto end t = omega arith
weight_onto (node p i ks b) t = omega (arith, weight_onto b (node p i ks t))

weight_fill : (us : List Frame) (t : Nodes) → weight t ≤ weight (fill us t)
weight_fill [] t = omega arith
weight_fill (f ∷ us) t = omega (arith, weight_fill us (onto f.before (node f.place f.own t f.after)), weight_onto f.before (node f.place f.own t f.after))

-- no node prints more than the store has, or a literal has
kind_few : (x : Kind) (t : List ℕ) → length t ≤ 1048576 → length (spelt (sort_for x t)) ≤ 1048576
kind_few Root t h = omega arith
kind_few Array t h = omega arith
kind_few Object t h = omega arith
kind_few Property t h = omega arith
kind_few Null t h = omega arith
kind_few (Boolean true) t h = omega arith
kind_few (Boolean false) t h = omega arith
kind_few Number t h = h
kind_few String t h = h
kind_few Name t h = h
kind_few (Token c) t h = omega arith
kind_few Whitespace t h = h
kind_few (Newline LineFeed) t h = omega arith
kind_few (Newline CarriageReturn) t h = omega arith
kind_few (Newline CarriageReturnLineFeed) t h = omega arith
kind_few LineComment t h = h
kind_few BlockComment t h = h

map_few : (s : List ℕ) (ts : Forest record_of.Own) → length s ≤ 1048576 → weight (map (own_for s) ts) ≤ 1048576 * size ts
map_few s end h = omega arith
map_few s (node p o ks ts) h =
    let l : length (bytes_in s o) ≤ 1048576 = omega (arith, length-take o.len (drop o.start s), length-drop o.start s) in
    omega (arith, kind_few o.kind (bytes_in s o) l, map_few s ks h, map_few s ts h)

-- so the whole tree weighs no more than 2^36 bytes
weight_few : (t : Tree) → weight (tree (kids t)) ≤ 68719476736
unfolding whole
weight_few t =
    let w : weight (tree (kids t)) ≡ weight (map (own_for (vec_items t.store)) (table.tree t.table)) = ap (λ y. weight y) (sym (rooted t)) in
    let n = map_few (vec_items t.store) (table.tree t.table) (store_few t) in
    omega (arith, of_table.tree_size t.table, of_table.records_few t.table)

-- and so do a node, its siblings and what is below it
pub spot_few : (n : Node) → weight (spot n).here.before + (length (spelt (sort_of (spot n))) + (weight (spot n).kids + weight (spot n).here.after)) ≤ 68719476736
spot_few n =
    let s : Spot = spot n in
    let N : Nodes = node s.here.place s.here.own s.kids s.here.after in
    omega (arith, weight_onto s.here.before N, weight_fill s.ups (onto s.here.before N), ap (λ y. weight y) (plug_is n.tree.now n.place n.stands), weight_few n.tree.now)

-- and the printing of these is no longer
pub printed_few : (n : Node) → length (print (spot n).kids) ≤ 68719476736
printed_few n = omega (arith, printed_weight (spot n).kids, spot_few n)

-- nor is that of any siblings
pub siblings_few : (w : Siblings) → length (print (nodes_left w)) ≤ 68719476736
siblings_few w = go w.from
  where
    go : (f : Onward) → length (print (nodes_from f)) ≤ 68719476736
    go (Into n) = printed_few n
    go (Past n) = omega (arith, printed_weight (spot n).here.after, spot_few n)

-- the children of a node are what is below it
pub below_is : (w : Siblings) (n : Node) → siblings_left w ≡ child_spots (spot n) → nodes_left w ≡ (spot n).kids
below_is w n e = rest_is w ((spot n).here ∷ (spot n).ups) end (spot n).kids e

-- A turn of a loop over siblings: the node that came, with what is left behind it.
module _ (a b : Siblings) (n : Node) (t : siblings_left a ≡ spot n ∷ siblings_left b) where
  -- it prints its own bytes, what is below it where it is a container, and then come its siblings
  turn_printed : (i : Bool) → is_box (sort_of (spot n)) ≡ i → print (nodes_left a) ≡ spelt (sort_of (spot n)) ++ (print (cond i (spot n).kids end) ++ print (nodes_left b))
  turn_printed i e =
      ap (λ y. print y) (turn_on a b n t)
      ∙ (node_printed (spot n).here.place (spot n).here.own (spot n).kids (nodes_left b) ∙ ap (λ j. spelt (sort_of (spot n)) ++ (print (cond j (spot n).kids end) ++ print (nodes_left b))) e)

  pub turn_box : is_box (sort_of (spot n)) ≡ true → print (nodes_left a) ≡ spelt (sort_of (spot n)) ++ (print (spot n).kids ++ print (nodes_left b))
  turn_box e = turn_printed true e

  pub turn_leaf : is_box (sort_of (spot n)) ≡ false → print (nodes_left a) ≡ spelt (sort_of (spot n)) ++ print (nodes_left b)
  turn_leaf e = turn_printed false e

  -- their lengths
  pub long_box : is_box (sort_of (spot n)) ≡ true → length (print (nodes_left a)) ≡ length (spelt (sort_of (spot n))) + (length (print (spot n).kids) + length (print (nodes_left b)))
  long_box e = ap length (turn_box e) ∙ omega (arith, length-append (spelt (sort_of (spot n))) (print (spot n).kids ++ print (nodes_left b)), length-append (print (spot n).kids) (print (nodes_left b)))

  pub long_leaf : is_box (sort_of (spot n)) ≡ false → length (print (nodes_left a)) ≡ length (spelt (sort_of (spot n))) + length (print (nodes_left b))
  long_leaf e = ap length (turn_leaf e) ∙ length-append (spelt (sort_of (spot n))) (print (nodes_left b))

  pub long_own : length (spelt (sort_of (spot n))) ≤ length (print (nodes_left a))
  long_own =
      omega (
        arith,
        ap length (turn_printed (is_box (sort_of (spot n))) refl),
        length-append (spelt (sort_of (spot n))) (print (cond (is_box (sort_of (spot n))) (spot n).kids end) ++ print (nodes_left b)),
      )

  -- fewer nodes are below it, and left
  pub fewer : size (nodes_left a) ≡ 1 + (size (spot n).kids + size (nodes_left b))
  fewer = ap (λ y. size y) (turn_on a b n t)
