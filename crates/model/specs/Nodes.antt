-- The nodes of a document: siblings in order with their children, each at a place, with a number and what it is. Assumes nothing.
use Rattle.std.specs.Prelude.{ℕ, suc, ◌+◌, Bool, ◌&&◌, List, ◌==◌}
use Rattle.grammar.specs.Layout.{Comment, Mark, Name, Label, Null, Boolean, Numeral, Text, Array, Object, Member, Parts, nil, part}
use Rattle.grammar.specs.Pieces.{Leaf, null, boolean, number, string, name, token, whitespace, newline, comment, Box, array, object, property, Pieces, end as no_pieces, leaf, box, inner, name_of, mark_of, nodes}
use Rattle.grammar.specs.Pieces.{print as print_pieces}
use Rattle.forest.specs.Forest.{Forest, end, node}

-- a handle: a place in the node table and a number
pub record Handle : Type 0 where
  pub place : ℕ
  pub number : ℕ

abbrev pub same : Handle → Handle → Bool
same i j = i.place == j.place && i.number == j.number

-- what a node is: the root, a container, or a leaf with its bytes
pub data Sort : Type 0 where
  root : Sort
  within : Box → Sort
  single : Leaf → Sort

-- a node's own data: its number and what it is
pub record Own : Type 0 where
  pub number : ℕ
  pub sort : Sort

abbrev pub Nodes : Type 0
Nodes = Forest Own

abbrev pub handle : ℕ → Own → Handle
handle p i = record { place = p; number = i.number }

-- the pieces that nodes stand for: places and numbers forgotten. A root among siblings has none; the root's children are taken apart from it.
abbrev pub piece : Sort → Pieces → Pieces → Pieces
piece root ks ts = ts
piece (within b) ks ts = box b ks ts
piece (single x) ks ts = leaf x ts

abbrev pub pieces : Nodes → Pieces
pieces end = no_pieces
pieces (node p i ks ts) = piece i.sort (pieces ks) (pieces ts)

-- every leaf's bytes in order
abbrev pub print : Nodes → List ℕ
print ts = print_pieces (pieces ts)

-- pieces as nodes: places from p and numbers from n, in text order, containers before their children
abbrev pub numbered : ℕ → ℕ → Pieces → Nodes
numbered p n no_pieces = end
numbered p n (leaf x r) = node p (record { number = n; sort = single x }) end (numbered (suc p) (suc n) r)
numbered p n (box b c r) = node p (record { number = n; sort = within b }) (numbered (suc p) (suc n) c) (numbered (suc (p + nodes c)) (suc (n + nodes c)) r)

-- the root's children in a newly loaded text: the root is at the place 0 with the number 1
abbrev pub loaded : Pieces → Nodes
loaded a = numbered 1 2 a

-- a sort, as the rules of gaps and commas see it
pub data Gap : Type 0 where
  blank : Gap
  break : Gap
  remark : Comment → Gap

pub data Class : Type 0 where
  gap : Gap → Class
  mark : Mark → Class
  value : Class

abbrev pub leaf_class : Leaf → Class
leaf_class null = value
leaf_class (boolean b) = value
leaf_class (number t) = value
leaf_class (string t) = value
leaf_class (name t) = mark Name
leaf_class (token m) = mark (mark_of m)
leaf_class (whitespace t) = gap blank
leaf_class (newline k) = gap break
leaf_class (comment c) = gap (remark c)

abbrev pub class : Sort → Class
class root = value
class (within b) = value
class (single x) = leaf_class x

-- what a value or member is, beside its parts
abbrev pub leaf_label : Leaf → Label
leaf_label null = Null
leaf_label (boolean b) = Boolean b
leaf_label (number t) = Numeral t
leaf_label (string t) = Text (inner t)
leaf_label (name t) = Null
leaf_label (token m) = Null
leaf_label (whitespace t) = Null
leaf_label (newline k) = Null
leaf_label (comment c) = Null

abbrev pub box_label : Box → Pieces → Label
box_label array ks = Array
box_label object ks = Object
box_label property ks = Member (name_of ks)

abbrev pub label_of : Sort → Pieces → Label
label_of root ks = Null
label_of (within b) ks = box_label b ks
label_of (single x) ks = leaf_label x

-- the values among siblings, each with its handle: a value annotated with handles
abbrev pub parts_at : Class → Handle → Label → Parts Handle → Parts Handle → Parts Handle
parts_at (gap g) i l ks ts = ts
parts_at (mark m) i l ks ts = ts
parts_at value i l ks ts = part i l ks ts

abbrev pub parts : Nodes → Parts Handle
parts end = nil
parts (node p i ks ts) = parts_at (class i.sort) (handle p i) (label_of i.sort (pieces ks)) (parts ks) (parts ts)
