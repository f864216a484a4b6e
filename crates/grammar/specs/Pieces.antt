-- The exact pieces of a text in order: leaves with their bytes, and containers with what is in them. Assumes nothing.
use Rattle.std.specs.Prelude.{ℕ, suc, ◌+◌, Bool, true, false, List, [], ◌∷◌, ◌++◌}
use Rattle.grammar.specs.Layout.{Comment, Line, Block, Mark, Open, Close, Comma, Colon, Name, Label, Null, Boolean, Numeral, Text, Array, Object, Member, Layout, stop, note, mark, item}

pub data Token : Type 0 where
  open_array : Token
  close_array : Token
  open_object : Token
  close_object : Token
  comma : Token
  colon : Token

pub data Break : Type 0 where
  line_feed : Break
  carriage_return : Break
  both : Break

-- a leaf; numbers, strings, names, whitespace and comments with their bytes as they stand in the text
pub data Leaf : Type 0 where
  null : Leaf
  boolean : Bool → Leaf
  number : List ℕ → Leaf
  string : List ℕ → Leaf
  name : List ℕ → Leaf
  token : Token → Leaf
  whitespace : List ℕ → Leaf
  newline : Break → Leaf
  comment : Comment → Leaf

pub data Box : Type 0 where
  array : Box
  object : Box
  property : Box

pub data Pieces : Type 0 where
  end : Pieces
  leaf : Leaf → Pieces → Pieces
  box : Box → Pieces → Pieces → Pieces

-- one after the other
abbrev pub join : Pieces → Pieces → Pieces
join end y = y
join (leaf x r) y = leaf x (join r y)
join (box k c r) y = box k c (join r y)

abbrev pub token_byte : Token → ℕ
token_byte open_array = 91
token_byte close_array = 93
token_byte open_object = 123
token_byte close_object = 125
token_byte comma = 44
token_byte colon = 58

abbrev pub break_bytes : Break → List ℕ
break_bytes line_feed = 10 ∷ []
break_bytes carriage_return = 13 ∷ []
break_bytes both = 13 ∷ 10 ∷ []

abbrev pub comment_bytes : Comment → List ℕ
comment_bytes (Line t) = t
comment_bytes (Block t) = t

abbrev pub boolean_bytes : Bool → List ℕ
boolean_bytes true = 116 ∷ 114 ∷ 117 ∷ 101 ∷ []
boolean_bytes false = 102 ∷ 97 ∷ 108 ∷ 115 ∷ 101 ∷ []

-- how a leaf is printed
abbrev pub own : Leaf → List ℕ
own null = 110 ∷ 117 ∷ 108 ∷ 108 ∷ []
own (boolean b) = boolean_bytes b
own (number t) = t
own (string t) = t
own (name t) = t
own (token m) = token_byte m ∷ []
own (whitespace t) = t
own (newline b) = break_bytes b
own (comment c) = comment_bytes c

-- every leaf's bytes in order
abbrev pub print : Pieces → List ℕ
print end = []
print (leaf x r) = own x ++ print r
print (box k c r) = print c ++ print r

-- which of a leaf's bytes the store takes: Number, String with its quotes, Whitespace and Comment
abbrev pub kept : Leaf → List ℕ
kept null = []
kept (boolean b) = []
kept (number t) = t
kept (string t) = t
kept (name t) = t
kept (token m) = []
kept (whitespace t) = t
kept (newline b) = []
kept (comment c) = comment_bytes c

-- how many nodes, how many stored bytes
abbrev pub nodes : Pieces → ℕ
nodes end = 0
nodes (leaf x r) = suc (nodes r)
nodes (box k c r) = suc (nodes c + nodes r)

abbrev pub stored : Pieces → List ℕ
stored end = []
stored (leaf x r) = kept x ++ stored r
stored (box k c r) = stored c ++ stored r

-- what stands between the quotes
abbrev pub front : List ℕ → List ℕ
front [] = []
front (b ∷ []) = []
front (b ∷ c ∷ t) = b ∷ front (c ∷ t)

abbrev pub inner : List ℕ → List ℕ
inner [] = []
inner (q ∷ t) = front t

abbrev pub leaf_name : Leaf → List ℕ
leaf_name null = []
leaf_name (boolean b) = []
leaf_name (number t) = []
leaf_name (string t) = []
leaf_name (name t) = inner t
leaf_name (token m) = []
leaf_name (whitespace t) = []
leaf_name (newline b) = []
leaf_name (comment c) = []

-- a property's name stands first in it
abbrev pub name_of : Pieces → List ℕ
name_of end = []
name_of (leaf x r) = leaf_name x
name_of (box k c r) = []

abbrev pub mark_of : Token → Mark
mark_of open_array = Open
mark_of close_array = Close
mark_of open_object = Open
mark_of close_object = Close
mark_of comma = Comma
mark_of colon = Colon

abbrev pub label_of : Box → Pieces → Label
label_of array c = Array
label_of object c = Object
label_of property c = Member (name_of c)

-- a leaf in the layout: b says whether a Newline has just stood, r what follows
abbrev pub lay_leaf : Leaf → Bool → (Bool → Layout) → Layout
lay_leaf null b r = item b Null (stop false) (r false)
lay_leaf (boolean v) b r = item b (Boolean v) (stop false) (r false)
lay_leaf (number t) b r = item b (Numeral t) (stop false) (r false)
lay_leaf (string t) b r = item b (Text (inner t)) (stop false) (r false)
lay_leaf (name t) b r = mark b Name (r false)
lay_leaf (token m) b r = mark b (mark_of m) (r false)
lay_leaf (whitespace t) b r = r b
lay_leaf (newline k) b r = r true
lay_leaf (comment c) b r = note b c (r false)

-- the layout of pieces: whitespace and line breaks are gone, but for the flags
abbrev pub lay : Pieces → Bool → Layout
lay end b = stop b
lay (leaf x r) b = lay_leaf x b (lay r)
lay (box k c r) b = item b (label_of k c) (lay c false) (lay r false)

abbrev pub layout : Pieces → Layout
layout a = lay a false
