-- When a tree is as the grammar has it: the child list of each container, read by a small machine over classes, and the bytes of
-- each leaf. Assumes nothing.
use Rattle.std.specs.Prelude.{◌≡◌, ℕ, Bool, true, false, List, [], ◌∷◌, ◌++◌}
use Rattle.grammar.specs.Classes.{Blank}
use Rattle.grammar.specs.Layout.{Comment, Line, Block, Mark, Open, Close, Comma, Colon, Name, Parts, nil, part}
use Rattle.grammar.specs.Grammar.{All, Many, StringChar, Number, quoted, LineComment, BlockComment}
use Rattle.grammar.specs.Pieces.{Token, open_array, close_array, open_object, close_object, comma, colon, Leaf, null, boolean, number, string, name, token, whitespace, newline, comment, Box, array, object, property}
use Rattle.forest.specs.Forest.{end, node}
use Rattle.model.specs.Nodes.{Sort, root, within, single, Nodes, Gap, blank, break, remark, Class, gap, mark, value, class}

-- whose child list it is: the root's, or a container's
pub data Owner : Type 0 where
  top : Owner
  of : Box → Owner

-- Where the machine stands. `start`: before the opening bracket or the name; `items`: a value or the end may come; `next`: a value has come;
-- `named`: the name has come; `only`: the colon has come; `shut`: nothing more may come.
pub data Pos : Type 0 where
  start : Pos
  items : Pos
  next : Pos
  named : Pos
  only : Pos
  shut : Pos

-- `here q true`: a line comment is open, and only a Newline ends it
pub data State : Type 0 where
  here : Pos → Bool → State
  dead : State

-- trivia may stand here
abbrev pub loose : Pos → Bool
loose start = false
loose items = true
loose next = true
loose named = true
loose only = true
loose shut = false

-- trivia, where it may stand and no line comment is open
abbrev pub plainly : Pos → Gap → State
plainly q blank = here q false
plainly q break = here q false
plainly q (remark (Line t)) = here q true
plainly q (remark (Block t)) = here q false

-- trivia while a line comment is open
abbrev pub ended : Pos → Gap → State
ended q blank = dead
ended q break = here q false
ended q (remark c) = dead

abbrev pub spaced : Bool → Pos → Bool → Gap → State
spaced false q l g = dead
spaced true q true g = ended q g
spaced true q false g = plainly q g

abbrev pub gapped : Pos → Bool → Gap → State
gapped q l g = spaced (loose q) q l g

-- a token or a name
abbrev pub marked : Pos → Mark → State
marked start Open = here items false
marked start Close = dead
marked start Comma = dead
marked start Colon = dead
marked start Name = here named false
marked items Open = dead
marked items Close = here shut false
marked items Comma = dead
marked items Colon = dead
marked items Name = dead
marked next Open = dead
marked next Close = here shut false
marked next Comma = here items false
marked next Colon = dead
marked next Name = dead
marked named Open = dead
marked named Close = dead
marked named Comma = dead
marked named Colon = here only false
marked named Name = dead
marked only m = dead
marked shut m = dead

-- a value or a property
abbrev pub valued : Pos → State
valued start = dead
valued items = here next false
valued next = dead
valued named = dead
valued only = here shut false
valued shut = dead

abbrev pub step : State → Class → State
step dead c = dead
step (here q l) (gap g) = gapped q l g
step (here q true) (mark m) = dead
step (here q false) (mark m) = marked q m
step (here q true) value = dead
step (here q false) value = valued q

abbrev pub run : State → Nodes → State
run q end = q
run q (node p i ks ts) = run (step q (class i.sort)) ts

-- where the machine begins
abbrev pub begin : Owner → State
begin top = here items false
begin (of b) = here start false

-- where it may end: at the root a line comment may be open
abbrev pub Ends : Owner → State → Type 0
Ends top (here start l) = ⊥
Ends top (here items l) = Unit {0}
Ends top (here next l) = Unit {0}
Ends top (here named l) = ⊥
Ends top (here only l) = ⊥
Ends top (here shut l) = ⊥
Ends top dead = ⊥
Ends (of b) (here start l) = ⊥
Ends (of b) (here items l) = ⊥
Ends (of b) (here next l) = ⊥
Ends (of b) (here named l) = ⊥
Ends (of b) (here only l) = ⊥
Ends (of b) (here shut true) = ⊥
Ends (of b) (here shut false) = Unit {0}
Ends (of b) dead = ⊥

-- what a node is to its container
pub data Role : Type 0 where
  trivia : Role
  element : Role
  member : Role
  title : Role
  sign : Token → Role

abbrev pub leaf_role : Leaf → Role
leaf_role null = element
leaf_role (boolean b) = element
leaf_role (number t) = element
leaf_role (string t) = element
leaf_role (name t) = title
leaf_role (token m) = sign m
leaf_role (whitespace t) = trivia
leaf_role (newline k) = trivia
leaf_role (comment c) = trivia

abbrev pub box_role : Box → Role
box_role array = element
box_role object = element
box_role property = member

abbrev pub role : Sort → Role
role root = element
role (within b) = box_role b
role (single x) = leaf_role x

-- the tokens of a child list
abbrev pub signs : Owner → Token → Bool
signs top m = false
signs (of array) open_array = true
signs (of array) close_array = true
signs (of array) open_object = false
signs (of array) close_object = false
signs (of array) comma = true
signs (of array) colon = false
signs (of object) open_array = false
signs (of object) close_array = false
signs (of object) open_object = true
signs (of object) close_object = true
signs (of object) comma = true
signs (of object) colon = false
signs (of property) open_array = false
signs (of property) close_array = false
signs (of property) open_object = false
signs (of property) close_object = false
signs (of property) comma = false
signs (of property) colon = true

-- which container takes which node: an object holds properties, and all others hold values
abbrev pub takes : Owner → Role → Bool
takes f trivia = true
takes top element = true
takes (of array) element = true
takes (of object) element = false
takes (of property) element = true
takes top member = false
takes (of array) member = false
takes (of object) member = true
takes (of property) member = false
takes top title = false
takes (of array) title = false
takes (of object) title = false
takes (of property) title = true
takes f (sign m) = signs f m

-- each of the siblings is taken
abbrev pub Taken : Owner → Nodes → Type 0
Taken f end = Unit {0}
Taken f (node p i ks ts) = (takes f (role i.sort) ≡ true) × Taken f ts

-- the child list is as the grammar has it
pub record Fits (f : Owner) (ts : Nodes) : Type 0 where
  pub ends : Ends f (run (begin f) ts)
  pub taken : Taken f ts

-- a string or a name with its quotes
abbrev pub Quoted : List ℕ → Type 0
Quoted t = (u : List ℕ) × (t ≡ quoted u) × Many StringChar u

-- the bytes of a comment
abbrev pub Remarked : Comment → Type 0
Remarked (Line t) = LineComment t
Remarked (Block t) = BlockComment t

-- the bytes of a leaf; those of whitespace may be none
abbrev pub Spelled : Leaf → Type 0
Spelled null = Unit {0}
Spelled (boolean b) = Unit {0}
Spelled (number t) = Number t
Spelled (string t) = Quoted t
Spelled (name t) = Quoted t
Spelled (token m) = Unit {0}
Spelled (whitespace t) = All Blank t
Spelled (newline k) = Unit {0}
Spelled (comment c) = Remarked c

abbrev pub IsEnd : Nodes → Type 0
IsEnd end = Unit {0}
IsEnd (node p i ks ts) = ⊥

-- a node's own bytes and its children; the root is no node's child
abbrev pub Holds : Sort → Nodes → Type 0
Holds root ks = ⊥
Holds (within b) ks = Fits (of b) ks
Holds (single x) ks = Spelled x × IsEnd ks

-- each node, and each below it, is as the grammar has it
abbrev pub Whole : Nodes → Type 0
Whole end = Unit {0}
Whole (node p i ks ts) = Holds i.sort ks × Whole ks × Whole ts

-- the root's children are a document
pub record Document (ts : Nodes) : Type 0 where
  pub fits : Fits top ts
  pub whole : Whole ts

-- the comments in text order
abbrev pub remarks_of : Class → List Comment → List Comment
remarks_of (gap blank) ks = []
remarks_of (gap break) ks = []
remarks_of (gap (remark c)) ks = c ∷ []
remarks_of (mark m) ks = []
remarks_of value ks = ks

abbrev pub comments : Nodes → List Comment
comments end = []
comments (node p i ks ts) = remarks_of (class i.sort) (comments ks) ++ comments ts

-- a value alone, its handles forgotten
abbrev pub bare : {A : Type 0} → Parts A → Parts (Unit {0})
bare nil = nil
bare (part a l ks ts) = part tt l (bare ks) (bare ts)
