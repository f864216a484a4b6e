-- What a document answers: the questions on its nodes. Assumes nothing.
use Rattle.std.specs.Prelude.{ℕ, zero, suc, ◌+◌, Bool, true, false, cond, ◌&&◌, ◌||◌, List, [], ◌∷◌, ◌++◌, length, Some, None, Option, ◌==◌}
use Rattle.grammar.specs.Layout.{Open, Close, Comma, Colon, Name, Parts, nil, part}
use Rattle.grammar.specs.Pieces.{Leaf, null, boolean, number, string, name, token, whitespace, newline, comment, Break, line_feed, carriage_return, both, Box, array, object, property, own, kept, name_of, stored}
use Rattle.forest.specs.Forest.{end, node, size}
use Rattle.forest.specs.Asks.{pick}
use Rattle.model.specs.Nodes.{Handle, same, Sort, root, within, single, Own, Nodes, handle, pieces, print, blank, break, remark, Class, gap, mark, value, class}

-- The whole tree: the root at the place 0 with the number 1, above its children.
abbrev pub root_handle : Handle
root_handle = record { place = 0; number = 1 }

-- the root above its children
abbrev pub tree : Nodes → Nodes
tree ks = node 0 (record { number = 1; sort = root }) ks end

-- how many nodes are alive, the root with them
abbrev pub living : Nodes → ℕ
living ks = suc (size ks)

-- the stored bytes of the nodes alive
abbrev pub stored_bytes : Nodes → List ℕ
stored_bytes ks = stored (pieces ks)

-- an answer is there
abbrev pub is_some : {A : Type 0} → Option A → Bool
is_some (Some a) = true
is_some None = false

-- the first answer that is there
abbrev pub or_else : {A : Type 0} → Option A → Option A → Option A
or_else (Some a) b = Some a
or_else None b = b

-- the answer, or a given one where it is absent
abbrev pub or_given : {A : Type 0} → Option A → A → A
or_given (Some a) b = a
or_given None b = b

-- what f answers of an answer that is there
abbrev pub then : {A B : Type 0} → Option A → (A → Option B) → Option B
then (Some a) f = f a
then None f = None

-- two lists of bytes are the same
abbrev pub same_bytes : List ℕ → List ℕ → Bool
same_bytes [] [] = true
same_bytes [] (y ∷ ys) = false
same_bytes (x ∷ xs) [] = false
same_bytes (x ∷ xs) (y ∷ ys) = x == y && same_bytes xs ys

-- The twelve kinds.
pub data Kind : Type 0 where
  Root : Kind
  Array : Kind
  Object : Kind
  Property : Kind
  Boolean : Kind
  Null : Kind
  Number : Kind
  String : Kind
  Token : Kind
  Whitespace : Kind
  Newline : Kind
  Comment : Kind

-- a leaf's kind; a name is a String, and both sorts of comments are Comment
abbrev pub leaf_kind : Leaf → Kind
leaf_kind null = Null
leaf_kind (boolean b) = Boolean
leaf_kind (number t) = Number
leaf_kind (string t) = String
leaf_kind (name t) = String
leaf_kind (token m) = Token
leaf_kind (whitespace t) = Whitespace
leaf_kind (newline k) = Newline
leaf_kind (comment c) = Comment

-- a container's kind
abbrev pub box_kind : Box → Kind
box_kind array = Array
box_kind object = Object
box_kind property = Property

-- a node's kind
abbrev pub kind : Sort → Kind
kind root = Root
kind (within b) = box_kind b
kind (single x) = leaf_kind x

-- a container is the root, an array, an object or a property
abbrev pub holds : Sort → Bool
holds root = true
holds (within b) = true
holds (single x) = false

-- an array or an object
abbrev pub bracketed_box : Box → Bool
bracketed_box array = true
bracketed_box object = true
bracketed_box property = false

-- the node is an array or an object
abbrev pub bracketed : Sort → Bool
bracketed root = false
bracketed (within b) = bracketed_box b
bracketed (single x) = false

-- the node is a property
abbrev pub is_property : Sort → Bool
is_property root = false
is_property (within array) = false
is_property (within object) = false
is_property (within property) = true
is_property (single x) = false

-- the node is an array
abbrev pub is_array : Sort → Bool
is_array root = false
is_array (within array) = true
is_array (within object) = false
is_array (within property) = false
is_array (single x) = false

-- the node is an object
abbrev pub is_object : Sort → Bool
is_object root = false
is_object (within array) = false
is_object (within object) = true
is_object (within property) = false
is_object (single x) = false

-- the node is the root
abbrev pub is_root : Sort → Bool
is_root root = true
is_root (within b) = false
is_root (single x) = false

-- what a node prints itself
abbrev pub spelt : Sort → List ℕ
spelt root = []
spelt (within b) = []
spelt (single x) = own x

-- the text of a stored leaf: Number, String, Whitespace, Comment
abbrev pub leaf_text : Leaf → Option (List ℕ)
leaf_text null = None
leaf_text (boolean b) = None
leaf_text (number t) = Some t
leaf_text (string t) = Some t
leaf_text (name t) = Some t
leaf_text (token m) = None
leaf_text (whitespace t) = Some t
leaf_text (newline k) = None
leaf_text (comment c) = Some (kept (comment c))

-- the text of a node, absent where it has none
abbrev pub text : Sort → Option (List ℕ)
text root = None
text (within b) = None
text (single x) = leaf_text x

-- Classes, asked of one at a time.
abbrev pub is_blank : Class → Bool
is_blank (gap blank) = true
is_blank (gap break) = false
is_blank (gap (remark c)) = false
is_blank (mark m) = false
is_blank value = false

-- a Newline
abbrev pub is_break : Class → Bool
is_break (gap blank) = false
is_break (gap break) = true
is_break (gap (remark c)) = false
is_break (mark m) = false
is_break value = false

-- trivia: Whitespace, a Newline or a Comment
abbrev pub is_gap : Class → Bool
is_gap (gap g) = true
is_gap (mark m) = false
is_gap value = false

-- a value, or a member of an object
abbrev pub is_value : Class → Bool
is_value (gap g) = false
is_value (mark m) = false
is_value value = true

-- a comma
abbrev pub is_comma : Class → Bool
is_comma (gap g) = false
is_comma (mark Open) = false
is_comma (mark Close) = false
is_comma (mark Comma) = true
is_comma (mark Colon) = false
is_comma (mark Name) = false
is_comma value = false

-- some sibling is of such a class
abbrev pub any : (Class → Bool) → Nodes → Bool
any f end = false
any f (node p i ks ts) = f (class i.sort) || any f ts

-- how many siblings are of such a class
abbrev pub tally : (Class → Bool) → Nodes → ℕ
tally f end = 0
tally f (node p i ks ts) = cond (f (class i.sort)) 1 0 + tally f ts

-- how many siblings there are
abbrev pub width : Nodes → ℕ
width end = 0
width (node p i ks ts) = suc (width ts)

-- Where a node stands: its siblings before it, nearest first, and after it.
pub record Frame : Type 0 where
  pub before : Nodes
  pub place : ℕ
  pub own : Own
  pub after : Nodes

-- a node with where it stands, its children, and its ancestors, nearest first, the root the last of them
pub record Spot : Type 0 where
  pub here : Frame
  pub kids : Nodes
  pub ups : List Frame

-- the node at the place k among siblings and all below them
abbrev pub spot_in : ℕ → List Frame → Nodes → Nodes → Option Spot
spot_in k us bs end = None
spot_in k us bs (node p i ks ts) =
    let f : Frame = record { before = bs; place = p; own = i; after = ts } in
    pick k p ks (Some (record { here = f; kids = ks; ups = us })) (spot_in k (f ∷ us) end ks) (spot_in k us (node p i ks bs) ts)

-- that of a document, of its root's children
abbrev pub spot_at : ℕ → Nodes → Option Spot
spot_at k ks = spot_in k [] end (tree ks)

-- a handle names the node at its place if that has its number, else none: Gone
abbrev pub numbered_so : ℕ → Spot → Option Spot
numbered_so n s = cond (s.here.own.number == n) (Some s) None

-- the node that a handle names
abbrev pub named : Handle → Nodes → Option Spot
named h ks = then (spot_at h.place ks) (numbered_so h.number)

-- what a node is, as a handle answers it
abbrev pub sort_of : Spot → Sort
sort_of s = s.here.own.sort

-- a node's handle
abbrev pub frame_handle : Frame → Handle
frame_handle f = handle f.place f.own

-- the handle of the node that stands there
abbrev pub spot_handle : Spot → Handle
spot_handle s = frame_handle s.here

-- the handle of the first of these siblings
abbrev pub first_handle : Nodes → Option Handle
first_handle end = None
first_handle (node p i ks ts) = Some (handle p i)

-- the parent and the index among its children; absent for the root
abbrev pub parent_of : ℕ → List Frame → Option (Handle × ℕ)
parent_of n [] = None
parent_of n (f ∷ us) = Some (frame_handle f, n)

-- a node's parent and its index there
abbrev pub parent_info : Spot → Option (Handle × ℕ)
parent_info s = parent_of (width s.here.before) s.ups

-- the parent's sort, that of the root being taken as the root
abbrev pub parent_sort : List Frame → Sort
parent_sort [] = root
parent_sort (f ∷ us) = f.own.sort

-- the child one index before
abbrev pub previous_sibling : Spot → Option Handle
previous_sibling s = first_handle s.here.before

-- the child one index behind
abbrev pub next_sibling : Spot → Option Handle
next_sibling s = first_handle s.here.after

-- the child of an index, all children counted
abbrev pub child_at : ℕ → Nodes → Option Handle
child_at n end = None
child_at zero (node p i ks ts) = Some (handle p i)
child_at (suc n) (node p i ks ts) = child_at n ts

-- an element's ordinal in its array
abbrev pub element_index : Spot → Option ℕ
element_index s =
    cond (is_array (parent_sort s.ups) && is_value (class (sort_of s))) (Some (tally is_value s.here.before)) None

-- the trailing comma: the first sibling after that is no trivia, if it is a comma
abbrev pub comma_at : Class → Handle → Option Handle → Option Handle
comma_at (gap g) h go = go
comma_at (mark Open) h go = None
comma_at (mark Close) h go = None
comma_at (mark Comma) h go = Some h
comma_at (mark Colon) h go = None
comma_at (mark Name) h go = None
comma_at value h go = None

-- the trailing comma among the siblings after a node
abbrev pub trailing : Nodes → Option Handle
trailing end = None
trailing (node p i ks ts) = comma_at (class i.sort) (handle p i) (trailing ts)

-- a node's trailing comma
abbrev pub trailing_comma : Spot → Option Handle
trailing_comma s = trailing s.here.after

-- the blanks in front of a node, back to the beginning of its line: of the siblings before, nearest first, with what is gathered
abbrev pub gather : List ℕ → Option (List ℕ) → Option (List ℕ)
gather t None = Some t
gather t (Some u) = Some (t ++ u)

-- one sibling before: Whitespace is gathered, a Newline ends the line, a Comment has nothing gathered again, all else is no indent
abbrev pub indent_at : Class → Option (List ℕ) → Option (List ℕ) → Option (List ℕ) → Option (List ℕ)
indent_at (gap blank) got more anew = more
indent_at (gap break) got more anew = got
indent_at (gap (remark c)) got more anew = anew
indent_at (mark m) got more anew = None
indent_at value got more anew = None

-- the siblings before, nearest first, with what is gathered so far
abbrev pub indent_from : Option (List ℕ) → Nodes → Option (List ℕ)
indent_from got end = got
indent_from got (node p i ks bs) =
    indent_at (class i.sort) got (indent_from (gather (spelt i.sort) got) bs) (indent_from None bs)

-- the indent of a node with these siblings before it
abbrev pub indent_before : Nodes → Option (List ℕ)
indent_before bs = indent_from None bs

-- a node's indent
abbrev pub indent_text : Spot → Option (List ℕ)
indent_text s = indent_before s.here.before

-- Level by level: what f finds in siblings, then in their children, in theirs, and so on.
abbrev pub beside : {X : Type 0} → List (List X) → List (List X) → List (List X)
beside [] ys = ys
beside (x ∷ xs) [] = x ∷ xs
beside (x ∷ xs) (y ∷ ys) = (x ++ y) ∷ beside xs ys

-- what f finds, level by level
abbrev pub layers : {X : Type 0} → (Sort → Nodes → List X) → Nodes → List (List X)
layers f end = []
layers f (node p i ks ts) = beside (f i.sort ks ∷ layers f ks) (layers f ts)

-- the first that was found
abbrev pub first_of : {X : Type 0} → List (List X) → Option X
first_of [] = None
first_of ([] ∷ xs) = first_of xs
first_of ((x ∷ ys) ∷ xs) = Some x

-- the kind of a line break: a lone CR counts as LineFeed
pub data NewlineKind : Type 0 where
  LineFeed : NewlineKind
  CarriageReturnLineFeed : NewlineKind

-- what a Newline counts as
abbrev pub break_kind : Break → NewlineKind
break_kind line_feed = LineFeed
break_kind carriage_return = LineFeed
break_kind both = CarriageReturnLineFeed

-- what a leaf counts as, if it is a Newline
abbrev pub leaf_breaks : Leaf → List NewlineKind
leaf_breaks null = []
leaf_breaks (boolean b) = []
leaf_breaks (number t) = []
leaf_breaks (string t) = []
leaf_breaks (name t) = []
leaf_breaks (token m) = []
leaf_breaks (whitespace t) = []
leaf_breaks (newline k) = break_kind k ∷ []
leaf_breaks (comment c) = []

-- what a node counts as, if it is a Newline
abbrev pub breaks : Sort → Nodes → List NewlineKind
breaks root ks = []
breaks (within b) ks = []
breaks (single x) ks = leaf_breaks x

-- the document's kind of line break: that of the first Newline, level by level, else LineFeed
abbrev pub newline_kind : Nodes → NewlineKind
newline_kind ks = or_given (first_of (layers breaks ks)) LineFeed

-- what stands behind the last member
abbrev pub last_at : Class → Option Nodes → Nodes → Option Nodes
last_at (gap g) later ts = later
last_at (mark m) later ts = later
last_at value later ts = or_else later (Some ts)

-- what stands behind the last member among siblings
abbrev pub behind_last : Nodes → Option Nodes
behind_last end = None
behind_last (node p i ks ts) = last_at (class i.sort) (behind_last ts) ts

-- an array or object with Whitespace among its children and a member decides: whether its last member has a trailing comma
abbrev pub decided : Option Nodes → List Bool
decided None = []
decided (Some ts) = is_some (trailing ts) ∷ []

-- whether a container decides, and what
abbrev pub decides : Sort → Nodes → List Bool
decides s ks = cond (bracketed s && any is_blank ks) (decided (behind_last ks)) []

-- trailing commas are used: asked of a node itself, then of the containers below it, level by level; of a leaf no
abbrev pub uses_trailing_commas : Sort → Nodes → Bool
uses_trailing_commas s ks = or_given (first_of (decides s ks ∷ layers decides ks)) false

-- the value of the root or of a property
abbrev pub value_in : Nodes → Option Handle
value_in end = None
value_in (node p i ks ts) = cond (is_value (class i.sort)) (Some (handle p i)) (value_in ts)

-- Paths: what stands at a path in a value. The part of ordinal k among siblings has the path k first, then p within it.
abbrev pub at : {A : Type 0} → Parts A → ℕ → List ℕ → Option A
at nil k p = None
at (part a l ks ts) zero [] = Some a
at (part a l ks ts) zero (j ∷ p) = at ks j p
at (part a l ks ts) (suc k) p = at ts k p

-- the root's value has the empty path
abbrev pub at_path : {A : Type 0} → Parts A → List ℕ → Option A
at_path v p = at v 0 p

-- the ordinal of a handle among siblings, and the path within
abbrev pub Way : Type 0
Way = ℕ × List ℕ

-- one level down
abbrev pub inside : Option Way → Option Way
inside (Some w) = Some (0, w.0 ∷ w.1)
inside None = None

-- one sibling on
abbrev pub behind : Option Way → Option Way
behind (Some w) = Some (suc w.0, w.1)
behind None = None

-- where a handle stands among siblings and below them
abbrev pub way_to : Handle → Parts Handle → Option Way
way_to h nil = None
way_to h (part i l ks ts) = cond (same i h) (Some (0, [])) (or_else (inside (way_to h ks)) (behind (way_to h ts)))

-- the path of a handle in a document's value
abbrev pub from_root : ℕ → List ℕ → Option (List ℕ)
from_root zero p = Some p
from_root (suc k) p = None

-- the path that a way is
abbrev pub path_to : Option Way → Option (List ℕ)
path_to None = None
path_to (Some w) = from_root w.0 w.1

-- a handle's path in a value
abbrev pub path : Handle → Parts Handle → Option (List ℕ)
path h v = path_to (way_to h v)

-- the first property whose name has these bytes between its quotes
abbrev pub find : List ℕ → Nodes → Option Handle
find t end = None
find t (node p i ks ts) = cond (is_property i.sort && same_bytes (name_of (pieces ks)) t) (Some (handle p i)) (find t ts)

-- The text's single indentation. Of the siblings before the first member of the root's value, nearest first: the Whitespace noted when a Newline
-- is met. Each is the node's handle with its bytes.
abbrev pub single_at : Class → Option (Handle × List ℕ) → Option (Handle × List ℕ) → Option (Handle × List ℕ) → Option (Handle × List ℕ)
single_at (gap blank) noted more anew = more
single_at (gap break) noted more anew = noted
single_at (gap (remark c)) noted more anew = anew
single_at (mark m) noted more anew = anew
single_at value noted more anew = anew

-- the siblings before, nearest first, with the Whitespace noted so far
abbrev pub single_from : Option (Handle × List ℕ) → Nodes → Option (Handle × List ℕ)
single_from noted end = None
single_from noted (node p i ks bs) =
    single_at (class i.sort) noted (single_from (Some (handle p i, spelt i.sort)) bs) (single_from None bs)

-- what stands before the first member, nearest first
abbrev pub before_first : Nodes → Nodes → Option Nodes
before_first bs end = None
before_first bs (node p i ks ts) = cond (is_value (class i.sort)) (Some bs) (before_first (node p i ks bs) ts)

-- the children of the root's value
abbrev pub value_kids : Nodes → Nodes
value_kids end = end
value_kids (node p i ks ts) = cond (is_value (class i.sort)) ks (value_kids ts)

-- the Whitespace that is the single indentation
abbrev pub single_indent : Nodes → Option (Handle × List ℕ)
single_indent ks = then (before_first end (value_kids ks)) (single_from None)

-- its bytes
abbrev pub single_indent_text : Nodes → Option (List ℕ)
single_indent_text ks = then (single_indent ks) (λ x. Some x.1)

-- how many bytes are printed before the node at the place k
abbrev pub start_in : ℕ → ℕ → Nodes → ℕ
start_in k n end = n
start_in k n (node p i ks ts) =
    pick k p ks n (start_in k (n + length (spelt i.sort)) ks) (start_in k (n + (length (spelt i.sort) + length (print ks))) ts)
