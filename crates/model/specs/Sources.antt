-- Where written values come from: what a table and a value node of a document mean, and what every source shows. Assumes nothing.
use Rattle.std.specs.Prelude.{ℕ, zero, suc, ◌+◌, ◌-◌, ◌≤◌, Bool, true, false, cond, not, ◌&&◌, ◌||◌, List, [], ◌∷◌, length, take, drop, Some, None, Option, ◌==◌, nat_lt}
use Rattle.std.proofs.Math.Option.{Option as Told, some, none}
use Rattle.grammar.specs.Layout.{Label, Null, Boolean, Numeral, Text, Array, Object, Member, Parts, nil, part}
use Rattle.grammar.specs.Parse.{ok, bad, deep, Res, res}
use Rattle.grammar.specs.Classes.{Ascii}
use Rattle.grammar.specs.Grammar.{Many, Char, Number}
use Rattle.grammar.specs.Reader.{number_p, chars_p}
use Rattle.forest.specs.Forest.{Forest, end, node}
use Rattle.model.specs.Nodes.{Handle, class, parts}
use Rattle.model.specs.Asks.{is_value, is_property, is_root, Spot, named, sort_of}
use Rattle.model.specs.Written.{Value}
use Rattle.model.specs.Escapes.{decoded}
use Rattle.refusal.specs.declared.Refusal.TheVariants.{Gone, NotHere, BadTable, BadMemory}
use Rattle.model.specs.State.{Outcome, Refused, Given, unless, present, and_then, State, levels_of}

-- the value null, which a source that its check finds bad means
abbrev pub null_value : Value
null_value = part tt Null nil nil

-- the value, or null if the check refuses
abbrev pub or_null : {A : Type 0} → Outcome A → Value → Value
or_null (Refused r) v = null_value
or_null (Given a) v = v

-- COUNTS. A member of an object is one part, its value and its name together.
abbrev pub part_of : Label → ℕ
part_of Null = 1
part_of (Boolean b) = 1
part_of (Numeral t) = 1
part_of (Text t) = 1
part_of Array = 1
part_of Object = 1
part_of (Member t) = 0

-- how many parts a value has
abbrev pub count_parts : Value → ℕ
count_parts nil = 0
count_parts (part u l ks ts) = part_of l + (count_parts ks + count_parts ts)

-- the bytes of numbers, strings and names
abbrev pub text_of : Label → ℕ
text_of Null = 0
text_of (Boolean b) = 0
text_of (Numeral t) = length t
text_of (Text t) = length t
text_of Array = 0
text_of Object = 0
text_of (Member t) = length t

-- how many text bytes a value has
abbrev pub count_bytes : Value → ℕ
count_bytes nil = 0
count_bytes (part u l ks ts) = text_of l + (count_bytes ks + count_bytes ts)

-- WHAT EVERY SOURCE SHOWS: numbers by RFC 8259, section 6; strings and names by RFC 3629, section 4.
abbrev pub Utf8 : List ℕ → Type 0
Utf8 t = Many (Char Ascii) t

-- a number, string or name is as it must be
abbrev pub LabelShows : Label → Type 0
LabelShows Null = Unit {0}
LabelShows (Boolean b) = Unit {0}
LabelShows (Numeral t) = Number t
LabelShows (Text t) = Utf8 t
LabelShows Array = Unit {0}
LabelShows Object = Unit {0}
LabelShows (Member t) = Utf8 t

-- all numbers, strings and names are as they must be
abbrev pub Shows : Value → Type 0
Shows nil = Unit {0}
Shows (part u l ks ts) = LabelShows l × Shows ks × Shows ts

-- values in an array or alone; members in an object, each with one value
abbrev pub IsNil : Value → Type 0
IsNil nil = Unit {0}
IsNil (part u l ks ts) = ⊥

-- one value
abbrev pub IsOne : Value → Type 0
IsOne nil = ⊥
IsOne (part u l ks ts) = IsNil ts

-- where a value stands: among the members of an object, or not
pub data Inside : Type 0 where
  free : Inside
  keyed : Inside

-- what may stand there, and what inside it
abbrev pub LabelFits : Inside → Label → Value → (Inside → Type 0) → Type 0
LabelFits free Null ks go = IsNil ks
LabelFits free (Boolean b) ks go = IsNil ks
LabelFits free (Numeral t) ks go = IsNil ks
LabelFits free (Text t) ks go = IsNil ks
LabelFits free Array ks go = go free
LabelFits free Object ks go = go keyed
LabelFits free (Member t) ks go = ⊥
LabelFits keyed Null ks go = ⊥
LabelFits keyed (Boolean b) ks go = ⊥
LabelFits keyed (Numeral t) ks go = ⊥
LabelFits keyed (Text t) ks go = ⊥
LabelFits keyed Array ks go = ⊥
LabelFits keyed Object ks go = ⊥
LabelFits keyed (Member t) ks go = IsOne ks × go free

-- values stand where values stand, members where members do
abbrev pub Shaped : Value → Inside → Type 0
Shaped nil w = Unit {0}
Shaped (part u l ks ts) w = LabelFits w l ks (Shaped ks) × Shaped ts w

-- a source's value
pub record Sourced (v : Value) : Type 0 where
  pub one : IsOne v
  pub shaped : Shaped v free
  pub shows : Shows v
  pub levels : levels_of v ≤ 64
  pub parts : count_parts v ≤ 1048576
  pub bytes : count_bytes v ≤ 1099511627776

-- A VALUE NODE OF A DOCUMENT: the value at the node, strings and names decoded. None where half of a surrogate pair is escaped without the other.
abbrev pub as_text : Told (List ℕ) → Option Label
as_text (some u) = Some (Text u)
as_text none = None

-- a name decoded
abbrev pub as_member : Told (List ℕ) → Option Label
as_member (some u) = Some (Member u)
as_member none = None

-- a string or name decoded, all else as it is
abbrev pub decoded_label : Label → Option Label
decoded_label Null = Some Null
decoded_label (Boolean b) = Some (Boolean b)
decoded_label (Numeral t) = Some (Numeral t)
decoded_label (Text t) = as_text (decoded t)
decoded_label Array = Some Array
decoded_label Object = Some Object
decoded_label (Member t) = as_member (decoded t)

-- a part, if all in it can be decoded
abbrev pub decoded_part : Option Label → Option Value → Option Value → Option Value
decoded_part (Some l) (Some ks) (Some ts) = Some (part tt l ks ts)
decoded_part (Some l) (Some ks) None = None
decoded_part (Some l) None ts = None
decoded_part None ks ts = None

-- a value with its strings and names decoded
abbrev pub decoded_value : {A : Type 0} → Parts A → Option Value
decoded_value nil = Some nil
decoded_value (part a l ks ts) = decoded_part (decoded_label l) (decoded_value ks) (decoded_value ts)

-- a node's own value
abbrev pub spot_value : Spot → Parts Handle
spot_value s = parts (node s.here.place s.here.own s.kids end)

-- what the check of a node answers: BadMemory, Gone, NotHere; and its value
abbrev pub node_checked : State → Handle → Outcome Value
node_checked d h =
    unless (d.records == 0) BadMemory
    (and_then (present Gone (named h d.kids)) (λ s.
    unless (is_root (sort_of s) || (is_property (sort_of s) || not (is_value (class (sort_of s))))) NotHere
    (present NotHere (decoded_value (spot_value s)))))

-- the value found, or null
abbrev pub given_or_null : Outcome Value → Value
given_or_null (Refused r) = null_value
given_or_null (Given v) = v

-- the value that a node means
abbrev pub node_meaning : State → Handle → Value
node_meaning d h = given_or_null (node_checked d h)

-- A TABLE: records in text order, each array or object before its children, over one byte text.
pub record Row : Type 0 where
  pub kind : ℕ
  pub boolean : ℕ
  pub text_start : ℕ
  pub text_length : ℕ
  pub name_start : ℕ
  pub name_length : ℕ
  pub children : ℕ

-- the kinds 0 to 5, and those above
pub data RowKind : Type 0 where
  nothing : RowKind
  truth : RowKind
  numeral : RowKind
  words : RowKind
  list : RowKind
  map : RowKind
  unknown : RowKind

-- which kind a number is
abbrev pub row_kind : ℕ → RowKind
row_kind zero = nothing
row_kind (suc zero) = truth
row_kind (suc (suc zero)) = numeral
row_kind (suc (suc (suc zero))) = words
row_kind (suc (suc (suc (suc zero)))) = list
row_kind (suc (suc (suc (suc (suc zero))))) = map
row_kind (suc (suc (suc (suc (suc (suc n)))))) = unknown

-- a part of the byte text, and whether it lies there
abbrev pub span : List ℕ → ℕ → ℕ → List ℕ
span t s n = take n (drop s t)

-- a part lies in the byte text
abbrev pub lies : List ℕ → ℕ → ℕ → Bool
lies t s n = not (nat_lt (length t) (s + n))

-- a record's text
abbrev pub row_text : List ℕ → Row → List ℕ
row_text t r = span t r.text_start r.text_length

-- a record's name
abbrev pub row_name : List ℕ → Row → List ℕ
row_name t r = span t r.name_start r.name_length

-- the bytes are a number, or UTF-8, as the reader has it
abbrev pub read_all : {A : Type 0} → Res A → Bool
read_all (res (ok a) []) = true
read_all (res (ok a) (b ∷ t)) = false
read_all (res bad t) = false
read_all (res deep t) = false

-- a number of RFC 8259
abbrev pub is_numeral : List ℕ → Bool
is_numeral t = read_all (number_p t)

-- UTF-8 by RFC 3629
abbrev pub is_utf8 : List ℕ → Bool
is_utf8 t = read_all (chars_p Ascii t)

-- The containers open at a record, the innermost first: whether it is an object, and how many children are still to come. The last stands for the whole.
pub record Open : Type 0 where
  pub keyed? : Bool
  pub left : ℕ

-- those that are complete at the top closed
abbrev pub closed : List Open → List Open
closed [] = []
closed (o ∷ os) = cond (o.left == 0) (closed os) (o ∷ os)

-- how many children a record has
abbrev pub kids_of : RowKind → ℕ → ℕ
kids_of nothing n = 0
kids_of truth n = 0
kids_of numeral n = 0
kids_of words n = 0
kids_of list n = n
kids_of map n = n
kids_of unknown n = 0

-- how many children a record has
abbrev pub row_kids : Row → ℕ
row_kids r = kids_of (row_kind r.kind) r.children

-- an object
abbrev pub is_map : RowKind → Bool
is_map nothing = false
is_map truth = false
is_map numeral = false
is_map words = false
is_map list = false
is_map map = true
is_map unknown = false

-- a record is bad of itself: n containers are open, the whole with them, so that it would be at the level n
abbrev pub kind_bad : RowKind → List ℕ → ℕ → Row → Bool
kind_bad nothing t n r = false
kind_bad truth t n r = nat_lt 1 r.boolean
kind_bad numeral t n r = not (lies t r.text_start r.text_length && is_numeral (row_text t r))
kind_bad words t n r = not (lies t r.text_start r.text_length && is_utf8 (row_text t r))
kind_bad list t n r = nat_lt 64 n
kind_bad map t n r = nat_lt 64 n
kind_bad unknown t n r = true

-- the name of a direct child of an object is bad
abbrev pub name_bad : Bool → List ℕ → Row → Bool
name_bad true t r = not (lies t r.name_start r.name_length && is_utf8 (row_name t r))
name_bad false t r = false

-- a record is bad where o is the container around it
abbrev pub row_bad : List ℕ → Open → ℕ → Row → Bool
row_bad t o n r = kind_bad (row_kind r.kind) t n r || name_bad o.keyed? t r

-- the first bad record from the i-th on, none where all is well: left over where nothing is open any more, missing where something is
abbrev pub mended : List Open → Row → List Open
mended [] r = []
mended (o ∷ os) r =
    record { keyed? = is_map (row_kind r.kind); left = row_kids r } ∷ (record { keyed? = o.keyed?; left = o.left - 1 } ∷ os)

-- a record is bad, or left over
abbrev pub open_bad : List ℕ → List Open → Row → Bool
open_bad t [] r = true
open_bad t (o ∷ os) r = row_bad t o (length (o ∷ os)) r

-- the records end: too early if something is open
abbrev pub ending : ℕ → List Open → Option ℕ
ending i [] = None
ending i (o ∷ os) = Some i

-- the first bad record from the i-th on
abbrev pub first_bad : List ℕ → ℕ → List Open → List Row → Option ℕ
first_bad t i os [] = ending i (closed os)
first_bad t i os (r ∷ rs) = cond (open_bad t (closed os) r) (Some i) (first_bad t (suc i) (mended (closed os) r) rs)

-- one value is to come
abbrev pub whole : List Open
whole = record { keyed? = false; left = 1 } ∷ []

-- the first bad record of a table
abbrev pub bad_row : List Row → List ℕ → Option ℕ
bad_row rs t = first_bad t 0 whole rs

-- what the check of a table answers: BadMemory, then BadTable i
abbrev pub table_sizes : List Row → List ℕ → Bool
table_sizes rs t = length rs == 0 || (nat_lt 4096 (length rs) || nat_lt 1048576 (length t))

-- BadTable i where one is found
abbrev pub found_bad : Option ℕ → Outcome (Unit {0})
found_bad (Some i) = Refused (BadTable i)
found_bad None = Given tt

-- what check_table answers
abbrev pub table_checked : List Row → List ℕ → Outcome (Unit {0})
table_checked rs t = unless (table_sizes rs t) BadMemory (found_bad (bad_row rs t))

-- the records as siblings in order with their children below them: each takes as many of those that follow as it has children
abbrev pub firsts : {X : Type 0} → ℕ → Forest X → Forest X
firsts zero ts = end
firsts (suc n) end = end
firsts (suc n) (node p i ks ts) = node p i ks (firsts n ts)

-- siblings without the first n
abbrev pub others : {X : Type 0} → ℕ → Forest X → Forest X
others zero ts = ts
others (suc n) end = end
others (suc n) (node p i ks ts) = others n ts

-- the records from the i-th on, as siblings with what is below them
abbrev pub row_tree : ℕ → List Row → Forest Row
row_tree i [] = end
row_tree i (r ∷ rs) = let ts = row_tree (suc i) rs in node i r (firsts (row_kids r) ts) (others (row_kids r) ts)

-- what a record says, beside its children
abbrev pub kind_label : RowKind → List ℕ → Row → Label
kind_label nothing t r = Null
kind_label truth t r = Boolean (not (r.boolean == 0))
kind_label numeral t r = Numeral (row_text t r)
kind_label words t r = Text (row_text t r)
kind_label list t r = Array
kind_label map t r = Object
kind_label unknown t r = Null

-- the value of the records; b says that they are the members of an object
abbrev pub rows_value : List ℕ → Bool → Forest Row → Value
rows_value t b end = nil
rows_value t b (node i r ks ts) =
    let l = kind_label (row_kind r.kind) t r in
    let us = rows_value t (is_map (row_kind r.kind)) ks in
    let vs = rows_value t b ts in
    cond b (part tt (Member (row_name t r)) (part tt l us nil) vs) (part tt l us vs)

-- the value that a table means: that of the record 0, or null if its check finds it bad
abbrev pub table_meaning : List Row → List ℕ → Value
table_meaning rs t = or_null (table_checked rs t) (rows_value t false (row_tree 0 rs))
