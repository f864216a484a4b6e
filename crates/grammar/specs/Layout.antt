-- The layout of a text: its lexemes other than whitespace and line breaks, in order, each with whether a Newline stands
-- between it and the one before; and what the text says. Assumes nothing.
use Rattle.std.specs.Prelude.{ℕ, suc, max, Bool, List, [], ◌∷◌, ◌++◌}

-- a comment as it stands in the text, its marks with it
pub data Comment : Type 0 where
  Line : List ℕ → Comment
  Block : List ℕ → Comment

-- a token or a name, as the layout sees it
pub data Mark : Type 0 where
  Open : Mark
  Close : Mark
  Comma : Mark
  Colon : Mark
  Name : Mark

-- what a value or a member is, beside its parts: numbers as spelled, strings and names as spelled between the quotes
pub data Label : Type 0 where
  Null : Label
  Boolean : Bool → Label
  Numeral : List ℕ → Label
  Text : List ℕ → Label
  Array : Label
  Object : Label
  Member : List ℕ → Label

-- what stands in the text, in a value or between two brackets, in order; a flag says that a Newline stands in front
pub data Layout : Type 0 where
  stop : Bool → Layout
  note : Bool → Comment → Layout → Layout
  mark : Bool → Mark → Layout → Layout
  item : Bool → Label → Layout → Layout → Layout

-- values in order, and at each something of A. An object's member is a part of its own, with its value below it.
pub data Parts (A : Type 0) : Type 0 where
  nil : Parts A
  part : A → Label → Parts A → Parts A → Parts A

-- what a layout says: its values alone
abbrev pub meaning : Layout → Parts (Unit {0})
meaning (stop b) = nil
meaning (note b c r) = meaning r
meaning (mark b m r) = meaning r
meaning (item b l ks r) = part tt l (meaning ks) (meaning r)

-- its comments in text order
abbrev pub notes : Layout → List Comment
notes (stop b) = []
notes (note b c r) = c ∷ notes r
notes (mark b m r) = notes r
notes (item b l ks r) = notes ks ++ notes r

-- a level is an array or an object
abbrev pub raised : Label → ℕ → ℕ
raised Null n = n
raised (Boolean b) n = n
raised (Numeral t) n = n
raised (Text t) n = n
raised Array n = suc n
raised Object n = suc n
raised (Member t) n = n

-- how many arrays and objects stand inside one another
abbrev pub levels : Layout → ℕ
levels (stop b) = 0
levels (note b c r) = levels r
levels (mark b m r) = levels r
levels (item b l ks r) = max (raised l (levels ks)) (levels r)
