-- How a value is written: its pieces, with line breaks, commas and indents. Assumes nothing.
use Rattle.std.specs.Prelude.{ℕ, Bool, true, false, cond, not, ◌||◌, List, [], ◌∷◌, ◌++◌}
use Rattle.grammar.specs.Layout.{Label, Null, Boolean, Numeral, Text, Array, Object, Member, Parts, nil, part}
use Rattle.grammar.specs.Pieces.{null, boolean, number, string, name, token, whitespace, newline, Break, line_feed, both, Token, open_array, close_array, open_object, close_object, comma, colon, array, object, property, Pieces, end, leaf, box, join}
use Rattle.model.specs.Asks.{NewlineKind, LineFeed, CarriageReturnLineFeed}
use Rattle.model.specs.Escapes.{escaped}

-- a value: one part. Of a source its strings and names are characters in UTF-8; of a text they are as spelled between the quotes.
abbrev pub Value : Type 0
Value = Parts (Unit {0})

-- strings and names escaped
abbrev pub escaped_label : Label → Label
escaped_label Null = Null
escaped_label (Boolean b) = Boolean b
escaped_label (Numeral t) = Numeral t
escaped_label (Text t) = Text (escaped t)
escaped_label Array = Array
escaped_label Object = Object
escaped_label (Member t) = Member (escaped t)

-- a value with its strings and names escaped
abbrev pub spelled : Value → Value
spelled nil = nil
spelled (part a l ks ts) = part a (escaped_label l) (spelled ks) (spelled ts)

-- how lines are written: the line break, whether a comma stands behind the last member, the single indent
pub record Style : Type 0 where
  pub newline : Break
  pub trailing : Bool
  pub step : List ℕ

-- the line break of a kind
abbrev pub break_of : NewlineKind → Break
break_of LineFeed = line_feed
break_of CarriageReturnLineFeed = both

-- nothing
abbrev pub is_nil : Value → Bool
is_nil nil = true
is_nil (part a l ks ts) = false

-- an array or object with members
abbrev pub full : Label → Value → Bool
full Null ks = false
full (Boolean b) ks = false
full (Numeral t) ks = false
full (Text t) ks = false
full Array ks = not (is_nil ks)
full Object ks = not (is_nil ks)
full (Member t) ks = false

-- one of these is an array or object with members
abbrev pub any_full : Value → Bool
any_full nil = false
any_full (part a l ks ts) = full l ks || any_full ts

-- spread over lines: an object with members, or an array with an element that is an array or object with members
abbrev pub spread : Label → Value → Bool
spread Null ks = false
spread (Boolean b) ks = false
spread (Numeral t) ks = false
spread (Text t) ks = false
spread Array ks = any_full ks
spread Object ks = not (is_nil ks)
spread (Member t) ks = false

-- the indent inside
abbrev pub inner_indent : Label → List ℕ → List ℕ → List ℕ
inner_indent Null step t = t
inner_indent (Boolean b) step t = t
inner_indent (Numeral u) step t = t
inner_indent (Text u) step t = t
inner_indent Array step t = t ++ step
inner_indent Object step t = t ++ step
inner_indent (Member u) step t = t

-- between quotes
abbrev pub quoted : List ℕ → List ℕ
quoted t = 34 ∷ (t ++ 34 ∷ [])

-- one space
abbrev pub one_space : List ℕ
one_space = 32 ∷ []

-- before a member: on lines, a Newline and the indent
abbrev pub ahead : Style → Bool → List ℕ → Pieces → Pieces
ahead st true t r = leaf (newline st.newline) (leaf (whitespace t) r)
ahead st false t r = r

-- behind a member: a comma between members, on one line with a space; on lines behind the last one too if trailing commas are used
abbrev pub behind : Style → Bool → Bool → Pieces → Pieces
behind st true true r = cond st.trailing (leaf (token comma) r) r
behind st true false r = leaf (token comma) r
behind st false true r = r
behind st false false r = leaf (token comma) (leaf (whitespace one_space) r)

-- the closing bracket: on lines, a Newline and the current indent before it
abbrev pub shut : Style → Bool → List ℕ → Token → Pieces
shut st b t m = ahead st b t (leaf (token m) end)

-- a value of this label, with what is written inside it, before r; t is the current indent
abbrev pub framed : Style → Label → Bool → List ℕ → Pieces → Pieces → Pieces
framed st Null b t c r = leaf null r
framed st (Boolean v) b t c r = leaf (boolean v) r
framed st (Numeral u) b t c r = leaf (number u) r
framed st (Text u) b t c r = leaf (string (quoted u)) r
framed st Array b t c r = box array (leaf (token open_array) (join c (shut st b t close_array))) r
framed st Object b t c r = box object (leaf (token open_object) (join c (shut st b t close_object))) r
framed st (Member u) b t c r = box property (leaf (name (quoted u)) (leaf (token colon) (leaf (whitespace one_space) c))) r

-- the members of an array or object, or the value of a member, whose strings and names are spelled: b says that they stand on lines, t is their indent
abbrev pub members : Style → Bool → List ℕ → Value → Pieces
members st b t nil = end
members st b t (part a l ks ts) =
    ahead st b t (framed st l (spread l ks) t (members st (spread l ks) (inner_indent l st.step t) ks) (behind st b (is_nil ts) (members st b t ts)))

-- a source's value written with the current indent t
abbrev pub written : Style → List ℕ → Value → Pieces
written st t v = members st false t (spelled v)
