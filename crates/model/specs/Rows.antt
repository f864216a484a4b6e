-- Worked examples: texts, calls by path, and the bytes printed after each call. Assumes nothing.
use Rattle.std.specs.Prelude.{◌≡◌, ℕ, List, [], ◌∷◌, codes}
use Rattle.grammar.specs.Layout.{meaning}
use Rattle.grammar.specs.Pieces.{layout}
use Rattle.grammar.specs.Answer.{Answer, Read, BadText, TooDeep, read}
use Rattle.model.specs.Nodes.{Handle, parts, print}
use Rattle.model.specs.Asks.{at_path, or_given, root_handle}
use Rattle.model.specs.Written.{Value}
use Rattle.model.specs.State.{Outcome, Refused, Given, State, load, Commas, Never, Edit, Remove, Replace, SetValue, SetRoot, Clear, SetTrailingCommas, EnsureMultiline, Work, after}
use Rattle.model.specs.Sources.{null_value, decoded_value}

-- a node: the root, or what stands at a path
pub data Spotted : Type 0 where
  top : Spotted
  along : List ℕ → Spotted

-- a call; a value is given by a text that means it
pub data Act : Type 0 where
  remove : List ℕ → Act
  replace : List ℕ → List ℕ → Act
  set_value : List ℕ → List ℕ → Act
  set_root : List ℕ → Act
  clear : Act
  set_trailing_commas : Spotted → Commas → Act
  ensure_multiline : List ℕ → Act

-- the value that a text means, strings and names decoded
abbrev pub value_read : Answer → Value
value_read (Read a) = or_given (decoded_value (meaning (layout a))) null_value
value_read (BadText k) = null_value
value_read TooDeep = null_value

-- the value of a text
abbrev pub text_value : List ℕ → Value
text_value t = value_read (read 64 t)

-- the handle at a path; where nothing stands there, one that names no node
abbrev pub handle_at : State → List ℕ → Handle
handle_at d p = or_given (at_path (parts d.kids) p) (record { place = 0; number = 0 })

-- the handle of the root, or that at a path
abbrev pub spotted_at : State → Spotted → Handle
spotted_at d top = root_handle
spotted_at d (along p) = handle_at d p

-- the edit that a call is
abbrev pub edit_of : State → Act → Edit Value
edit_of d (remove p) = Remove (handle_at d p)
edit_of d (replace p v) = Replace (handle_at d p) (text_value v)
edit_of d (set_value p v) = SetValue (handle_at d p) (text_value v)
edit_of d (set_root v) = SetRoot (text_value v)
edit_of d clear = Clear
edit_of d (set_trailing_commas n m) = SetTrailingCommas (spotted_at d n) m
edit_of d (ensure_multiline p) = EnsureMultiline (handle_at d p)

-- room enough: 500 records, 20,000 bytes of store
abbrev pub enough : Work
enough = record { queue = 500; stack = 64 }

-- the state after a call
abbrev pub acted : State → Act → State
acted d x = after d enough (edit_of d x)

-- a call with the bytes printed after it
pub record Turn : Type 0 where
  pub act : Act
  pub prints : List ℕ

-- a text with calls, one after the other
pub record Case : Type 0 where
  pub text : List ℕ
  pub turns : List Turn

-- each turn prints what it should
abbrev pub Turns : State → List Turn → Type 0
Turns d [] = Unit {0}
Turns d (x ∷ xs) = (print (acted d x.act).kids ≡ x.prints) × Turns (acted d x.act) xs

-- the load is not refused, and each turn then prints what it should
abbrev pub Plays : Outcome State → List Turn → Type 0
Plays (Refused r) xs = ⊥
Plays (Given d) xs = Turns d xs

-- the text is loaded, and each call then prints what it should
abbrev pub Holds : Case → Type 0
Holds c = Plays (load 500 20000 c.text) c.turns

-- each case comes out as it should
abbrev pub AllHold : List Case → Type 0
AllHold [] = Unit {0}
AllHold (c ∷ cs) = Holds c × AllHold cs

-- a text, one call, and what is printed
abbrev pub row : List ℕ → Act → List ℕ → Case
row t x u = record { text = t; turns = record { act = x; prints = u } ∷ [] }

-- The worked examples.
abbrev pub rows : List Case
rows =
    row (codes "{\n  \"F\": [11, 12, 13], // stalls\n}\n") (remove (0 ∷ 0 ∷ 1 ∷ [])) (codes "{\n  \"F\": [11, 13], // stalls\n}\n")
    ∷ row (codes "[1, 2]") (remove (1 ∷ [])) (codes "[1]")
    ∷ row (codes "[1, // one\n 2]") (remove (0 ∷ [])) (codes "[ 2]")
    ∷ row (codes "[1 // c\n]") (remove (0 ∷ [])) (codes "[]")
    ∷ row (codes "{}\n") (remove []) []
    ∷ row (codes "[1, 2]") (ensure_multiline []) (codes "[\n  1,\n  2\n]")
    ∷ row (codes "[]") (ensure_multiline []) (codes "[\n]")
    ∷ row (codes "[1,]") (set_trailing_commas top Never) (codes "[1]")
    ∷ row (codes "// c") (set_root (codes "null")) (codes "// c\nnull\n")
    ∷ row (codes "[1, 2]") (replace (0 ∷ []) (codes "{\"b\": null}")) (codes "[{\n  \"b\": null\n}, 2]")
    ∷ []

-- each of them comes out as it should
abbrev pub Worked : Type 0
Worked = AllHold rows
