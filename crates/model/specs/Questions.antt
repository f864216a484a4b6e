-- Questions and refusals that one might answer otherwise, by example. Assumes nothing.
use Rattle.std.specs.Prelude.{◌≡◌, ℕ, Bool, true, false, List, [], ◌∷◌, Some, None, codes}
use Rattle.refusal.specs.declared.Refusal.TheVariants.{Gone, NotHere}
use Rattle.model.specs.Asks.{LineFeed, single_indent_text}
use Rattle.model.specs.State.{Outcome, Refused, Given, State, blank_state, load, Remove, accepted, kind_answer, find_answer, newline_answer, uses_answer}
use Rattle.model.specs.Rows.{remove, handle_at, acted, enough}

-- the document of an outcome; before a load there is none
abbrev pub document_of : Outcome State → State
document_of (Refused r) = blank_state
document_of (Given d) = d

-- the document of a text, with room enough
abbrev pub document : List ℕ → State
document t = document_of (load 500 20000 t)

-- whether what stands at a path of a text uses trailing commas
abbrev pub uses : List ℕ → List ℕ → Outcome Bool
uses t p = uses_answer (document t) (handle_at (document t) p) 500

pub record Asked : Type 0 where
  -- trailing commas are looked for below a node, not above it, and a Whitespace child is the sign of several lines
  pub not_above : uses (codes "{\n  \"a\": [1],\n}") (0 ∷ 0 ∷ []) ≡ Given false
  pub no_whitespace : uses (codes "[\n1,\n]") [] ≡ Given false
  pub inner_decides : uses (codes "[\n[1, 2],\n]") [] ≡ Given false
  pub on_one_line : uses (codes "[[1, 2,],3]") [] ≡ Given true
  -- a lone CR counts as LineFeed
  pub lone_return : newline_answer (document (codes "[\r1]")) 500 ≡ Given LineFeed
  -- names are compared as spelled
  pub as_spelled : find_answer (document (codes "{\"\\u0046\": 1}")) (handle_at (document (codes "{\"\\u0046\": 1}")) []) (codes "F") ≡ Given None
  -- one level of indentation, by the first indented line
  pub one_level : single_indent_text (document (codes "  [\n    1\n  ]")).kids ≡ Some (codes "    ")
  -- a departed node is Gone
  pub departed : kind_answer (acted (document (codes "[1, 2]")) (remove (0 ∷ []))) (handle_at (document (codes "[1, 2]")) (0 ∷ [])) ≡ Refused Gone
  -- a property's value is not removed alone
  pub value_alone : accepted (document (codes "{\"a\": 1}")) enough (Remove (handle_at (document (codes "{\"a\": 1}")) (0 ∷ 0 ∷ []))) ≡ Refused NotHere
