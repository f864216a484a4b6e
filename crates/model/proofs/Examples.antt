-- The worked examples, and a few refusals, numbers, sources and accounts, by computation. Assumes nothing.
use Rattle.std.proofs.Common.{◌≡◌, ℕ, [], ◌∷◌, Some, None, codes, refl}
use Rattle.model.specs.Nodes.{Handle, parts, print}
use Rattle.model.specs.Asks.{root_handle, at_path, then, named, trailing_comma}
use Rattle.model.specs.Written.{Value}
use Rattle.refusal.specs.declared.Refusal.TheVariants.{BadText, NoNode, NoText, Gone, NotHere, Worn, BadMemory}
use Rattle.model.specs.State.{State, Outcome, Refused, Given, blank_state, load, Remove, Replace, SetRoot, Clear, SetTrailingCommas, IfMultiline, Work, after, outcome}
use Rattle.model.specs.Sources.{Row, bad_row, table_meaning, null_value, node_checked, node_meaning}
use Rattle.grammar.specs.Layout.{Block, Null, Numeral, Array, nil, part}
use Rattle.model.specs.Account.{Do, Print}
use Rattle.model.specs.Promise.{account_of}
use Rattle.model.specs.Rows.{Worked, text_value}

pub worked : Worked
worked = ((refl, tt), ((refl, tt), ((refl, tt), ((refl, tt), ((refl, tt), ((refl, tt), ((refl, tt), ((refl, tt), ((refl, tt), ((refl, tt), tt))))))))))

abbrev given : Outcome State → State
given (Refused r) = blank_state
given (Given d) = d

abbrev at : ℕ → ℕ → Handle
at p n = record { place = p; number = n }

abbrev work : ℕ → ℕ → Work
work n m = record { queue = n; stack = m }

-- `[1]` has five nodes and one stored byte
five : print (given (load 5 1 (codes "[1]"))).kids ≡ codes "[1]"
five = refl

four : load 4 1 (codes "[1]") ≡ Refused NoNode
four = refl

no_room : load 5 0 (codes "[1]") ≡ Refused NoText
no_room = refl

no_sentence : load 4 0 (codes "[1 2]") ≡ Refused (BadText 3)
no_sentence = refl

no_records : load 0 0 (codes "[1 2]") ≡ Refused BadMemory
no_records = refl

-- `[1, 2]` with so many records and so much store: the element 1 is at the place 3 with the number 4
abbrev pair : ℕ → ℕ → State
pair r m = given (load r m (codes "[1, 2]"))

abbrev b_null : Value
b_null = text_value (codes "{\"b\": null}")

-- one node goes, twelve come: 19 in all; three bytes are used, six are new
replace_fits : outcome (pair 19 9) (work 19 64) (Replace (at 3 4) b_null) ≡ Given (Some (at 3 9))
replace_fits = refl

replace_no_node : outcome (pair 18 8) (work 18 64) (Replace (at 3 4) b_null) ≡ Refused NoNode
replace_no_node = refl

replace_no_text : outcome (pair 19 8) (work 19 64) (Replace (at 3 4) b_null) ≡ Refused NoText
replace_no_text = refl

replace_gone : outcome (pair 17 8) (work 17 64) (Replace (at 3 5) b_null) ≡ Refused Gone
replace_gone = refl

replace_not_here : outcome (pair 17 8) (work 17 64) (Replace (at 4 5) b_null) ≡ Refused NotHere
replace_not_here = refl

replace_bad_memory : outcome (pair 17 8) (work 16 64) (Replace (at 3 5) b_null) ≡ Refused BadMemory
replace_bad_memory = refl

short_stack_lem : outcome (pair 17 8) (work 17 63) (Replace (at 3 5) b_null) ≡ Refused BadMemory
short_stack_lem = refl

-- the root cannot be removed; what was removed is Gone, and an edit counts
remove_root : outcome (pair 17 8) (work 0 0) (Remove root_handle) ≡ Refused NotHere
remove_root = refl

abbrev once : State
once = after (pair 17 8) (work 0 0) (Remove (at 3 4))

removed_once : outcome once (work 0 0) (Remove (at 3 4)) ≡ Refused Gone
removed_once = refl

counted_once : once.edits ≡ 1
counted_once = refl

-- the last count of edits, and the last number
abbrev aged : ℕ → ℕ → State
aged n k = let d = pair 30 30 in
    record { kids = d.kids; fresh = n; used = d.used; edits = k; records = d.records; store = d.store; free = d.free }

worn_edits : outcome (aged 9 4294967295) (work 0 0) Clear ≡ Refused Worn
worn_edits = refl

last_edit : outcome (aged 9 4294967294) (work 0 0) Clear ≡ Given None
last_edit = refl

worn_numbers : outcome (aged 4294967285 0) (work 30 64) (Replace (at 3 4) b_null) ≡ Refused Worn
worn_numbers = refl

last_number : outcome (aged 4294967284 0) (work 30 64) (Replace (at 3 4) b_null) ≡ Given (Some (at 3 4294967284))
last_number = refl

-- set_root: the line breaks have numbers before the value's
abbrev rooted : State
rooted = after (given (load 10 30 (codes "// c"))) (work 10 64) (SetRoot null_value)

rooted_at : at_path (parts rooted.kids) [] ≡ Some (at 4 5)
rooted_at = refl

-- set_trailing_commas: the outer comma has its number before the inner one
abbrev nested : State
nested = after (given (load 20 30 (codes "[\n[1\n]\n]"))) (work 0 0) (SetTrailingCommas root_handle IfMultiline)

outer_comma : then (named (at 4 5) nested.kids) trailing_comma ≡ Some (at 11 12)
outer_comma = refl

inner_comma : then (named (at 6 7) nested.kids) trailing_comma ≡ Some (at 12 13)
inner_comma = refl

-- Tables: kind, boolean, start and length of the text, start and length of the name, children.
abbrev entry : ℕ → ℕ → ℕ → ℕ → ℕ → ℕ → ℕ → Row
entry k b s n u v c =
    record { kind = k; boolean = b; text_start = s; text_length = n; name_start = u; name_length = v; children = c }

table_means : table_meaning (entry 5 9 9 9 9 9 2 ∷ entry 4 0 0 0 0 1 2 ∷ entry 2 0 1 2 0 0 0 ∷ entry 1 1 0 0 0 0 0 ∷ entry 3 0 0 1 3 1 0 ∷ []) (codes "x12y")
    ≡ text_value (codes "{\"x\": [12, true], \"y\": \"x\"}")
table_means = refl

ends_early : bad_row (entry 4 0 0 0 0 0 1 ∷ []) [] ≡ Some 1
ends_early = refl

left_over : bad_row (entry 0 0 0 0 0 0 0 ∷ entry 0 0 0 0 0 0 0 ∷ []) [] ≡ Some 1
left_over = refl

bad_kind : bad_row (entry 6 0 0 0 0 0 0 ∷ []) [] ≡ Some 0
bad_kind = refl

bad_boolean : bad_row (entry 4 0 0 0 0 0 1 ∷ entry 1 2 0 0 0 0 0 ∷ []) [] ≡ Some 1
bad_boolean = refl

bad_number : bad_row (entry 2 0 0 2 0 0 0 ∷ []) (codes "01") ≡ Some 0
bad_number = refl

bad_range : bad_row (entry 2 0 0 3 0 0 0 ∷ []) (codes "01") ≡ Some 0
bad_range = refl

bad_name : bad_row (entry 5 0 0 0 0 0 1 ∷ entry 0 0 0 0 2 1 0 ∷ []) (codes "01") ≡ Some 1
bad_name = refl

bad_means_null : table_meaning (entry 6 0 0 0 0 0 0 ∷ []) [] ≡ null_value
bad_means_null = refl

-- A value node of a document: strings decoded; half a surrogate pair is NotHere, and means null.
node_means : node_meaning (given (load 20 60 (codes "[\"\\ud83d\\ude00\\n\", \"\\ud83d\"]"))) (at 3 4) ≡ node_meaning (given (load 20 60 (34 ∷ 240 ∷ 159 ∷ 152 ∷ 128 ∷ 92 ∷ 110 ∷ 34 ∷ []))) (at 1 2)
node_means = refl

half_a_pair : node_checked (given (load 20 60 (codes "[\"\\ud83d\\ude00\\n\", \"\\ud83d\"]"))) (at 6 7) ≡ Refused NotHere
half_a_pair = refl

-- The account: what remove and replace do to value, comments and handles.
abbrev self : Value → Value
self v = v

removed_account : account_of self (given (load 30 60 (codes "[1, // one\n 2]"))) (Do (Remove (at 3 4)) (work 0 0) ∷ [])
    ≡ record { value = part (at 1 2) Array (part (at 9 10) (Numeral (codes "2")) nil nil) nil; comments = []; left = at 3 4 ∷ [] }
removed_account = refl

replaced_account : account_of self (given (load 30 60 (codes "[1 /* a */, [2 /* b */]]"))) (Do (Replace (at 8 9) null_value) (work 30 64) ∷ [])
    ≡ record {
      value = part (at 1 2) Array (part (at 3 4) (Numeral (codes "1")) nil (part (at 13 16) Null nil nil)) nil;
      comments = Block (codes "/* a */") ∷ [];
      left = at 8 9 ∷ at 10 11 ∷ [];
    }
replaced_account = refl

-- a refused call changes nothing
refused_account : account_of self (given (load 30 60 (codes "[1]"))) (Do (Remove root_handle) (work 0 0) ∷ Print 0 ∷ [])
    ≡ record { value = part (at 1 2) Array (part (at 3 4) (Numeral (codes "1")) nil nil) nil; comments = []; left = [] }
refused_account = refl
