-- What the check of a text answers. Assumes nothing.
use Rattle.std.specs.Prelude.{ℕ, suc, cond, List, length, Ok, Err, Result, nat_lt}
use Rattle.grammar.specs.Answer as answer
use Rattle.grammar.specs.Layout.{notes, levels}
use Rattle.grammar.specs.Pieces.{Pieces, nodes, stored, layout}
use Rattle.checking.specs.declared.extent.Extent.{Extent}
use Rattle.refusal.specs.declared.Refusal.{Refusal}
use Rattle.refusal.specs.declared.Refusal.TheVariants.{BadText, TooDeep, BadMemory}

-- how large the document of these pieces is: the root is a node too
abbrev pub extent_of : Pieces → Extent
extent_of a = record { nodes = suc (nodes a); stored = length (stored a); levels = levels (layout a); comments = length (notes (layout a)) }

-- what is answered of what the reader says
abbrev pub judged : answer.Answer → Result Extent Refusal
judged (answer.Read a) = Ok (extent_of a)
judged (answer.BadText p) = Err (BadText p)
judged answer.TooDeep = Err TooDeep

-- the whole order of refusals: first a text that is too long, then what the reader of 64 levels says
abbrev pub checked : List ℕ → Result Extent Refusal
checked s = cond (nat_lt 1048576 (length s)) (Err BadMemory) (judged (answer.read 64 s))
