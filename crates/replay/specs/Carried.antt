-- What a list of calls makes of a document and of the buffers that are lent, and what is recorded of each. Assumes nothing.
use Rattle.std.specs.Prelude.{ℕ, List, [], ◌∷◌, length, None, Option}
use Rattle.table.specs.declared.node.Handle as declared
use Rattle.model.specs.Nodes.{Handle}
use Rattle.model.specs.Asks as asks
use Rattle.model.specs.State as state
use Rattle.model.specs.State.{State, Outcome, Work}
use Rattle.model.specs.Account as account
use Rattle.model.specs.Promise.{Meant}
use Rattle.tree.specs.declared.class.NodeKind.{NodeKind}
use Rattle.tree.specs.declared.class.NodeKind.TheVariants as kind
use Rattle.tree.specs.Sorts.{handle_for}
use Rattle.style.specs.declared.newline.NewlineKind.{NewlineKind}
use Rattle.style.specs.declared.newline.NewlineKind.TheVariants as newline
use Rattle.document.specs.declared.document.Document.{Document}
use Rattle.document.specs.Documents.{optional, state_of}
use Rattle.paths.specs.Ways.{written}
use Rattle.replay.specs.declared.call.Call.{Call}
use Rattle.replay.specs.declared.call.Call.TheVariants.{Print, Root, Edits, Value, Kind, Path, At, Find, ParentInfo, PreviousSibling, NextSibling, ChildAtIndex, ElementIndex, TrailingComma, Text, NewlineKind as LineBreak, UsesTrailingCommas, Clear}
use Rattle.replay.specs.declared.answer.Answer.{Answer}
use Rattle.replay.specs.declared.answer.Answer.TheVariants as answer
use Rattle.replay.specs.Answers.{noted}

-- The document's state, what the two buffers hold, and how many places the queue has.
pub record World : Type 0 where
  pub state : State
  pub bytes : List ℕ
  pub ordinals : List ℕ
  pub queue : ℕ

-- a handle as code has it
abbrev pub handle_of : Handle → declared.Handle
handle_of h = record { place = h.place; number = h.number }

-- a parent and an index as code has them
abbrev pub pair_of : Handle × ℕ → declared.Handle × ℕ
pair_of x = (handle_of x.0, x.1)

-- a kind of node as code has it
abbrev pub kind_of : asks.Kind → NodeKind
kind_of asks.Root = kind.Root
kind_of asks.Array = kind.Array
kind_of asks.Object = kind.Object
kind_of asks.Property = kind.Property
kind_of asks.Boolean = kind.Boolean
kind_of asks.Null = kind.Null
kind_of asks.Number = kind.Number
kind_of asks.String = kind.String
kind_of asks.Token = kind.Token
kind_of asks.Whitespace = kind.Whitespace
kind_of asks.Newline = kind.Newline
kind_of asks.Comment = kind.Comment

-- a kind of line break as code has it
abbrev pub break_of : asks.NewlineKind → NewlineKind
break_of asks.LineFeed = newline.LineFeed
break_of asks.CarriageReturnLineFeed = newline.CarriageReturnLineFeed

-- a node that may be absent
abbrev pub perhaps : Option Handle → Answer
perhaps o = answer.Perhaps (optional handle_of o)

-- how many bytes or ordinals are answered
abbrev pub counted : List ℕ → Answer
counted t = answer.Count (length t)

-- an edit that answers nothing
abbrev pub nothing : Option Handle → Answer
nothing o = answer.Done

-- an edit that takes no work list is lent none
abbrev pub idle : Work
idle = record { queue = 0; stack = 0 }

-- what is recorded of a call: what its definition answers
abbrev pub answer_to : World → Call → Answer
answer_to w Print = noted counted (state.print_answer w.state (length w.bytes))
answer_to w Root = noted (λ h. answer.Node (handle_of h)) (state.root_answer w.state)
answer_to w Edits = noted answer.Count (state.edits_answer w.state)
answer_to w (Value h) = noted perhaps (state.value_answer w.state (handle_for h))
answer_to w (Kind h) = noted (λ k. answer.Kind (kind_of k)) (state.kind_answer w.state (handle_for h))
answer_to w (Path h) = noted counted (state.path_answer w.state (handle_for h) (length w.ordinals))
answer_to w (At p) = noted (λ h. answer.Node (handle_of h)) (state.at_answer w.state p.now)
answer_to w (Find h t) = noted perhaps (state.find_answer w.state (handle_for h) t.now)
answer_to w (ParentInfo h) = noted (λ o. answer.Parent (optional pair_of o)) (state.parent_answer w.state (handle_for h))
answer_to w (PreviousSibling h) = noted perhaps (state.previous_answer w.state (handle_for h))
answer_to w (NextSibling h) = noted perhaps (state.next_answer w.state (handle_for h))
answer_to w (ChildAtIndex h n) = noted perhaps (state.child_answer w.state (handle_for h) n)
answer_to w (ElementIndex h) = noted answer.Number (state.element_answer w.state (handle_for h))
answer_to w (TrailingComma h) = noted perhaps (state.comma_answer w.state (handle_for h))
answer_to w (Text h) = noted counted (state.text_answer w.state (handle_for h) (length w.bytes))
answer_to w LineBreak = noted (λ k. answer.Break (break_of k)) (state.newline_answer w.state w.queue)
answer_to w (UsesTrailingCommas h) = noted answer.Flag (state.uses_answer w.state (handle_for h) w.queue)
answer_to w Clear = noted nothing (state.outcome w.state idle state.Clear)

-- the handle of no node
abbrev pub nobody : Handle
nobody = account.or_nobody None

-- The call as the definitions of runs have it: a printing, an edit, or a question of the node whose handle it names; one that names none is told
-- as of no node. A question changes nothing, whatever it asks.
abbrev pub call_for : World → Call → account.Call Meant
call_for w Print = account.Print (length w.bytes)
call_for w Root = account.Ask nobody
call_for w Edits = account.Ask nobody
call_for w (Value h) = account.Ask (handle_for h)
call_for w (Kind h) = account.Ask (handle_for h)
call_for w (Path h) = account.Ask (handle_for h)
call_for w (At p) = account.Ask nobody
call_for w (Find h t) = account.Ask (handle_for h)
call_for w (ParentInfo h) = account.Ask (handle_for h)
call_for w (PreviousSibling h) = account.Ask (handle_for h)
call_for w (NextSibling h) = account.Ask (handle_for h)
call_for w (ChildAtIndex h n) = account.Ask (handle_for h)
call_for w (ElementIndex h) = account.Ask (handle_for h)
call_for w (TrailingComma h) = account.Ask (handle_for h)
call_for w (Text h) = account.Ask (handle_for h)
call_for w LineBreak = account.Ask nobody
call_for w (UsesTrailingCommas h) = account.Ask (handle_for h)
call_for w Clear = account.Do state.Clear idle

-- What a call touches: nothing, the start of a buffer, or the document.
pub data Touch : Type 0 where
  untouched : Touch
  fills_bytes : Outcome (List ℕ) → Touch
  fills_ordinals : Outcome (List ℕ) → Touch
  edits : State → Touch

-- a printing and a text fill the buffer of bytes, a path the list of ordinals, an edit changes the document
abbrev pub touch : World → Call → Touch
touch w Print = fills_bytes (state.print_answer w.state (length w.bytes))
touch w Root = untouched
touch w Edits = untouched
touch w (Value h) = untouched
touch w (Kind h) = untouched
touch w (Path h) = fills_ordinals (state.path_answer w.state (handle_for h) (length w.ordinals))
touch w (At p) = untouched
touch w (Find h t) = untouched
touch w (ParentInfo h) = untouched
touch w (PreviousSibling h) = untouched
touch w (NextSibling h) = untouched
touch w (ChildAtIndex h n) = untouched
touch w (ElementIndex h) = untouched
touch w (TrailingComma h) = untouched
touch w (Text h) = fills_bytes (state.text_answer w.state (handle_for h) (length w.bytes))
touch w LineBreak = untouched
touch w (UsesTrailingCommas h) = untouched
touch w Clear = edits (state.after w.state idle state.Clear)

-- all after it: a refusal leaves a buffer as it was
abbrev pub touched : World → Touch → World
touched w untouched = w
touched w (fills_bytes o) = record { state = w.state; bytes = written o w.bytes; ordinals = w.ordinals; queue = w.queue }
touched w (fills_ordinals o) = record { state = w.state; bytes = w.bytes; ordinals = written o w.ordinals; queue = w.queue }
touched w (edits d) = record { state = d; bytes = w.bytes; ordinals = w.ordinals; queue = w.queue }

-- all after a call
abbrev pub carried : World → Call → World
carried w c = touched w (touch w c)

-- and after a list of calls
abbrev pub carried_all : World → List Call → World
carried_all w [] = w
carried_all w (c ∷ cs) = carried_all (carried w c) cs

-- what is recorded of all of them
abbrev pub answers_to : World → List Call → List Answer
answers_to w [] = []
answers_to w (c ∷ cs) = answer_to w c ∷ answers_to (carried w c) cs

-- the calls as the definitions of runs have them
abbrev pub calls_for : World → List Call → List (account.Call Meant)
calls_for w [] = []
calls_for w (c ∷ cs) = call_for w c ∷ calls_for (carried w c) cs

-- the world of a document and the buffers that are lent
abbrev pub world_of : Document → List ℕ → List ℕ → List ℕ → World
world_of d bs os q = record { state = state_of d; bytes = bs; ordinals = os; queue = length q }
