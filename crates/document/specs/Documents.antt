-- What a document holds, and how an answer is told. Assumes nothing.
use Rattle.std.specs.Prelude.{Some, None, Ok, Err, Option, Result}
use Rattle.refusal.specs.declared.Refusal.{Refusal}
use Rattle.model.specs.State.{Outcome, Given, Refused, State, blank_state}
use Rattle.tree.specs.declared.tree.Tree.{Tree}
use Rattle.tree.specs.Trees.{state}
use Rattle.document.specs.declared.document.Document.{Document}

-- the state of what was loaded, or of a document before its first load
abbrev pub state_in : Option Tree → State
state_in None = blank_state
state_in (Some t) = state t

-- a document's state
abbrev pub state_of : Document → State
state_of d = state_in d.tree

-- an answer of a call as the definitions have it
abbrev pub told : {A B : Type 0} → (A → B) → Result A Refusal → Outcome B
told f (Ok a) = Given (f a)
told f (Err e) = Refused e

-- the same of an answer that may be absent
abbrev pub optional : {A B : Type 0} → (A → B) → Option A → Option B
optional f (Some a) = Some (f a)
optional f None = None
