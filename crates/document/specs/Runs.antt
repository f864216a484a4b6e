-- Loading, the runs of calls after it, and what they promise. Assumes nothing.
use Rattle.std.specs.Prelude.{◌≡◌, ℕ, List, [], ◌∷◌, Ok, Err, Result}
use Rattle.model.specs.Written.{Value}
use Rattle.model.specs.State.{Given, load}
use Rattle.model.specs.Account.{Call}
use Rattle.model.specs.Promise.{printing, after_call, Promise, Lasting, account_of, Meant, meant}
use Rattle.loader.specs.declared.error.LoadError.{LoadError}
use Rattle.loader.specs.Loaded.{RefusedSo}
use Rattle.document.specs.declared.document.Document.{Document}
use Rattle.document.specs.Documents.{state_of}

-- what load makes of the document d: e, which is loaded as the definition says, or is d still where it is refused
abbrev pub Loads : ℕ → ℕ → List ℕ → Document → Document → Result (Unit {0}) LoadError → Type 0
Loads r m t d e (Ok _) = load r m t ≡ Given (state_of e)
Loads r m t d e (Err x) = RefusedSo r m t x × (e ≡ d)

module _ {S : Type 0} (says : S → Value) where
  -- the document after one call, as the contract of each call has it: an edit does what its definition says, accepted or refused, and all others leave it as it is
  abbrev pub Steps : Document → Call S → Document → Type 0
  Steps d c e = state_of e ≡ after_call says (state_of d) c

  -- the documents that a list of calls leads through
  pub data Runs : Document → List (Call S) → Document → Type 0 where
    over : (d : Document) → Runs d [] d
    goes : (d e f : Document) (c : Call S) (cs : List (Call S)) → Steps d c e → Runs e cs f → Runs d (c ∷ cs) f

-- the promise for a document newly loaded: after every run of calls, over every value that a source may mean
abbrev pub Keeps : Document → Type 0
Keeps d = (cs : List (Call Meant)) (e : Document) → Runs meant d cs e → Promise meant (state_of d) cs (state_of e) (account_of meant (state_of d) cs) × Lasting meant (state_of e)

-- a document loaded with the text t prints it, and keeps the promise
abbrev pub Promises : List ℕ → Document → Result (Unit {0}) LoadError → Type 0
Promises t d (Ok _) = (printing (state_of d) ≡ t) × Keeps d
Promises t d (Err x) = Unit {0}
