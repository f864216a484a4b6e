-- A run of calls on documents is a run of states, so that the promise of the definitions is kept.
use Rattle.std.proofs.Common.{◌≡◌, ℕ, List, sym, ap, ◌∙◌, subst, arith}
use Rattle.grammar.specs.Pieces.{Pieces, print as print_pieces}
use Rattle.grammar.specs.Answer.{Answer, Read, read, Judged, good, bad_text, too_deep}
use Rattle.grammar.proofs.Whole.{right}
use Rattle.model.specs.Written.{Value}
use Rattle.model.specs.State.{State, Given, load}
use Rattle.model.specs.Account.{Call}
use Rattle.model.specs.Promise.{printing, Run, Meant, meant}
use Rattle.model.specs.Promise as promise
use Rattle.model.proofs.Loads.{pieces_numbered}
use Rattle.model.proofs.Places.{load_ways}
use Rattle.model.proofs.Promised.{the_promise}
use Rattle.document.specs.declared.document.Document.{Document}
use Rattle.document.specs.Documents.{state_of}
use Rattle.document.specs.Runs.{Runs, over, goes, Keeps}

-- the states that a run leads through
pub run_states : {S : Type 0} (says : S → Value) (d : Document) (cs : List (Call S)) (e : Document) → Runs says d cs e → Run says (state_of d) cs (state_of e)
run_states says d _ _ (over _) = promise.over (state_of d)
run_states says d _ _ (goes _ e f c cs s r) = promise.goes (state_of d) c cs (state_of f) (subst (λ y. Run says y cs (state_of f)) s (run_states says e cs f r))

-- the promise, for a document that was loaded
pub keeps : (r m : ℕ) (t : List ℕ) (d : Document) → load r m t ≡ Given (state_of d) → Keeps d
keeps r m t d l cs e n = the_promise r m t (state_of d) l cs (state_of e) (run_states meant d cs e n)

-- what was loaded prints the text
prints_read : (t : List ℕ) (x : Answer) → Judged 64 t x → (a : Pieces) → x ≡ Read a → print_pieces a ≡ t
prints_read t _ (good b s l p) a e = (let z : b ≡ a = cc in ap print_pieces (sym z) ∙ p)
prints_read t _ (bad_text k s o n) a e = let z : ◌≡◌ {A = ℕ} 0 1 = cc in absurd (omega arith)
prints_read t _ (too_deep k s) a e = let z : ◌≡◌ {A = ℕ} 0 1 = cc in absurd (omega arith)

pub prints_text : (r m : ℕ) (t : List ℕ) (d : State) → load r m t ≡ Given d → printing d ≡ t
prints_text r m t d l =
    load_ways (λ s. printing s ≡ t) r m t d (λ a e f. ap print_pieces (pieces_numbered 1 2 a) ∙ prints_read t (read 64 t) ((right 64).judges t) a e) l

-- both, of a document
pub promised : (r m : ℕ) (t : List ℕ) (d : Document) → load r m t ≡ Given (state_of d) → (printing (state_of d) ≡ t) × Keeps d
promised r m t d l = (prints_text r m t (state_of d) l, keeps r m t d l)
