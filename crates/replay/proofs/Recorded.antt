-- What is recorded is what the definitions answer. Assumes nothing.
use Rattle.std.proofs.Common.{◌≡◌, ℕ, List, length, Ok, Err, Option, Result, MatchResult, ap, ◌∙◌, arith}
use Rattle.refusal.specs.declared.Refusal.{Refusal}
use Rattle.model.specs.Nodes.{Handle}
use Rattle.model.specs.State.{Outcome, Given, Refused as RefusedSo}
use Rattle.tree.specs.Cleared as of_Tree
use Rattle.document.specs.Documents.{told}
use Rattle.printing.specs.Buffers.{Fills}
use Rattle.paths.specs.Ways as of_path
use Rattle.replay.specs.declared.answer.Answer.{Answer}
use Rattle.replay.specs.declared.answer.Answer.TheVariants.{Done, Count, Refused}
use Rattle.replay.specs.Answers.{noted}
use Rattle.replay.specs.Carried.{counted, nothing}

-- how many bytes fill a buffer
pub filled : (o : Outcome (List ℕ)) (out after : List ℕ) (r : Result ℕ Refusal) (a : Answer) → Fills o out after r → MatchResult r (λ n. a ≡ Count n) (λ e. a ≡ Refused e) → a ≡ noted counted o
filled (Given t) out after (Ok n) a (e, f) h = (let z : n ≡ length t = cc in h ∙ ap Count z)
filled (Given t) out after (Err x) a (e, f) h = let z : ◌≡◌ {A = ℕ} 0 1 = cc in absurd (omega arith)
filled (RefusedSo x) out after (Ok n) a (e, f) h = let z : ◌≡◌ {A = ℕ} 0 1 = cc in absurd (omega arith)
filled (RefusedSo x) out after (Err y) a (e, f) h = (let z : y ≡ x = cc in h ∙ ap Refused z)

-- how many ordinals fill a list
pub pathed : (o : Outcome (List ℕ)) (r : Result ℕ Refusal) (a : Answer) → told (λ n. n) r ≡ of_path.counted o → MatchResult r (λ n. a ≡ Count n) (λ e. a ≡ Refused e) → a ≡ noted counted o
pathed (Given t) (Ok n) a e h = (let z : n ≡ length t = cc in h ∙ ap Count z)
pathed (Given t) (Err x) a e h = let z : ◌≡◌ {A = ℕ} 0 1 = cc in absurd (omega arith)
pathed (RefusedSo x) (Ok n) a e h = let z : ◌≡◌ {A = ℕ} 0 1 = cc in absurd (omega arith)
pathed (RefusedSo x) (Err y) a e h = (let z : y ≡ x = cc in h ∙ ap Refused z)

-- an edit without an answer
pub edited : (o : Outcome (Option Handle)) (r : Result (Unit {0}) Refusal) (a : Answer) → of_Tree.done r ≡ o → MatchResult r (λ _. a ≡ Done) (λ e. a ≡ Refused e) → a ≡ noted nothing o
edited o (Ok u) a e h = h ∙ ap (noted nothing) e
edited o (Err x) a e h = h ∙ ap (noted nothing) e
