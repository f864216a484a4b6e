-- What a call leaves in a buffer. Assumes nothing.
use Rattle.std.specs.Prelude.{◌≡◌, ℕ, ◌+◌, List, ◌++◌, length, take, drop, Some, None, Ok, Err, Option, Result}
use Rattle.refusal.specs.declared.Refusal.{Refusal}
use Rattle.model.specs.State.{Outcome, Refused, Given}

-- bytes written over a part of a buffer
abbrev pub over : List ℕ → ℕ → List ℕ → List ℕ
over out n ys = take n out ++ (ys ++ drop (n + length ys) out)

-- an answer of bytes fills the start of the buffer, and its number is told; a refusal leaves the buffer as it was
abbrev pub Fills : Outcome (List ℕ) → List ℕ → List ℕ → Result ℕ Refusal → Type 0
Fills (Given t) out after r = (r ≡ Ok (length t)) × (after ≡ t ++ drop (length t) out)
Fills (Refused e) out after r = (r ≡ Err e) × (after ≡ out)

-- the same for an answer that may be absent, which leaves the buffer as it was too
abbrev pub FillsOr : Outcome (Option (List ℕ)) → List ℕ → List ℕ → Result (Option ℕ) Refusal → Type 0
FillsOr (Given (Some t)) out after r = (r ≡ Ok (Some (length t))) × (after ≡ t ++ drop (length t) out)
FillsOr (Given None) out after r = (r ≡ Ok None) × (after ≡ out)
FillsOr (Refused e) out after r = (r ≡ Err e) × (after ≡ out)
