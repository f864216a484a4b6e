-- What a buffer holds after an answer and after a refusal. Assumes nothing.
use Rattle.std.proofs.Common.{◌≡◌, ℕ, ◌+◌, ◌<◌, ◌≤◌, ltb, List, ◌++◌, length, drop, Ok, Err, sym, refl, ap, ◌∙◌, subst, arith}
use Rattle.std.proofs.lemmas.Bool.{lt-ltb, le-ltb, cond-true, cond-false}
use Rattle.refusal.specs.declared.Refusal.{Refusal}
use Rattle.refusal.specs.declared.Refusal.TheVariants.{Short}
use Rattle.model.specs.State.{Outcome, Refused, Given, filled}
use Rattle.printing.specs.Buffers.{over, Fills}

-- too short a buffer, and one that suffices
pub short : (n m : ℕ) (t : List ℕ) → n < m → m ≡ length t → filled n t ≡ Refused (Short m)
short n m t l e = cond-true (ltb n (length t)) (Refused (Short (length t))) (Given t) (lt-ltb n (length t) (omega arith)) ∙ ap (λ z. Refused (Short z)) (sym e)

pub fits : (n : ℕ) (t : List ℕ) → length t ≤ n → filled n t ≡ Given t
fits n t l = cond-false (ltb n (length t)) (Refused (Short (length t))) (Given t) (le-ltb n (length t) l)

module _ (o : Outcome (List ℕ)) (out : List ℕ) where
  pub refused : (e : Refusal) → o ≡ Refused e → Fills o out out (Err e)
  refused e z = subst (λ y. Fills y out out (Err e)) (sym z) (refl, refl)

  pub given : (t after : List ℕ) (n : ℕ) → o ≡ Given t → n ≡ 0 + length t → after ≡ over out 0 t → Fills o out after (Ok n)
  given t after n z e w = subst (λ y. Fills y out after (Ok n)) (sym z) (ap Ok (omega arith), w ∙ ap (λ m. t ++ drop m out) (omega arith))
