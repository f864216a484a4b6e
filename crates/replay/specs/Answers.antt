-- What is recorded of a call's answer. Assumes nothing.
use Rattle.model.specs.State as state
use Rattle.replay.specs.declared.answer.Answer.{Answer}
use Rattle.replay.specs.declared.answer.Answer.TheVariants.{Refused}

-- an answer or a refusal, as the definitions have it
abbrev pub noted : {A : Type 0} → (A → Answer) → state.Outcome A → Answer
noted f (state.Given a) = f a
noted f (state.Refused e) = Refused e
