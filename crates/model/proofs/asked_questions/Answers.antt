use Rattle.model.proofs.Questioned.{asked}
use Rattle.model.proofs.asked_questions.Goals as goal

pub returns : goal.returns
returns c = asked
