use Rattle.model.proofs.Vectors.{replayed}
use Rattle.model.proofs.replayed_cases.Goals as goal

pub returns : goal.returns
returns c = replayed
