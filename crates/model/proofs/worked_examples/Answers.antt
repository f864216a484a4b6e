use Rattle.model.proofs.worked_examples.Goals as goal
use Rattle.model.proofs.Examples.{worked}

pub returns : goal.returns
returns c = worked
