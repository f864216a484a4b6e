use Rattle.model.proofs.handles.handles_stand.Goals as goal
use Rattle.model.proofs.Given.{given_laws}

pub returns : goal.returns
returns c = given_laws
