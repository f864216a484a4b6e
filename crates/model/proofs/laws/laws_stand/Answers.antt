use Rattle.model.proofs.laws.laws_stand.Goals as goal
use Rattle.model.proofs.Stand.{stand}

pub returns : goal.returns
returns c = stand
