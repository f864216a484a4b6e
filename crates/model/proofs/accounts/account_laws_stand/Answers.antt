use Rattle.model.proofs.accounts.account_laws_stand.Goals as goal
use Rattle.model.proofs.Settled.{account_laws}

pub returns : goal.returns
returns c = account_laws
