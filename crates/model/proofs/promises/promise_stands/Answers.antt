use Rattle.model.proofs.promises.promise_stands.Goals as goal
use Rattle.model.proofs.Promised.{the_promise}

pub returns : goal.returns
returns c = the_promise
