-- An item less at the front, or none there.
use Rattle.worklist.proofs.Taken.{none_front, some_front}
use Rattle.worklist.proofs.list.WorkList.pop_front.Goals as goal

pub returns-in_err-at : goal.returns-in_err-at
returns-in_err-at g c = let e = c.in_err-at.ensures.steps in none_front c.args.self.now _ _ _ e.1.1 e.0 e.1.0 _ c.from_residual.ensures

pub returns : goal.returns
returns g c = let e = c.in_ok-at.ensures.steps in some_front c.args.self.now _ _ _ c.in_ok-at.at _ e.0 e.1.0 e.1.1 e.1.2
