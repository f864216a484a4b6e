-- A new list is empty.
use Rattle.std.proofs.Common.{refl}
use Rattle.worklist.specs.Listed.{lent, listed, taken}
use Rattle.worklist.proofs.list.WorkList.new.Goals as goal

pub returns : goal.returns
unfolding lent listed taken
returns g c = record { list = refl; start = refl; place = refl }
