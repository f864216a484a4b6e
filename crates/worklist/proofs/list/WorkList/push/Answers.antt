-- An item more at the back, or no room.
use Rattle.std.proofs.Common.{◌-◌, refl, arith, length-set}
use borrow.Author.Tests.{lt-true, le-false}
use Rattle.worklist.specs.Listed.{listed, taken, room}
use Rattle.worklist.proofs.Parts.{pushed_upto, part_length}
use Rattle.worklist.proofs.list.WorkList.push.Goals as goal

pub returns-then-end-self : goal.returns-then-end-self
unfolding listed taken room
returns-then-end-self g c =
    let w = c.args.self.now in
    let o = w.ordered in
    let e = part_length w.items.now w.live.start (w.live.end - w.live.start) (omega (arith, w.within)) in
    record { test = le-false _ _ (omega arith); list = refl {a = w} }

pub returns : goal.returns
unfolding listed taken room
returns g c =
    let w = c.args.self.now in
    let o = w.ordered in
    let e = part_length w.items.now w.live.start (w.live.end - w.live.start) (omega (arith, w.within)) in
    record {
      test = lt-true _ _ (omega arith);
      list = (pushed_upto w.items.now w.live.start w.live.end c.args.x o (omega arith), refl {a = w.live.start}, simp length-set);
    }
