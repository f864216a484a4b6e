use Rattle.std.proofs.Common.{arith}
use Rattle.spot.proofs.Counts.{counted_more, step_line, step_column}
use Rattle.spot.proofs.locate.Goals as goal

pub loop-b-preserved : goal.loop-b-preserved
loop-b-preserved c =
    (grind (arith, counted_more), grind (arith, step_line), grind (arith, step_column))
