use Rattle.std.proofs.Common.{arith}
use Rattle.table.proofs.Seen.{tree_size}
use Rattle.table.proofs.table.Table.living.Goals as goal

pub overflow_sub-result : goal.overflow_sub-result
overflow_sub-result c = omega (arith, tree_size c.args.self.now)

pub returns : goal.returns
returns c = omega (arith, tree_size c.args.self.now)
