use Rattle.std.proofs.Common.{sym, arith}
use Rattle.table.proofs.Seen.{index_before, index_start, index_few}
use Rattle.table.proofs.table.Table.child_index.Goals as goal

pub overflow_add-index : goal.overflow_add-index
overflow_add-index c = omega (arith, c.loop-before.invariant.1, index_few c.args.self.now c.args.place c.requires)

pub loop-before-smaller : goal.loop-before-smaller
loop-before-smaller c = omega (arith, (index_before c.args.self.now c.loop-before.at c.loop-before.invariant.0 c.in-Some.before (sym c.in-Some.ensures)).1)

pub loop-before-preserved : goal.loop-before-preserved
loop-before-preserved c =
    let s = index_before c.args.self.now c.loop-before.at c.loop-before.invariant.0 c.in-Some.before (sym c.in-Some.ensures) in
    (s.0, omega (arith, s.1, c.loop-before.invariant.1))

pub returns : goal.returns
returns c =
    omega (arith, c.loop-before.invariant.1, index_start c.args.self.now c.loop-before.at c.loop-before.invariant.0 (sym c.in_default.ensures))
