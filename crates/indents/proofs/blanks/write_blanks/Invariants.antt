use Rattle.std.proofs.Common.{◌≡◌, ◌≤◌, length}
use Rattle.tree.specs.Steps.{spot}
use Rattle.tree.specs.Walks.{before_left}
use Rattle.printing.specs.Buffers.{over}
use Rattle.indents.specs.Blanks.{blanks}
use Rattle.indents.proofs.blanks.write_blanks.Given as goal

abbrev pub invariant-loop-sibling : goal.invariant-loop-sibling
invariant-loop-sibling l =
    (l.end ≡ length (blanks (before_left l.sibling-iterator)))
    × (over l.out 0 (blanks (before_left l.sibling-iterator)) ≡ over l.initial.out 0 (blanks (spot l.fn.node).here.before))
    × (l.end ≤ length l.initial.out)
