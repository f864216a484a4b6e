use Rattle.std.proofs.Common.{◌≡◌}
use Rattle.tree.specs.Steps.{spot}
use Rattle.tree.specs.Walks.{before_left}
use Rattle.indents.proofs.Gathered.{Going}
use Rattle.indents.proofs.blanks.indent_end.Given as goal

abbrev pub invariant-loop-sibling : goal.invariant-loop-sibling
invariant-loop-sibling l =
    ((spot l.behind).here.before ≡ before_left l.sibling-iterator) × Going l.end (before_left l.sibling-iterator) (spot l.fn.node).here.before
