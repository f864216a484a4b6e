use Rattle.std.proofs.Common.{sym, ap, ◌∙◌}
use Rattle.tree.specs.Steps.{spot}
use Rattle.tree.proofs.Consumers.{counted_up}
use Rattle.paths.specs.Ways.{measured}
use Rattle.paths.proofs.Grounds.{no_path, no_root_path}
use Rattle.paths.proofs.Climbs.{top, measured_is}
use Rattle.paths.proofs.upward.path_length.Goals as goal

pub returns-then-not-is_value-clause-steps : goal.returns-then-not-is_value-clause-steps
returns-then-not-is_value-clause-steps c = sym (ap measured (no_path c.args.node (sym c.is_value.ensures ∙ c.if-not-is_value.true)))

pub returns-in_err-parent-clause-steps : goal.returns-in_err-parent-clause-steps
returns-in_err-parent-clause-steps c =
    let n = c.args.node in
    c.from_residual.ensures ∙ sym (ap measured (no_root_path n (top (spot n) (spot n).ups (sym c.in_err-parent.ensures.spots))))

pub returns : goal.returns
returns c =
    let p = c.in_ok-parent.parent in
    let m = measured_is c.args.node p c.count.result (sym c.is_value.ensures ∙ c.if-not-is_value.false) c.in_ok-parent.ensures.spots
    (counted_up (spot p) c.count.result c.count.ensures.ran c.ancestors.ensures.spots) in
    record { steps = m.0; few = m.1 }
