use Rattle.std.proofs.Common.{ℕ, sym, ◌∙◌}
use Rattle.refusal.specs.declared.Refusal.TheVariants.{NotHere}
use Rattle.tree.specs.Sorts.{handle_for}
use Rattle.document.proofs.Asked.{absent_exit}
use Rattle.paths.proofs.Told.{path_told, path_untold}
use Rattle.paths.proofs.calls.path.Goals as goal

pub returns-in_err-steps : goal.returns-in_err-steps
returns-in_err-steps c =
    let a = absent_exit (λ (n : ℕ). n) c.from_residual-in_err-steps.result c.path_length.result c.in_err-steps.field-0.0 NotHere c.from_residual-in_err-steps.ensures.1 c.in_err-steps.ensures.value in
    let p = path_untold c.args.document.now.tree (handle_for c.args.handle) _ c.if-list-lt-PATH_PLACES.false c.in_ok-node.node c.in_ok-node.ensures c.args.list.now (sym a.0 ∙ c.path_length.ensures.steps) in
    record { answer = a.1 ∙ p.0; holds = p.1 }

pub returns : goal.returns
returns c =
    let p = path_told c.args.document.now.tree (handle_for c.args.handle) _ c.if-list-lt-PATH_PLACES.false c.in_ok-node.node c.in_ok-node.ensures c.args.list.now c.write_path.new.list c.in_ok-steps.steps
    (sym c.in_ok-steps.ensures.ok_part ∙ c.path_length.ensures.steps) c.write_path.ensures in
    record { answer = p.0; holds = p.1 }
