use Rattle.std.proofs.Common.{sym, ap, ◌∙◌}
use Rattle.std.specs.Option.{option_map}
use Rattle.refusal.specs.declared.Refusal.TheVariants.{NotHere}
use Rattle.model.specs.Nodes.{parts}
use Rattle.model.specs.Asks.{at_path, spot_handle}
use Rattle.model.specs.State.{Given, present}
use Rattle.tree.specs.Sorts.{handle_for}
use Rattle.tree.specs.Steps.{spot}
use Rattle.document.proofs.Asked.{absent_exit, plainly}
use Rattle.paths.proofs.calls.at.Goals as goal

pub returns-in_err-node : goal.returns-in_err-node
returns-in_err-node c =
    let p = c.args.path.now in
    let a = absent_exit handle_for c.from_residual-in_err-node.result c.node_at.result c.in_err-node.field-0.0 NotHere c.from_residual-in_err-node.ensures.1 c.in_err-node.ensures.value in
    a.1
    ∙ (ap (present NotHere) (sym (ap (option_map (λ n. spot_handle (spot n))) a.0) ∙ (c.node_at.ensures ∙ ap (λ s. at_path (parts s.kids) p) c.root-root.ensures.spot))
    ∙ sym (plainly c.args.document.now c.in_ok-loaded.field-0.now c.in_ok-loaded.ensures (λ s. present NotHere (at_path (parts s.kids) p))))

pub returns : goal.returns
returns c =
    let p = c.args.path.now in
    ap Given c.handle.ensures
    ∙ (ap (present NotHere) (sym (ap (option_map (λ n. spot_handle (spot n))) c.in_ok-node.ensures.ok_part) ∙ (c.node_at.ensures ∙ ap (λ s. at_path (parts s.kids) p) c.root-root.ensures.spot))
    ∙ sym (plainly c.args.document.now c.in_ok-loaded.field-0.now c.in_ok-loaded.ensures (λ s. present NotHere (at_path (parts s.kids) p))))
