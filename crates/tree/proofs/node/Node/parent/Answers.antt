use Rattle.std.proofs.Common.{◌∷◌, Some, None, ap, ◌∙◌}
use Rattle.std.specs.Option.{option_map}
use Rattle.tree.specs.Steps.{spot, upward, ancestor_spots}
use Rattle.tree.proofs.Seen.{in_table, parent_is}
use Rattle.tree.proofs.node.Node.parent.Goals as goal

pub parent-requires : goal.parent-requires
parent-requires c = in_table c.args.self.tree.now c.args.self.place c.args.self.stands

pub returns-in_err-place-clause-above : goal.returns-in_err-place-clause-above
returns-in_err-place-clause-above c =
    let n = c.args.self in
    let m = parent_is n.tree.now n.place n.stands None c.in_err-place.ensures in
    ap (option_map spot) c.from_residual.ensures ∙ m.1

pub returns-in_err-place-clause-spots : goal.returns-in_err-place-clause-spots
returns-in_err-place-clause-spots c =
    let n = c.args.self in
    let m = parent_is n.tree.now n.place n.stands None c.in_err-place.ensures in
    ap upward c.from_residual.ensures ∙ m.2

pub node-requires : goal.node-requires
node-requires c = (let n = c.args.self in (parent_is n.tree.now n.place n.stands (Some c.in_ok-place.place) c.in_ok-place.ensures).0)

pub returns-clause-above : goal.returns-clause-above
returns-clause-above c =
    let n = c.args.self in
    let m = parent_is n.tree.now n.place n.stands (Some c.in_ok-place.place) c.in_ok-place.ensures in
    ap Some c.node.ensures.spot ∙ m.1

pub returns-clause-spots : goal.returns-clause-spots
returns-clause-spots c =
    let n = c.args.self in
    let m = parent_is n.tree.now n.place n.stands (Some c.in_ok-place.place) c.in_ok-place.ensures in
    ap (λ u. u ∷ ancestor_spots u) c.node.ensures.spot ∙ m.2
