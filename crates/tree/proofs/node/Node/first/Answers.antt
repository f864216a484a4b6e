use Rattle.std.proofs.Common.{◌∷◌, Some, None, ap, ◌∙◌}
use Rattle.tree.specs.Steps.{rest, ahead, later_spots}
use Rattle.tree.proofs.Spots.{from}
use Rattle.tree.proofs.Seen.{in_table, first_is}
use Rattle.tree.proofs.node.Node.first.Goals as goal

pub first-requires : goal.first-requires
first-requires c = in_table c.args.self.tree.now c.args.self.place c.args.self.stands

pub returns-in_err-place-clause-children : goal.returns-in_err-place-clause-children
returns-in_err-place-clause-children c =
    let n = c.args.self in
    let m = first_is n.tree.now n.place n.stands None c.in_err-place.ensures in
    ap rest c.from_residual.ensures ∙ m.1

pub returns-in_err-place-clause-spots : goal.returns-in_err-place-clause-spots
returns-in_err-place-clause-spots c =
    let n = c.args.self in
    let m = first_is n.tree.now n.place n.stands None c.in_err-place.ensures in
    ap ahead c.from_residual.ensures ∙ m.2

pub node-requires : goal.node-requires
node-requires c = (let n = c.args.self in (first_is n.tree.now n.place n.stands (Some c.in_ok-place.place) c.in_ok-place.ensures).0)

pub returns-clause-children : goal.returns-clause-children
returns-clause-children c =
    let n = c.args.self in
    let m = first_is n.tree.now n.place n.stands (Some c.in_ok-place.place) c.in_ok-place.ensures in
    ap from c.node.ensures.spot ∙ m.1

pub returns-clause-spots : goal.returns-clause-spots
returns-clause-spots c =
    let n = c.args.self in
    let m = first_is n.tree.now n.place n.stands (Some c.in_ok-place.place) c.in_ok-place.ensures in
    ap (λ u. u ∷ later_spots u) c.node.ensures.spot ∙ m.2
