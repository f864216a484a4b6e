use Rattle.std.proofs.Common.{◌∷◌, Some, None, ap, ◌∙◌}
use Rattle.tree.specs.Steps.{back, behind, earlier_spots}
use Rattle.tree.proofs.Spots.{back_from}
use Rattle.tree.proofs.Seen.{in_table, previous_is}
use Rattle.tree.proofs.node.Node.previous.Goals as goal

pub previous-requires : goal.previous-requires
previous-requires c = in_table c.args.self.tree.now c.args.self.place c.args.self.stands

pub returns-in_err-place-clause-siblings : goal.returns-in_err-place-clause-siblings
returns-in_err-place-clause-siblings c =
    let n = c.args.self in
    let m = previous_is n.tree.now n.place n.stands None c.in_err-place.ensures in
    ap back c.from_residual.ensures ∙ m.1

pub returns-in_err-place-clause-spots : goal.returns-in_err-place-clause-spots
returns-in_err-place-clause-spots c =
    let n = c.args.self in
    let m = previous_is n.tree.now n.place n.stands None c.in_err-place.ensures in
    ap behind c.from_residual.ensures ∙ m.2

pub node-requires : goal.node-requires
node-requires c = (let n = c.args.self in (previous_is n.tree.now n.place n.stands (Some c.in_ok-place.place) c.in_ok-place.ensures).0)

pub returns-clause-siblings : goal.returns-clause-siblings
returns-clause-siblings c =
    let n = c.args.self in
    let m = previous_is n.tree.now n.place n.stands (Some c.in_ok-place.place) c.in_ok-place.ensures in
    ap back_from c.node.ensures.spot ∙ m.1

pub returns-clause-spots : goal.returns-clause-spots
returns-clause-spots c =
    let n = c.args.self in
    let m = previous_is n.tree.now n.place n.stands (Some c.in_ok-place.place) c.in_ok-place.ensures in
    ap (λ u. u ∷ earlier_spots u) c.node.ensures.spot ∙ m.2
