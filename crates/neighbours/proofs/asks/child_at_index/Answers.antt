use Rattle.std.proofs.Common.{sym, ap, ◌∙◌, rules}
use Rattle.refusal.specs.declared.Refusal.TheVariants.{NotHere}
use Rattle.model.specs.Asks.{sort_of, spot_handle, holds, child_at}
use Rattle.model.specs.State.{Given}
use Rattle.tree.specs.Sorts.{handle_for}
use Rattle.tree.specs.Steps.{spot}
use Rattle.tree.proofs.Consumers.{nth_child}
use Rattle.tree.proofs.Listed.{mapped}
use Rattle.document.specs.Documents.{state_of}
use Rattle.document.proofs.Asked.{here_where}
use Rattle.neighbours.proofs.asks.child_at_index.Goals as goal

pub returns : goal.returns
returns c =
    let s = spot c.in_ok-node.node in
    ap Given (mapped _ handle_for spot_handle c.nth.result c.map.result c.map.ensures.cases (λ n y p. search rules)
    ∙ nth_child _ s c.nth.result c.args.index c.nth.ensures.ran c.children.ensures.spots)
    ∙ sym (here_where (state_of c.args.document.now) (handle_for c.args.handle) (λ s. Given (child_at c.args.index s.kids)) (λ s. holds (sort_of s)) NotHere s c.in_ok-node.ensures
    (sym c.is_container.ensures ∙ c.if-not-is_container.false))
