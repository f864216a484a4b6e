use Rattle.std.proofs.Common.{sym, ap, ◌∙◌, rules}
use borrow.Author.Tests.{tests}
use Rattle.model.specs.Asks.{spot_handle, trailing_comma}
use Rattle.model.specs.State.{Given}
use Rattle.tree.specs.Sorts.{handle_for}
use Rattle.tree.specs.Steps.{spot}
use Rattle.tree.proofs.Consumers.{found_solid}
use Rattle.tree.proofs.Listed.{mapped}
use Rattle.document.specs.Documents.{state_of}
use Rattle.document.proofs.Asked.{here}
use Rattle.neighbours.proofs.Commas.{comma_kept}
use Rattle.neighbours.proofs.asks.trailing_comma.Goals as goal

pub returns : goal.returns
returns c =
    let s = spot c.in_ok-node.node in
    ap Given (mapped _ handle_for spot_handle c.filter-comma.result c.map.result c.map.ensures.cases (λ n y p. search rules)
    ∙ (comma_kept _ c.find-behind.result c.filter-comma.result c.filter-comma.ensures (λ n b p. search (rules, tests))
    ∙ found_solid _ _ s c.find-behind.result c.find-behind.ensures.ran c.following.ensures.spots (λ x b q k. search (rules, tests))))
    ∙ sym (here (state_of c.args.document.now) (handle_for c.args.handle) (λ s. Given (trailing_comma s)) s c.in_ok-node.ensures)
