use Rattle.std.proofs.Common.{ap, ◌∙◌, sym, rules}
use borrow.Author.Tests.{tests}
use Rattle.tree.specs.Steps.{spot}
use Rattle.tree.proofs.Consumers.{nth_value}
use Rattle.paths.proofs.Landings.{landed_at, landed_spot, part_on}
use Rattle.paths.proofs.downward.part.Goals as goal

pub returns : goal.returns
returns c q =
    let s = spot c.args.node in
    let found = nth_value _ s c.nth.result c.args.ordinal c.nth.ensures.ran c.filter.ensures.source c.filter.ensures.closure c.children.ensures.spots (λ x b q k. search (rules, tests)) in
    part_on c.args.ordinal q _ _ s.kids ∙ (ap (λ o. landed_at o q) (sym found) ∙ landed_spot c.nth.result q)
