-- The first node that is no trivia is a comma.
use Rattle.std.proofs.Common.{rules, ap, ◌∙◌}
use borrow.Author.Tests.{tests}
use Rattle.model.specs.Asks.{is_some}
use Rattle.tree.specs.Steps.{spot}
use Rattle.tree.proofs.Consumers.{found_solid}
use Rattle.style.proofs.Members.{first_comma}
use Rattle.style.proofs.commas.has_comma.Goals as goal

pub returns : goal.returns
returns c =
    first_comma _ c.find-behind.result c.is_some_and.result c.is_some_and.ensures (λ n p. search (rules, tests))
    ∙ ap is_some (found_solid _ _ (spot c.args.member) c.find-behind.result c.find-behind.ensures.ran c.following.ensures.spots (λ x b q k. search (rules, tests)))
