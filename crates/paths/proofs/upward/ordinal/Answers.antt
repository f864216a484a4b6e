use Rattle.std.proofs.Common.{rules}
use borrow.Author.Tests.{tests}
use Rattle.tree.specs.Steps.{spot}
use Rattle.tree.proofs.Consumers.{counted_values}
use Rattle.paths.proofs.upward.ordinal.Goals as goal

pub returns : goal.returns
returns c = counted_values (spot c.args.node) c.count.result c.count.ensures.ran c.filter.ensures.source c.filter.ensures.closure c.preceding.ensures.spots (λ x b q k. search (rules, tests))
