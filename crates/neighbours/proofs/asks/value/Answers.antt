use Rattle.std.proofs.Common.{◌||◌, sym, ap, ◌∙◌, rules}
use borrow.Author.Tests.{tests}
use Rattle.refusal.specs.declared.Refusal.TheVariants.{NotHere}
use Rattle.model.specs.Asks.{sort_of, spot_handle, is_root, is_property, value_in}
use Rattle.model.specs.State.{Given}
use Rattle.tree.specs.Sorts.{handle_for}
use Rattle.tree.specs.Steps.{spot}
use Rattle.tree.proofs.Consumers.{found_value}
use Rattle.tree.proofs.Listed.{mapped}
use Rattle.document.specs.Documents.{state_of}
use Rattle.document.proofs.Asked.{here_where}
use Rattle.neighbours.proofs.asks.value.Goals as goal

pub returns : goal.returns
returns c =
    let s = spot c.in_ok-node.node in
    ap Given (mapped _ handle_for spot_handle c.find-value.result c.map.result c.map.ensures.cases (λ n y p. search rules)
    ∙ found_value _ _ s c.find-value.result c.find-value.ensures.ran c.children.ensures.spots (λ x b q k. search (rules, tests)))
    ∙ sym (here_where (state_of c.args.document.now) (handle_for c.args.handle) (λ s. Given (value_in s.kids)) (λ s. is_root (sort_of s) || is_property (sort_of s)) NotHere s c.in_ok-node.ensures
    (sym c.has_one_value.ensures ∙ c.if-not-has_one_value.false))
