-- The walks along the children find what is decided.
use Rattle.std.proofs.Common.{rules, sym, ap, ◌∙◌}
use borrow.Author.Tests.{tests}
use Rattle.std.specs.Option.{option_map}
use Rattle.model.specs.Asks.{decided, is_blank, is_some, trailing}
use Rattle.tree.specs.Steps.{spot}
use Rattle.tree.proofs.Consumers.{any_child, last_value}
use Rattle.tree.proofs.Listed.{mapped}
use Rattle.style.proofs.Members.{decides_so, no_blank, decided_by}
use Rattle.style.proofs.commas.decision_at.Goals as goal

pub returns-then-not-any : goal.returns-then-not-any
returns-then-not-any c =
    let s = spot c.args.node in
    let blank = any_child _ _ s c.any.result is_blank c.any.ensures.ran c.children.ensures.spots (λ x b q k. search (rules, tests)) in
    no_blank s.here.own.sort s.kids (sym blank ∙ c.if-not-any.true)

pub returns : goal.returns
returns c =
    let s = spot c.args.node in
    let blank = any_child _ _ s c.any.result is_blank c.any.ensures.ran c.children.ensures.spots (λ x b q k. search (rules, tests)) in
    let last = last_value s c.last.result c.last.ensures.ran c.filter-members.ensures.source c.filter-members.ensures.closure c.children-2.ensures.spots (λ x b q k. search (rules, tests)) in
    decided_by c.map.result (option_map spot c.last.result) (mapped _ (λ b. b) (λ s. is_some (trailing s.here.after)) c.last.result c.map.result c.map.ensures.cases (λ n y p. p))
    ∙ (ap decided last ∙ sym (decides_so s.here.own.sort s.kids (search (rules, tests)) (sym blank ∙ c.if-not-any.false)))
