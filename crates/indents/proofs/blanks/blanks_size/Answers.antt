use Rattle.std.proofs.Common.{◌∙◌, arith, rules}
use borrow.Author.Tests.{tests}
use Rattle.std.specs.List.{take_while}
use Rattle.std.proofs.lemmas.Iterator.{YieldsList-from_map}
use Rattle.std.proofs.lemmas.Iterator.Consumers.{YieldsList-at, sum_by_from_yields_List, fits_by_from_yields_list}
use Rattle.tree.specs.Steps.{spot, earlier_spots}
use Rattle.tree.proofs.Consumers.{taken_back}
use Rattle.indents.proofs.Summed.{blank_spot, spot_long, sum_before}
use Rattle.indents.proofs.Weights.{blanks_few}
use Rattle.indents.proofs.blanks.blanks_size.Goals as goal

pub sum-requires-clause-fits : goal.sum-requires-clause-fits
sum-requires-clause-fits c =
    let s = spot c.args.node in
    let t = c.take_while.ensures in
    fits_by_from_yields_list spot_long (take_while blank_spot (earlier_spots s)) c.map.result _
    (YieldsList-from_map _ spot_long (YieldsList-at c.map.ensures.source (taken_back s blank_spot t.source t.closure t.done c.preceding.ensures.spots (λ x b q k. search (rules, tests))))
    c.map.ensures.closure (λ x r q k. search (rules, tests)))
    (omega (arith, sum_before s, blanks_few c.args.node))

pub returns : goal.returns
returns c =
    let s = spot c.args.node in
    let t = c.take_while.ensures in
    sum_by_from_yields_List spot_long (take_while blank_spot (earlier_spots s)) c.map.result c.sum.result c.sum.ensures.ran
    (YieldsList-from_map _ spot_long (YieldsList-at c.map.ensures.source (taken_back s blank_spot t.source t.closure t.done c.preceding.ensures.spots (λ x b q k. search (rules, tests))))
    c.map.ensures.closure (λ x r q k. search (rules, tests)))
    ∙ sum_before s
