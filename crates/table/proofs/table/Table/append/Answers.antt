use Rattle.std.proofs.Common.{sym, ◌∙◌}
use Rattle.forest.proofs.Tails.{tail_first, tail_after}
use Rattle.table.specs.Tables.{tree}
use Rattle.table.proofs.Seen.{tree_distinct, there_once, last_there, last_inner}
use Rattle.table.proofs.table.Table.append.Goals as goal

pub insert_after-requires-clause-there : goal.insert_after-requires-clause-there
insert_after-requires-clause-there c = last_there c.args.self.now c.args.parent c.requires.there c.in-Some.sibling (sym c.in-Some.ensures)

pub insert_after-requires-clause-inner : goal.insert_after-requires-clause-inner
insert_after-requires-clause-inner c = last_inner c.args.self.now c.args.parent c.requires.there c.in-Some.sibling (sym c.in-Some.ensures)

pub returns-in-None-clause-forest : goal.returns-in-None-clause-forest
returns-in-None-clause-forest c =
    let t = c.args.self.now in
    c.insert_first.ensures.forest
    ∙ sym (tail_first c.args.parent c.insert_first.result c.args.own (tree t) (there_once t c.args.parent c.requires.there) (sym c.in-None.ensures))

pub returns-in-Some-clause-forest : goal.returns-in-Some-clause-forest
returns-in-Some-clause-forest c =
    let t = c.args.self.now in
    c.insert_after.ensures.forest
    ∙ sym (tail_after c.args.parent c.insert_after.result c.args.own c.in-Some.sibling (tree t) (tree_distinct t)
    (there_once t c.args.parent c.requires.there) (sym c.in-Some.ensures))
