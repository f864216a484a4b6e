-- One child more.
use Rattle.std.proofs.Common.{sym, ◌∙◌}
use Rattle.tree.specs.Steps.{spot}
use Rattle.tree.specs.Walks.{nodes_left}
use Rattle.tree.proofs.Listed.{begin_on, turn_on, none_on}
use Rattle.tree.proofs.Nodes.{spot_place}
use Rattle.style.proofs.Filling.{filling_start, filling_turn, filling_end}
use Rattle.style.proofs.children.push_children.Goals as goal

pub loop-child-init : goal.loop-child-init
loop-child-init c =
    filling_start (spot c.args.node).kids c.args.queue.now (nodes_left c.into_iter-child-iterator.result)
    (begin_on _ _ (spot c.args.node) c.into_iter-child-iterator.ensures.into_iter_gives c.children-child-items.ensures.spots) c.requires

pub loop-child-preserved : goal.loop-child-preserved
loop-child-preserved c =
    let n = c.in-Some.child in
    filling_turn (spot c.args.node).kids c.args.queue.now (nodes_left c.loop-child.child-iterator) (nodes_left c.next.new.self) (spot n).here.place c.place.result (spot n).here.own (spot n).kids
    c.loop-child.queue c.push.new.self c.push.result (turn_on c.loop-child.child-iterator c.next.new.self n c.in-Some.ensures.steps) (spot_place n ∙ sym c.place.ensures) c.loop-child.invariant
    c.push.ensures.test c.push.ensures.list

pub returns : goal.returns
returns c = filling_end c.args.node c.args.queue.now (nodes_left c.loop-child.child-iterator) c.loop-child.queue (none_on c.loop-child.child-iterator c.in-None.ensures.steps.0) c.loop-child.invariant
