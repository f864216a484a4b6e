use Rattle.std.proofs.Common.{◌+◌, ◌++◌, length, sym, ap, ◌∙◌, arith}
use Rattle.forest.specs.Forest.{size}
use Rattle.model.specs.Nodes.{print}
use Rattle.tree.specs.Steps.{spot}
use Rattle.tree.specs.Walks.{nodes_left}
use Rattle.tree.proofs.Listed.{none_on}
use Rattle.printing.specs.Buffers.{over}
use Rattle.printing.proofs.Written.{over_none, turn_own, turn_again}
use Rattle.printing.proofs.Printed.{turn_box, turn_leaf, long_own, long_box, long_leaf, fewer, below_is}
use Rattle.printing.proofs.writes.+write_from.Goals as goal

pub write_from-end-requires : goal.write_from-end-requires
write_from-end-requires t c =
    let a = c.loop-node.node-iterator in
    let b = c.next.new.self in
    let d = below_is c.children.result c.in-Some.node c.children.ensures.spots in
    let m = long_box a b c.in-Some.node c.in-Some.ensures.steps (sym c.is_box.ensures ∙ c.if-is_box.true) in (
      omega (arith, c.loop-node.invariant.2, fewer a b c.in-Some.node c.in-Some.ensures.steps, ap (λ y. size y) d),
      omega (arith, m, ap length c.spelling.ensures, ap (λ y. length (print y)) d, c.put-end.ensures.end, c.loop-node.invariant.0, c.requires, c.loop-node.auto.out, c.put-end.auto.out),
    )

pub loop-node-preserved-then-is_box : goal.loop-node-preserved-then-is_box
loop-node-preserved-then-is_box t c =
    let a = c.loop-node.node-iterator in
    let b = c.next.new.self in
    let e = sym c.is_box.ensures ∙ c.if-is_box.true in
    let m = long_box a b c.in-Some.node c.in-Some.ensures.steps e in
    let own = c.spelling.result.now in
    let D = print (spot c.in-Some.node).kids in
    let d = below_is c.children.result c.in-Some.node c.children.ensures.spots in
    let p = turn_box a b c.in-Some.node c.in-Some.ensures.steps e ∙ ap (λ y. y ++ (D ++ print (nodes_left b))) (sym c.spelling.ensures) in (
      omega (arith, m, ap length c.spelling.ensures, c.put-end.ensures.end, c.write_from-end.ensures.end, ap (λ y. length (print y)) d, c.loop-node.invariant.0),
      turn_again c.loop-node.out c.put-end.new.out c.write_from-end.new.out own D (print (nodes_left b)) (print (nodes_left a)) c.loop-node.end c.put-end.result c.write_from-end.result
          p c.put-end.ensures.out c.put-end.ensures.end (c.write_from-end.ensures.out ∙ ap (λ y. over c.put-end.new.out c.put-end.result (print y)) d) (c.write_from-end.ensures.end ∙ ap (λ y. c.put-end.result + length (print y)) d) (omega (arith, c.loop-node.invariant.0, c.requires, c.loop-node.auto.out))
          ∙ c.loop-node.invariant.1,
      omega (arith, fewer a b c.in-Some.node c.in-Some.ensures.steps, c.loop-node.invariant.2),
    )

pub loop-node-preserved : goal.loop-node-preserved
loop-node-preserved t c =
    let a = c.loop-node.node-iterator in
    let b = c.next.new.self in
    let e = sym c.is_box.ensures ∙ c.if-is_box.false in
    let m = long_leaf a b c.in-Some.node c.in-Some.ensures.steps e in
    let own = c.spelling.result.now in
    let p = turn_leaf a b c.in-Some.node c.in-Some.ensures.steps e ∙ ap (λ y. y ++ print (nodes_left b)) (sym c.spelling.ensures) in (
      omega (arith, m, ap length c.spelling.ensures, c.put-end.ensures.end, c.loop-node.invariant.0),
      turn_own c.loop-node.out c.put-end.new.out own (print (nodes_left b)) (print (nodes_left a)) c.loop-node.end c.put-end.result
          p c.put-end.ensures.out c.put-end.ensures.end (omega (arith, c.loop-node.invariant.0, c.requires, c.loop-node.auto.out))
          ∙ c.loop-node.invariant.1,
      omega (arith, fewer a b c.in-Some.node c.in-Some.ensures.steps, c.loop-node.invariant.2),
    )

pub put-end-requires : goal.put-end-requires
put-end-requires t c =
    let a = c.loop-node.node-iterator in
    let b = c.next.new.self in
    omega (arith, c.loop-node.invariant.0, long_own a b c.in-Some.node c.in-Some.ensures.steps, ap length c.spelling.ensures, c.requires, c.loop-node.auto.out)

pub returns-clause-out : goal.returns-clause-out
returns-clause-out t c =
    let e = none_on c.loop-node.node-iterator c.in-None.ensures.steps.0 in
    sym (over_none c.loop-node.out c.loop-node.end) ∙ (ap (λ y. over c.loop-node.out c.loop-node.end (print y)) (sym e) ∙ c.loop-node.invariant.1)

pub returns-clause-end : goal.returns-clause-end
returns-clause-end t c = omega (arith, c.loop-node.invariant.0, ap (λ y. length (print y)) (none_on c.loop-node.node-iterator c.in-None.ensures.steps.0))
