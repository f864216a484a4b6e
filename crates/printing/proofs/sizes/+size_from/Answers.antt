use Rattle.std.proofs.Common.{length, sym, ap, ◌∙◌, arith}
use Rattle.forest.specs.Forest.{size}
use Rattle.model.specs.Nodes.{print}
use Rattle.tree.proofs.Listed.{none_on}
use Rattle.printing.proofs.Printed.{long_own, long_box, long_leaf, fewer, below_is, siblings_few}
use Rattle.printing.proofs.sizes.+size_from.Goals as goal

pub overflow_add-size : goal.overflow_add-size
overflow_add-size t c =
    let a = c.loop-node.node-iterator in
    let b = c.next.new.self in
    omega (arith, c.loop-node.invariant.0, siblings_few c.args.siblings, long_own a b c.in-Some.node c.in-Some.ensures.steps, ap length c.spelling.ensures)

pub size_from-size-requires : goal.size_from-size-requires
size_from-size-requires t c =
    let a = c.loop-node.node-iterator in
    let b = c.next.new.self in
    (omega (arith, c.loop-node.invariant.1, fewer a b c.in-Some.node c.in-Some.ensures.steps, ap (λ y. size y) (below_is c.children.result c.in-Some.node c.children.ensures.spots)), tt)

pub overflow_add-size-then-is_box : goal.overflow_add-size-then-is_box
overflow_add-size-then-is_box t c =
    let a = c.loop-node.node-iterator in
    let b = c.next.new.self in
    let d = ap (λ y. length (print y)) (below_is c.children.result c.in-Some.node c.children.ensures.spots) in
    omega (arith, c.loop-node.invariant.0, siblings_few c.args.siblings, long_box a b c.in-Some.node c.in-Some.ensures.steps (sym c.is_box.ensures ∙ c.if-is_box.true), ap length c.spelling.ensures, c.size_from-size.ensures, d)

pub loop-node-preserved-then-is_box : goal.loop-node-preserved-then-is_box
loop-node-preserved-then-is_box t c =
    let a = c.loop-node.node-iterator in
    let b = c.next.new.self in
    let d = ap (λ y. length (print y)) (below_is c.children.result c.in-Some.node c.children.ensures.spots) in (
      omega (arith, c.loop-node.invariant.0, long_box a b c.in-Some.node c.in-Some.ensures.steps (sym c.is_box.ensures ∙ c.if-is_box.true), ap length c.spelling.ensures, c.size_from-size.ensures, d),
      omega (arith, fewer a b c.in-Some.node c.in-Some.ensures.steps, c.loop-node.invariant.1),
    )

pub loop-node-preserved : goal.loop-node-preserved
loop-node-preserved t c =
    let a = c.loop-node.node-iterator in
    let b = c.next.new.self in (
      omega (arith, c.loop-node.invariant.0, long_leaf a b c.in-Some.node c.in-Some.ensures.steps (sym c.is_box.ensures ∙ c.if-is_box.false), ap length c.spelling.ensures),
      omega (arith, fewer a b c.in-Some.node c.in-Some.ensures.steps, c.loop-node.invariant.1),
    )

pub returns : goal.returns
returns t c = omega (arith, c.loop-node.invariant.0, ap (λ y. length (print y)) (none_on c.loop-node.node-iterator c.in-None.ensures.steps.0))
