use Rattle.std.proofs.Common.{◌+◌, length, sym, ap, ◌∙◌, arith}
use Rattle.refusal.specs.declared.Refusal.TheVariants.{Short}
use Rattle.model.specs.Nodes.{print}
use Rattle.model.specs.State.{print_answer, filled}
use Rattle.tree.specs.Steps.{spot}
use Rattle.document.specs.Documents.{state_of}
use Rattle.document.proofs.Asked.{plainly}
use Rattle.printing.specs.Buffers.{over}
use Rattle.printing.proofs.Answered.{refused, short, fits, given}
use Rattle.printing.proofs.Printed.{below_is}
use Rattle.printing.proofs.asks.print.Goals as goal

pub returns-then-out-size : goal.returns-then-out-size
returns-then-out-size c =
    let n = length c.args.out.now in
    let size = c.size_from-size.ensures ∙ ap (λ y. length (print y)) (below_is c.children.result c.root-root.result c.children.ensures.spots) in
    refused (print_answer (state_of c.args.document.now) n) c.args.out.now (Short c.size_from-size.result)
    (plainly c.args.document.now c.in_ok-loaded.field-0.now c.in_ok-loaded.ensures (λ s. filled n (print s.kids))
    ∙ (sym (ap (λ s. filled n (print s.kids)) c.root-root.ensures.spot) ∙ short n c.size_from-size.result (print (spot c.root-root.result).kids) c.if-out-size.true size))

pub returns : goal.returns
returns c =
    let n = length c.args.out.now in
    let size = c.size_from-size.ensures ∙ ap (λ y. length (print y)) (below_is c.children.result c.root-root.result c.children.ensures.spots) in
    let same = below_is c.children-2.result c.root-root.result c.children-2.ensures.spots in
    given (print_answer (state_of c.args.document.now) n) c.args.out.now (print (spot c.root-root.result).kids) c.write_from.new.out c.write_from.result
    (plainly c.args.document.now c.in_ok-loaded.field-0.now c.in_ok-loaded.ensures (λ s. filled n (print s.kids))
    ∙ (sym (ap (λ s. filled n (print s.kids)) c.root-root.ensures.spot) ∙ fits n (print (spot c.root-root.result).kids) (omega (arith, size, c.if-out-size.false))))
    (c.write_from.ensures.end ∙ ap (λ y. 0 + length (print y)) same)
    (c.write_from.ensures.out ∙ ap (λ y. over c.args.out.now 0 (print y)) same)

pub write_from-requires : goal.write_from-requires
write_from-requires c =
    omega (
      arith,
      c.if-out-size.false,
      c.size_from-size.ensures,
      ap (λ y. length (print y)) (below_is c.children.result c.root-root.result c.children.ensures.spots),
      ap (λ y. length (print y)) (below_is c.children-2.result c.root-root.result c.children-2.ensures.spots),
    )
