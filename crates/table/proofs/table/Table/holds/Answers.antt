use Rattle.std.proofs.Common.{eqb, not, get_or, sym, ap, ◌∙◌, arith}
use Rattle.table.specs.Tables.{tree, holds_in}
use Rattle.table.proofs.Seen.{holds_zero, holds_past, holds_is}
use Rattle.table.proofs.table.Table.holds.Goals as goal

pub returns-in-None : goal.returns-in-None
returns-in-None c = sym (holds_past c.args.self.now c.args.handle.place c.args.handle.number (omega (arith, c.in-None.ensures.lookup, c.deref.ensures.len)))

pub returns-then-handle-ne0 : goal.returns-then-handle-ne0
returns-then-handle-ne0 c =
    holds_is c.args.self.now c.args.handle.place c.args.handle.number c.in-Some.node.now (omega (arith, c.in-Some.ensures.lookup, c.deref.ensures.len))
    c.if-handle-ne0.true (c.in-Some.ensures.lookup.1 ∙ ap (λ xs. get_or xs c.args.handle.place c.in-Some.node.now) c.deref.ensures.value)

pub returns-else-handle-ne0 : goal.returns-else-handle-ne0
returns-else-handle-ne0 c =
    ap (λ n. not (eqb n 0)) c.if-handle-ne0.false
    ∙ sym (ap (λ n. holds_in c.args.handle.place n (tree c.args.self.now)) c.if-handle-ne0.false ∙ holds_zero c.args.self.now c.args.handle.place)
