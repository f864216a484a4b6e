use Rattle.grammar.specs.Reader.{string_p, number_p}
use Rattle.lexemes.proofs.Lexed.{bytes_string, bytes_number}
use Rattle.text.specs.declared.sink.LeafKind.TheVariants.{String, Number}
use Rattle.text.proofs.Telling.{leaf_found}
use Rattle.text.proofs.Leaves.{scalar_string, scalar_number}
use Rattle.text.proofs.scalars.scalar.Goals as goal

pub returns-then-next_is : goal.returns-then-next_is
returns-then-next_is c =
    let t = c.in_ok-behind_string.field-0.now in
    scalar_string c.args.text.now String t c.if-next_is.ensures (leaf_found 1 String string_p bytes_string c.args.text.now t c.in_ok-behind_string.ensures)

pub returns : goal.returns
returns c =
    let t = c.in_ok-behind_number.field-0.now in
    scalar_number c.args.text.now Number t c.if-next_is.ensures c.if-next_is-2.ensures c.if-next_is-3.ensures c.if-next_is-4.ensures
    (leaf_found 1 Number number_p bytes_number c.args.text.now t c.in_ok-behind_number.ensures)
