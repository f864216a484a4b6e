use Rattle.grammar.specs.Reader.{name_p, string_p}
use Rattle.lexemes.proofs.Lexed.{bytes_string}
use Rattle.text.specs.declared.sink.LeafKind.TheVariants.{Name}
use Rattle.text.proofs.Telling.{found, leaf_found}
use Rattle.text.proofs.scalars.read_name.Goals as goal

pub returns : goal.returns
returns g c =
    found g.S.Sink.after g.S.Sink.idle g.S.Sink.joined name_p c.args.text.now Name c.in_ok-rest.rest (leaf_found 1 Name string_p bytes_string c.args.text.now c.in_ok-rest.rest.now c.in_ok-rest.ensures)
    c.args.sink.now c.put_part.new.sink c.put_part.ensures
