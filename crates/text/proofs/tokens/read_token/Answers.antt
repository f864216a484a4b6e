use Rattle.std.proofs.Common.{subst}
use Rattle.grammar.specs.Classes.{only}
use Rattle.grammar.specs.Reader.{byte_p, token_p}
use Rattle.lexemes.specs.Scan.{Passes}
use Rattle.text.specs.declared.sink.LeafKind.TheVariants.{Token}
use Rattle.text.specs.Events.{token_for}
use Rattle.text.proofs.Telling.{found}
use Rattle.text.proofs.Leaves.{token_found}
use Rattle.text.proofs.tokens.read_token.Goals as goal

pub returns : goal.returns
returns g c =
    let x = subst (λ z. Passes (byte_p (only z)) c.args.text.now c.in_ok-rest.rest.now) c.byte.ensures c.in_ok-rest.ensures in
    found g.S.Sink.after g.S.Sink.idle g.S.Sink.joined (token_p (token_for c.args.token)) c.args.text.now (Token c.args.token) c.in_ok-rest.rest (token_found c.args.token c.args.text.now c.in_ok-rest.rest.now x)
    c.args.sink.now c.put_part.new.sink c.put_part.ensures
