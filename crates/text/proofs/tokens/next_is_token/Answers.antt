use Rattle.std.proofs.Common.{eqb, get_or, sym, ap, ◌∙◌}
use Rattle.grammar.specs.Parse.{starts}
use Rattle.grammar.specs.Classes.{only}
use Rattle.grammar.specs.Pieces.{token_byte}
use Rattle.lexemes.proofs.Ties.{first_of}
use Rattle.text.specs.Events.{token_for}
use Rattle.text.proofs.Classed.{token_is, token_none}
use Rattle.text.proofs.tokens.next_is_token.Goals as goal

pub returns-in-Some : goal.returns-in-Some
returns-in-Some c =
    ap (λ z. eqb z c.byte-in-Some.result) c.byte.ensures
    ∙ ap (eqb (token_byte (token_for c.in-Some.found))) c.byte-in-Some.ensures
    ∙ token_is (get_or c.args.text.now 0 0) c.in-Some.found c.args.token (sym c.in-Some.is ∙ c.token_of.ensures)
    ∙ sym (ap (starts (only (token_byte (token_for c.args.token)))) (first_of c.args.text.now c.in-len1-up.len_at_least))

pub returns-in-None : goal.returns-in-None
returns-in-None c =
    token_none (get_or c.args.text.now 0 0) c.args.token (sym c.in-None.is ∙ c.token_of.ensures)
    ∙ sym (ap (starts (only (token_byte (token_for c.args.token)))) (first_of c.args.text.now c.in-len1-up.len_at_least))
