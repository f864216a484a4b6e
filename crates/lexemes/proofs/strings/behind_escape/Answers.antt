use Rattle.std.proofs.Common.{sym}
use Rattle.grammar.specs.Classes.{only, Escaped}
use Rattle.grammar.specs.Reader.{byte_p, or_p, unicode_p}
use Rattle.lexemes.proofs.Ties.{cat_goes, or_goes_left, or_goes_right}
use Rattle.lexemes.proofs.strings.behind_escape.Goals as goal

pub returns-then-next_is : goal.returns-then-next_is
returns-then-next_is c =
    let r = c.behind_unicode.result in
    cat_goes (byte_p (only 92)) (or_p (only 117) unicode_p (byte_p Escaped)) c.args.text.now c.in_ok-escaped.escaped.now c.in_ok-escaped.ensures r
    (or_goes_left (only 117) unicode_p (byte_p Escaped) c.in_ok-escaped.escaped.now (sym c.if-next_is.ensures) r c.behind_unicode.ensures)

pub returns-else-next_is : goal.returns-else-next_is
returns-else-next_is c =
    let r = c.behind_byte-else-next_is.result in
    cat_goes (byte_p (only 92)) (or_p (only 117) unicode_p (byte_p Escaped)) c.args.text.now c.in_ok-escaped.escaped.now c.in_ok-escaped.ensures r
    (or_goes_right (only 117) unicode_p (byte_p Escaped) c.in_ok-escaped.escaped.now (sym c.if-next_is.ensures) r c.behind_byte-else-next_is.ensures)
