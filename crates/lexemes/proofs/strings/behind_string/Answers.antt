use Rattle.std.proofs.Common.{Err}
use Rattle.std.proofs.lemmas.Result.{err_from_is_err_and}
use Rattle.grammar.specs.Classes.{only}
use Rattle.grammar.specs.Reader.{byte_p, cat_p, many_p, StringFirst, string_char_p}
use Rattle.lexemes.proofs.Ties.{cat_goes, cat_fails}
use Rattle.lexemes.proofs.strings.behind_string.Goals as goal

pub returns-in_err-quote : goal.returns-in_err-quote
returns-in_err-quote c =
    let x = err_from_is_err_and c.from_residual-in_err-quote.result c.from_residual-in_err-quote.ensures.1 in
    let e = c.in_err-quote in
    rw (x.1, x.2) (cat_goes (byte_p (only 34)) (cat_p (many_p StringFirst string_char_p) (byte_p (only 34))) c.args.text.now c.in_ok-chars.chars.now c.in_ok-chars.ensures (Err e.field-0.0)
    (cat_fails (many_p StringFirst string_char_p) (byte_p (only 34)) c.in_ok-chars.chars.now e.field-0.0.rest.now e.ensures))

pub returns : goal.returns
returns c =
    let r = c.behind_byte-2.result in
    cat_goes (byte_p (only 34)) (cat_p (many_p StringFirst string_char_p) (byte_p (only 34))) c.args.text.now c.in_ok-chars.chars.now c.in_ok-chars.ensures r
    (cat_goes (many_p StringFirst string_char_p) (byte_p (only 34)) c.in_ok-chars.chars.now c.in_ok-quote.quote.now c.in_ok-quote.ensures r c.behind_byte-2.ensures)
