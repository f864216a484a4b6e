use Rattle.std.proofs.Common.{Err}
use Rattle.std.proofs.lemmas.Result.{err_from_is_err_and}
use Rattle.grammar.specs.Classes.{only}
use Rattle.grammar.specs.Reader.{byte_p, cat_p, hex_p}
use Rattle.lexemes.proofs.Ties.{cat_goes, cat_fails}
use Rattle.lexemes.proofs.strings.behind_unicode.Goals as goal

pub returns-in_err-third : goal.returns-in_err-third
returns-in_err-third c =
    let x = err_from_is_err_and c.from_residual-in_err-third.result c.from_residual-in_err-third.ensures.1 in
    let e = c.in_err-third in
    let r = Err e.field-0.0 in
    rw (x.1, x.2) (cat_goes (byte_p (only 117)) (cat_p hex_p (cat_p hex_p (cat_p hex_p hex_p))) c.args.text.now c.in_ok-first.first.now c.in_ok-first.ensures r
    (cat_goes hex_p (cat_p hex_p (cat_p hex_p hex_p)) c.in_ok-first.first.now c.in_ok-second.second.now c.in_ok-second.ensures r
    (cat_fails hex_p (cat_p hex_p hex_p) c.in_ok-second.second.now e.field-0.0.rest.now e.ensures)))

pub returns-in_err-fourth : goal.returns-in_err-fourth
returns-in_err-fourth c =
    let x = err_from_is_err_and c.from_residual-in_err-fourth.result c.from_residual-in_err-fourth.ensures.1 in
    let e = c.in_err-fourth in
    let r = Err e.field-0.0 in
    rw (x.1, x.2) (cat_goes (byte_p (only 117)) (cat_p hex_p (cat_p hex_p (cat_p hex_p hex_p))) c.args.text.now c.in_ok-first.first.now c.in_ok-first.ensures r
    (cat_goes hex_p (cat_p hex_p (cat_p hex_p hex_p)) c.in_ok-first.first.now c.in_ok-second.second.now c.in_ok-second.ensures r
    (cat_goes hex_p (cat_p hex_p hex_p) c.in_ok-second.second.now c.in_ok-third.third.now c.in_ok-third.ensures r
    (cat_fails hex_p hex_p c.in_ok-third.third.now e.field-0.0.rest.now e.ensures))))

pub returns : goal.returns
returns c =
    let r = c.behind_byte-5.result in
    cat_goes (byte_p (only 117)) (cat_p hex_p (cat_p hex_p (cat_p hex_p hex_p))) c.args.text.now c.in_ok-first.first.now c.in_ok-first.ensures r
    (cat_goes hex_p (cat_p hex_p (cat_p hex_p hex_p)) c.in_ok-first.first.now c.in_ok-second.second.now c.in_ok-second.ensures r
    (cat_goes hex_p (cat_p hex_p hex_p) c.in_ok-second.second.now c.in_ok-third.third.now c.in_ok-third.ensures r
    (cat_goes hex_p hex_p c.in_ok-third.third.now c.in_ok-fourth.fourth.now c.in_ok-fourth.ensures r c.behind_byte-5.ensures)))
