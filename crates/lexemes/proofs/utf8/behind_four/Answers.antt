use Rattle.std.proofs.Common.{Err}
use Rattle.std.proofs.lemmas.Result.{err_from_is_err_and}
use Rattle.grammar.specs.Reader.{byte_p, cat_p, tail_p}
use Rattle.lexemes.specs.ByteClasses.{bytes_of}
use Rattle.lexemes.proofs.Ties.{cat_goes, cat_fails}
use Rattle.lexemes.proofs.utf8.behind_four.Goals as goal

pub returns-in_err-tails : goal.returns-in_err-tails
returns-in_err-tails c =
    let x = err_from_is_err_and c.from_residual-in_err-tails.result c.from_residual-in_err-tails.ensures.1 in
    let e = c.in_err-tails in
    let p = byte_p (bytes_of c.args.first) in
    let q = byte_p (bytes_of c.args.second) in
    rw (x.1, x.2) (cat_goes p (cat_p q (cat_p tail_p tail_p)) c.args.text.now c.in_ok-rest.rest.now c.in_ok-rest.ensures (Err e.field-0.0)
    (cat_fails q (cat_p tail_p tail_p) c.in_ok-rest.rest.now e.field-0.0.rest.now e.ensures))

pub returns-in_err-tail : goal.returns-in_err-tail
returns-in_err-tail c =
    let x = err_from_is_err_and c.from_residual-in_err-tail.result c.from_residual-in_err-tail.ensures.1 in
    let e = c.in_err-tail in
    let p = byte_p (bytes_of c.args.first) in
    let q = byte_p (bytes_of c.args.second) in
    let r = Err e.field-0.0 in
    rw (x.1, x.2) (cat_goes p (cat_p q (cat_p tail_p tail_p)) c.args.text.now c.in_ok-rest.rest.now c.in_ok-rest.ensures r
    (cat_goes q (cat_p tail_p tail_p) c.in_ok-rest.rest.now c.in_ok-tails.tails.now c.in_ok-tails.ensures r
    (cat_fails tail_p tail_p c.in_ok-tails.tails.now e.field-0.0.rest.now e.ensures)))

pub returns : goal.returns
returns c =
    let p = byte_p (bytes_of c.args.first) in
    let q = byte_p (bytes_of c.args.second) in
    let r = c.behind_tail-2.result in
    cat_goes p (cat_p q (cat_p tail_p tail_p)) c.args.text.now c.in_ok-rest.rest.now c.in_ok-rest.ensures r
    (cat_goes q (cat_p tail_p tail_p) c.in_ok-rest.rest.now c.in_ok-tails.tails.now c.in_ok-tails.ensures r
    (cat_goes tail_p tail_p c.in_ok-tails.tails.now c.in_ok-tail.tail.now c.in_ok-tail.ensures r c.behind_tail-2.ensures))
