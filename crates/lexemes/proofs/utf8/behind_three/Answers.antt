use Rattle.std.proofs.Common.{Err}
use Rattle.std.proofs.lemmas.Result.{err_from_is_err_and}
use Rattle.grammar.specs.Reader.{byte_p, cat_p, tail_p}
use Rattle.lexemes.specs.ByteClasses.{bytes_of}
use Rattle.lexemes.proofs.Ties.{cat_goes, cat_fails}
use Rattle.lexemes.proofs.utf8.behind_three.Goals as goal

pub returns-in_err-tail : goal.returns-in_err-tail
returns-in_err-tail c =
    let x = err_from_is_err_and c.from_residual-in_err-tail.result c.from_residual-in_err-tail.ensures.1 in
    let e = c.in_err-tail in
    let p = byte_p (bytes_of c.args.first) in
    let q = byte_p (bytes_of c.args.second) in
    rw (x.1, x.2) (cat_goes p (cat_p q tail_p) c.args.text.now c.in_ok-rest.rest.now c.in_ok-rest.ensures (Err e.field-0.0) (cat_fails q tail_p c.in_ok-rest.rest.now e.field-0.0.rest.now e.ensures))

pub returns : goal.returns
returns c =
    let p = byte_p (bytes_of c.args.first) in
    let q = byte_p (bytes_of c.args.second) in
    let r = c.behind_tail.result in
    cat_goes p (cat_p q tail_p) c.args.text.now c.in_ok-rest.rest.now c.in_ok-rest.ensures r
    (cat_goes q tail_p c.in_ok-rest.rest.now c.in_ok-tail.tail.now c.in_ok-tail.ensures r c.behind_tail.ensures)
