use Rattle.std.proofs.Common.{◌++◌, Ok, Err, sym}
use Rattle.std.proofs.lemmas.Result.{err_from_is_err_and}
use Rattle.grammar.specs.Classes.{MultiFirst}
use Rattle.grammar.specs.Reader.{char_p}
use Rattle.lexemes.specs.ByteClasses.{bytes_of}
use Rattle.lexemes.proofs.Lexed.{char_turns}
use Rattle.lexemes.proofs.Ties.{many_more, many_moves, many_fails, many_stop}
use Rattle.lexemes.proofs.utf8.behind_chars.Goals as goal

pub returns-in_err-rest : goal.returns-in_err-rest
returns-in_err-rest c =
    let p = err_from_is_err_and c.from_residual.result c.from_residual.ensures.1 in
    rw (p.1, p.2) (c.loop-single.invariant (Err c.in_err-rest.field-0.0) (many_fails (bytes_of c.args.single ++ MultiFirst) (char_p (bytes_of c.args.single)) (char_turns (bytes_of c.args.single)) c.loop-single.rest.now (sym c.loop-single-test.ensures) c.in_err-rest.field-0.0.rest.now c.in_err-rest.ensures))

pub loop-single-smaller : goal.loop-single-smaller
loop-single-smaller c =
    many_moves (bytes_of c.args.single ++ MultiFirst) (char_p (bytes_of c.args.single)) (char_turns (bytes_of c.args.single)) c.loop-single.rest.now (sym c.loop-single-test.ensures) c.in_ok-rest.rest.now c.in_ok-rest.ensures

pub loop-single-preserved : goal.loop-single-preserved
loop-single-preserved c =
    λ r g. c.loop-single.invariant r (many_more (bytes_of c.args.single ++ MultiFirst) (char_p (bytes_of c.args.single)) (char_turns (bytes_of c.args.single)) c.loop-single.rest.now (sym c.loop-single-test.ensures) c.in_ok-rest.rest.now c.in_ok-rest.ensures r g)

pub returns : goal.returns
returns c =
    c.loop-single.invariant (Ok c.loop-single.rest) (many_stop (bytes_of c.args.single ++ MultiFirst) (char_p (bytes_of c.args.single)) (char_turns (bytes_of c.args.single)) c.loop-single.rest.now (sym c.loop-single-test.ensures))
