use Rattle.std.proofs.Common.{Ok, sym}
use Rattle.grammar.specs.Reader.{StringFirst, string_char_p}
use Rattle.lexemes.proofs.Lexed.{string_turns}
use Rattle.lexemes.proofs.Ties.{many_more, many_moves, many_stop}
use Rattle.lexemes.proofs.strings.behind_string_chars.Goals as goal

pub loop-rest-smaller : goal.loop-rest-smaller
loop-rest-smaller c = many_moves StringFirst string_char_p string_turns c.loop-rest.rest.now (sym c.loop-rest-test.ensures) c.in_ok-rest.rest.now c.in_ok-rest.ensures

pub loop-rest-preserved : goal.loop-rest-preserved
loop-rest-preserved c =
    λ r g. c.loop-rest.invariant r (many_more StringFirst string_char_p string_turns c.loop-rest.rest.now (sym c.loop-rest-test.ensures) c.in_ok-rest.rest.now c.in_ok-rest.ensures r g)

pub returns : goal.returns
returns c = c.loop-rest.invariant (Ok c.loop-rest.rest) (many_stop StringFirst string_char_p string_turns c.loop-rest.rest.now (sym c.loop-rest-test.ensures))
