use Rattle.std.proofs.Common.{Ok, arith}
use Rattle.lexemes.proofs.Ties.{word_more, word_done}
use Rattle.lexemes.proofs.bytes.behind_word.Goals as goal

pub loop-letter-preserved : goal.loop-letter-preserved
loop-letter-preserved c =
    λ r g. c.loop-letter.invariant r (word_more c.args.word.now c.loop-letter.letter-index c.loop-letter.rest.now c.in_ok-rest.rest.now (omega arith) c.in_ok-rest.ensures r g)

pub returns : goal.returns
returns c = c.loop-letter.invariant (Ok c.loop-letter.rest) (word_done c.args.word.now c.loop-letter.letter-index c.loop-letter.rest.now (omega arith))
