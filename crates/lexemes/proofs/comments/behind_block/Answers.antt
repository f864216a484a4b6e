use Rattle.std.proofs.Common.{Ok}
use Rattle.lexemes.proofs.Blocks.{block_close, block_star, block_char}
use Rattle.lexemes.proofs.comments.behind_block.Goals as goal

pub loop-tail-preserved-in_default : goal.loop-tail-preserved-in_default
loop-tail-preserved-in_default c =
    λ r g. c.loop-tail.invariant r (block_char c.loop-tail.rest.now c.in_default.field-0.rest.now c.in_default.ensures c.in_ok-rest.rest.now c.in_ok-rest.ensures r g)

pub returns-in-Ok-behind_byte : goal.returns-in-Ok-behind_byte
returns-in-Ok-behind_byte c =
    c.loop-tail.invariant (Ok c.in-Ok-behind_byte.end) (block_close c.loop-tail.rest.now c.in-Ok.tail.now c.in-Ok.ensures c.in-Ok-behind_byte.end.now c.in-Ok-behind_byte.ensures)

pub loop-tail-preserved : goal.loop-tail-preserved
loop-tail-preserved c =
    λ r g. c.loop-tail.invariant r (block_star c.loop-tail.rest.now c.in-Ok.tail.now c.in-Ok.ensures c.in-Err.field-0.rest.now c.in-Err.ensures r g)
