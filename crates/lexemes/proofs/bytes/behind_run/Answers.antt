use Rattle.lexemes.specs.ByteClasses.{bytes_of}
use Rattle.lexemes.proofs.Ties.{byte_moves, run_step, run_stop}
use Rattle.lexemes.proofs.bytes.behind_run.Goals as goal

pub loop-tail-smaller : goal.loop-tail-smaller
loop-tail-smaller c = byte_moves (bytes_of c.args.class) c.loop-tail.rest.now c.in-Ok.tail.now c.in-Ok.ensures

pub loop-tail-preserved : goal.loop-tail-preserved
loop-tail-preserved c = λ t r. c.loop-tail.invariant t (run_step (bytes_of c.args.class) c.loop-tail.rest.now c.in-Ok.tail.now t c.in-Ok.ensures r)

pub returns : goal.returns
returns c = c.loop-tail.invariant c.loop-tail.rest.now (run_stop (bytes_of c.args.class) c.loop-tail.rest.now c.in_default.field-0.rest.now c.in_default.ensures)
