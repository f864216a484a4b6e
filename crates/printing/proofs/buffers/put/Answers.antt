use Rattle.std.proofs.Common.{refl}
use Rattle.printing.proofs.Written.{written}
use Rattle.printing.proofs.buffers.put.Goals as goal

pub returns : goal.returns
returns c = record { out = written c.args.out.now c.copy_from_slice.new.self c.args.bytes.now c.args.at c.copy_from_slice.ensures.after; end = refl }
