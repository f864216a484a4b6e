-- The reader on a few texts: by computation. Assumes nothing.
use Rattle.std.proofs.Common.{refl}
use Rattle.grammar.specs.Examples.{Examples}

pub examples : Examples
examples = record {
  refuses = (refl, (refl, (refl, (refl, (refl, (refl, (refl, (refl, (refl, (refl, (refl, (refl, (refl, (refl, (refl, (refl, (refl, (refl, (refl, (refl, (refl, (refl, (refl, (refl, (refl, (refl, (refl, (refl, (refl, (refl, (refl, (refl, (refl, (refl, tt))))))))))))))))))))))))))))))))));
  takes = (refl, (refl, (refl, (refl, (refl, (refl, (refl, (refl, (refl, (refl, (refl, (refl, tt))))))))))));
  too_deep = refl;
  pieces = refl;
}
