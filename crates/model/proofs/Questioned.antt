-- Questions and refusals by example: by computation. Assumes nothing.
use Rattle.std.proofs.Common.{refl}
use Rattle.model.specs.Questions.{Asked}

pub asked : Asked
asked = record {
  not_above = refl;
  no_whitespace = refl;
  inner_decides = refl;
  on_one_line = refl;
  lone_return = refl;
  as_spelled = refl;
  one_level = refl;
  departed = refl;
  value_alone = refl;
}
