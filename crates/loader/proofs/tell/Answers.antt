-- The second reading tells what the first has judged. Assumes nothing.
use Rattle.loader.specs.Sites.{Built}
use Rattle.loader.proofs.Judged.{all_told}
use Rattle.loader.proofs.tell.Goals as goal

pub returns : goal.returns
returns c = λ a e. all_told Built c.args.text.now a e c.args.builder.now c.read_text.new.sink c.read_text.result c.read_text.ensures
