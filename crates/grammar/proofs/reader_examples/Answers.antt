use Rattle.grammar.proofs.Examples.{examples}
use Rattle.grammar.proofs.reader_examples.Goals as goal

pub returns : goal.returns
returns c = examples
