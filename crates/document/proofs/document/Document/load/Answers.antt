use Rattle.document.proofs.Kept.{promised}
use Rattle.document.proofs.document.Document.load.Goals as goal

pub returns-clause-promise : goal.returns-clause-promise
returns-clause-promise c = promised c.args.records c.args.store c.args.text.now _ c.in_ok-load_tree.ensures
