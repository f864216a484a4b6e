use Rattle.tree.specs.Sorts.{handle_for}
use Rattle.document.proofs.Asked.{found_told}
use Rattle.document.proofs.document.Document.find.Goals as goal

pub returns : goal.returns
returns c = found_told c.args.self.now c.in_ok-loaded.field-0.now c.in_ok-loaded.ensures (handle_for c.args.handle) c.find.result c.find.ensures
