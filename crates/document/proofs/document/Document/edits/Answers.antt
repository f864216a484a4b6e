use Rattle.std.proofs.Common.{sym, ap, ◌∙◌}
use Rattle.model.specs.State.{Given}
use Rattle.document.proofs.Asked.{plainly}
use Rattle.document.proofs.document.Document.edits.Goals as goal

pub returns : goal.returns
returns c =
    ap Given c.edits.ensures ∙ sym (plainly c.args.self.now c.in_ok-loaded.field-0.now c.in_ok-loaded.ensures (λ s. Given s.edits))
