use Rattle.std.proofs.Common.{sym, ap, ◌∙◌}
use Rattle.model.specs.Asks.{root_handle, spot_handle}
use Rattle.model.specs.State.{Given}
use Rattle.document.proofs.Asked.{plainly}
use Rattle.document.proofs.document.Document.root.Goals as goal

pub returns : goal.returns
returns c =
    ap Given (c.handle.ensures ∙ ap spot_handle c.root.ensures.spot)
    ∙ sym (plainly c.args.self.now c.in_ok-loaded.field-0.now c.in_ok-loaded.ensures (λ s. Given root_handle))
