use Rattle.std.proofs.Common.{sym, ap, ◌∙◌}
use Rattle.model.specs.Asks.{kind, sort_of}
use Rattle.model.specs.State.{Given}
use Rattle.tree.specs.Sorts.{handle_for}
use Rattle.tree.specs.Steps.{spot}
use Rattle.tree.specs.Classes.{kind_for}
use Rattle.document.specs.Documents.{state_of}
use Rattle.document.proofs.Asked.{here, refused_exit}
use Rattle.document.proofs.document.Document.kind.Goals as goal

pub returns-in_err-node : goal.returns-in_err-node
returns-in_err-node c =
    refused_exit (state_of c.args.self.now) (handle_for c.args.handle) (λ s. Given (kind (sort_of s))) kind_for c.from_residual.result _ c.from_residual.ensures.1 c.in_err-node.ensures

pub returns : goal.returns
returns c =
    let m = c.kind.ensures in
    ap Given (c.node_kind.ensures m.0 ∙ ap kind m.1)
    ∙ sym (here (state_of c.args.self.now) (handle_for c.args.handle) (λ s. Given (kind (sort_of s))) (spot c.in_ok-node.node) c.in_ok-node.ensures)
