-- What is loaded has no more records than the queue has places.
use Rattle.std.proofs.Common.{◌||◌, length, ltb, sym, ap, ◌∙◌, arith, le-ltb}
use Rattle.refusal.specs.declared.Refusal.TheVariants.{BadMemory}
use Rattle.model.specs.State.{Given, unless, unloaded}
use Rattle.tree.specs.Trees.{state}
use Rattle.document.proofs.Asked.{state_is, is_loaded}
use Rattle.style.proofs.calls.tree_with_room.Goals as goal

pub returns : goal.returns
returns c =
    let t = c.in_ok-tree.tree.now in
    let n = length c.args.queue.now in
    sym (ap (λ s. unless (unloaded s || ltb n s.records) BadMemory (Given s)) (state_is c.args.document.now t c.in_ok-tree.ensures)
    ∙ (ap (λ b. unless (b || ltb n (state t).records) BadMemory (Given (state t))) (is_loaded t)
    ∙ ap (λ b. unless b BadMemory (Given (state t))) (le-ltb n (state t).records (omega (arith, c.if-records-queue.false)))))
