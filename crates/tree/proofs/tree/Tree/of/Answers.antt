-- A new tree is as its parts are. Assumes nothing.
use Rattle.tree.proofs.tree.Tree.of.Goals as goal

pub invariant_of-result : goal.invariant_of-result
invariant_of-result c = record { ok = ∣ c.requires ∣₁ }
