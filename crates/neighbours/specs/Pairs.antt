-- A handle and an index together. Assumes nothing.
use Rattle.std.specs.Prelude.{ℕ}
use Rattle.table.specs.declared.node.Handle as declared
use Rattle.model.specs.Nodes.{Handle}
use Rattle.tree.specs.Sorts.{handle_for}

-- the parent's handle and the child's index, as the definitions have them
abbrev pub pair_for : declared.Handle × ℕ → Handle × ℕ
pair_for x = (handle_for x.0, x.1)
