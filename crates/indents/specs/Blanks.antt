-- The Whitespace that stands before a node. Assumes nothing.
use Rattle.std.specs.Prelude.{ℕ, cond, List, [], ◌++◌}
use Rattle.forest.specs.Forest.{end, node}
use Rattle.model.specs.Nodes.{Nodes, class}
use Rattle.model.specs.Asks.{is_blank, spelt}

-- of siblings, nearest first: the bytes of the Whitespace up to the first sibling that is none
abbrev pub blanks : Nodes → List ℕ
blanks end = []
blanks (node p i ks bs) = cond (is_blank (class i.sort)) (blanks bs ++ spelt i.sort) []
