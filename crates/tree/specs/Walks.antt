-- What the walks along siblings and up to the root have left. Assumes nothing.
use Rattle.std.specs.Prelude.{List}
use Rattle.model.specs.Nodes.{Nodes}
use Rattle.model.specs.Asks.{Spot}
use Rattle.tree.specs.declared.walks.Onward.{Onward}
use Rattle.tree.specs.declared.walks.Onward.TheVariants.{Into, Past}
use Rattle.tree.specs.declared.walks.Siblings.{Siblings}
use Rattle.tree.specs.declared.walks.Preceding.{Preceding}
use Rattle.tree.specs.declared.walks.Ancestors.{Ancestors}
use Rattle.tree.specs.Steps.{spot, child_spots, later_spots, earlier_spots, ancestor_spots}

-- the spots of the siblings from where a walk goes on, in order
abbrev pub spots_from : Onward → List Spot
spots_from (Into n) = child_spots (spot n)
spots_from (Past n) = later_spots (spot n)

-- the siblings from where a walk goes on, with all below them
abbrev pub nodes_from : Onward → Nodes
nodes_from (Into n) = (spot n).kids
nodes_from (Past n) = (spot n).here.after

-- the spots of the siblings that are left, in order
abbrev pub siblings_left : Siblings → List Spot
siblings_left w = spots_from w.from

-- the siblings that are left, with all below them
abbrev pub nodes_left : Siblings → Nodes
nodes_left w = nodes_from w.from

-- the spots of the siblings that are left, nearest first
abbrev pub preceding_left : Preceding → List Spot
preceding_left w = earlier_spots (spot w.at)

-- the siblings that are left, nearest first, with all below them
abbrev pub before_left : Preceding → Nodes
before_left w = (spot w.at).here.before

-- the spots of the ancestors that are left, the nearest first
abbrev pub ancestors_left : Ancestors → List Spot
ancestors_left w = ancestor_spots (spot w.at)
