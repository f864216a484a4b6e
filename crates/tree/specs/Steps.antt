-- Steps from node to node: what stands where a step leads. A node is seen as its spot, which has the whole document round it. Assumes nothing.
use Rattle.std.specs.Prelude.{◌≡◌, Bool, true, false, List, [], ◌∷◌, Some, None, Ok, Err, Option, Result}
use Rattle.forest.specs.Forest.{end, node}
use Rattle.model.specs.Nodes.{Handle, Nodes, Sort, root, within, single}
use Rattle.model.specs.Asks.{Frame, Spot, named}
use Rattle.model.specs.State.{parent_spot}
use Rattle.refusal.specs.declared.Refusal.{Refusal}
use Rattle.refusal.specs.declared.Refusal.TheVariants.{Gone}
use Rattle.tree.specs.declared.node.Node.{Node}
use Rattle.tree.specs.declared.tree.Tree.{Tree}
use Rattle.tree.specs.Places.{spot_of, Stands}
use Rattle.tree.specs.Trees.{kids}

-- where a node stands in its tree's document
abbrev pub spot : Node → Spot
spot n = spot_of n.place (kids n.tree.now)

-- where the root stands, above its children
abbrev pub root_spot : Nodes → Spot
root_spot ks = record { here = record { before = end; place = 0; own = record { number = 1; sort = root }; after = end }; kids = ks; ups = [] }

-- from there on: the node and the siblings after it
abbrev pub rest : Option Node → Nodes
rest None = end
rest (Some n) = node (spot n).here.place (spot n).here.own (spot n).kids (spot n).here.after

-- from there back: the node and the siblings before it, nearest first
abbrev pub back : Option Node → Nodes
back None = end
back (Some n) = node (spot n).here.place (spot n).here.own (spot n).kids (spot n).here.before

-- the parent's spot: absent for the root, and else where the first of the ancestors stands
abbrev pub spot_above : Spot → List Frame → Option Spot
spot_above s [] = None
spot_above s (f ∷ us) = Some (parent_spot s f us)

-- the spots of siblings, in order, where these ancestors stand above them and these siblings, nearest first, before them
abbrev pub spots_on : List Frame → Nodes → Nodes → List Spot
spots_on us bs end = []
spots_on us bs (node p i ks ts) =
    record { here = record { before = bs; place = p; own = i; after = ts }; kids = ks; ups = us } ∷ spots_on us (node p i ks bs) ts

-- the spots of siblings, nearest first, where these ancestors stand above them and these siblings after them
abbrev pub spots_back : List Frame → Nodes → Nodes → List Spot
spots_back us ts end = []
spots_back us ts (node p i ks bs) =
    record { here = record { before = bs; place = p; own = i; after = ts }; kids = ks; ups = us } ∷ spots_back us (node p i ks ts) bs

-- the spots of ancestors, the parent's first
abbrev pub spots_up : Spot → List Frame → List Spot
spots_up s [] = []
spots_up s (f ∷ us) = parent_spot s f us ∷ spots_up (parent_spot s f us) us

-- the spots of a node's children, in order
abbrev pub child_spots : Spot → List Spot
child_spots s = spots_on (s.here ∷ s.ups) end s.kids

-- the spots of the siblings after a node, in order
abbrev pub later_spots : Spot → List Spot
later_spots s = spots_on s.ups (node s.here.place s.here.own s.kids s.here.before) s.here.after

-- the spots of the siblings before a node, nearest first
abbrev pub earlier_spots : Spot → List Spot
earlier_spots s = spots_back s.ups (node s.here.place s.here.own s.kids s.here.after) s.here.before

-- the spots of a node's ancestors, its parent's first
abbrev pub ancestor_spots : Spot → List Spot
ancestor_spots s = spots_up s s.ups

-- from there on, as spots
abbrev pub ahead : Option Node → List Spot
ahead None = []
ahead (Some n) = spot n ∷ later_spots (spot n)

-- from there back, as spots
abbrev pub behind : Option Node → List Spot
behind None = []
behind (Some n) = spot n ∷ earlier_spots (spot n)

-- from there up to the root, as spots
abbrev pub upward : Option Node → List Spot
upward None = []
upward (Some n) = spot n ∷ ancestor_spots (spot n)

-- whether a handle names the node at its place
abbrev pub Names : Bool → Handle → Nodes → Type 0
Names true h ks = Stands h.place ks × (named h ks ≡ Some (spot_of h.place ks))
Names false h ks = named h ks ≡ None

-- the node of the tree that a handle names, or that it is Gone
abbrev pub Found : Result Node Refusal → Handle → Tree → Type 0
Found (Ok n) h t = (n.tree.now ≡ t) × (named h (kids t) ≡ Some (spot n)) × (n.place ≡ h.place)
Found (Err e) h t = (e ≡ Gone) × (named h (kids t) ≡ None)

-- the node is an array, an object or a property
abbrev pub is_box : Sort → Bool
is_box root = false
is_box (within b) = true
is_box (single x) = false
