-- The nodes at places, as siblings, and a queue that took in siblings. Assumes nothing.
use Rattle.std.specs.Prelude.{◌≡◌, ℕ, List, [], ◌∷◌, ◌++◌}
use Rattle.forest.specs.Forest.{end, node}
use Rattle.model.specs.Nodes.{Nodes}
use Rattle.tree.specs.Places.{Stands, spot_of}
use Rattle.worklist.specs.declared.list.WorkList.{WorkList}
use Rattle.worklist.specs.Listed.{listed, taken, room}

-- the nodes at these places with all below them, in this order, of a document's root's children ks
abbrev pub standing : Nodes → List ℕ → Nodes
standing ks [] = end
standing ks (p ∷ ps) = node p (spot_of p ks).here.own (spot_of p ks).kids (standing ks ps)

-- a node stands at each of the places
abbrev pub Each : Nodes → List ℕ → Type 0
Each ks [] = Unit {0}
Each ks (p ∷ ps) = Stands p ks × Each ks ps

-- the places of siblings
abbrev pub heads : Nodes → List ℕ
heads end = []
heads (node p i ks ts) = p ∷ heads ts

-- the queue v with the places of the siblings ts put behind is w; and those places are where they stand
pub record Filled (ks ts : Nodes) (v w : WorkList ℕ) : Type 0 where
  pub listed_is : listed w ≡ listed v ++ heads ts
  pub taken_is : taken w ≡ taken v
  pub room_is : room w ≡ room v
  pub each : Each ks (heads ts)
  pub stand : standing ks (heads ts) ≡ ts
