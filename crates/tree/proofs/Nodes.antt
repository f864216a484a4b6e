-- What a node's type says of it: its place, its document, and where its children stand.
use Rattle.std.proofs.Common.{◌≡◌, ◌∷◌, sym, ◌∙◌}
use Rattle.forest.specs.Forest.{end}
use Rattle.model.specs.Asks.{tree}
use Rattle.tree.specs.declared.node.Node.{Node}
use Rattle.tree.specs.Trees.{kids}
use Rattle.tree.specs.Steps.{spot, child_spots}
use Rattle.tree.proofs.Spots.{plug, There, spots_there}
use Rattle.tree.proofs.Seen.{distinct, place_is, plug_is}

-- its spot has its place
pub spot_place : (n : Node) → (spot n).here.place ≡ n.place
spot_place n = place_is n.tree.now n.place n.stands

-- two nodes whose spots fill up the same tree are of the same document
pub same_document : (n m : Node) → plug (spot m) ≡ plug (spot n) → kids m.tree.now ≡ kids n.tree.now
same_document n m e =
    let z : tree (kids m.tree.now) ≡ tree (kids n.tree.now) = sym (plug_is m.tree.now m.place m.stands) ∙ (e ∙ plug_is n.tree.now n.place n.stands) in
    cc

-- its children stand at their places
pub children_there : (n : Node) → There (kids n.tree.now) (child_spots (spot n))
children_there n = spots_there (kids n.tree.now) (distinct n.tree.now) ((spot n).here ∷ (spot n).ups) end (spot n).kids (plug_is n.tree.now n.place n.stands)
