-- One step down to a value or member, and what stands at the rest of the path below it. Assumes nothing.
use Rattle.std.proofs.Common.{◌≡◌, ℕ, zero, suc, cond, List, [], ◌∷◌, Some, None, Option, refl}
use Rattle.std.specs.List.{slice_get, filter}
use Rattle.std.specs.Option.{option_map}
use Rattle.forest.specs.Forest.{end, node}
use Rattle.model.specs.Nodes.{Handle, Nodes, Class, gap, mark, value, class, handle, pieces, parts, parts_at, label_of}
use Rattle.model.specs.Asks.{Frame, Spot, sort_of, spot_handle, is_value, at}
use Rattle.tree.specs.declared.node.Node.{Node}
use Rattle.tree.specs.Steps.{spot, spots_on}
use Rattle.paths.specs.Ways.{landed}

-- what stands at the path below the spot that was found, the spot itself at none
abbrev pub landed_at : Option Spot → List ℕ → Option Handle
landed_at None q = None
landed_at (Some s) [] = Some (spot_handle s)
landed_at (Some s) (j ∷ q) = at (parts s.kids) j q

pub landed_spot : (o : Option Node) (q : List ℕ) → landed_at (option_map spot o) q ≡ landed o q
landed_spot None q = refl
landed_spot (Some n) [] = refl
landed_spot (Some n) (j ∷ q) = refl

-- the value or member of an ordinal among siblings
pub part_on : (n : ℕ) (q : List ℕ) (us : List Frame) (bs ts : Nodes) → at (parts ts) n q ≡ landed_at (slice_get (filter (λ s. is_value (class (sort_of s))) (spots_on us bs ts)) n) q
part_on n q us bs end = refl
part_on n q us bs (node p i ks ts) = go n q (class i.sort) (λ m. part_on m q us (node p i ks bs) ts)
  where
    x : Spot
    x = record { here = record { before = bs; place = p; own = i; after = ts }; kids = ks; ups = us }

    xs : List Spot
    xs = filter (λ s. is_value (class (sort_of s))) (spots_on us (node p i ks bs) ts)

    go : (n : ℕ) (q : List ℕ) (c : Class) → ((m : ℕ) → at (parts ts) m q ≡ landed_at (slice_get xs m) q)
        → at (parts_at c (handle p i) (label_of i.sort (pieces ks)) (parts ks) (parts ts)) n q ≡ landed_at (slice_get (cond (is_value c) (x ∷ xs) xs) n) q
    go n q (gap g) h = h n
    go n q (mark m) h = h n
    go zero [] value h = refl
    go zero (j ∷ q) value h = refl
    go (suc n) q value h = h n
