-- The Whitespace before a node, as a list of spots. Assumes nothing.
use Rattle.std.proofs.Common.{◌≡◌, ℕ, Bool, true, false, cond, List, [], ◌∷◌, ◌++◌, length, refl, ap, ◌∙◌, arith, length-append}
use Rattle.std.specs.List.{take_while, sum_by}
use Rattle.std.proofs.lemmas.List.Sums.{sum_by-cons, take_while-cons}
use Rattle.forest.specs.Forest.{end, node}
use Rattle.model.specs.Nodes.{Nodes, class}
use Rattle.model.specs.Asks.{Frame, Spot, sort_of, spelt, is_blank}
use Rattle.tree.specs.Steps.{spots_back, earlier_spots}
use Rattle.indents.specs.Blanks.{blanks}

-- a spot of Whitespace, and how many bytes a spot has
abbrev pub blank_spot : Spot → Bool
blank_spot s = is_blank (class (sort_of s))

abbrev pub spot_long : Spot → ℕ
spot_long s = length (spelt (sort_of s))

-- the bytes of the first spots that are Whitespace are as many as the blanks have
blanks_sum : (us : List Frame) (ts bs : Nodes) → sum_by spot_long (take_while blank_spot (spots_back us ts bs)) ≡ length (blanks bs)
blanks_sum us ts end = refl
blanks_sum us ts (node p i ks bs) =
    ap (sum_by spot_long) (take_while-cons blank_spot s xs) ∙ go (is_blank (class i.sort)) (blanks_sum us (node p i ks ts) bs)
  where
    s : Spot
    s = record { here = record { before = bs; place = p; own = i; after = ts }; kids = ks; ups = us }

    xs : List Spot
    xs = spots_back us (node p i ks ts) bs

    go : (b : Bool) → sum_by spot_long (take_while blank_spot xs) ≡ length (blanks bs) → sum_by spot_long (cond b (s ∷ take_while blank_spot xs) []) ≡ length (cond b (blanks bs ++ spelt i.sort) [])
    go false e = refl
    go true e = omega (arith, sum_by-cons spot_long s (take_while blank_spot xs), length-append (blanks bs) (spelt i.sort))

pub sum_before : (s : Spot) → sum_by spot_long (take_while blank_spot (earlier_spots s)) ≡ length (blanks s.here.before)
sum_before s = blanks_sum s.ups (node s.here.place s.here.own s.kids s.here.after) s.here.before
