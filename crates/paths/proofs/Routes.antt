-- How a spot is reached from the first of its ancestors' siblings, and what that says of it. Assumes nothing.
use Rattle.std.proofs.Common.{◌≡◌, ℕ, suc, ◌+◌, ◌*◌, ◌<◌, ◌≤◌, max, true, false, cond, ◌&&◌, eqb, ltb, List, [], ◌∷◌, ◌++◌, length, Some, None, sym, refl, ap, ◌∙◌, subst, true≢false, append_assoc, arith}
use mathlib.Core.Bool.{false≢true}
use Rattle.std.proofs.lemmas.Bool.{cond_both, eqb-true}
use Rattle.std.proofs.lemmas.Option.{same_Some, none-some}
use Rattle.grammar.specs.Layout.{raised}
use Rattle.grammar.specs.Pieces.{Box, array, object, property}
use Rattle.forest.specs.Forest.{end, node, count}
use Rattle.forest.proofs.Frames.{one_eq}
use Rattle.model.specs.Nodes.{Handle, handle, within, Own, Nodes, Class, gap, mark, value, class, pieces, parts, parts_at, label_of}
use Rattle.model.specs.Asks.{Frame, Spot, spot_in, sort_of, spot_handle, is_value, bracketed, tally, at, inside, behind, or_else, way_to}
use Rattle.model.specs.State.{around}
use Rattle.model.specs.Fits.{Owner, top, of, role, takes, Taken, Fits, Holds, Whole}
use Rattle.model.specs.Accounted.{counted}
use Rattle.model.proofs.Ways.{off, as_value}
use Rattle.model.proofs.Walks.{holder}
use Rattle.model.proofs.Lying.{same_refl, way_off, way_past, way_down}
use Rattle.model.proofs.Whereabouts.{depth}

-- a node among its siblings
abbrev pub frame : Nodes → ℕ → Own → Nodes → Frame
frame bs p i ts = record { before = bs; place = p; own = i; after = ts }

-- a node with its children and ancestors
abbrev pub spot : Frame → Nodes → List Frame → Spot
spot f ks us = record { here = f; kids = ks; ups = us }

-- How a spot is reached among siblings, below the ancestors us and behind the siblings bs: it is the first, or lies below it, or comes later.
pub data Route : List Frame → Nodes → Nodes → Spot → Type 0 where
  stop : (us : List Frame) (bs : Nodes) (p : ℕ) (i : Own) (ks ts : Nodes) → Route us bs (node p i ks ts) (spot (frame bs p i ts) ks us)
  down : (us : List Frame) (bs : Nodes) (p : ℕ) (i : Own) (ks ts : Nodes) (s : Spot) → Route (frame bs p i ts ∷ us) end ks s → Route us bs (node p i ks ts) s
  on : (us : List Frame) (bs : Nodes) (p : ℕ) (i : Own) (ks ts : Nodes) (s : Spot) → Route us (node p i ks bs) ts s → Route us bs (node p i ks ts) s

-- what is found is reached, and stands at the place that was asked
pub route : (k : ℕ) (us : List Frame) (bs ts : Nodes) (s : Spot) → spot_in k us bs ts ≡ Some s → Route us bs ts s × (s.here.place ≡ k)
route k us bs end s = λ e. absurd (none-some s e)
route k us bs (node p i ks ts) s =
    let f : Frame = frame bs p i ts in
    cond_both (eqb p k) (Some (spot f ks us)) (cond (ltb 0 (count k ks)) (spot_in k (f ∷ us) end ks) (spot_in k us (node p i ks bs) ts)) (λ y. y ≡ Some s → Route us bs (node p i ks ts) s × (s.here.place ≡ k))
    (λ z e. subst (λ y. Route us bs (node p i ks ts) y × (y.here.place ≡ k)) (same_Some (spot f ks us) s e) (stop us bs p i ks ts, eqb-true p k z))
    (λ z. cond_both (ltb 0 (count k ks)) (spot_in k (f ∷ us) end ks) (spot_in k us (node p i ks bs) ts) (λ y. y ≡ Some s → Route us bs (node p i ks ts) s × (s.here.place ≡ k))
    (λ y e. (let m = route k (f ∷ us) end ks s e in (down us bs p i ks ts s m.0, m.1)))
    (λ y e. (let m = route k us (node p i ks bs) ts s e in (on us bs p i ks ts s m.0, m.1))))

-- what is reached stands there
pub route_stands : (us : List Frame) (bs ts : Nodes) (s : Spot) → Route us bs ts s → 0 < count s.here.place ts
route_stands _ _ _ _ (stop us bs p i ks ts) = omega (arith, one_eq p p refl)
route_stands _ _ _ _ (down us bs p i ks ts s r) = omega (arith, route_stands (frame bs p i ts ∷ us) end ks s r)
route_stands _ _ _ _ (on us bs p i ks ts s r) = omega (arith, route_stands us (node p i ks bs) ts s r)

-- the ancestors of what is reached begin with those of the siblings
pub route_ups : (us : List Frame) (bs ts : Nodes) (s : Spot) → Route us bs ts s → length us ≤ length s.ups
route_ups _ _ _ _ (stop us bs p i ks ts) = omega arith
route_ups _ _ _ _ (down us bs p i ks ts s r) = omega (arith, route_ups (frame bs p i ts ∷ us) end ks s r)
route_ups _ _ _ _ (on us bs p i ks ts s r) = route_ups us (node p i ks bs) ts s r

-- a node with something below it is a container
box_above : (us : List Frame) (bs : Nodes) (p : ℕ) (i : Own) (ks ts : Nodes) (s : Spot) → Route (frame bs p i ts ∷ us) end ks s → Holds i.sort ks → (b : Box) × (i.sort ≡ within b)
box_above us bs p i ks ts s r h = holder i.sort s.here.place ks h (route_stands (frame bs p i ts ∷ us) end ks s r)

-- THE ORDINALS ON THE WAY

-- the ordinals of the frames, the outermost first
abbrev pub stem : List Frame → List ℕ
stem [] = []
stem (f ∷ us) = stem us ++ tally is_value f.before ∷ []

-- the way to a spot, and its ordinals
pub record Wayed (us : List Frame) (bs ts : Nodes) (s : Spot) : Type 0 where
  pub ordinal : ℕ
  pub within_it : List ℕ
  pub way : way_to (spot_handle s) (parts ts) ≡ Some (ordinal, within_it)
  pub leads : at (parts ts) ordinal within_it ≡ Some (spot_handle s)
  pub steps : stem (s.here ∷ s.ups) ≡ stem us ++ (tally is_value bs + ordinal) ∷ within_it

-- one sibling more before
counted_on : (c : Class) (n m : ℕ) → (cond (is_value c) 1 0 + m) + n ≡ m + counted c n
counted_on (gap g) n m = omega arith
counted_on (mark g) n m = omega arith
counted_on value n m = omega arith

-- what stands at a path, past one sibling
past_at_lem : (p : ℕ) (i : Own) (ks ts : Nodes) (n : ℕ) (q : List ℕ) (c : Class) → at (parts_at c (handle p i) (label_of i.sort (pieces ks)) (parts ks) (parts ts)) (counted c n) q ≡ at (parts ts) n q
past_at_lem p i ks ts n q (gap g) = refl
past_at_lem p i ks ts n q (mark g) = refl
past_at_lem p i ks ts n q value = refl

-- a value or member that is reached has the way of its ordinals
pub wayed : (us : List Frame) (bs ts : Nodes) (s : Spot) → Route us bs ts s → Whole ts → count s.here.place ts ≤ 1 → class (sort_of s) ≡ value → Wayed us bs ts s
wayed _ _ _ _ (stop us bs p i ks ts) w o v = record {
  ordinal = 0;
  within_it = [];
  way = ap (way_to (handle p i)) (as_value p i ks ts v) ∙ ap (λ y. cond y (Some (0, [])) (or_else (inside (way_to (handle p i) (parts ks))) (behind (way_to (handle p i) (parts ts))))) (same_refl (handle p i));
  leads = ap (λ y. at y 0 []) (as_value p i ks ts v);
  steps = ap (λ n. stem us ++ n ∷ []) (omega arith);
}
wayed _ _ _ _ (down us bs p i ks ts s r) w o v =
    let f : Frame = frame bs p i ts in
    let x = box_above us bs p i ks ts s r w.0 in
    let z = route_stands (f ∷ us) end ks s r in
    let m = wayed (f ∷ us) end ks s r w.1 (omega arith) v in
    record {
      ordinal = 0;
      within_it = m.ordinal ∷ m.within_it;
      way = way_down (spot_handle s) p i ks ts m.ordinal m.within_it (ap class x.1) o z m.way;
      leads = ap (λ y. at y 0 (m.ordinal ∷ m.within_it)) (as_value p i ks ts (ap class x.1)) ∙ m.leads;
      steps = m.steps ∙ (append_assoc (stem us) (tally is_value bs ∷ []) ((0 + m.ordinal) ∷ m.within_it) ∙ (λ t. stem us ++ plus_none (tally is_value bs) t ∷ none_plus m.ordinal t ∷ m.within_it));
    }
  where
    plus_none : (n : ℕ) → n ≡ n + 0
    plus_none n = omega arith

    none_plus : (n : ℕ) → 0 + n ≡ n
    none_plus n = omega arith
wayed _ _ _ _ (on us bs p i ks ts s r) w o v =
    let z = route_stands us (node p i ks bs) ts s r in
    let m = wayed us (node p i ks bs) ts s r w.2 (omega arith) v in
    record {
      ordinal = counted (class i.sort) m.ordinal;
      within_it = m.within_it;
      way = way_past (spot_handle s) p i ks ts m.ordinal m.within_it o z m.way (class i.sort);
      leads = past_at_lem p i ks ts m.ordinal m.within_it (class i.sort) ∙ m.leads;
      steps = m.steps ∙ ap (λ n. stem us ++ n ∷ m.within_it) (counted_on (class i.sort) m.ordinal (tally is_value bs));
    }

-- no way past a sibling that is another, where none leads below it or behind it
none_way : (h : Handle) (p : ℕ) (i : Own) (ks ts : Nodes) → eqb p h.place ≡ false → way_to h (parts ks) ≡ None → way_to h (parts ts) ≡ None → (c : Class) → way_to h (parts_at c (handle p i) (label_of i.sort (pieces ks)) (parts ks) (parts ts)) ≡ None
none_way h p i ks ts z a b (gap g) = b
none_way h p i ks ts z a b (mark g) = b
none_way h p i ks ts z a b value =
    ap (λ y. cond (y && eqb i.number h.number) (Some (0, [])) (or_else (inside (way_to h (parts ks))) (behind (way_to h (parts ts))))) z
    ∙ (λ t. or_else (inside (a t)) (behind (b t)))

-- no way leads to what is neither a value nor a member
pub wayless : (us : List Frame) (bs ts : Nodes) (s : Spot) → Route us bs ts s → count s.here.place ts ≤ 1 → is_value (class (sort_of s)) ≡ false → way_to (spot_handle s) (parts ts) ≡ None
wayless _ _ _ _ (stop us bs p i ks ts) o v = go (class i.sort) v (way_off (handle p i) ts (omega (arith, one_eq p p refl)))
  where
    go : (c : Class) → is_value c ≡ false → way_to (handle p i) (parts ts) ≡ None → way_to (handle p i) (parts_at c (handle p i) (label_of i.sort (pieces ks)) (parts ks) (parts ts)) ≡ None
    go (gap g) v e = e
    go (mark g) v e = e
    go value v e = absurd (true≢false v)
wayless _ _ _ _ (down us bs p i ks ts s r) o v =
    let z = route_stands (frame bs p i ts ∷ us) end ks s r in
    none_way (spot_handle s) p i ks ts (off p s.here.place 0 (omega arith)) (wayless (frame bs p i ts ∷ us) end ks s r (omega arith) v) (way_off (spot_handle s) ts (omega arith)) (class i.sort)
wayless _ _ _ _ (on us bs p i ks ts s r) o v =
    let z = route_stands us (node p i ks bs) ts s r in
    none_way (spot_handle s) p i ks ts (off p s.here.place 0 (omega arith)) (way_off (spot_handle s) ks (omega arith)) (wayless us (node p i ks bs) ts s r (omega arith) v) (class i.sort)

-- LEVELS

-- a container's label has its level
label_level : (b : Box) (ks : Nodes) (n : ℕ) → raised (label_of (within b) (pieces ks)) n ≡ cond (bracketed (within b)) 1 0 + n
label_level array ks n = omega arith
label_level object ks n = omega arith
label_level property ks n = omega arith

-- the siblings behind a node nest no deeper than all of them
depth_on : (p : ℕ) (i : Own) (ks ts : Nodes) (c : Class) → depth (parts ts) ≤ depth (parts_at c (handle p i) (label_of i.sort (pieces ks)) (parts ks) (parts ts))
depth_on p i ks ts (gap g) = omega arith
depth_on p i ks ts (mark g) = omega arith
depth_on p i ks ts value = omega arith

-- what stands around a node are levels of the whole
pub around_levels : (us : List Frame) (bs ts : Nodes) (s : Spot) → Route us bs ts s → Whole ts → around s.ups ≤ around us + depth (parts ts)
around_levels _ _ _ _ (stop us bs p i ks ts) w = omega arith
around_levels _ _ _ _ (down us bs p i ks ts s r) w =
    let x = box_above us bs p i ks ts s r w.0 in
    let m = around_levels (frame bs p i ts ∷ us) end ks s r w.1 in
    let a : depth (parts (node p i ks ts)) ≡ max (raised (label_of i.sort (pieces ks)) (depth (parts ks))) (depth (parts ts)) = ap depth (as_value p i ks ts (ap class x.1)) in
    let l : raised (label_of i.sort (pieces ks)) (depth (parts ks)) ≡ cond (bracketed i.sort) 1 0 + depth (parts ks) =
    subst (λ y. raised (label_of y (pieces ks)) (depth (parts ks)) ≡ cond (bracketed y) 1 0 + depth (parts ks)) (sym x.1) (label_level x.0 ks (depth (parts ks))) in
    omega arith
around_levels _ _ _ _ (on us bs p i ks ts s r) w = omega (arith, around_levels us (node p i ks bs) ts s r w.2, depth_on p i ks ts (class i.sort))

-- a member stands in an object: what an object holds is one level nearer
abbrev pub slack : Owner → ℕ
slack top = 1
slack (of array) = 1
slack (of object) = 0
slack (of property) = 1

-- by one at most
slack_one : (o : Owner) → slack o ≤ 1
slack_one top = omega arith
slack_one (of array) = omega arith
slack_one (of object) = omega arith
slack_one (of property) = omega arith

-- one container more
longer : (o : Owner) (b : Box) (n m : ℕ) → takes o (role (within b)) ≡ true → n ≤ slack o + 2 * m → suc n ≤ slack (of b) + 2 * (cond (bracketed (within b)) 1 0 + m)
longer o array n m t l = omega (arith, slack_one o)
longer o object n m t l = omega (arith, slack_one o)
longer top property n m t l = absurd (false≢true t)
longer (of array) property n m t l = absurd (false≢true t)
longer (of object) property n m t l = omega arith
longer (of property) property n m t l = absurd (false≢true t)

-- each member among the ancestors stands in an object
pub ups_length : (us : List Frame) (bs ts : Nodes) (s : Spot) → Route us bs ts s → Whole ts → (o : Owner) → Taken o ts → length us ≤ slack o + 2 * around us → length s.ups ≤ 1 + 2 * around s.ups
ups_length _ _ _ _ (stop us bs p i ks ts) w o t l = omega (arith, slack_one o)
ups_length _ _ _ _ (down us bs p i ks ts s r) w o t l =
    let x = box_above us bs p i ks ts s r w.0 in
    let f : Fits (of x.0) ks = subst (λ y. Holds y ks) x.1 w.0 in
    ups_length (frame bs p i ts ∷ us) end ks s r w.1 (of x.0) f.taken
    (subst (λ y. suc (length us) ≤ slack (of x.0) + 2 * (cond (bracketed y) 1 0 + around us)) (sym x.1) (longer o x.0 (length us) (around us) (subst (λ y. takes o (role y) ≡ true) x.1 t.0) l))
ups_length _ _ _ _ (on us bs p i ks ts s r) w o t l = ups_length us (node p i ks bs) ts s r w.2 o t.1 l
