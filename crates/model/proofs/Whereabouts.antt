-- What stands at a path of a value: its node, the handles below it, and how deep it lies. Assumes nothing.
use Rattle.std.proofs.Common.{◌≡◌, ℕ, zero, suc, ◌+◌, ◌-◌, ◌<◌, ◌≤◌, true, false, cond, eqb, ltb, ◌⊎◌, List, [], ◌∷◌, ◌++◌, Some, None, Option, sym, refl, ap, ◌∙◌, subst, inl, inr, true≢false, arith}
use Rattle.std.proofs.lemmas.Bool.{eqb-true, eq-eqb, cond_both, and_parts, ltb-true, ltb-false}
use Rattle.std.proofs.lemmas.Option.{same_Some, none-some}
use Rattle.grammar.specs.Layout.{Label, Null, Boolean, Numeral, Text, Array, Object, Member, Layout, stop, note, mark as token, item, Parts, nil, part, raised, levels, meaning}
use Rattle.grammar.specs.Pieces.{null, boolean, number, string, name, token as sign, whitespace, newline, comment, array, object, property}
use Rattle.forest.specs.Forest.{end, node, count}
use Rattle.forest.proofs.Frames.{one_eq}
use Rattle.model.specs.Nodes.{Handle, handle, same, Sort, root, within, single, Own, Nodes, Class, gap, mark, value, class, pieces, parts, parts_at, label_of}
use Rattle.model.specs.Asks.{Frame, Spot, spot_in, bracketed, sort_of, at, at_path, Way, inside, behind, way_to, from_root, path_to, path, or_else, value_in, is_value}
use Rattle.model.specs.Written.{Value, escaped_label, spelled}
use Rattle.model.specs.Fits.{bare}
use Rattle.model.specs.State.{levels_of, around}
use Rattle.model.specs.Changes.{At}
use Rattle.model.specs.Account.{change, others, instead, handles, leaving, In}
use Rattle.model.specs.Given.{often}
use Rattle.model.proofs.Edited.{at_count}

-- HANDLES

-- in one of two lists
pub in_append : (h : Handle) (xs ys : List Handle) → In h (xs ++ ys) → In h xs ⊎ In h ys
in_append h [] ys m = inr m
in_append h (x ∷ xs) ys (inl e) = inl (inl e)
in_append h (x ∷ xs) ys (inr m) = elim (in_append h xs ys m) [ inl a ↦ inl (inr a) | inr a ↦ inr a ]

-- in the first of two lists
in_left : (h : Handle) (xs ys : List Handle) → In h xs → In h (xs ++ ys)
in_left h [] ys m = absurd m
in_left h (x ∷ xs) ys (inl e) = inl e
in_left h (x ∷ xs) ys (inr m) = inr (in_left h xs ys m)

-- in the second of two lists
in_right : (h : Handle) (xs ys : List Handle) → In h ys → In h (xs ++ ys)
in_right h [] ys m = m
in_right h (x ∷ xs) ys m = inr (in_right h xs ys m)

-- a handle of a value stands in its nodes, by place and by number
pub handles_stand : (h : Handle) (ts : Nodes) → In h (handles (parts ts)) → (0 < count h.place ts) × (0 < often h.number ts)
handles_stand h end m = absurd m
handles_stand h (node p i ks ts) m = go (handles_stand h ks) (handles_stand h ts) (class i.sort) m
  where
    low : (0 < count h.place ks) × (0 < often h.number ks) → (0 < count h.place (node p i ks ts)) × (0 < often h.number (node p i ks ts))
    low (a, b) = (omega arith, omega arith)

    on : (0 < count h.place ts) × (0 < often h.number ts) → (0 < count h.place (node p i ks ts)) × (0 < often h.number (node p i ks ts))
    on (a, b) = (omega arith, omega arith)

    go : (In h (handles (parts ks)) → (0 < count h.place ks) × (0 < often h.number ks)) → (In h (handles (parts ts)) → (0 < count h.place ts) × (0 < often h.number ts)) → (c : Class) → In h (handles (parts_at c (handle p i) (label_of i.sort (pieces ks)) (parts ks) (parts ts))) → (0 < count h.place (node p i ks ts)) × (0 < often h.number (node p i ks ts))
    go a b (gap g) m = on (b m)
    go a b (mark g) m = on (b m)
    go a b value (inl e) = (omega (arith, one_eq p h.place (ap (λ y. y.place) e)), omega (arith, one_eq i.number h.number (ap (λ y. y.number) e)))
    go a b value (inr m) = elim (in_append h (handles (parts ks)) (handles (parts ts)) m) [ inl x ↦ low (a x) | inr x ↦ on (b x) ]

-- what leaves stood there
pub leaving_in : (h : Handle) (v : Parts Handle) (n : ℕ) (q : List ℕ) → In h (leaving v n q) → In h (handles v)
leaving_in h nil n q m = m
leaving_in h (part a l ks ts) zero [] (inl e) = inl e
leaving_in h (part a l ks ts) zero [] (inr m) = inr (in_left h (handles ks) (handles ts) m)
leaving_in h (part a l ks ts) zero (j ∷ q) m = inr (in_left h (handles ks) (handles ts) (leaving_in h ks j q m))
leaving_in h (part a l ks ts) (suc n) q m = inr (in_right h (handles ks) (handles ts) (leaving_in h ts n q m))

-- the node at a path: where it stands, what lies below it, and what leaves with it
pub record Standing (ts : Nodes) (n : ℕ) (q : List ℕ) (h : Handle) : Type 0 where
  pub own : Own
  pub kids : Nodes
  pub stands : At h.place own kids ts
  pub number : own.number ≡ h.number
  pub lower : (j : ℕ) (r : List ℕ) → at (parts ts) n (q ++ j ∷ r) ≡ at (parts kids) j r
  pub leaves : (g : Handle) → In g (leaving (parts ts) n q) → 0 < count g.place (node h.place own kids end)

-- what a path answers with stands there
pub standing : (ts : Nodes) (n : ℕ) (q : List ℕ) (h : Handle) → at (parts ts) n q ≡ Some h → Standing ts n q h
standing end n q h e = absurd (none-some h e)
standing (node p i ks ts) n q h e = go (λ n q. standing ks n q h) (λ n q. standing ts n q h) (class i.sort) refl n q e
  where
    V : Class → Parts Handle
    V c = parts_at c (handle p i) (label_of i.sort (pieces ks)) (parts ks) (parts ts)

    shape : (c : Class) → class i.sort ≡ c → parts (node p i ks ts) ≡ V c
    shape c z = ap (λ c. parts_at c (handle p i) (label_of i.sort (pieces ks)) (parts ks) (parts ts)) z

    pass : (c : Class) → V c ≡ parts ts → class i.sort ≡ c → (n : ℕ) (q : List ℕ) → Standing ts n q h → Standing (node p i ks ts) n q h
    pass c v z n q s = record {
      own = s.own;
      kids = s.kids;
      stands = inr (inr s.stands);
      number = s.number;
      lower = λ j r. ap (λ y. at y n (q ++ j ∷ r)) (shape c z ∙ v) ∙ s.lower j r;
      leaves = λ g m. s.leaves g (subst (λ y. In g (leaving y n q)) (shape c z ∙ v) m);
    }

    here : class i.sort ≡ value → handle p i ≡ h → Standing (node p i ks ts) 0 [] h
    here z x = record {
      own = i;
      kids = ks;
      stands = inl (ap (λ y. y.place) x, refl, refl);
      number = ap (λ y. y.number) x;
      lower = λ j r. ap (λ y. at y 0 (j ∷ r)) (shape value z);
      leaves = λ g m. out g (subst (λ y. In g (leaving y 0 [])) (shape value z) m);
    }
      where
        out : (g : Handle) → (handle p i ≡ g) ⊎ In g (handles (parts ks)) → 0 < count g.place (node h.place i ks end)
        out g (inl y) = omega (arith, one_eq h.place g.place (ap (λ y. y.place) (sym x ∙ y)))
        out g (inr m) = (let y = (handles_stand g ks m).0 in omega arith)

    go : ((n : ℕ) (q : List ℕ) → at (parts ks) n q ≡ Some h → Standing ks n q h) → ((n : ℕ) (q : List ℕ) → at (parts ts) n q ≡ Some h → Standing ts n q h) → (c : Class) → class i.sort ≡ c → (n : ℕ) (q : List ℕ) → at (parts_at (class i.sort) (handle p i) (label_of i.sort (pieces ks)) (parts ks) (parts ts)) n q ≡ Some h → Standing (node p i ks ts) n q h
    go A B (gap g) z n q e = pass (gap g) refl z n q (B n q (sym (ap (λ y. at y n q) (shape (gap g) z)) ∙ e))
    go A B (mark g) z n q e = pass (mark g) refl z n q (B n q (sym (ap (λ y. at y n q) (shape (mark g) z)) ∙ e))
    go A B value z zero [] e = here z (same_Some (handle p i) h (sym (ap (λ y. at y 0 []) (shape value z)) ∙ e))
    go A B value z zero (j ∷ q) e = (let s = A j q (sym (ap (λ y. at y 0 (j ∷ q)) (shape value z)) ∙ e) in record {
      own = s.own;
      kids = s.kids;
      stands = inr (inl s.stands);
      number = s.number;
      lower = λ k r. ap (λ y. at y 0 (j ∷ (q ++ k ∷ r))) (shape value z) ∙ s.lower k r;
      leaves = λ g m. s.leaves g (subst (λ y. In g (leaving y 0 (j ∷ q))) (shape value z) m);
    })
    go A B value z (suc n) q e = (let s = B n q (sym (ap (λ y. at y (suc n) q) (shape value z)) ∙ e) in record {
      own = s.own;
      kids = s.kids;
      stands = inr (inr s.stands);
      number = s.number;
      lower = λ k r. ap (λ y. at y (suc n) (q ++ k ∷ r)) (shape value z) ∙ s.lower k r;
      leaves = λ g m. s.leaves g (subst (λ y. In g (leaving y (suc n) q)) (shape value z) m);
    })

-- so a node stands there
pub stands_there : (h : Handle) (ts : Nodes) (n : ℕ) (q : List ℕ) → at (parts ts) n q ≡ Some h → 0 < count h.place ts
stands_there h ts n q e = (let x = standing ts n q h e in at_count h.place x.own x.kids ts x.stands)

-- PATHS

-- handles that test the same are equal
same_handle : (i h : Handle) → same i h ≡ true → i ≡ h
same_handle i h e =
    let y = and_parts (eqb i.place h.place) (eqb i.number h.number) e in
    let a = eqb-true i.place h.place y.0 in
    let b = eqb-true i.number h.number y.1 in
    λ t. record { place = a t; number = b t }

-- a way leads to its handle
way_at : (h : Handle) (v : Parts Handle) (w : Way) → way_to h v ≡ Some w → at v w.0 w.1 ≡ Some h
way_at h nil w = λ e. absurd (none-some w e)
way_at h (part i l ks ts) w = cond_both (same i h) (Some (0, [])) (or_else (inside (way_to h ks)) (behind (way_to h ts))) (λ y. y ≡ Some w → at (part i l ks ts) w.0 w.1 ≡ Some h)
    (λ z e. subst (λ y. at (part i l ks ts) y.0 y.1 ≡ Some h) (same_Some (0, []) w e) (ap (λ y. Some y) (same_handle i h z)))
    (λ z. go (way_at h ks) (way_at h ts) (way_to h ks) refl (way_to h ts) refl)
  where
    go : ((u : Way) → way_to h ks ≡ Some u → at ks u.0 u.1 ≡ Some h) → ((u : Way) → way_to h ts ≡ Some u → at ts u.0 u.1 ≡ Some h) → (x : Option Way) → way_to h ks ≡ x → (y : Option Way) → way_to h ts ≡ y → or_else (inside x) (behind y) ≡ Some w → at (part i l ks ts) w.0 w.1 ≡ Some h
    go A B (Some u) a y b e = subst (λ y. at (part i l ks ts) y.0 y.1 ≡ Some h) (same_Some (0, u.0 ∷ u.1) w e) (A u a)
    go A B None a (Some u) b e = subst (λ y. at (part i l ks ts) y.0 y.1 ≡ Some h) (same_Some (suc u.0, u.1) w e) (B u b)
    go A B None a None b e = absurd (none-some w e)

-- a path leads to its handle
pub path_at : (h : Handle) (v : Parts Handle) (p : List ℕ) → path h v ≡ Some p → at_path v p ≡ Some h
path_at h v p = go (way_to h v) refl
  where
    on : (n : ℕ) (q : List ℕ) → way_to h v ≡ Some (n, q) → from_root n q ≡ Some p → at v 0 p ≡ Some h
    on zero q a e = subst (λ y. at v 0 y ≡ Some h) (same_Some q p e) (way_at h v (0, q) a)
    on (suc n) q a e = absurd (none-some p e)

    go : (o : Option Way) → way_to h v ≡ o → path_to o ≡ Some p → at v 0 p ≡ Some h
    go None a e = absurd (none-some p e)
    go (Some w) a e = on w.0 w.1 a e

-- the first value of siblings is at the first ordinal
pub value_first : (ts : Nodes) (o : Handle) → value_in ts ≡ Some o → at (parts ts) 0 [] ≡ Some o
value_first end o = λ e. absurd (none-some o e)
value_first (node p i ks ts) o = go (value_first ts o) (class i.sort)
  where
    go : (value_in ts ≡ Some o → at (parts ts) 0 [] ≡ Some o) → (c : Class) → cond (is_value c) (Some (handle p i)) (value_in ts) ≡ Some o → at (parts_at c (handle p i) (label_of i.sort (pieces ks)) (parts ks) (parts ts)) 0 [] ≡ Some o
    go r (gap g) e = r e
    go r (mark g) e = r e
    go r value e = e

-- LEVELS

-- a level more or none
abbrev lift : Label → ℕ
lift l = raised l 0

-- a label's level is added
raised_lift : (l : Label) (n : ℕ) → raised l n ≡ lift l + n
raised_lift Null n = omega arith
raised_lift (Boolean b) n = omega arith
raised_lift (Numeral t) n = omega arith
raised_lift (Text t) n = omega arith
raised_lift Array n = omega arith
raised_lift Object n = omega arith
raised_lift (Member t) n = omega arith

-- how many arrays and objects stand inside one another in a value
abbrev pub depth : Parts Handle → ℕ
depth v = levels_of (bare v)

-- how many stand around what is at a path
abbrev pub above : Parts Handle → ℕ → List ℕ → ℕ
above nil n q = 0
above (part a l ks ts) zero [] = 0
above (part a l ks ts) zero (j ∷ q) = lift l + above ks j q
above (part a l ks ts) (suc n) q = above ts n q

-- how many stand around what is at a path, itself with them
abbrev pub with_itself : Parts Handle → ℕ → List ℕ → ℕ
with_itself nil n q = 0
with_itself (part a l ks ts) zero [] = lift l
with_itself (part a l ks ts) zero (j ∷ q) = lift l + with_itself ks j q
with_itself (part a l ks ts) (suc n) q = with_itself ts n q

-- one level below
pub above_below : (v : Parts Handle) (n : ℕ) (q : List ℕ) → above v n (q ++ 0 ∷ []) ≤ with_itself v n q
above_below nil n q = omega arith
above_below (part a l nil ts) zero [] = omega arith
above_below (part a l (part b m us vs) ts) zero [] = omega arith
above_below (part a l ks ts) zero (j ∷ q) = omega (arith, above_below ks j q)
above_below (part a l ks ts) (suc n) q = above_below ts n q

-- deleting deepens nothing
pub depth_deleted : (v : Parts Handle) (n : ℕ) (q : List ℕ) → depth (change others v n q) ≤ depth v
depth_deleted nil n q = omega arith
depth_deleted (part a l ks ts) zero [] = omega arith
depth_deleted (part a l ks ts) zero (j ∷ q) = omega (arith, depth_deleted ks j q, raised_lift l (depth ks), raised_lift l (depth (change others ks j q)))
depth_deleted (part a l ks ts) (suc n) q = omega (arith, depth_deleted ts n q)

-- a label adds one level at most
lifted : (l : Label) → lift l ≤ 1
lifted Null = omega arith
lifted (Boolean b) = omega arith
lifted (Numeral t) = omega arith
lifted (Text t) = omega arith
lifted Array = omega arith
lifted Object = omega arith
lifted (Member t) = omega arith

-- putting deepens to what is around and inside
pub depth_put : (w v : Parts Handle) (n : ℕ) (q : List ℕ) (m : ℕ) → depth v ≤ m → above v n q + depth w ≤ m → depth (change (instead w) v n q) ≤ m
depth_put w nil n q m a b = a
depth_put nil (part i l ks ts) zero [] m a b = a
depth_put (part j k us vs) (part i l ks ts) zero [] m a b = omega arith
depth_put w (part i l ks ts) zero (j ∷ q) m a b =
    let k = lifted l in
    let x = raised_lift l (depth ks) in
    let y = raised_lift l (depth (change (instead w) ks j q)) in
    let r = depth_put w ks j q (m - lift l) (omega arith) (omega arith) in
    omega arith
depth_put w (part i l ks ts) (suc n) q m a b = omega (arith, depth_put w ts n q m (omega arith) b)

-- escaping changes no level
lift_escaped : (l : Label) → lift (escaped_label l) ≡ lift l
lift_escaped Null = refl
lift_escaped (Boolean b) = refl
lift_escaped (Numeral t) = refl
lift_escaped (Text t) = refl
lift_escaped Array = refl
lift_escaped Object = refl
lift_escaped (Member t) = refl

-- nor does spelling a whole value
pub spelled_levels : (v : Value) → levels_of (spelled v) ≡ levels_of v
spelled_levels nil = refl
spelled_levels (part a l ks ts) = omega (arith, raised_lift (escaped_label l) (levels_of (spelled ks)), raised_lift l (levels_of ks), lift_escaped l, spelled_levels ks, spelled_levels ts)

-- a layout has its meaning's levels
pub meaning_levels : (y : Layout) → levels_of (meaning y) ≡ levels y
meaning_levels (stop b) = refl
meaning_levels (note b c r) = meaning_levels r
meaning_levels (token b m r) = meaning_levels r
meaning_levels (item b l ks r) = omega (arith, raised_lift l (levels_of (meaning ks)), raised_lift l (levels ks), meaning_levels ks, meaning_levels r)

-- a node's level in the value is that of its sort
sort_lift : (s : Sort) (ks : Nodes) → lift (label_of s (pieces ks)) ≡ cond (bracketed s) 1 0
sort_lift root ks = refl
sort_lift (within array) ks = refl
sort_lift (within object) ks = refl
sort_lift (within property) ks = refl
sort_lift (single null) ks = refl
sort_lift (single (boolean b)) ks = refl
sort_lift (single (number t)) ks = refl
sort_lift (single (string t)) ks = refl
sort_lift (single (name t)) ks = refl
sort_lift (single (sign m)) ks = refl
sort_lift (single (whitespace t)) ks = refl
sort_lift (single (newline k)) ks = refl
sort_lift (single (comment c)) ks = refl

-- what stands around a node in the tree stands around it in the value
abbrev Depths : Nodes → ℕ → List ℕ → List Frame → Spot → Type 0
Depths ts n q us s = (above (parts ts) n q + around us ≤ around s.ups) × (with_itself (parts ts) n q + around us ≤ around s.ups + cond (bracketed (sort_of s)) 1 0)

-- so it is, by place and by path
pub depths : (ts : Nodes) (n : ℕ) (q : List ℕ) (h : Handle) (us : List Frame) (bs : Nodes) (s : Spot) → at (parts ts) n q ≡ Some h → count h.place ts ≤ 1 → spot_in h.place us bs ts ≡ Some s → Depths ts n q us s
depths end n q h us bs s e o = λ x. absurd (none-some h e)
depths (node p i ks ts) n q h us bs s e o =
    let f : Frame = record { before = bs; place = p; own = i; after = ts } in
    cond_both (eqb p h.place) (Some (record { here = f; kids = ks; ups = us })) (cond (ltb 0 (count h.place ks)) (spot_in h.place (f ∷ us) end ks) (spot_in h.place us (node p i ks bs) ts)) (λ y. y ≡ Some s → Depths (node p i ks ts) n q us s)
    (λ z x. subst (Depths (node p i ks ts) n q us) (same_Some (record { here = f; kids = ks; ups = us }) s x) (here (eqb-true p h.place z) (class i.sort) n q e))
    (λ z. cond_both (ltb 0 (count h.place ks)) (spot_in h.place (f ∷ us) end ks) (spot_in h.place us (node p i ks bs) ts) (λ y. y ≡ Some s → Depths (node p i ks ts) n q us s)
    (λ y x. low (λ j q e c. depths ks j q h (record { before = bs; place = p; own = i; after = ts } ∷ us) end s e c x) z (ltb-true 0 (count h.place ks) y) (class i.sort) n q e)
    (λ y x. on (λ j q e c. depths ts j q h us (node p i ks bs) s e c x) z (ltb-false 0 (count h.place ks) y) (class i.sort) n q e))
  where
    V : Class → Parts Handle
    V c = parts_at c (handle p i) (label_of i.sort (pieces ks)) (parts ks) (parts ts)

    D : Class → ℕ → List ℕ → Spot → Type 0
    D c n q s = (above (V c) n q + around us ≤ around s.ups) × (with_itself (V c) n q + around us ≤ around s.ups + cond (bracketed (sort_of s)) 1 0)

    here : p ≡ h.place → (c : Class) (n : ℕ) (q : List ℕ) → at (V c) n q ≡ Some h → D c n q (record { here = record { before = bs; place = p; own = i; after = ts }; kids = ks; ups = us })
    here z (gap g) n q e = absurd (omega (arith, one_eq p h.place z, stands_there h ts n q e))
    here z (mark g) n q e = absurd (omega (arith, one_eq p h.place z, stands_there h ts n q e))
    here z value zero [] e = (omega arith, omega (arith, sort_lift i.sort ks))
    here z value zero (j ∷ q) e = absurd (omega (arith, one_eq p h.place z, stands_there h ks j q e))
    here z value (suc n) q e = absurd (omega (arith, one_eq p h.place z, stands_there h ts n q e))

    low : ((j : ℕ) (q : List ℕ) → at (parts ks) j q ≡ Some h → count h.place ks ≤ 1 → Depths ks j q (record { before = bs; place = p; own = i; after = ts } ∷ us) s) → eqb p h.place ≡ false → 0 < count h.place ks → (c : Class) (n : ℕ) (q : List ℕ) → at (V c) n q ≡ Some h → D c n q s
    low R z y (gap g) n q e = absurd (omega (arith, stands_there h ts n q e))
    low R z y (mark g) n q e = absurd (omega (arith, stands_there h ts n q e))
    low R z y value zero [] e = absurd (true≢false (sym (eq-eqb p h.place (ap (λ y. y.place) (same_Some (handle p i) h e))) ∙ z))
    low R z y value zero (j ∷ q) e = (let r = R j q e (omega arith) in let a = r.0 in let b = r.1 in let k = sort_lift i.sort ks in (omega arith, omega arith))
    low R z y value (suc n) q e = absurd (omega (arith, stands_there h ts n q e))

    on : ((j : ℕ) (q : List ℕ) → at (parts ts) j q ≡ Some h → count h.place ts ≤ 1 → Depths ts j q us s) → eqb p h.place ≡ false → count h.place ks ≤ 0 → (c : Class) (n : ℕ) (q : List ℕ) → at (V c) n q ≡ Some h → D c n q s
    on R z y (gap g) n q e = R n q e (omega arith)
    on R z y (mark g) n q e = R n q e (omega arith)
    on R z y value zero [] e = absurd (true≢false (sym (eq-eqb p h.place (ap (λ y. y.place) (same_Some (handle p i) h e))) ∙ z))
    on R z y value zero (j ∷ q) e = absurd (omega (arith, stands_there h ks j q e))
    on R z y value (suc n) q e = R n q e (omega arith)
