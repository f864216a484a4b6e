-- Where a handle's node lies: by its spot, and by its path in the value. Assumes nothing.
use Rattle.std.proofs.Common.{◌≡◌, ℕ, zero, suc, ◌+◌, ◌<◌, ◌≤◌, Bool, true, false, cond, ◌&&◌, eqb, ltb, List, [], ◌∷◌, Some, None, Option, sym, refl, ap, ◌∙◌, subst, arith}
use Rattle.std.proofs.lemmas.Bool.{eqb-true, eq-eqb, ltb-true, cond_both}
use Rattle.std.proofs.lemmas.Option.{same_Some, none-some}
use Rattle.forest.specs.Forest.{end, node, count}
use Rattle.model.specs.Nodes.{Handle, handle, same, root, Own, Nodes, Class, gap, mark, value, class, pieces, parts, parts_at, label_of}
use Rattle.model.specs.Asks.{Frame, Spot, spot_in, spot_at, numbered_so, named, then, sort_of, spot_handle, Way, inside as level, behind, or_else, way_to, from_root, path_to, path}
use Rattle.model.specs.Fits.{Whole}
use Rattle.model.specs.Changes.{Placed}
use Rattle.model.specs.Accounted.{counted, Among, first, later, Below, child, deeper, along, Lies, on_top, inside}
use Rattle.model.proofs.Spots.{Spotted, the_root, a_node, spot_found}
use Rattle.model.proofs.Ways.{off, as_value}
use Rattle.model.proofs.Walks.{holder, among_count, below_count}

-- THE WAY TO A HANDLE

-- a handle is the same as itself
pub same_refl : (h : Handle) → same h h ≡ true
same_refl h = ap (λ b. b && eqb h.number h.number) (eq-eqb h.place h.place refl) ∙ eq-eqb h.number h.number refl

-- what a part answers
abbrev answer : Bool → Option Way → Option Way → Option Way
answer b x y = cond b (Some (0, [])) (or_else (level x) (behind y))

-- no way leads to a place that is not there
pub way_off : (h : Handle) (ts : Nodes) → count h.place ts ≡ 0 → way_to h (parts ts) ≡ None
way_off h end z = refl
way_off h (node p i ks ts) z = go (class i.sort) (way_off h ks (omega arith)) (way_off h ts (omega arith))
  where
    go : (c : Class) → way_to h (parts ks) ≡ None → way_to h (parts ts) ≡ None → way_to h (parts_at c (handle p i) (label_of i.sort (pieces ks)) (parts ks) (parts ts)) ≡ None
    go (gap g) a b = b
    go (mark m) a b = b
    go value a b =
        ap (λ y. answer (y && eqb i.number h.number) (way_to h (parts ks)) (way_to h (parts ts))) (off p h.place (count h.place ks + count h.place ts) z)
        ∙ (ap (λ y. or_else (level y) (behind (way_to h (parts ts)))) a ∙ ap behind b)

-- past a sibling
pub way_past : (h : Handle) (p : ℕ) (i : Own) (ks ts : Nodes) (n : ℕ) (q : List ℕ) → count h.place (node p i ks ts) ≤ 1 → 0 < count h.place ts → way_to h (parts ts) ≡ Some (n, q) → (c : Class)
    → way_to h (parts_at c (handle p i) (label_of i.sort (pieces ks)) (parts ks) (parts ts)) ≡ Some (counted c n, q)
way_past h p i ks ts n q o z e (gap g) = e
way_past h p i ks ts n q o z e (mark m) = e
way_past h p i ks ts n q o z e value =
    ap (λ y. answer (y && eqb i.number h.number) (way_to h (parts ks)) (way_to h (parts ts))) (off p h.place 0 (omega arith))
    ∙ (ap (λ y. or_else (level y) (behind (way_to h (parts ts)))) (way_off h ks (omega arith)) ∙ ap behind e)

-- into a container
pub way_down : (h : Handle) (p : ℕ) (i : Own) (ks ts : Nodes) (n : ℕ) (q : List ℕ) → class i.sort ≡ value → count h.place (node p i ks ts) ≤ 1 → 0 < count h.place ks → way_to h (parts ks) ≡ Some (n, q)
    → way_to h (parts (node p i ks ts)) ≡ Some (0, n ∷ q)
way_down h p i ks ts n q v o z e =
    ap (way_to h) (as_value p i ks ts v)
    ∙ (ap (λ y. answer (y && eqb i.number h.number) (way_to h (parts ks)) (way_to h (parts ts))) (off p h.place 0 (omega arith))
    ∙ ap (λ y. or_else (level y) (behind (way_to h (parts ts)))) e)

-- the way to one of the siblings
among_way : (h : Handle) (ts : Nodes) (n : ℕ) → Among h ts n → count h.place ts ≤ 1 → way_to h (parts ts) ≡ Some (n, [])
among_way h _ _ (first p i ks ts e v) o =
    ap (way_to h) (as_value p i ks ts v) ∙ ap (λ y. answer y (way_to h (parts ks)) (way_to h (parts ts))) (ap (λ y. same y h) e ∙ same_refl h)
among_way h _ _ (later p i ks ts n e a) o = way_past h p i ks ts n [] o (among_count h ts n a) (among_way h ts n a (omega arith)) (class i.sort)

-- the way to one below them
below_way : (c : ℕ) (h : Handle) (ts : Nodes) (n : ℕ) (q : List ℕ) → Below c h ts n q → count h.place ts ≤ 1 → way_to h (parts ts) ≡ Some (n, q)
below_way c h _ _ _ (child p i ks ts j e v a) o = way_down h p i ks ts j [] v o (among_count h ks j a) (among_way h ks j a (omega arith))
below_way c h _ _ _ (deeper p i ks ts j q e z v b) o = way_down h p i ks ts j q v o (below_count c h ks j q b).1 (below_way c h ks j q b (omega arith))
below_way c h _ _ _ (along p i ks ts n q e z b) o = way_past h p i ks ts n q o (below_count c h ts n q b).1 (below_way c h ts n q b (omega arith)) (class i.sort)

-- a node that lies somewhere has that way
pub lies_way : (c : ℕ) (h : Handle) (ts : Nodes) (n : ℕ) (q : List ℕ) → Lies c h ts n q → count h.place ts ≤ 1 → way_to h (parts ts) ≡ Some (n, q)
lies_way c h ts _ _ (on_top n e a) o = among_way h ts n a o
lies_way c h ts _ _ (inside n q e b) o = below_way c h ts n q b o

-- FROM THE SPOT

-- where the spot's node is: one of these siblings, or below one of them
data Placing (h : Handle) (us : List Frame) (ts : Nodes) (s : Spot) : Type 0 where
  beside : s.ups ≡ us → (n : ℕ) → Among h ts n → Placing h us ts s
  lower : (f : Frame) (vs : List Frame) → s.ups ≡ f ∷ vs → (n : ℕ) (q : List ℕ) → Below f.place h ts n q → Placing h us ts s

-- a value that is found is one of the siblings or below them
placing : (k : ℕ) (us : List Frame) (bs ts : Nodes) (s : Spot) → Whole ts → ((c : ℕ) → count c ts ≤ 1) → class (sort_of s) ≡ value → spot_in k us bs ts ≡ Some s → Placing (spot_handle s) us ts s
placing k us bs end s w o v = λ e. absurd (none-some s e)
placing k us bs (node p i ks ts) s w o v =
    let f : Frame = record { before = bs; place = p; own = i; after = ts } in
    cond_both (eqb p k) (Some (record { here = f; kids = ks; ups = us })) (cond (ltb 0 (count k ks)) (spot_in k (f ∷ us) end ks) (spot_in k us (node p i ks bs) ts)) (λ y. y ≡ Some s → Placing (spot_handle s) us (node p i ks ts) s)
    (λ z e. subst (λ y. class (sort_of y) ≡ value → Placing (spot_handle y) us (node p i ks ts) y) (same_Some (record { here = f; kids = ks; ups = us }) s e) (λ v. beside refl 0 (first p i ks ts refl v)) v)
    (λ z. cond_both (ltb 0 (count k ks)) (spot_in k (f ∷ us) end ks) (spot_in k us (node p i ks bs) ts) (λ y. y ≡ Some s → Placing (spot_handle s) us (node p i ks ts) s)
    (λ y e. (let x = holder i.sort k ks w.0 (ltb-true 0 (count k ks) y) in below (ap class x.1) (placing k (f ∷ us) end ks s w.1 (λ c. omega (arith, o c)) v e)))
    (λ y e. after (placing k us (node p i ks bs) ts s w.2 (λ c. omega (arith, o c)) v e)))
  where
    below : class i.sort ≡ value → Placing (spot_handle s) (record { before = bs; place = p; own = i; after = ts } ∷ us) ks s → Placing (spot_handle s) us (node p i ks ts) s
    below c (beside e n a) = lower (record { before = bs; place = p; own = i; after = ts }) us e 0 (n ∷ []) (child p i ks ts n refl c a)
    below c (lower f vs e n q b) = (let m = (below_count f.place (spot_handle s) ks n q b).0 in let x = o f.place in
        lower f vs e 0 (n ∷ q) (deeper p i ks ts n q (off p f.place 0 (omega arith)) (omega arith) c b))

    after : Placing (spot_handle s) us ts s → Placing (spot_handle s) us (node p i ks ts) s
    after (beside e n a) = (let m = among_count (spot_handle s) ts n a in let x = o (spot_handle s).place in
        beside e (counted (class i.sort) n) (later p i ks ts n (off p (spot_handle s).place 0 (omega arith)) a))
    after (lower f vs e n q b) = (let m = (below_count f.place (spot_handle s) ts n q b).0 in let x = o f.place in
        lower f vs e (counted (class i.sort) n) q (along p i ks ts n q (off p f.place 0 (omega arith)) (omega arith) b))

-- the first of equal lists is one
head_same : (f g : Frame) (us vs : List Frame) → f ∷ us ≡ g ∷ vs → f ≡ g
head_same f g us vs e = cc

-- a node of the class of values that is found lies below its parent
spot_lies : (k : ℕ) (ts : Nodes) (s : Spot) (f : Frame) (us : List Frame) → Whole ts → Placed ts → class (sort_of s) ≡ value → s.ups ≡ f ∷ us → spot_at k ts ≡ Some s → (n : ℕ) × (q : List ℕ) × Lies f.place (spot_handle s) ts n q
spot_lies k ts s f us w d v u =
    let r : Frame = record { before = end; place = 0; own = record { number = 1; sort = root }; after = end } in
    cond_both (eqb 0 k) (Some (record { here = r; kids = ts; ups = [] })) (cond (ltb 0 (count k ts)) (spot_in k (r ∷ []) end ts) None) (λ y. y ≡ Some s → (n : ℕ) × (q : List ℕ) × Lies f.place (spot_handle s) ts n q)
    (λ z e. (let x : ◌≡◌ {A = List Frame} [] (f ∷ us) = ap (λ y. y.ups) (same_Some (record { here = r; kids = ts; ups = [] }) s e) ∙ u in let y : ◌≡◌ {A = ℕ} 0 1 = cc in absurd (omega arith)))
    (λ z. cond_both (ltb 0 (count k ts)) (spot_in k (r ∷ []) end ts) None (λ y. y ≡ Some s → (n : ℕ) × (q : List ℕ) × Lies f.place (spot_handle s) ts n q)
    (λ y e. go r refl (placing k (r ∷ []) end ts s w d.once v e))
    (λ y e. absurd (none-some s e)))
  where
    go : (r : Frame) → r.place ≡ 0 → Placing (spot_handle s) (r ∷ []) ts s → (n : ℕ) × (q : List ℕ) × Lies f.place (spot_handle s) ts n q
    go r z (beside e n a) = (n, [], on_top n (ap (λ y. y.place) (head_same f r us [] (sym u ∙ e)) ∙ z) a)
    go r z (lower g vs e n q b) =
        let m = (below_count g.place (spot_handle s) ts n q b).0 in
        let x : g.place ≡ f.place = ap (λ y. y.place) (head_same g f vs us (sym e ∙ u)) in (
          n,
          q,
          inside n q (cond_both (eqb f.place 0) true false (λ y. eqb f.place 0 ≡ false)
              (λ y. (let c : count g.place ts ≡ 0 = ap (λ t. count t ts) (x ∙ eqb-true f.place 0 y) ∙ d.rootless in absurd (omega arith))) (λ y. y))
              (subst (λ y. Below y (spot_handle s) ts n q) x b),
        )

-- a handle that names a spot is the handle of it
pub named_spot : (h : Handle) (ts : Nodes) (s : Spot) → named h ts ≡ Some s → (spot_at h.place ts ≡ Some s) × (s.here.own.number ≡ h.number)
named_spot h ts s = go (spot_at h.place ts) refl
  where
    go : (o : Option Spot) → spot_at h.place ts ≡ o → then o (numbered_so h.number) ≡ Some s → (spot_at h.place ts ≡ Some s) × (s.here.own.number ≡ h.number)
    go None m = λ e. absurd (none-some s e)
    go (Some t) m = cond_both (eqb t.here.own.number h.number) (Some t) None (λ y. y ≡ Some s → (spot_at h.place ts ≡ Some s) × (s.here.own.number ≡ h.number))
        (λ z e. (m ∙ e, ap (λ y. y.here.own.number) (sym (same_Some t s e)) ∙ eqb-true t.here.own.number h.number z)) (λ z e. absurd (none-some s e))

-- with its path
way_path : (n : ℕ) (q p : List ℕ) → from_root n q ≡ Some p → (n ≡ 0) × (q ≡ p)
way_path zero q p e = (refl, cc)
way_path (suc n) q p e = absurd (none-some p e)

-- a node that lies somewhere and has a path lies there
pub path_lies : (c : ℕ) (h : Handle) (ts : Nodes) (n : ℕ) (q p : List ℕ) → Placed ts → path h (parts ts) ≡ Some p → Lies c h ts n q → Lies c h ts 0 p
path_lies c h ts n q p d e a =
    let m = way_path n q p (ap path_to (sym (lies_way c h ts n q a (d.once h.place))) ∙ e) in
    subst (λ y. Lies c h ts 0 y) m.1 (subst (λ y. Lies c h ts y q) m.0 a)

-- a spot is at the place that was asked
pub spot_place : (k : ℕ) (ts : Nodes) (s : Spot) → Spotted k ts s → s.here.place ≡ k
spot_place k ts s (the_root e _ m _ _) = m ∙ sym e
spot_place k ts s (a_node e _ _) = e

-- a handle that names a value or a member lies somewhere below its parent
pub named_somewhere : (h : Handle) (ts : Nodes) (s : Spot) (f : Frame) (us : List Frame) → Whole ts → Placed ts → named h ts ≡ Some s → s.ups ≡ f ∷ us → class (sort_of s) ≡ value → (n : ℕ) × (q : List ℕ) × Lies f.place h ts n q
named_somewhere h ts s f us w d e u v =
    let m = named_spot h ts s e in
    let x : s.here.place ≡ h.place = spot_place h.place ts s (spot_found h.place ts s m.0) in
    let y : spot_handle s ≡ h = λ i. record { place = x i; number = m.1 i } in
    let z = spot_lies h.place ts s f us w d v u m.0 in
    (z.0, z.1, subst (λ a. Lies f.place a ts z.0 z.1) y z.2)

-- A handle that names a value or a member with a path lies there, below its parent.
pub named_lies : (h : Handle) (ts : Nodes) (s : Spot) (f : Frame) (us : List Frame) (p : List ℕ) → Whole ts → Placed ts → named h ts ≡ Some s → s.ups ≡ f ∷ us → class (sort_of s) ≡ value → path h (parts ts) ≡ Some p → Lies f.place h ts 0 p
named_lies h ts s f us p w d e u v r =
    let m = named_spot h ts s e in
    let x : s.here.place ≡ h.place = spot_place h.place ts s (spot_found h.place ts s m.0) in
    let y : spot_handle s ≡ h = λ i. record { place = x i; number = m.1 i } in
    let z = spot_lies h.place ts s f us w d v u m.0 in
    path_lies f.place h ts z.0 z.1 p d r (subst (λ a. Lies f.place a ts z.0 z.1) y z.2)
