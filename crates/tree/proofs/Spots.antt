-- Where a node stands. A spot filled in again is the whole tree, and in a tree whose places are distinct each way to fill it in is the spot of its place:
-- so a step to a neighbour, a child or the parent leads to the spot that one expects. Assumes nothing.
use Rattle.std.proofs.Common.{◌≡◌, ℕ, ◌+◌, ◌<◌, ◌≤◌, List, [], ◌∷◌, Some, None, Option, sym, refl, ap, ◌∙◌, subst, inl, inr, arith}
use Rattle.std.proofs.lemmas.Bool.{cases_eq, cases_lt}
use Rattle.forest.specs.Forest.{end, node, one, count, Distinct}
use Rattle.forest.specs.Asks.{head_of, own_in, parent_in, prev_in, next_in, first_in, index_in}
use Rattle.forest.proofs.Frames.{one_same, one_eq, one_other}
use Rattle.forest.proofs.Picks.{pick_here, pick_below, pick_after}
use Rattle.model.specs.Nodes.{Own, Nodes}
use Rattle.model.specs.Asks.{Frame, Spot, spot_in, spot_at, tree, or_given, width}
use Rattle.model.specs.Edits.{onto}
use Rattle.model.specs.State.{parent_spot}
use Rattle.tree.specs.Places.{nowhere, spot_of, Stands}
use Rattle.tree.specs.Steps.{spot_above, spots_on, spots_back, spots_up, later_spots, earlier_spots, child_spots, ancestor_spots}

-- siblings put into their frames again
abbrev pub fill : List Frame → Nodes → Nodes
fill [] ts = ts
fill (f ∷ us) ts = fill us (onto f.before (node f.place f.own ts f.after))

-- the whole tree that a node stands in
abbrev pub plug : Spot → Nodes
plug s = fill s.ups (onto s.here.before (node s.here.place s.here.own s.kids s.here.after))

count_onto : (k : ℕ) (b t : Nodes) → count k (onto b t) ≡ count k b + count k t
count_onto k end t = omega arith
count_onto k (node p i ks b) t = omega (arith, count_onto k b (node p i ks t))

count_fill : (k : ℕ) (us : List Frame) (t : Nodes) → count k t ≤ count k (fill us t)
count_fill k [] t = omega arith
count_fill k (f ∷ us) t =
    let Z : Nodes = onto f.before (node f.place f.own t f.after) in
    omega (arith, count_fill k us Z, count_onto k f.before (node f.place f.own t f.after))

-- siblings that the place is not among are passed
passed : (k : ℕ) (us : List Frame) (b t : Nodes) → count k b ≡ 0 → spot_in k us end (onto b t) ≡ spot_in k us b t
passed k us end t z = refl
passed k us (node p i ks b) t z =
    passed k us b (node p i ks t) (omega arith) ∙ pick_after k p ks _ _ _ (λ e. omega (arith, one_eq p k e)) (omega arith)

-- and so are ancestors
lifted : (k : ℕ) (us : List Frame) (t : Nodes) → 0 < count k t → count k (fill us t) ≤ 1 → spot_in k [] end (fill us t) ≡ spot_in k us end t
lifted k [] t c d = refl
lifted k (f ∷ us) t c d =
    let N : Nodes = node f.place f.own t f.after in
    let Z : Nodes = onto f.before N in
    let m : count k Z ≡ count k f.before + count k N = count_onto k f.before N in
    let l : count k Z ≤ count k (fill us Z) = count_fill k us Z in
    lifted k us Z (omega arith) d ∙ (passed k us f.before N (omega arith) ∙ pick_below k f.place t _ _ _ (λ e. omega (arith, one_eq f.place k e)) c)

-- a spot is that of its place
pub spot_plug : (s : Spot) → count s.here.place (plug s) ≤ 1 → spot_in s.here.place [] end (plug s) ≡ Some s
spot_plug s d =
    let k = s.here.place in
    let N : Nodes = node k s.here.own s.kids s.here.after in
    let Z : Nodes = onto s.here.before N in
    let m : count k Z ≡ count k s.here.before + count k N = count_onto k s.here.before N in
    let o : one k k ≡ 1 = one_same k in
    let l : count k Z ≤ count k (fill s.ups Z) = count_fill k s.ups Z in
    lifted k s.ups Z (omega arith) d ∙ (passed k s.ups s.here.before N (omega arith) ∙ pick_here k k s.kids _ _ _ refl)

-- the nearest of the ancestors
abbrev pub up_of : List Frame → Option ℕ
up_of [] = None
up_of (f ∷ us) = Some f.place

-- what the place's spot says of it
pub record Linked (k : ℕ) (us : List Frame) (bs ts : Nodes) (s : Spot) : Type 0 where
  pub whole : plug s ≡ fill us (onto bs ts)
  pub here : s.here.place ≡ k
  pub own : own_in k ts ≡ Some s.here.own
  pub next : next_in k ts ≡ head_of s.here.after
  pub prev : prev_in k (head_of bs) ts ≡ head_of s.here.before
  pub first : first_in k ts ≡ head_of s.kids
  pub up : parent_in k (up_of us) ts ≡ up_of s.ups
  pub index : index_in k (width bs) ts ≡ width s.here.before

pub linked : (k : ℕ) (us : List Frame) (bs ts : Nodes) → 0 < count k ts → (s : Spot) × (spot_in k us bs ts ≡ Some s) × Linked k us bs ts s
linked k us bs end c = absurd (omega arith)
linked k us bs (node p i ks ts) c =
    elim (cases_eq p k) [
      | inl e ↦ (
        record { here = F; kids = ks; ups = us },
        pick_here k p ks _ _ _ e,
        record { whole = refl; here = e; own = pick_here k p ks _ _ _ e; next = pick_here k p ks _ _ _ e; prev = pick_here k p ks _ _ _ e; first = pick_here k p ks _ _ _ e; up = pick_here k p ks _ _ _ e; index = pick_here k p ks _ _ _ e },
      )
      | inr d ↦ elim (cases_lt 0 (count k ks)) [
        | inl l ↦ inside d l (linked k (F ∷ us) end ks l)
        | inr l ↦ behind d (omega arith) (linked k us (node p i ks bs) ts (omega (arith, one_other p k d)))
      ]
    ]
  where
    F : Frame
    F = record { before = bs; place = p; own = i; after = ts }

    inside : (p ≡ k → ⊥) → 0 < count k ks → ((s : Spot) × (spot_in k (F ∷ us) end ks ≡ Some s) × Linked k (F ∷ us) end ks s)
        → (s : Spot) × (spot_in k us bs (node p i ks ts) ≡ Some s) × Linked k us bs (node p i ks ts) s
    inside d l (s, e, m) = (
      s,
      pick_below k p ks _ _ _ d l ∙ e,
      record {
        whole = m.whole;
        here = m.here;
        own = pick_below k p ks _ _ _ d l ∙ m.own;
        next = pick_below k p ks _ _ _ d l ∙ m.next;
        prev = pick_below k p ks _ _ _ d l ∙ m.prev;
        first = pick_below k p ks _ _ _ d l ∙ m.first;
        up = pick_below k p ks _ _ _ d l ∙ m.up;
        index = pick_below k p ks _ _ _ d l ∙ m.index;
      },
    )

    behind : (p ≡ k → ⊥) → count k ks ≡ 0 → ((s : Spot) × (spot_in k us (node p i ks bs) ts ≡ Some s) × Linked k us (node p i ks bs) ts s)
        → (s : Spot) × (spot_in k us bs (node p i ks ts) ≡ Some s) × Linked k us bs (node p i ks ts) s
    behind d z (s, e, m) = (
      s,
      pick_after k p ks _ _ _ d z ∙ e,
      record {
        whole = m.whole;
        here = m.here;
        own = pick_after k p ks _ _ _ d z ∙ m.own;
        next = pick_after k p ks _ _ _ d z ∙ m.next;
        prev = pick_after k p ks _ _ _ d z ∙ m.prev;
        first = pick_after k p ks _ _ _ d z ∙ m.first;
        up = pick_after k p ks _ _ _ d z ∙ m.up;
        index = pick_after k p ks _ _ _ d z ∙ (ap (λ n. index_in k n ts) (omega arith) ∙ m.index);
      },
    )

-- where the place does not stand there is no spot
pub no_spot : (k : ℕ) (us : List Frame) (bs ts : Nodes) → count k ts ≡ 0 → spot_in k us bs ts ≡ None
no_spot k us bs end z = refl
no_spot k us bs (node p i ks ts) z =
    pick_after k p ks _ _ _ (λ e. omega (arith, one_eq p k e)) (omega arith) ∙ no_spot k us (node p i ks bs) ts (omega arith)

-- a spot filled in again has its place
plug_stands : (s : Spot) → 0 < count s.here.place (plug s)
plug_stands s =
    let k = s.here.place in
    let N : Nodes = node k s.here.own s.kids s.here.after in
    let o : one k k ≡ 1 = one_same k in
    omega (arith, count_onto k s.here.before N, count_fill k s.ups (onto s.here.before N))

-- the neighbouring spots
abbrev pub afterwards : Spot → ℕ → Own → Nodes → Nodes → Spot
afterwards s q i js r = record {
  here = record { before = node s.here.place s.here.own s.kids s.here.before; place = q; own = i; after = r };
  kids = js;
  ups = s.ups;
}

abbrev pub backwards : Spot → ℕ → Own → Nodes → Nodes → Spot
backwards s q i js b = record {
  here = record { before = b; place = q; own = i; after = node s.here.place s.here.own s.kids s.here.after };
  kids = js;
  ups = s.ups;
}

abbrev pub inwards : Spot → ℕ → Own → Nodes → Nodes → Spot
inwards s q i js r = record {
  here = record { before = end; place = q; own = i; after = r };
  kids = js;
  ups = s.here ∷ s.ups;
}

-- a step leads nowhere, or to a node
abbrev pub Leads : Option ℕ → Nodes → Type 0
Leads None ks = Unit {0}
Leads (Some k) ks = Stands k ks

-- what stands where a step leads: read by v, and e where it leads nowhere
abbrev pub led : {A : Type 0} → (Spot → A) → A → Option ℕ → Nodes → A
led v e None ks = e
led v e (Some k) ks = v (spot_of k ks)

-- the node with its siblings after it, and before it
abbrev pub from : Spot → Nodes
from s = node s.here.place s.here.own s.kids s.here.after

abbrev pub back_from : Spot → Nodes
back_from s = node s.here.place s.here.own s.kids s.here.before

-- what a step leads to: siblings in one or the other direction, as nodes and as spots
abbrev pub Reached : (Spot → Nodes) → (Spot → List Spot) → Option ℕ → Nodes → Nodes → List Spot → Type 0
Reached v l x ks ts ss = Leads x ks × (led v end x ks ≡ ts) × (led (λ s. s ∷ l s) [] x ks ≡ ss)

-- a step leads to the parent of the node at s
abbrev pub Risen : Option ℕ → Nodes → Spot → Type 0
Risen x ks s = Leads x ks × (led Some None x ks ≡ spot_above s s.ups) × (led (λ u. u ∷ ancestor_spots u) [] x ks ≡ ancestor_spots s)

-- each of the spots is that of the node at its place
abbrev pub There : Nodes → List Spot → Type 0
There ks [] = Unit {0}
There ks (s ∷ ss) = Stands s.here.place ks × (spot_of s.here.place ks ≡ s) × There ks ss

-- In a document whose places are distinct.
module _ (ks : Nodes) (d : Distinct (tree ks)) where
  -- a way to fill in the tree is the spot of its place
  pub spot_is : (s : Spot) → plug s ≡ tree ks → Stands s.here.place ks × (spot_of s.here.place ks ≡ s)
  unfolding spot_of
  spot_is s e = (
    subst (λ y. 0 < count s.here.place y) e (plug_stands s),
    ap (λ o. or_given o nowhere) (subst (λ y. spot_in s.here.place [] end y ≡ Some s) e (spot_plug s (subst (λ y. count s.here.place y ≤ 1) (sym e) (d s.here.place)))),
  )

  -- and so are the spots of siblings: each is that of its place
  pub spots_there : (us : List Frame) (bs ts : Nodes) → fill us (onto bs ts) ≡ tree ks → There ks (spots_on us bs ts)
  spots_there us bs end e = tt
  spots_there us bs (node p i js ts) e = (let m = spot_is (record { here = record { before = bs; place = p; own = i; after = ts }; kids = js; ups = us }) e in (m.0, m.1, spots_there us (node p i js bs) ts e))

  module _ (k : ℕ) (c : Stands k ks) where
    spot_all : (spot_at k ks ≡ Some (spot_of k ks)) × Linked k [] end (tree ks) (spot_of k ks)
    unfolding spot_of
    spot_all = go (linked k [] end (tree ks) c)
      where
        go : ((s : Spot) × (spot_in k [] end (tree ks) ≡ Some s) × Linked k [] end (tree ks) s)
            → (spot_at k ks ≡ Some (or_given (spot_at k ks) nowhere)) × Linked k [] end (tree ks) (or_given (spot_at k ks) nowhere)
        go (s, e, m) =
            let z : or_given (spot_at k ks) nowhere ≡ s = ap (λ o. or_given o nowhere) e in
            (e ∙ ap Some (sym z), subst (Linked k [] end (tree ks)) (sym z) m)

    pub spot_stands : spot_at k ks ≡ Some (spot_of k ks)
    spot_stands = spot_all.0

    pub spot_links : Linked k [] end (tree ks) (spot_of k ks)
    spot_links = spot_all.1

    -- what stands after it, before it and below it is found again
    pub rest_after : (x : Option ℕ) → x ≡ head_of (spot_of k ks).here.after → Reached from later_spots x ks (spot_of k ks).here.after (later_spots (spot_of k ks))
    rest_after x e = go (spot_of k ks).here.after refl e
      where
        go : (a : Nodes) → (spot_of k ks).here.after ≡ a → x ≡ head_of a → Reached from later_spots x ks (spot_of k ks).here.after (later_spots (spot_of k ks))
        go end z y = subst (λ u. Reached from later_spots u ks (spot_of k ks).here.after (later_spots (spot_of k ks))) (sym y) (tt, sym z, sym (ap (λ a. spots_on (spot_of k ks).ups (node (spot_of k ks).here.place (spot_of k ks).here.own (spot_of k ks).kids (spot_of k ks).here.before) a) z))
        go (node q i js r) z y =
            let s : Spot = spot_of k ks in
            let m : Stands q ks × (spot_of q ks ≡ afterwards s q i js r) =
            spot_is (afterwards s q i js r) (ap (λ a. fill s.ups (onto s.here.before (node s.here.place s.here.own s.kids a))) (sym z) ∙ spot_links.whole) in
            subst (λ u. Reached from later_spots u ks (spot_of k ks).here.after (later_spots (spot_of k ks))) (sym y)
            (m.0, ap from m.1 ∙ sym z, ap (λ u. u ∷ later_spots u) m.1 ∙ sym (ap (λ a. spots_on (spot_of k ks).ups (node (spot_of k ks).here.place (spot_of k ks).here.own (spot_of k ks).kids (spot_of k ks).here.before) a) z))

    pub back_before : (x : Option ℕ) → x ≡ head_of (spot_of k ks).here.before → Reached back_from earlier_spots x ks (spot_of k ks).here.before (earlier_spots (spot_of k ks))
    back_before x e = go (spot_of k ks).here.before refl e
      where
        go : (a : Nodes) → (spot_of k ks).here.before ≡ a → x ≡ head_of a → Reached back_from earlier_spots x ks (spot_of k ks).here.before (earlier_spots (spot_of k ks))
        go end z y = subst (λ u. Reached back_from earlier_spots u ks (spot_of k ks).here.before (earlier_spots (spot_of k ks))) (sym y) (tt, sym z, sym (ap (λ a. spots_back (spot_of k ks).ups (node (spot_of k ks).here.place (spot_of k ks).here.own (spot_of k ks).kids (spot_of k ks).here.after) a) z))
        go (node q i js r) z y =
            let s : Spot = spot_of k ks in
            let m : Stands q ks × (spot_of q ks ≡ backwards s q i js r) =
            spot_is (backwards s q i js r) (ap (λ b. fill s.ups (onto b (node s.here.place s.here.own s.kids s.here.after))) (sym z) ∙ spot_links.whole) in
            subst (λ u. Reached back_from earlier_spots u ks (spot_of k ks).here.before (earlier_spots (spot_of k ks))) (sym y)
            (m.0, ap back_from m.1 ∙ sym z, ap (λ u. u ∷ earlier_spots u) m.1 ∙ sym (ap (λ a. spots_back (spot_of k ks).ups (node (spot_of k ks).here.place (spot_of k ks).here.own (spot_of k ks).kids (spot_of k ks).here.after) a) z))

    pub rest_kids : (x : Option ℕ) → x ≡ head_of (spot_of k ks).kids → Reached from later_spots x ks (spot_of k ks).kids (child_spots (spot_of k ks))
    rest_kids x e = go (spot_of k ks).kids refl e
      where
        go : (a : Nodes) → (spot_of k ks).kids ≡ a → x ≡ head_of a → Reached from later_spots x ks (spot_of k ks).kids (child_spots (spot_of k ks))
        go end z y = subst (λ u. Reached from later_spots u ks (spot_of k ks).kids (child_spots (spot_of k ks))) (sym y) (tt, sym z, sym (ap (λ a. spots_on ((spot_of k ks).here ∷ (spot_of k ks).ups) end a) z))
        go (node q i js r) z y =
            let s : Spot = spot_of k ks in
            let m : Stands q ks × (spot_of q ks ≡ inwards s q i js r) =
            spot_is (inwards s q i js r) (ap (λ a. fill s.ups (onto s.here.before (node s.here.place s.here.own a s.here.after))) (sym z) ∙ spot_links.whole) in
            subst (λ u. Reached from later_spots u ks (spot_of k ks).kids (child_spots (spot_of k ks))) (sym y)
            (m.0, ap from m.1 ∙ sym z, ap (λ u. u ∷ later_spots u) m.1 ∙ sym (ap (λ a. spots_on ((spot_of k ks).here ∷ (spot_of k ks).ups) end a) z))

    -- and so is its parent
    pub up_parent : (x : Option ℕ) → x ≡ up_of (spot_of k ks).ups → Risen x ks (spot_of k ks)
    up_parent x e = go (spot_of k ks).ups refl e
      where
        go : (us : List Frame) → (spot_of k ks).ups ≡ us → x ≡ up_of us → Risen x ks (spot_of k ks)
        go [] z y = subst (λ u. Risen u ks (spot_of k ks)) (sym y) (tt, sym (ap (spot_above (spot_of k ks)) z), sym (ap (spots_up (spot_of k ks)) z))
        go (f ∷ us) z y =
            let s : Spot = spot_of k ks in
            let m : Stands f.place ks × (spot_of f.place ks ≡ parent_spot s f us) =
            spot_is (parent_spot s f us) (ap (λ v. fill v (onto s.here.before (node s.here.place s.here.own s.kids s.here.after))) (sym z) ∙ spot_links.whole) in
            subst (λ u. Risen u ks (spot_of k ks)) (sym y) (m.0, ap Some m.1 ∙ sym (ap (spot_above s) z), ap (λ u. u ∷ ancestor_spots u) m.1 ∙ sym (ap (spots_up s) z))
