-- Siblings as a list of spots: what the consumers of a walk count and find in the list is what the definitions find among the siblings. Assumes nothing.
use Rattle.std.proofs.Common.{◌≡◌, ℕ, zero, suc, ◌+◌, Bool, true, false, cond, not, ◌||◌, List, [], ◌∷◌, length, map, Some, None, Option, sym, refl, ap, ◌∙◌, arith}
use Rattle.std.specs.List.{slice_get, filter, list_any, find, last_or}
use Rattle.std.specs.Iterator.{Drains}
use Rattle.std.proofs.lemmas.Iterator.{YieldsList, items_from_drains}
use Rattle.std.specs.Option.{option_map, MatchOption, IsSomeAnd}
use Rattle.grammar.specs.Layout as said
use Rattle.forest.specs.Forest.{end, node}
use Rattle.model.specs.Nodes.{Handle, Nodes, Class, gap, mark, value, class}
use Rattle.model.specs.Asks.{Frame, Spot, sort_of, spot_handle, first_handle, any, tally, width, child_at, is_comma, is_gap, is_value, value_in, comma_at, trailing, then, or_else, last_at, behind_last}
use Rattle.model.specs.State.{parent_spot}
use Rattle.tree.specs.declared.node.Node.{Node}
use Rattle.tree.specs.declared.walks.Onward.{Onward}
use Rattle.tree.specs.declared.walks.Onward.TheVariants.{Into, Past}
use Rattle.tree.specs.declared.walks.Siblings.{Siblings}
use Rattle.tree.specs.declared.walks.Preceding.{Preceding}
use Rattle.tree.specs.Steps.{spot, rest, back, spots_on, spots_back, spots_up, child_spots, earlier_spots}
use Rattle.tree.specs.Walks.{spots_from, nodes_from, siblings_left, nodes_left, preceding_left, before_left}

-- as many as there are
pub length_on : (us : List Frame) (bs ts : Nodes) → length (spots_on us bs ts) ≡ width ts
length_on us bs end = refl
length_on us bs (node p i ks ts) = ap suc (length_on us (node p i ks bs) ts)

pub length_back : (us : List Frame) (ts bs : Nodes) → length (spots_back us ts bs) ≡ width bs
length_back us ts end = refl
length_back us ts (node p i ks bs) = ap suc (length_back us (node p i ks ts) bs)

pub length_up : (s : Spot) (us : List Frame) → length (spots_up s us) ≡ length us
length_up s [] = refl
length_up s (f ∷ us) = ap suc (length_up (parent_spot s f us) us)

-- those of a class, counted
tally_more : (b : Bool) (x : Spot) (xs : List Spot) (n : ℕ) → length xs ≡ n → length (cond b (x ∷ xs) xs) ≡ cond b 1 0 + n
tally_more true x xs n e = omega arith
tally_more false x xs n e = omega arith

pub tally_on : (f : Class → Bool) (us : List Frame) (bs ts : Nodes) → length (filter (λ s. f (class (sort_of s))) (spots_on us bs ts)) ≡ tally f ts
tally_on f us bs end = refl
tally_on f us bs (node p i ks ts) = tally_more (f (class i.sort)) _ _ (tally f ts) (tally_on f us (node p i ks bs) ts)

pub tally_back : (f : Class → Bool) (us : List Frame) (ts bs : Nodes) → length (filter (λ s. f (class (sort_of s))) (spots_back us ts bs)) ≡ tally f bs
tally_back f us ts end = refl
tally_back f us ts (node p i ks bs) = tally_more (f (class i.sort)) _ _ (tally f bs) (tally_back f us (node p i ks ts) bs)

-- whether there is one of a class
pub any_on : (f : Class → Bool) (us : List Frame) (bs ts : Nodes) → list_any (λ s. f (class (sort_of s))) (spots_on us bs ts) ≡ any f ts
any_on f us bs end = refl
any_on f us bs (node p i ks ts) = ap (λ b. f (class i.sort) || b) (any_on f us (node p i ks bs) ts)

-- the one of an index
pub child_at_on : (n : ℕ) (us : List Frame) (bs ts : Nodes) → option_map spot_handle (slice_get (spots_on us bs ts) n) ≡ child_at n ts
child_at_on n us bs end = refl
child_at_on zero us bs (node p i ks ts) = refl
child_at_on (suc n) us bs (node p i ks ts) = child_at_on n us (node p i ks bs) ts

-- the first value or member
pub value_in_on : (us : List Frame) (bs ts : Nodes) → option_map spot_handle (find (λ s. is_value (class (sort_of s))) (spots_on us bs ts)) ≡ value_in ts
value_in_on us bs end = refl
value_in_on us bs (node p i ks ts) = go (is_value (class i.sort)) _ (value_in_on us (node p i ks bs) ts)
  where
    go : (b : Bool) (o : Option Spot) → option_map spot_handle o ≡ value_in ts
        → option_map spot_handle (cond b (Some (record { here = record { before = bs; place = p; own = i; after = ts }; kids = ks; ups = us })) o) ≡ cond b (Some (record { place = p; number = i.number })) (value_in ts)
    go true o e = refl
    go false o e = e

-- what stands behind the last value or member
behind_more : (o : Option Nodes) (ts : Nodes) (x : Option Nodes) → or_else o (Some ts) ≡ or_else (or_else o (Some ts)) x
behind_more None ts x = refl
behind_more (Some us) ts x = refl

behind_last_from : (us : List Frame) (o : Option Spot) (bs ts : Nodes)
    → option_map (λ s. s.here.after) (last_or o (filter (λ s. is_value (class (sort_of s))) (spots_on us bs ts))) ≡ or_else (behind_last ts) (option_map (λ s. s.here.after) o)
behind_last_from us o bs end = refl
behind_last_from us o bs (node p i ks ts) = go (class i.sort) (λ y. behind_last_from us y (node p i ks bs) ts)
  where
    x : Spot
    x = record { here = record { before = bs; place = p; own = i; after = ts }; kids = ks; ups = us }

    xs : List Spot
    xs = filter (λ s. is_value (class (sort_of s))) (spots_on us (node p i ks bs) ts)

    go : (c : Class) → ((y : Option Spot) → option_map (λ s. s.here.after) (last_or y xs) ≡ or_else (behind_last ts) (option_map (λ s. s.here.after) y))
        → option_map (λ s. s.here.after) (last_or o (cond (is_value c) (x ∷ xs) xs)) ≡ or_else (last_at c (behind_last ts) ts) (option_map (λ s. s.here.after) o)
    go (gap g) h = h o
    go (mark m) h = h o
    go value h = h (Some x) ∙ behind_more (behind_last ts) ts _

pub behind_last_on : (us : List Frame) (bs ts : Nodes) → option_map (λ s. s.here.after) (last_or None (filter (λ s. is_value (class (sort_of s))) (spots_on us bs ts))) ≡ behind_last ts
behind_last_on us bs ts = behind_last_from us None bs ts ∙ none (behind_last ts)
  where
    none : (o : Option Nodes) → or_else o None ≡ o
    none None = refl
    none (Some us) = refl

-- the first sibling that is no trivia, if it is a comma
abbrev pub comma_of : Spot → Option Handle
comma_of s = cond (is_comma (class (sort_of s))) (Some (spot_handle s)) None

pub trailing_on : (us : List Frame) (bs ts : Nodes) → then (find (λ s. not (is_gap (class (sort_of s)))) (spots_on us bs ts)) comma_of ≡ trailing ts
trailing_on us bs end = refl
trailing_on us bs (node p i ks ts) = go (class i.sort) refl (trailing_on us (node p i ks bs) ts)
  where
    x : Spot
    x = record { here = record { before = bs; place = p; own = i; after = ts }; kids = ks; ups = us }

    later : Option Spot
    later = find (λ s. not (is_gap (class (sort_of s)))) (spots_on us (node p i ks bs) ts)

    go : (c : Class) → class i.sort ≡ c → then later comma_of ≡ trailing ts → then (cond (not (is_gap c)) (Some x) later) comma_of ≡ comma_at c (spot_handle x) (trailing ts)
    go (gap g) e h = h
    go (mark said.Open) e h = ap (λ (c : Class). cond (is_comma c) (Some (spot_handle x)) None) e
    go (mark said.Close) e h = ap (λ (c : Class). cond (is_comma c) (Some (spot_handle x)) None) e
    go (mark said.Comma) e h = ap (λ (c : Class). cond (is_comma c) (Some (spot_handle x)) None) e
    go (mark said.Colon) e h = ap (λ (c : Class). cond (is_comma c) (Some (spot_handle x)) None) e
    go (mark said.Name) e h = ap (λ (c : Class). cond (is_comma c) (Some (spot_handle x)) None) e
    go value e h = ap (λ (c : Class). cond (is_comma c) (Some (spot_handle x)) None) e

-- the last that a walk gave
last_mapped : {A B : Type 0} (v : A → B) (o : Option A) (xs : List A) → option_map v (last_or o xs) ≡ last_or (option_map v o) (map v xs)
last_mapped v o [] = refl
last_mapped v o (x ∷ xs) = last_mapped v (Some x) xs

pub last_gives : {S A B : Type 0} {steps : S → Option A → S → Type 0} {v : A → B} {s : S} {all : List B} (r : Option A)
    → ((xs : List A) × Drains steps s xs × (r ≡ last_or None xs)) → YieldsList steps v s all → option_map v r ≡ last_or None all
last_gives {v = v} r (xs, (u, (t, y, z)), e) k = ap (option_map v) e ∙ (last_mapped v None xs ∙ ap (last_or None) (items_from_drains xs (t, y, λ _. (u, z)) k))

-- what a closure made of the node that was found
pub mapped : {B C : Type 0} (Post : Node → B → Type 0) (w : B → C) (f : Spot → C) (o : Option Node) (r : Option B)
    → MatchOption o (r ≡ None) (λ n. IsSomeAnd r (Post n)) → ((n : Node) (y : B) → Post n y → w y ≡ f (spot n)) → option_map w r ≡ option_map f (option_map spot o)
mapped Post w f None r m h = ap (option_map w) m
mapped Post w f (Some n) None m h = absurd m
mapped Post w f (Some n) (Some y) m h = ap Some (h n y m)

-- the handle of the node that a step leads to
pub first_on : (o : Option Node) → option_map spot_handle (option_map spot o) ≡ first_handle (rest o)
first_on None = refl
first_on (Some n) = refl

pub first_back : (o : Option Node) → option_map spot_handle (option_map spot o) ≡ first_handle (back o)
first_back None = refl
first_back (Some n) = refl

-- equal lists of spots have equal siblings
same_on : (us : List Frame) (bs ts : Nodes) (vs : List Frame) (cs rs : Nodes) → spots_on us bs ts ≡ spots_on vs cs rs → ts ≡ rs
same_on us bs end vs cs end e = refl
same_on us bs end vs cs (node q j ls rs) e = let z : ◌≡◌ {A = ℕ} 0 1 = cc in absurd (omega arith)
same_on us bs (node p i ks ts) vs cs end e = let z : ◌≡◌ {A = ℕ} 0 1 = cc in absurd (omega arith)
same_on us bs (node p i ks ts) vs cs (node q j ls rs) e =
    let z : ◌≡◌ {A = Spot} (record { here = record { before = bs; place = p; own = i; after = ts }; kids = ks; ups = us }) (record { here = record { before = cs; place = q; own = j; after = rs }; kids = ls; ups = vs }) = cc in
    ap (λ s. node s.here.place s.here.own s.kids s.here.after) z

same_back : (us : List Frame) (ts bs : Nodes) (vs : List Frame) (rs cs : Nodes) → spots_back us ts bs ≡ spots_back vs rs cs → bs ≡ cs
same_back us ts end vs rs end e = refl
same_back us ts end vs rs (node q j ls cs) e = let z : ◌≡◌ {A = ℕ} 0 1 = cc in absurd (omega arith)
same_back us ts (node p i ks bs) vs rs end e = let z : ◌≡◌ {A = ℕ} 0 1 = cc in absurd (omega arith)
same_back us ts (node p i ks bs) vs rs (node q j ls cs) e =
    let z : ◌≡◌ {A = Spot} (record { here = record { before = bs; place = p; own = i; after = ts }; kids = ks; ups = us }) (record { here = record { before = cs; place = q; own = j; after = rs }; kids = ls; ups = vs }) = cc in
    ap (λ s. node s.here.place s.here.own s.kids s.here.before) z

-- what is left as spots is what is left as siblings
seen_on : (f : Onward) → (us : List Frame) × (bs : Nodes) × (spots_from f ≡ spots_on us bs (nodes_from f))
seen_on (Into n) = ((spot n).here ∷ (spot n).ups, end, refl)
seen_on (Past n) = ((spot n).ups, node (spot n).here.place (spot n).here.own (spot n).kids (spot n).here.before, refl)

pub rest_is : (w : Siblings) (us : List Frame) (bs ts : Nodes) → siblings_left w ≡ spots_on us bs ts → nodes_left w ≡ ts
rest_is w us bs ts e = let q = seen_on w.from in same_on q.0 q.1 (nodes_left w) us bs ts (sym q.2 ∙ e)

-- a loop over a node's children, or over the siblings before it, begins with all of them
pub begin_on : (w v : Siblings) (s : Spot) → w ≡ v → siblings_left v ≡ child_spots s → nodes_left w ≡ s.kids
begin_on w v s e l = rest_is w (s.here ∷ s.ups) end s.kids (ap siblings_left e ∙ l)

pub begin_back : (w v : Preceding) (s : Spot) → w ≡ v → preceding_left v ≡ earlier_spots s → before_left w ≡ s.here.before
begin_back w v s e l =
    same_back (spot w.at).ups (node (spot w.at).here.place (spot w.at).here.own (spot w.at).kids (spot w.at).here.after) (before_left w)
    s.ups (node s.here.place s.here.own s.kids s.here.after) s.here.before (ap preceding_left e ∙ l)

-- a turn of a loop: the node that came, with what is left behind it
turned_on : (us : List Frame) (bs ts : Nodes) (s : Spot) (vs : List Frame) (cs rs : Nodes) → spots_on us bs ts ≡ s ∷ spots_on vs cs rs → ts ≡ node s.here.place s.here.own s.kids rs
turned_on us bs end s vs cs rs e = let z : ◌≡◌ {A = ℕ} 0 1 = cc in absurd (omega arith)
turned_on us bs (node p i ks ts) s vs cs rs e =
    let z : record { here = record { before = bs; place = p; own = i; after = ts }; kids = ks; ups = us } ≡ s = cc in
    let w : spots_on us (node p i ks bs) ts ≡ spots_on vs cs rs = cc in
    ap (λ y. node p i ks y) (same_on us (node p i ks bs) ts vs cs rs w) ∙ ap (λ s. node s.here.place s.here.own s.kids rs) z

pub turn_on : (a b : Siblings) (n : Node) → siblings_left a ≡ spot n ∷ siblings_left b
    → nodes_left a ≡ node (spot n).here.place (spot n).here.own (spot n).kids (nodes_left b)
turn_on a b n e =
    let q = seen_on a.from in
    let r = seen_on b.from in
    turned_on q.0 q.1 (nodes_left a) (spot n) r.0 r.1 (nodes_left b) (sym q.2 ∙ (e ∙ ap (λ ys. spot n ∷ ys) r.2))

turned_back : (us : List Frame) (ts bs : Nodes) (s : Spot) (vs : List Frame) (rs cs : Nodes) → spots_back us ts bs ≡ s ∷ spots_back vs rs cs
    → (bs ≡ node s.here.place s.here.own s.kids cs) × (s.here.before ≡ cs)
turned_back us ts end s vs rs cs e = let z : ◌≡◌ {A = ℕ} 0 1 = cc in absurd (omega arith)
turned_back us ts (node p i ks bs) s vs rs cs e =
    let z : record { here = record { before = bs; place = p; own = i; after = ts }; kids = ks; ups = us } ≡ s = cc in
    let w : spots_back us (node p i ks ts) bs ≡ spots_back vs rs cs = cc in
    let l = same_back us (node p i ks ts) bs vs rs cs w in
    (ap (λ y. node p i ks y) l ∙ ap (λ s. node s.here.place s.here.own s.kids cs) z, ap (λ s. s.here.before) (sym z) ∙ l)

module _ (a b : Preceding) (n : Node) (e : preceding_left a ≡ spot n ∷ preceding_left b) where
  turns : (before_left a ≡ node (spot n).here.place (spot n).here.own (spot n).kids (before_left b)) × ((spot n).here.before ≡ before_left b)
  turns =
      let s = spot a.at in
      let t = spot b.at in
      turned_back s.ups (node s.here.place s.here.own s.kids s.here.after) s.here.before (spot n) t.ups (node t.here.place t.here.own t.kids t.here.after) t.here.before e

  pub turn_back : before_left a ≡ node (spot n).here.place (spot n).here.own (spot n).kids (before_left b)
  turn_back = turns.0

  -- what is left stands before the node that came
  pub left_back : (spot n).here.before ≡ before_left b
  left_back = turns.1

-- nothing is left
emptied_on : (us : List Frame) (bs ts : Nodes) → spots_on us bs ts ≡ [] → ts ≡ end
emptied_on us bs end e = refl
emptied_on us bs (node p i ks ts) e = let z : ◌≡◌ {A = ℕ} 0 1 = cc in absurd (omega arith)

pub none_on : (a : Siblings) → siblings_left a ≡ [] → nodes_left a ≡ end
none_on a e = let q = seen_on a.from in emptied_on q.0 q.1 (nodes_left a) (sym q.2 ∙ e)

emptied_back : (us : List Frame) (ts bs : Nodes) → spots_back us ts bs ≡ [] → bs ≡ end
emptied_back us ts end e = refl
emptied_back us ts (node p i ks bs) e = let z : ◌≡◌ {A = ℕ} 0 1 = cc in absurd (omega arith)

pub none_back : (a : Preceding) → preceding_left a ≡ [] → before_left a ≡ end
none_back a e = let s = spot a.at in emptied_back s.ups (node s.here.place s.here.own s.kids s.here.after) s.here.before e
