-- The indents that edits write are spaces and tabs. Assumes nothing.
use Rattle.std.proofs.Common.{◌≡◌, ℕ, zero, suc, cond, eqb, ltb, List, [], ◌∷◌, Some, None, Option, refl, subst, arith}
use Rattle.std.proofs.lemmas.Bool.{cond_both}
use Rattle.std.proofs.lemmas.Option.{none-some}
use Rattle.grammar.specs.Classes.{Blank}
use Rattle.grammar.specs.Grammar.{All}
use Rattle.grammar.specs.Pieces.{Leaf, null, boolean, number, string, name, token, whitespace, newline, comment}
use Rattle.forest.specs.Forest.{end, node, count}
use Rattle.model.specs.Nodes.{Sort, root, within, single, Own, Nodes, blank, break, remark, Class, gap, mark, value, class}
use Rattle.model.specs.Asks.{Frame, Spot, spot_in, spot_at, or_else, spelt, gather, indent_at, indent_from, indent_before, indent_text, value_kids, is_value, is_root, is_property, sort_of}
use Rattle.model.specs.Indents.{Indents, two_spaces, times, rest, past_property, counts, Searched, Found, Ended, begins, compared, searched, first_indent, stepped, unfound, settled, root_indents, node_indents, indents}
use Rattle.model.specs.Fits.{Holds, Whole}
use Rattle.model.specs.Changes.{Each}
use Rattle.model.proofs.Writes.{all_append}

abbrev BlankOpt : Option (List ℕ) → Type 0
BlankOpt None = Unit {0}
BlankOpt (Some t) = All Blank t

-- a node holds what it has to
abbrev pub Held : Own → Nodes → Type 0
Held i ks = Holds i.sort ks × Whole ks

pub each_held : (ts : Nodes) → Whole ts → Each Held ts
each_held end h = tt
each_held (node p i ks ts) h = ((h.0, h.1), each_held ts h.2)

leaf_blank : (x : Leaf) → Rattle.model.specs.Fits.Spelled x → class (single x) ≡ gap blank → All Blank (spelt (single x))
leaf_blank null h e = (let z : ◌≡◌ {A = ℕ} 0 1 = cc in absurd (omega arith))
leaf_blank (boolean b) h e = (let z : ◌≡◌ {A = ℕ} 0 1 = cc in absurd (omega arith))
leaf_blank (number t) h e = (let z : ◌≡◌ {A = ℕ} 0 1 = cc in absurd (omega arith))
leaf_blank (string t) h e = (let z : ◌≡◌ {A = ℕ} 0 1 = cc in absurd (omega arith))
leaf_blank (name t) h e = (let z : ◌≡◌ {A = ℕ} 0 1 = cc in absurd (omega arith))
leaf_blank (token m) h e = (let z : ◌≡◌ {A = ℕ} 0 1 = cc in absurd (omega arith))
leaf_blank (whitespace t) h e = h
leaf_blank (newline k) h e = (let z : ◌≡◌ {A = ℕ} 0 1 = cc in absurd (omega arith))
leaf_blank (comment c) h e = (let z : ◌≡◌ {A = ℕ} 0 1 = cc in absurd (omega arith))

spelt_blank : (s : Sort) (ks : Nodes) → Holds s ks → class s ≡ gap blank → All Blank (spelt s)
spelt_blank root ks h e = absurd h
spelt_blank (within b) ks h e = (let z : ◌≡◌ {A = ℕ} 0 1 = cc in absurd (omega arith))
spelt_blank (single x) ks h e = leaf_blank x h.0 e

gather_blank : (t : List ℕ) (o : Option (List ℕ)) → All Blank t → BlankOpt o → BlankOpt (gather t o)
gather_blank t None h k = h
gather_blank t (Some u) h k = all_append t u h k

indent_blank : (o : Option (List ℕ)) (bs : Nodes) → Each Held bs → BlankOpt o → BlankOpt (indent_from o bs)
indent_blank o end h k = k
indent_blank o (node p i ks bs) h k =
    go (class i.sort) refl (λ e. indent_blank (gather (spelt i.sort) o) bs h.1 (gather_blank (spelt i.sort) o (spelt_blank i.sort ks h.0.0 e) k)) (indent_blank None bs h.1 tt)
  where
    go : (c : Class) → class i.sort ≡ c → (class i.sort ≡ gap blank → BlankOpt (indent_from (gather (spelt i.sort) o) bs)) → BlankOpt (indent_from None bs)
        → BlankOpt (indent_at c o (indent_from (gather (spelt i.sort) o) bs) (indent_from None bs))
    go (gap blank) e a b = a e
    go (gap break) e a b = k
    go (gap (remark c)) e a b = b
    go (mark m) e a b = tt
    go value e a b = tt

-- the siblings before each ancestor
abbrev pub Framed : List Frame → Type 0
Framed [] = Unit {0}
Framed (f ∷ us) = Each Held f.before × Framed us

times_blank : (n : ℕ) (t : List ℕ) → All Blank t → All Blank (times n t)
times_blank zero t h = tt
times_blank (suc n) t h = all_append t (times n t) h (times_blank n t h)

rest_blank : (a t : List ℕ) → All Blank t → BlankOpt (rest a t)
rest_blank [] t h = h
rest_blank (x ∷ a) [] h = tt
rest_blank (x ∷ a) (y ∷ t) h = cond_both (eqb x y) (rest a t) None BlankOpt (λ e. rest_blank a t h.1) (λ e. tt)

pub record Blanks (i : Indents) : Type 0 where
  pub current_is : All Blank i.current
  pub step_is : All Blank i.step

abbrev Settles : Searched → Type 0
Settles (Found i) = Blanks i
Settles (Ended n) = Unit {0}

begins_blank : (n : ℕ) (t : List ℕ) (o : Option (List ℕ)) (go : Searched) → All Blank t → BlankOpt o → Settles go → Settles (begins n t o go)
begins_blank n t (Some s) go h k g = record { current_is = all_append t (times n s) h (times_blank n s k); step_is = k }
begins_blank n t None go h k g = g

compared_blank : (n : ℕ) (a o : Option (List ℕ)) (go : Option (List ℕ) → Searched) → BlankOpt a → BlankOpt o → ((x : Option (List ℕ)) → BlankOpt x → Settles (go x)) → Settles (compared n a o go)
compared_blank n (Some a) (Some t) go h k g = begins_blank n t (rest a t) (go None) k (rest_blank a t k) (g None tt)
compared_blank n (Some a) None go h k g = g (Some a) h
compared_blank n None (Some t) go h k g = g None tt
compared_blank n None None go h k g = g None tt

searched_blank : (n : ℕ) (o : Option (List ℕ)) (us : List Frame) → BlankOpt o → Framed us → Settles (searched n o us)
searched_blank n o [] k h = tt
searched_blank n o (f ∷ us) k h =
    cond_both (is_root f.own.sort) (Ended n) (cond (counts us) (compared n (indent_before f.before) o (λ t. searched (suc n) t us)) (searched n o us)) Settles (λ e. tt)
    (λ e. cond_both (counts us) (compared n (indent_before f.before) o (λ t. searched (suc n) t us)) (searched n o us) Settles
    (λ z. compared_blank n (indent_before f.before) o (λ t. searched (suc n) t us) (indent_blank None f.before h.0 tt) k (λ x b. searched_blank (suc n) x us b h.1))
    (λ z. searched_blank n o us k h.1))

else_blank : (a b : Option (List ℕ)) → BlankOpt a → BlankOpt b → BlankOpt (or_else a b)
else_blank (Some t) b h k = h
else_blank None b h k = k

first_blank : (bs ts : Nodes) → Each Held bs → Each Held ts → BlankOpt (first_indent bs ts)
first_blank bs end h k = tt
first_blank bs (node p i ks ts) h k = else_blank (indent_before bs) (first_indent (node p i ks bs) ts) (indent_blank None bs h tt) (first_blank (node p i ks bs) ts (k.0, h) k.1)

kids_held : (ts : Nodes) → Each Held ts → Each Held (value_kids ts)
kids_held end h = tt
kids_held (node p i ks ts) h = cond_both (is_value (class i.sort)) ks (value_kids ts) (Each Held) (λ e. each_held ks h.0.1) (λ e. kids_held ts h.1)

stepped_blank : (n : ℕ) (o : Option (List ℕ)) → BlankOpt o → Blanks (stepped n o)
stepped_blank n (Some t) h = record { current_is = times_blank n t h; step_is = h }
stepped_blank n None h = record { current_is = times_blank n two_spaces (refl, (refl, tt)); step_is = (refl, (refl, tt)) }

unfound_blank : (n : ℕ) (a o : Option (List ℕ)) → BlankOpt a → BlankOpt o → Blanks (unfound n a o)
unfound_blank zero a o h k = stepped_blank 0 o k
unfound_blank (suc zero) (Some t) o h k = record { current_is = h; step_is = h }
unfound_blank (suc zero) None o h k = stepped_blank 1 o k
unfound_blank (suc (suc n)) a o h k = stepped_blank (suc (suc n)) o k

settled_blank : (x : Searched) (a o : Option (List ℕ)) → Settles x → BlankOpt a → BlankOpt o → Blanks (settled x a o)
settled_blank (Found i) a o h k m = h
settled_blank (Ended n) a o h k m = unfound_blank n a o k m

past_framed : (us : List Frame) → Framed us → Framed (past_property us)
past_framed [] h = tt
past_framed (f ∷ us) h = cond_both (is_property f.own.sort) us (f ∷ us) Framed (λ e. h.1) (λ e. h)

pub root_blank : Blanks root_indents
root_blank = record { current_is = tt; step_is = (refl, (refl, tt)) }

-- a spot whose surroundings hold what they have to
pub record Surrounded (s : Spot) : Type 0 where
  pub before_held : Each Held s.here.before
  pub ups_held : Framed s.ups

pub indents_blank : (s : Spot) (ts : Nodes) → Surrounded s → Whole ts → Blanks (indents s ts)
indents_blank s ts h w =
    let o = indent_blank None s.here.before h.before_held tt in
    cond_both (is_root (sort_of s)) root_indents (node_indents s ts) Blanks (λ e. root_blank)
    (λ e. settled_blank (searched 0 (indent_text s) (past_property s.ups)) (indent_text s) (first_indent end (value_kids ts))
    (searched_blank 0 (indent_text s) (past_property s.ups) o (past_framed s.ups h.ups_held)) o (first_blank end (value_kids ts) tt (kids_held ts (each_held ts w))))

around : (k : ℕ) (us : List Frame) (bs ts : Nodes) (s : Spot) → Framed us → Each Held bs → Each Held ts → spot_in k us bs ts ≡ Some s → Surrounded s
around k us bs end s u b h = λ e. absurd (none-some s e)
around k us bs (node p i ks ts) s u b h =
    let f : Frame = record { before = bs; place = p; own = i; after = ts } in
    cond_both (eqb p k) (Some (record { here = f; kids = ks; ups = us })) (cond (ltb 0 (count k ks)) (spot_in k (f ∷ us) end ks) (spot_in k us (node p i ks bs) ts)) (λ y. y ≡ Some s → Surrounded s)
    (λ z e. (let y : record { here = f; kids = ks; ups = us } ≡ s = cc in subst Surrounded y (record { before_held = b; ups_held = u })))
    (λ z. cond_both (ltb 0 (count k ks)) (spot_in k (f ∷ us) end ks) (spot_in k us (node p i ks bs) ts) (λ y. y ≡ Some s → Surrounded s)
    (λ y. around k (f ∷ us) end ks s (b, u) tt (each_held ks h.0.1)) (λ y. around k us (node p i ks bs) ts s u (h.0, b) h.1))

pub spot_surrounded : (k : ℕ) (ts : Nodes) (s : Spot) → Whole ts → spot_at k ts ≡ Some s → Surrounded s
spot_surrounded k ts s w =
    let f : Frame = record { before = end; place = 0; own = record { number = 1; sort = root }; after = end } in
    cond_both (eqb 0 k) (Some (record { here = f; kids = ts; ups = [] })) (cond (ltb 0 (count k ts)) (spot_in k (f ∷ []) end ts) None) (λ y. y ≡ Some s → Surrounded s)
    (λ z e. (let y : record { here = f; kids = ts; ups = [] } ≡ s = cc in subst Surrounded y (record { before_held = tt; ups_held = tt })))
    (λ z. cond_both (ltb 0 (count k ts)) (spot_in k (f ∷ []) end ts) None (λ y. y ≡ Some s → Surrounded s)
    (λ y. around k (f ∷ []) end ts s (tt, tt) tt (each_held ts w)) (λ y e. absurd (none-some s e)))
