-- A property's name: the first of its children, between its quotes. Assumes nothing.
use Rattle.std.proofs.Common.{◌≡◌, ℕ, suc, ◌-◌, Bool, true, false, cond, ◌&&◌, eqb, List, [], ◌∷◌, length, take, drop, Some, None, Option, sym, refl, ap, ◌∙◌, subst, inl, inr, arith}
use mathlib.Core.HLevel.{⊥_prop}
use mathlib.Core.Logic.{∥∥₁_elim}
use mathlib.Core.List.{is_set}
use mathlib.Core.Bool.{false≢true}
use native.Mathlib.Nat.{ℕ_set}
use Rattle.std.specs.Cmp.Lexicographic.{pointwise}
use Rattle.std.specs.List.{find as first_that}
use Rattle.std.specs.Option.{option_map, MatchOption}
use Rattle.grammar.specs.Pieces.{Token, open_array, close_array, open_object, close_object, comma, colon, null, boolean, number, string, name, token, whitespace, newline, comment, array, object, property, front, inner, name_of}
use Rattle.forest.specs.Forest.{end, node}
use Rattle.model.specs.Nodes.{Sort, root, within, single, Own, Nodes, handle, piece, pieces, class}
use Rattle.model.specs.Asks.{Frame, Spot, spot_at, sort_of, spot_handle, is_property, spelt, same_bytes, find}
use Rattle.model.specs.Fits.{of, role, takes, run, step, here, start, Ends, Fits, Holds, Whole, Document}
use Rattle.model.proofs.Prints.{no_dead}
use Rattle.tree.specs.declared.node.Node.{Node}
use Rattle.tree.specs.Trees.{kids}
use Rattle.tree.specs.Steps.{spot, rest, spots_on}
use Rattle.paths.proofs.Routes.{frame, Route, stop, down, on}
use Rattle.paths.proofs.Ordinals.{rooted}
use Rattle.paths.proofs.Grounds.{at_place}

-- BETWEEN THE QUOTES

-- all but the last
front_part : (t : List ℕ) → take (length t - 1) t ≡ front t
front_part [] = refl
front_part (b ∷ []) = refl
front_part (b ∷ c ∷ t) =
    let e : length (b ∷ c ∷ t) - 1 ≡ suc (length (c ∷ t) - 1) = omega arith in
    ap (λ n. take n (b ∷ c ∷ t)) e ∙ ap (λ y. b ∷ y) (front_part (c ∷ t))

-- all but the first and the last
pub inner_part : (t : List ℕ) → take ((length t - 1) - 1) (drop 1 t) ≡ inner t
inner_part [] = refl
inner_part (b ∷ t) =
    let e : (length (b ∷ t) - 1) - 1 ≡ length t - 1 = omega arith in
    ap (λ n. take n t) e ∙ front_part t

-- THE NAME OF A PROPERTY

-- what is reached holds what it has to
route_holds : (us : List Frame) (bs ts : Nodes) (s : Spot) → Route us bs ts s → Whole ts → Holds (sort_of s) s.kids
route_holds _ _ _ _ (stop us bs p i ks ts) w = w.0
route_holds _ _ _ _ (down us bs p i ks ts s r) w = route_holds (frame bs p i ts ∷ us) end ks s r w.1
route_holds _ _ _ _ (on us bs p i ks ts s r) w = route_holds us (node p i ks bs) ts s r w.2

-- a property has a property's children
property_fits : (k : ℕ) (ks : Nodes) (s : Spot) → Document ks → spot_at k ks ≡ Some s → within property ≡ sort_of s → Fits (of property) s.kids
property_fits k ks s doc e p =
    elim (rooted k ks s e) [
      | inl y ↦ (let z : root ≡ within property = ap (λ y. sort_of y) y ∙ sym p in let n : ◌≡◌ {A = ℕ} 0 1 = cc in absurd (omega arith))
      | inr r ↦ subst (λ y. Holds y s.kids) (sym p) (route_holds _ end ks s r doc.whole)
    ]

-- the first of which is its name
title_name : (p : ℕ) (i : Own) (us ts : Nodes) → Fits (of property) (node p i us ts) → name_of (pieces (node p i us ts)) ≡ inner (spelt i.sort)
title_name p i us ts f = go i.sort f.ends f.taken.0
  where
    tokens : (m : Token) → Ends (of property) (run (step (here start false) (class (single (token m)))) ts) → takes (of property) (role (single (token m))) ≡ true → ◌≡◌ {A = List ℕ} [] (inner (spelt (single (token m))))
    tokens open_array e t = absurd (false≢true t)
    tokens close_array e t = absurd (false≢true t)
    tokens open_object e t = absurd (false≢true t)
    tokens close_object e t = absurd (false≢true t)
    tokens comma e t = absurd (false≢true t)
    tokens colon e t = absurd (no_dead (of property) ts e)

    go : (s : Sort) → Ends (of property) (run (step (here start false) (class s)) ts) → takes (of property) (role s) ≡ true → name_of (piece s (pieces us) (pieces ts)) ≡ inner (spelt s)
    go root e t = absurd (no_dead (of property) ts e)
    go (within b) e t = absurd (no_dead (of property) ts e)
    go (single null) e t = absurd (no_dead (of property) ts e)
    go (single (boolean b)) e t = absurd (no_dead (of property) ts e)
    go (single (number x)) e t = absurd (no_dead (of property) ts e)
    go (single (string x)) e t = absurd (no_dead (of property) ts e)
    go (single (name x)) e t = refl
    go (single (token m)) e t = tokens m e t
    go (single (whitespace x)) e t = absurd (no_dead (of property) ts e)
    go (single (newline k)) e t = absurd (no_dead (of property) ts e)
    go (single (comment x)) e t = absurd (no_dead (of property) ts e)

module _ (n : Node) where
  -- what the tree says of a property's children
  fits_property : {A : Type 0} → IsProp A → within property ≡ sort_of (spot n) → (Fits (of property) (spot n).kids → A) → A
  fits_property a p f = ∥∥₁_elim n.tree.now.ok a (λ w. f (property_fits n.place (kids n.tree.now) (spot n) w.document (at_place n) p))

  -- a property's name is what its first child spells between the quotes
  pub title_is : (m : Node) → within property ≡ sort_of (spot n) → rest (Some m) ≡ (spot n).kids → name_of (pieces (spot n).kids) ≡ inner (spelt (sort_of (spot m)))
  title_is m p e =
      sym (ap (λ y. name_of (pieces y)) e)
      ∙ fits_property (is_set ℕ_set _ _) p (λ f. title_name (spot m).here.place (spot m).here.own (spot m).kids (spot m).here.after (subst (Fits (of property)) (sym e) f))

  -- and it has one: a node without children has no name
  pub untitled : (b : Bool) → rest None ≡ (spot n).kids → false ≡ (is_property (sort_of (spot n)) && b)
  untitled b e = go (sort_of (spot n)) refl
    where
      go : (s : Sort) → sort_of (spot n) ≡ s → false ≡ (is_property s && b)
      go root z = refl
      go (within array) z = refl
      go (within object) z = refl
      go (within property) z = absurd (fits_property ⊥_prop (sym z) (λ f. (subst (Fits (of property)) (sym e) f).ends))
      go (single x) z = refl

-- ITS NAME COMPARED

-- slices are compared as the bytes of two lists are
same_as : (xs ys : List ℕ) → pointwise eqb xs ys ≡ same_bytes xs ys
same_as [] [] = refl
same_as [] (y ∷ ys) = refl
same_as (x ∷ xs) [] = refl
same_as (x ∷ xs) (y ∷ ys) = ap (λ b. eqb x y && b) (same_as xs ys)

-- whether a property has this name, of what its first child says
pub named_by : (n : Node) (o : Option Node) (b : Bool) (u : List ℕ) (Post : Node → Type 0) → within property ≡ sort_of (spot n) → rest o ≡ (spot n).kids → MatchOption o (b ≡ false) Post → ((m : Node) → Post m → b ≡ pointwise eqb (inner (spelt (sort_of (spot m)))) u)
    → b ≡ (is_property (sort_of (spot n)) && same_bytes (name_of (pieces (spot n).kids)) u)
named_by n None b u Post p e m h = m ∙ untitled n _ e
named_by n (Some t) b u Post p e m h =
    h t m ∙ (same_as _ u ∙ (ap (λ y. same_bytes y u) (sym (title_is n t p e)) ∙ ap (λ s. is_property s && same_bytes (name_of (pieces (spot n).kids)) u) p))

-- the first of these siblings that has the name
pub find_on : (u : List ℕ) (us : List Frame) (bs ts : Nodes)
    → option_map spot_handle (first_that (λ s. is_property (sort_of s) && same_bytes (name_of (pieces s.kids)) u) (spots_on us bs ts)) ≡ find u ts
find_on u us bs end = refl
find_on u us bs (node p i ks ts) = go (is_property i.sort && same_bytes (name_of (pieces ks)) u) _ (find_on u us (node p i ks bs) ts)
  where
    go : (b : Bool) (o : Option Spot) → option_map spot_handle o ≡ find u ts
        → option_map spot_handle (cond b (Some (record { here = record { before = bs; place = p; own = i; after = ts }; kids = ks; ups = us })) o) ≡ cond b (Some (handle p i)) (find u ts)
    go true o e = refl
    go false o e = e
