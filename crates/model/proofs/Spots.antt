-- Where a node is found: its data and children, its parent, and that there is no other. Assumes nothing.
use Rattle.std.proofs.Common.{◌≡◌, ℕ, false, cond, eqb, ltb, ◌⊎◌, List, [], ◌∷◌, Some, None, sym, refl, ap, ◌∙◌, subst, inl, inr, arith}
use Rattle.std.proofs.lemmas.Bool.{cond_both, eqb-true}
use Rattle.std.proofs.lemmas.Option.{same_Some, none-some}
use Rattle.grammar.specs.Pieces.{Box}
use Rattle.forest.specs.Forest.{end, node, count}
use Rattle.model.specs.Nodes.{Sort, root, within, single, Own, Nodes, value, class}
use Rattle.model.specs.Asks.{Frame, Spot, spot_in, spot_at}
use Rattle.model.specs.Fits.{of, title, element, role, takes, Holds, Whole}
use Rattle.model.specs.Changes.{At, Placed, IsBracketed, IsContainer, IsItem, IsElement}
use Rattle.model.proofs.Edited.{at_count, at_once}

-- where a node is found, and below which parent; us are the ancestors of the forest
record Found (k : ℕ) (us : List Frame) (ts : Nodes) (s : Spot) : Type 0 where
  here_is : s.here.place ≡ k
  stands : At k s.here.own s.kids ts
  under : (s.ups ≡ us) ⊎ ((f : Frame) × (vs : List Frame) × (ks : Nodes) × (s.ups ≡ f ∷ vs) × At f.place f.own ks ts × At k s.here.own s.kids ks)

found : (k : ℕ) (us : List Frame) (bs ts : Nodes) (s : Spot) → spot_in k us bs ts ≡ Some s → Found k us ts s
found k us bs end s = λ e. absurd (none-some s e)
found k us bs (node p i ks ts) s =
    let f : Frame = record { before = bs; place = p; own = i; after = ts } in
    cond_both (eqb p k) (Some (record { here = f; kids = ks; ups = us })) (cond (ltb 0 (count k ks)) (spot_in k (f ∷ us) end ks) (spot_in k us (node p i ks bs) ts)) (λ y. y ≡ Some s → Found k us (node p i ks ts) s)
    (λ z e. subst (Found k us (node p i ks ts)) (same_Some (record { here = f; kids = ks; ups = us }) s e)
    (record { here_is = eqb-true p k z; stands = inl (eqb-true p k z, refl, refl); under = inl refl }))
    (λ z. cond_both (ltb 0 (count k ks)) (spot_in k (f ∷ us) end ks) (spot_in k us (node p i ks bs) ts) (λ y. y ≡ Some s → Found k us (node p i ks ts) s)
    (λ y e. (let m = found k (f ∷ us) end ks s e in record { here_is = m.here_is; stands = inr (inl m.stands); under = below f m.stands m.under }))
    (λ y e. (let m = found k us (node p i ks bs) ts s e in record { here_is = m.here_is; stands = inr (inr m.stands); under = after m.under })))
  where
    below : (f : Frame) → At k s.here.own s.kids ks
        → (s.ups ≡ record { before = bs; place = p; own = i; after = ts } ∷ us) ⊎ ((g : Frame) × (vs : List Frame) × (ls : Nodes) × (s.ups ≡ g ∷ vs) × At g.place g.own ls ks × At k s.here.own s.kids ls)
        → (s.ups ≡ us) ⊎ ((g : Frame) × (vs : List Frame) × (ls : Nodes) × (s.ups ≡ g ∷ vs) × At g.place g.own ls (node p i ks ts) × At k s.here.own s.kids ls)
    below f a (inl e) = inr (record { before = bs; place = p; own = i; after = ts }, us, ks, e, inl (refl, refl, refl), a)
    below f a (inr (g, vs, ls, e, b, c)) = inr (g, vs, ls, e, inr (inl b), c)

    after : (s.ups ≡ us) ⊎ ((g : Frame) × (vs : List Frame) × (ls : Nodes) × (s.ups ≡ g ∷ vs) × At g.place g.own ls ts × At k s.here.own s.kids ls)
        → (s.ups ≡ us) ⊎ ((g : Frame) × (vs : List Frame) × (ls : Nodes) × (s.ups ≡ g ∷ vs) × At g.place g.own ls (node p i ks ts) × At k s.here.own s.kids ls)
    after (inl e) = inl e
    after (inr (g, vs, ls, e, b, c)) = inr (g, vs, ls, e, inr (inr b), c)

-- what holds of a node holds of whatever stands at its place
module _ (ts : Nodes) (d : Placed ts) where
  pub item_of : (k : ℕ) (i : Own) (ks : Nodes) → At k i ks ts → class i.sort ≡ value → IsItem k ts
  item_of k i ks a v j us b = ap (λ y. class y.sort) (sym (at_once k i j ks us ts (d.once k) a b).0) ∙ v

  pub element_of : (k : ℕ) (i : Own) (ks : Nodes) → At k i ks ts → class i.sort ≡ value → role i.sort ≡ element → IsElement k ts
  element_of k i ks a v r j us b = (let e = (at_once k i j ks us ts (d.once k) a b).0 in (ap (λ y. class y.sort) (sym e) ∙ v, ap (λ y. role y.sort) (sym e) ∙ r))

  pub container_of : (c : ℕ) (i : Own) (ks : Nodes) (b : Box) → At c i ks ts → i.sort ≡ within b → IsContainer c ts
  container_of c i ks b a e j us z = (b, ap (λ y. y.sort) (sym (at_once c i j ks us ts (d.once c) a z).0) ∙ e)

  pub bracketed_of : (c : ℕ) (i : Own) (ks : Nodes) (b : Box) → At c i ks ts → i.sort ≡ within b → takes (of b) title ≡ false → IsBracketed c ts
  bracketed_of c i ks b a e n j us z = (b, ap (λ y. y.sort) (sym (at_once c i j ks us ts (d.once c) a z).0) ∙ e, n)

  -- nothing stands at the root's place
  pub root_bracketed : IsBracketed 0 ts
  root_bracketed j us z = (let h = at_count 0 j us ts z in let e = d.rootless in absurd (omega arith))

  pub root_container : IsContainer 0 ts
  root_container j us z = (let h = at_count 0 j us ts z in let e = d.rootless in absurd (omega arith))

-- a node holds what it has to
pub holds_at : (c : ℕ) (j : Own) (ks ts : Nodes) → At c j ks ts → Whole ts → Holds j.sort ks
holds_at c j ks end a w = absurd a
holds_at c j ks (node p o vs ts) (inl a) w = subst (λ y. Holds j.sort y) a.2 (subst (λ y. Holds y.sort vs) a.1 w.0)
holds_at c j ks (node p o vs ts) (inr (inl a)) w = holds_at c j ks vs a w.1
holds_at c j ks (node p o vs ts) (inr (inr a)) w = holds_at c j ks ts a w.2

-- a node with a child is a container
pub parent_box : (s : Sort) (k : ℕ) (i : Own) (us ks : Nodes) → Holds s ks → At k i us ks → (b : Box) × (s ≡ within b)
parent_box root k i us ks h a = absurd h
parent_box (within b) k i us ks h a = (b, refl)
parent_box (single x) k i us end h a = absurd a
parent_box (single x) k i us (node p o vs ts) h a = absurd h.1

-- where the parent is found: the root, or a node
pub data Parent (k : ℕ) (ts : Nodes) (i : Own) (ks : Nodes) : List Frame → Type 0 where
  at_root : (f : Frame) → f.place ≡ 0 → f.own.sort ≡ root → Parent k ts i ks (f ∷ [])
  at_node : (f : Frame) (vs : List Frame) (us : Nodes) → At f.place f.own us ts → At k i ks us → Parent k ts i ks (f ∷ vs)

-- a spot of a document is its root's, or a node's with its parent
pub data Spotted (k : ℕ) (ts : Nodes) (s : Spot) : Type 0 where
  the_root : k ≡ 0 → s.here.own.sort ≡ root → s.here.place ≡ 0 → s.kids ≡ ts → s.ups ≡ [] → Spotted k ts s
  a_node : s.here.place ≡ k → At k s.here.own s.kids ts → Parent k ts s.here.own s.kids s.ups → Spotted k ts s

pub spot_found : (k : ℕ) (ts : Nodes) (s : Spot) → spot_at k ts ≡ Some s → Spotted k ts s
spot_found k ts s =
    let f : Frame = record { before = end; place = 0; own = record { number = 1; sort = root }; after = end } in
    cond_both (eqb 0 k) (Some (record { here = f; kids = ts; ups = [] })) (cond (ltb 0 (count k ts)) (spot_in k (f ∷ []) end ts) None) (λ y. y ≡ Some s → Spotted k ts s)
    (λ z e. subst (Spotted k ts) (same_Some (record { here = f; kids = ts; ups = [] }) s e) (the_root (sym (eqb-true 0 k z)) refl refl refl refl))
    (λ z. cond_both (ltb 0 (count k ts)) (spot_in k (f ∷ []) end ts) None (λ y. y ≡ Some s → Spotted k ts s)
    (λ y e. (let m = found k (f ∷ []) end ts s e in a_node m.here_is m.stands (up f refl refl m.stands m.under)))
    (λ y e. absurd (none-some s e)))
  where
    up : (f : Frame) → f.place ≡ 0 → f.own.sort ≡ root → At k s.here.own s.kids ts
        → (s.ups ≡ f ∷ []) ⊎ ((g : Frame) × (vs : List Frame) × (ks : Nodes) × (s.ups ≡ g ∷ vs) × At g.place g.own ks ts × At k s.here.own s.kids ks) → Parent k ts s.here.own s.kids s.ups
    up f p o a (inl e) = subst (Parent k ts s.here.own s.kids) (sym e) (at_root f p o)
    up f p o a (inr (g, vs, ks, e, b, c)) = subst (Parent k ts s.here.own s.kids) (sym e) (at_node g vs ks b c)
