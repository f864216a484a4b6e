-- A node's path by its ancestors: the ordinals from the root's value down. Assumes nothing.
use Rattle.std.proofs.Common.{◌≡◌, ℕ, ◌+◌, ◌≤◌, false, cond, eqb, ltb, ◌⊎◌, List, [], ◌∷◌, ◌++◌, length, Some, None, sym, refl, ap, ◌∙◌, subst, inl, inr, arith, length-append}
use Rattle.std.proofs.lemmas.Bool.{cond_both}
use Rattle.std.proofs.lemmas.Option.{same_Some, none-some}
use Rattle.grammar.specs.Layout.{levels}
use Rattle.grammar.specs.Pieces.{layout}
use Rattle.forest.specs.Forest.{end, count, Distinct}
use Rattle.model.specs.Nodes.{root, Nodes, value, class, pieces, parts}
use Rattle.model.specs.Asks.{Frame, Spot, tree, spot_in, spot_at, sort_of, spot_handle, is_value, tally, from_root, path_to, path}
use Rattle.model.specs.State.{levels_of}
use Rattle.model.specs.Fits.{top, Document}
use Rattle.model.proofs.Stand.{stand}
use Rattle.model.proofs.Lying.{way_off}
use Rattle.model.proofs.Lone.{lone, first_only}
use Rattle.model.proofs.Whereabouts.{meaning_levels}
use Rattle.paths.proofs.Routes.{frame, spot, Route, route, route_ups, stem, Wayed, wayed, wayless, around_levels, ups_length}

-- the ordinals of a node and its ancestors up to the root's value, which is left out; the outermost first
abbrev pub ordinals : Frame → List Frame → List ℕ
ordinals f [] = []
ordinals f (g ∷ []) = []
ordinals f (g ∷ h ∷ us) = ordinals g (h ∷ us) ++ tally is_value f.before ∷ []

-- one for each ancestor but the root
pub ordinals_length : (f g : Frame) (us : List Frame) → length (ordinals f (g ∷ us)) ≡ length us
ordinals_length f g [] = refl
ordinals_length f g (h ∷ us) = length-append (ordinals g (h ∷ us)) (tally is_value f.before ∷ []) ∙ omega (arith, ordinals_length g h us)

-- all ordinals are those, behind the root's and that of its value
stem_ordinals : (f g : Frame) (us : List Frame) → (a : ℕ) × (b : ℕ) × (stem (f ∷ g ∷ us) ≡ a ∷ b ∷ ordinals f (g ∷ us))
stem_ordinals f g [] = (tally is_value g.before, tally is_value f.before, refl)
stem_ordinals f g (h ∷ us) = (let m = stem_ordinals g h us in (m.0, m.1, ap (λ y. y ++ tally is_value f.before ∷ []) m.2))

-- the root's own frame
abbrev top_frame : Frame
top_frame = frame end 0 (record { number = 1; sort = root }) end

-- a spot of a document is the root's, or is reached among its children
pub rooted : (k : ℕ) (ks : Nodes) (s : Spot) → spot_at k ks ≡ Some s → (spot top_frame ks [] ≡ s) ⊎ Route (top_frame ∷ []) end ks s
rooted k ks s =
    cond_both (eqb 0 k) (Some (spot top_frame ks [])) (cond (ltb 0 (count k ks)) (spot_in k (top_frame ∷ []) end ks) None) (λ y. y ≡ Some s → (spot top_frame ks [] ≡ s) ⊎ Route (top_frame ∷ []) end ks s)
    (λ z e. inl (same_Some (spot top_frame ks []) s e))
    (λ z. cond_both (ltb 0 (count k ks)) (spot_in k (top_frame ∷ []) end ks) None (λ y. y ≡ Some s → (spot top_frame ks [] ≡ s) ⊎ Route (top_frame ∷ []) end ks s)
    (λ y e. inr (route k (top_frame ∷ []) end ks s e).0)
    (λ y e. absurd (none-some s e)))

module _ (k : ℕ) (ks : Nodes) (s : Spot) (d : Distinct (tree ks)) (e : spot_at k ks ≡ Some s) where
  -- the place stands once among the root's children
  once : count s.here.place ks ≤ 1
  once = omega (arith, d s.here.place)

  -- what stands at the root's place does not stand among its children
  root_alone : spot top_frame ks [] ≡ s → count s.here.place ks ≡ 0
  root_alone y = subst (λ z. count z.here.place ks ≡ 0) y (omega (arith, d 0))

  -- the root has no path
  pub root_pathless : s.ups ≡ [] → path (spot_handle s) (parts ks) ≡ None
  root_pathless u =
      elim (rooted k ks s e) [
        | inl y ↦ ap path_to (way_off (spot_handle s) ks (root_alone y))
        | inr r ↦ absurd (omega (arith, route_ups (top_frame ∷ []) end ks s r, ap length u))
      ]

  -- nor has a node that is neither a value nor a member
  pub pathless : is_value (class (sort_of s)) ≡ false → path (spot_handle s) (parts ks) ≡ None
  pathless v =
      elim (rooted k ks s e) [
        | inl y ↦ ap path_to (way_off (spot_handle s) ks (root_alone y))
        | inr r ↦ ap path_to (wayless (top_frame ∷ []) end ks s r once v)
      ]

  module _ (doc : Document ks) where
    -- a value or member has the path of its ordinals
    pub path_ordinals : (g : Frame) (us : List Frame) → s.ups ≡ g ∷ us → class (sort_of s) ≡ value → path (spot_handle s) (parts ks) ≡ Some (ordinals s.here s.ups)
    path_ordinals g us u v =
        elim (rooted k ks s e) [
          | inl y ↦ (let z : ◌≡◌ {A = List Frame} [] (g ∷ us) = ap (λ y. y.ups) y ∙ u in let n : ◌≡◌ {A = ℕ} 0 1 = cc in absurd (omega arith))
          | inr r ↦ go (wayed (top_frame ∷ []) end ks s r doc.whole once v)
        ]
      where
        go : Wayed (top_frame ∷ []) end ks s → path (spot_handle s) (parts ks) ≡ Some (ordinals s.here s.ups)
        go m =
            let n = m.ordinal in
            let q = m.within_it in
            let z : n ≡ 0 = first_only (parts ks) n q (spot_handle s) (lone ks doc) m.leads in
            let o = stem_ordinals s.here g us in
            let x : o.0 ∷ o.1 ∷ ordinals s.here (g ∷ us) ≡ 0 ∷ (0 + n) ∷ q = sym o.2 ∙ (ap (λ y. stem (s.here ∷ y)) (sym u) ∙ m.steps) in
            let w : ordinals s.here (g ∷ us) ≡ q = cc in
            ap path_to m.way ∙ (ap (λ y. from_root y q) z ∙ ap Some (sym w ∙ ap (ordinals s.here) (sym u)))

    -- a document of at most 64 levels nests its nodes no deeper than this
    pub ups_bound : levels (layout (pieces ks)) ≤ 64 → length s.ups ≤ 129
    ups_bound l =
        elim (rooted k ks s e) [
          | inl y ↦ (let z : length s.ups ≡ 0 = ap (λ z. length z.ups) (sym y) in omega arith)
          | inr r ↦ (let m = ups_length (top_frame ∷ []) end ks s r doc.whole top doc.fits.taken (omega arith) in
              omega (arith, around_levels (top_frame ∷ []) end ks s r doc.whole, meaning_levels (layout (pieces ks)), ap levels_of (stand.document_says ks doc).1))
        ]
