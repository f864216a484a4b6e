-- What a node's tree says of its path: every tree is a document of at most 64 levels, whose places are distinct. Assumes nothing.
use Rattle.std.proofs.Common.{◌≡◌, ℕ, ◌≤◌, false, true, List, [], ◌∷◌, length, Some, None, Option, sym, refl, ap, ◌∙◌}
use mathlib.Core.HLevel.{⊥_prop}
use mathlib.Core.Logic.{∥∥₁_elim}
use mathlib.Core.List.{is_set}
use Rattle.std.proofs.lemmas.Option.{same_Some, none-some}
use native.Mathlib.Nat.{ℕ_set}
use native.Mathlib.Bridge.{le_prop}
use Rattle.model.specs.Nodes.{class}
use Rattle.model.specs.Asks.{Frame, spot_at, sort_of, is_value}
use Rattle.model.proofs.Commas.{class_is_value}
use Rattle.tree.specs.declared.node.Node.{Node}
use Rattle.tree.specs.Trees.{kids}
use Rattle.tree.specs.Steps.{spot}
use Rattle.tree.proofs.Spots.{spot_stands}
use Rattle.tree.proofs.Seen.{distinct}
use Rattle.paths.specs.Ways.{path_of}
use Rattle.paths.proofs.Ordinals.{ordinals, root_pathless, pathless, path_ordinals, ups_bound}

module _ (n : Node) where
  -- a node is found at its place
  pub at_place : spot_at n.place (kids n.tree.now) ≡ Some (spot n)
  at_place = spot_stands (kids n.tree.now) (distinct n.tree.now) n.place n.stands

  -- few nodes stand above a node
  pub ups_few : length (spot n).ups ≤ 129
  ups_few = ∥∥₁_elim n.tree.now.ok le_prop (λ w. ups_bound n.place (kids n.tree.now) (spot n) (distinct n.tree.now) at_place w.document w.shallow)

  -- the root has no path
  pub no_root_path : (spot n).ups ≡ [] → path_of n ≡ None
  no_root_path u = root_pathless n.place (kids n.tree.now) (spot n) (distinct n.tree.now) at_place u

  -- what is neither a value nor a member has no path
  pub no_path : is_value (class (sort_of (spot n))) ≡ false → path_of n ≡ None
  no_path v = pathless n.place (kids n.tree.now) (spot n) (distinct n.tree.now) at_place v

  -- a value or member has the path of its ordinals
  pub path_is : (g : Frame) (us : List Frame) → (spot n).ups ≡ g ∷ us → is_value (class (sort_of (spot n))) ≡ true → path_of n ≡ Some (ordinals (spot n).here (spot n).ups)
  path_is g us u v = go (path_of n) refl
    where
      go : (o : Option (List ℕ)) → path_of n ≡ o → path_of n ≡ Some (ordinals (spot n).here (spot n).ups)
      go None e = absurd (∥∥₁_elim n.tree.now.ok ⊥_prop (λ w. none-some _ (sym e ∙ path_ordinals n.place (kids n.tree.now) (spot n) (distinct n.tree.now) at_place w.document g us u (class_is_value _ v))))
      go (Some p) e =
          e ∙ ap Some (∥∥₁_elim n.tree.now.ok (is_set ℕ_set p (ordinals (spot n).here (spot n).ups))
          (λ w. same_Some _ _ (sym e ∙ path_ordinals n.place (kids n.tree.now) (spot n) (distinct n.tree.now) at_place w.document g us u (class_is_value _ v))))
