-- What a test keeps of the node that a walk found. Assumes nothing.
use Rattle.std.proofs.Common.{◌≡◌, Bool, true, false, cond, Some, None, Option, refl, ap, ◌∙◌}
use Rattle.std.specs.Bool.{then_some}
use Rattle.std.specs.Option.{option_map, MatchOption}
use Rattle.model.specs.Nodes.{class}
use Rattle.model.specs.Asks.{sort_of, spot_handle, is_comma, then}
use Rattle.tree.specs.declared.node.Node.{Node}
use Rattle.tree.specs.Steps.{spot}
use Rattle.tree.proofs.Listed.{comma_of}

-- the node that was found, if it is a comma
pub comma_kept : (Post : Node → Bool → Type 0) (o r : Option Node) → MatchOption o (r ≡ None) (λ n. (b : Bool) × Post n b × (r ≡ then_some b n)) → ((n : Node) (b : Bool) → Post n b → b ≡ is_comma (class (sort_of (spot n))))
    → option_map spot_handle (option_map spot r) ≡ then (option_map spot o) comma_of
comma_kept Post None r m h = ap (λ y. option_map spot_handle (option_map spot y)) m
comma_kept Post (Some n) r (b, p, e) h =
    ap (λ y. option_map spot_handle (option_map spot y)) e ∙ (kept b ∙ ap (λ y. cond y (Some (spot_handle (spot n))) None) (h n b p))
  where
    kept : (b : Bool) → option_map spot_handle (option_map spot (then_some b n)) ≡ cond b (Some (spot_handle (spot n))) None
    kept true = refl
    kept false = refl
