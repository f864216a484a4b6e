-- What a container decides, from what the walks along its children find. Assumes nothing.
use Rattle.std.proofs.Common.{◌≡◌, ℕ, Bool, true, false, cond, ◌&&◌, [], ◌∷◌, Some, None, Option, sym, refl, ap, ◌∙◌, arith}
use Rattle.std.specs.Option.{option_map, MatchOption}
use Rattle.model.specs.Nodes.{Nodes, Sort, class}
use Rattle.model.specs.Asks.{Spot, any, behind_last, bracketed, decided, decides, is_blank, is_comma, is_some, sort_of, spot_handle, then, trailing}
use Rattle.tree.specs.declared.node.Node.{Node}
use Rattle.tree.specs.Steps.{spot}
use Rattle.tree.proofs.Listed.{comma_of}
use Rattle.style.specs.Found.{found}

-- whether the first node that is no trivia is a comma
pub first_comma : (P : Node → Type 0) (o : Option Node) (r : Bool) → MatchOption o (r ≡ false) P → ((n : Node) → P n → r ≡ is_comma (class (sort_of (spot n)))) → r ≡ is_some (then (option_map spot o) comma_of)
first_comma P None r m h = m
first_comma P (Some n) r m h = h n m ∙ go (is_comma (class (sort_of (spot n))))
  where
    go : (b : Bool) → b ≡ is_some (cond b (Some (spot_handle (spot n))) None)
    go true = refl
    go false = refl

module _ (s : Sort) (ks : Nodes) where
  -- neither is missing
  pub decides_so : bracketed s ≡ true → any is_blank ks ≡ true → decides s ks ≡ decided (behind_last ks)
  decides_so a b = ap (λ x. cond (x && any is_blank ks) (decided (behind_last ks)) []) a ∙ ap (λ x. cond x (decided (behind_last ks)) []) b

  -- no Whitespace is among its children
  pub no_blank : any is_blank ks ≡ false → [] ≡ decides s ks
  no_blank b = sym (ap (λ x. cond (bracketed s && x) (decided (behind_last ks)) []) b ∙ go (bracketed s))
    where
      go : (x : Bool) → cond (x && false) (decided (behind_last ks)) [] ≡ []
      go true = refl
      go false = refl

-- what stands behind the last member
pub decided_by : (r : Option Bool) (o : Option Spot) → option_map (λ b. b) r ≡ option_map (λ s. is_some (trailing s.here.after)) o → found r ≡ decided (option_map (λ s. s.here.after) o)
decided_by None None e = refl
decided_by None (Some s) e = let z : ◌≡◌ {A = ℕ} 0 1 = cc in absurd (omega arith)
decided_by (Some b) None e = let z : ◌≡◌ {A = ℕ} 0 1 = cc in absurd (omega arith)
decided_by (Some b) (Some s) e = let z : b ≡ is_some (trailing s.here.after) = cc in ap (λ x. x ∷ []) z
