-- The places of a forest as a list.
use Rattle.std.proofs.Common.{◌≡◌, ℕ, ◌+◌, List, [], ◌∷◌, ◌++◌, reverse, length, sym, refl, ap, ◌∙◌, append_assoc, arith, length-append}
use mathlib.Core.List.{reverse-cons}
use Rattle.forest.specs.Edits.{delete, kids, family}
use Rattle.forest.specs.Forest.{Forest, end, node, count, size, places, occurs, append}
use Rattle.forest.proofs.Deletes.{del_count, del_size}

pub occurs-++ : (k : ℕ) (a b : List ℕ) → occurs k (a ++ b) ≡ occurs k a + occurs k b
occurs-++ k [] b = omega arith
occurs-++ k (x ∷ a) b = omega (arith, occurs-++ k a b)

pub occurs_reverse : (k : ℕ) (a : List ℕ) → occurs k (reverse a) ≡ occurs k a
occurs_reverse k [] = refl
occurs_reverse k (x ∷ a) =
    ap (λ z. occurs k z) (reverse-cons x a) ∙ omega (arith, occurs-++ k (reverse a) (x ∷ []), occurs_reverse k a)

module _ {X : Type 0} where
  pub occurs_places : (k : ℕ) (ts : Forest X) → occurs k (places ts) ≡ count k ts
  occurs_places k end = refl
  occurs_places k (node p i ks ts) = omega (arith, occurs-++ k (places ks) (places ts), occurs_places k ks, occurs_places k ts)

  pub length_places : (ts : Forest X) → length (places ts) ≡ size ts
  length_places end = refl
  length_places (node p i ks ts) = omega (arith, length-append (places ks) (places ts), length_places ks, length_places ts)

  pub places_append : (ts us : Forest X) → places (append ts us) ≡ places ts ++ places us
  places_append end us = refl
  places_append (node p i ks ts) us =
      ap (λ z. p ∷ (places ks ++ z)) (places_append ts us) ∙ ap (λ z. p ∷ z) (sym (append_assoc (places ks) (places ts) (places us)))

  -- the places that a removal of c gives back are those that it takes from the forest
  pub family_count : (k c : ℕ) (ts : Forest X) → count c ts ≡ 1 → count k (delete c ts) + occurs k (family c ts) ≡ count k ts
  family_count k c ts o = omega (arith, del_count c k ts o, occurs_places k (kids c ts))

  pub family_size : (c : ℕ) (ts : Forest X) → count c ts ≡ 1 → size (delete c ts) + length (family c ts) ≡ size ts
  family_size c ts o = omega (arith, del_size c ts o, length_places (kids c ts))
