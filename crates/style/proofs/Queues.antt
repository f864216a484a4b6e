-- A queue of places, and what is found in its nodes level by level. Assumes nothing.
use Rattle.std.proofs.Common.{◌≡◌, ℕ, ◌+◌, ◌≤◌, List, [], ◌∷◌, ◌++◌, length, Some, None, Option, sym, refl, ap, ◌∙◌, subst, append_assoc, append-nil, arith}
use Rattle.forest.specs.Forest.{end, node, append, size}
use Rattle.model.specs.Nodes.{Sort, Nodes}
use Rattle.model.specs.Asks.{layers, first_of}
use Rattle.tree.specs.Places.{spot_of}
use Rattle.style.specs.Standing.{standing, Each}
use Rattle.style.proofs.Layers.{seek, seek_start, seek_down, seek_hit, seek_miss}

pub size_append : (a b : Nodes) → size (append a b) ≡ size a + size b
size_append end b = omega arith
size_append (node p i ks ts) b = omega (arith, size_append ts b)

module _ (ks : Nodes) where
  pub standing-++ : (a b : List ℕ) → standing ks (a ++ b) ≡ append (standing ks a) (standing ks b)
  standing-++ [] b = refl
  standing-++ (p ∷ a) b = ap (λ z. node p (spot_of p ks).here.own (spot_of p ks).kids z) (standing-++ a b)

  pub each-++ : (a b : List ℕ) → Each ks a → Each ks b → Each ks (a ++ b)
  each-++ [] b x y = y
  each-++ (p ∷ a) b x y = (x.0, each-++ a b x.1 y)

  pub length_standing : (a : List ℕ) → length a ≤ size (standing ks a)
  length_standing [] = omega arith
  length_standing (p ∷ a) = omega (arith, length_standing a)

  module _ {X : Type 0} (f : Sort → Nodes → List X) where
    -- the queue's first places are the rest of a level, and those behind are the beginning of the next; what is found first in them is r
    pub record Seeks (ps : List ℕ) (r : Option X) : Type 0 where
      pub level : List ℕ
      pub below : List ℕ
      pub parts : ps ≡ level ++ below
      pub finds : seek f (standing ks level) (standing ks below) ≡ r

    -- a queue of one level
    pub seeks_level : (ps : List ℕ) (r : Option X) → first_of (layers f (standing ks ps)) ≡ r → Seeks ps r
    seeks_level ps r e = record { level = ps; below = []; parts = sym (append-nil ps); finds = seek_start f (standing ks ps) ∙ e }

    -- an empty queue: nothing is found
    pub seeks_none : (r : Option X) → Seeks [] r → r ≡ None
    seeks_none r s = go s.level s.below s.parts s.finds
      where
        go : (a b : List ℕ) → [] ≡ a ++ b → seek f (standing ks a) (standing ks b) ≡ r → r ≡ None
        go [] [] e z = sym z
        go [] (q ∷ b) e z = cc
        go (q ∷ a) b e z = cc

    -- the first of a queue stands in its level
    pub record Turned (p : ℕ) (ps : List ℕ) (r : Option X) : Type 0 where
      pub level : List ℕ
      pub below : List ℕ
      pub parts : ps ≡ level ++ below
      pub finds : seek f (standing ks (p ∷ level)) (standing ks below) ≡ r

    pub turned : (p : ℕ) (ps : List ℕ) (r : Option X) → Seeks (p ∷ ps) r → Turned p ps r
    turned p ps r s = go s.level s.below s.parts s.finds
      where
        go : (a b : List ℕ) → p ∷ ps ≡ a ++ b → seek f (standing ks a) (standing ks b) ≡ r → Turned p ps r
        go [] b e z =
            record { level = ps; below = []; parts = sym (append-nil ps); finds = subst (λ y. seek f (standing ks y) end ≡ r) (sym e) (sym (seek_down f (standing ks b)) ∙ z) }
        go (q ∷ a) b e z =
            let e₀ : q ≡ p = cc in
            let e₁ : ps ≡ a ++ b = cc in
            record { level = a; below = b; parts = e₁; finds = subst (λ y. seek f (standing ks (y ∷ a)) (standing ks b) ≡ r) e₀ z }

    -- something is found at the first
    pub seeks_hit : (p : ℕ) (ps : List ℕ) (r : Option X) (x : X) → Seeks (p ∷ ps) r → f (spot_of p ks).here.own.sort (spot_of p ks).kids ≡ x ∷ [] → r ≡ Some x
    seeks_hit p ps r x s e =
        let t = turned p ps r s in
        sym t.finds ∙ seek_hit f p (spot_of p ks).here.own (spot_of p ks).kids (standing ks t.level) (standing ks t.below) x [] e

    -- nothing is found at the first: its children are put behind
    pub seeks_miss : (p : ℕ) (ps more : List ℕ) (r : Option X) → Seeks (p ∷ ps) r → f (spot_of p ks).here.own.sort (spot_of p ks).kids ≡ []
        → standing ks more ≡ (spot_of p ks).kids → Seeks (ps ++ more) r
    seeks_miss p ps more r s e m =
        let t = turned p ps r s in
        record {
          level = t.level;
          below = t.below ++ more;
          parts = ap (λ y. y ++ more) t.parts ∙ append_assoc t.level t.below more;
          finds =
              ap (seek f (standing ks t.level)) (standing-++ t.below more ∙ ap (append (standing ks t.below)) m)
              ∙ sym (seek_miss f p (spot_of p ks).here.own (spot_of p ks).kids (standing ks t.level) (standing ks t.below) e)
              ∙ t.finds;
        }
