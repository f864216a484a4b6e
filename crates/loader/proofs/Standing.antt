-- What a step does to a builder: the node where it stands is there, and what it has built is as the step says. Assumes nothing.
use Rattle.std.proofs.Common.{◌≡◌, ℕ, ◌+◌, ◌<◌, Bool, true, false, cond, List, [], ◌∷◌, length, Some, None, Option, sym, refl, ap, ◌∙◌, subst, ⊎_elim, arith}
use Rattle.forest.specs.Forest.{one, count}
use Rattle.forest.specs.Asks.{parent_in}
use Rattle.forest.specs.Edits.{ins_last}
use Rattle.forest.proofs.Frames.{one_same, one_eq}
use Rattle.forest.proofs.Tails.{tail_count}
use Rattle.forest.proofs.Local.{parent_inside}
use Rattle.table.specs.declared.kind.Kind.{Kind}
use Rattle.table.specs.declared.node.Own.{Own}
use Rattle.table.specs.declared.table.Table.{Table}
use Rattle.table.specs.Tables.{tree, free}
use Rattle.table.proofs.Seen.{there_once}
use Rattle.loader.specs.declared.builder.Builder.{Builder}
use Rattle.loader.specs.Sites.{Site, site_of, fits, next_own, placed, added, place_for, turned}

never : (u : ℕ) → ◌≡◌ {A = Option ℕ} None (Some u) → ⊥
never u e = let z : ◌≡◌ {A = ℕ} 0 1 = cc in omega arith

-- a node's parent is there
pub parent_there : (t : Table) (k u : ℕ) → 0 < count k (tree t) → parent_in k None (tree t) ≡ Some u → 0 < count u (tree t)
parent_there t k u c e = ⊎_elim (λ l. absurd (never u l)) (λ r. r) (parent_inside k None u (tree t) (there_once t k c) e)

-- behind a node's children a new one is put: what was there is there, and so is the new one
module _ (t u : Table) (v n : ℕ) (i : Own) (c : 0 < count v (tree t)) (e : tree u ≡ ins_last v n i (tree t)) where
  put_count : (k : ℕ) → count k (tree u) ≡ one n k + count k (tree t)
  put_count k = ap (λ y. count k y) e ∙ tail_count v n i k (tree t) (there_once t v c)

  pub still_there : (k : ℕ) → 0 < count k (tree t) → 0 < count k (tree u)
  still_there k h = omega (arith, put_count k)

  pub new_there : 0 < count n (tree u)
  new_there = omega (arith, put_count n, one_same n)

-- a node that found a place is there
pub placed_there : (s : Site) (k : Kind) (t : List ℕ) (p : ℕ) → count s.at s.tree ≡ 1 → (fs : List ℕ) → place_for s fs t ≡ Some p → 0 < count p (added s fs k t).tree
placed_there s k t p o [] e = absurd (never p e)
placed_there s k t p o (q ∷ ps) e = go (fits s t) e
  where
    go : (b : Bool) → cond b (Some q) None ≡ Some p → 0 < count p (cond b (placed s q ps k t) s).tree
    go true e = let z : q ≡ p = cc in omega (arith, tail_count s.at q (next_own s k (length t)) p s.tree o, one_eq q p z)
    go false e = absurd (never p e)

-- the node that a builder enters is there
pub entered_there : (a b : Builder) (k : Kind) (p : ℕ) → site_of b ≡ added (site_of a) (free a.table) k [] → place_for (site_of a) (free a.table) [] ≡ Some p
    → 0 < count p (tree b.table)
entered_there a b k p e h =
    subst (λ (y : Site). 0 < count p y.tree) (sym e) (placed_there (site_of a) k [] p (there_once a.table a.at a.there) (free a.table) h)

-- a node of the same kind with the same bytes
module _ (s b : Site) (fs : List ℕ) (k l : Kind) (h : k ≡ l) where
  pub put_told : (t u : List ℕ) → b ≡ added s fs k t → t ≡ u → b ≡ added s fs l u
  put_told t u e g = e ∙ (ap (λ y. added s fs y t) h ∙ ap (λ y. added s fs l y) g)

  -- entered, where it found a place
  pub enter_told : (o : Option ℕ) → b ≡ added s fs k [] → o ≡ place_for s fs [] → turned b o ≡ turned (added s fs l []) (place_for s fs [])
  enter_told o e g = ap (λ y. turned y o) (put_told [] [] e refl) ∙ ap (λ y. turned (added s fs l []) y) g
