-- What a sound table says of its nodes: each stands once and within the table, and so does what its links lead to.
use Rattle.std.proofs.Common.{◌≡◌, ℕ, ◌<◌, ◌≤◌, List, length, ⊎_elim, arith}
use Rattle.std.proofs.lemmas.Bool.{cases_lt}
use Rattle.forest.specs.Forest.{Forest, count}
use Rattle.forest.specs.Links.{none}
use Rattle.forest.proofs.Frames.{next_inside, up_inside, prev_inside}
use Rattle.forest.proofs.Heads.{first_inside}
use Rattle.table.specs.declared.node.Own.{Own}
use Rattle.table.specs.declared.node.Node.{Node}
use Rattle.table.specs.Nodes.{up_of, prev_of, next_of, first_of}
use Rattle.table.specs.Sound.{Sound}
use Rattle.table.proofs.Writes.{lt_within, within_le}
use Rattle.table.proofs.Roots.{up_there}

module _ (xs : List Node) (free : List ℕ) (ts : Forest Own) (h : Sound xs free ts) where
  pub each_once : (k : ℕ) → count k ts ≤ 1
  each_once k = omega (arith, h.once k, within_le k (length xs))

  pub all_in : (k : ℕ) → 0 < count k ts → k < length xs
  all_in k l = lt_within k (length xs) (omega (arith, h.once k))

  pub none_out : count none ts ≡ 0
  none_out = ⊎_elim (λ l. absurd (omega (arith, all_in none l, h.small))) (λ l. omega arith) (cases_lt 0 (count none ts))

  -- a node of the forest
  module _ (c : ℕ) (o : 0 < count c ts) where
    pub c_once : count c ts ≡ 1
    c_once = omega (arith, each_once c)

    pub next_there : (next_of xs c ≡ none → ⊥) → 0 < count (next_of xs c) ts
    next_there d = ⊎_elim (λ l. absurd (d l)) (λ l. l) (next_inside (next_of xs) c ts h.holds.nexts c_once)

    pub prev_there : (prev_of xs c ≡ none → ⊥) → 0 < count (prev_of xs c) ts
    prev_there d = ⊎_elim (λ l. absurd (d l)) (λ w. ⊎_elim (λ l. absurd (d l)) (λ l. l) w) (prev_inside (prev_of xs) none c ts h.holds.prevs c_once)

    pub first_there : (first_of xs c ≡ none → ⊥) → 0 < count (first_of xs c) ts
    first_there d = ⊎_elim (λ l. absurd (d l)) (λ l. l) (first_inside (first_of xs) c ts h.holds.firsts c_once)

    pub next_within : (next_of xs c ≡ none → ⊥) → next_of xs c < length xs
    next_within d = all_in (next_of xs c) (next_there d)

    pub prev_within : (prev_of xs c ≡ none → ⊥) → prev_of xs c < length xs
    prev_within d = all_in (prev_of xs c) (prev_there d)

    pub first_within : (first_of xs c ≡ none → ⊥) → first_of xs c < length xs
    first_within d = all_in (first_of xs c) (first_there d)

    -- it is not the root
    module _ (inner : c ≡ 0 → ⊥) where
      pub up_some : up_of xs c ≡ none → ⊥
      up_some = up_there (up_of xs) c ts each_once none_out h.starts h.stops h.holds.ups c_once inner

      pub parent_there : 0 < count (up_of xs c) ts
      parent_there = ⊎_elim (λ l. absurd (up_some l)) (λ l. l) (up_inside (up_of xs) none c ts h.holds.ups c_once)

      pub up_within : up_of xs c < length xs
      up_within = all_in (up_of xs c) parent_there
