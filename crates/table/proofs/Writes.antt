-- What a write to a table leaves at each place.
use Rattle.std.proofs.Common.{◌≡◌, ℕ, ◌<◌, ◌≤◌, List, length, set, sym, ap, ◌∙◌, subst, ⊎_elim, arith}
use Rattle.std.proofs.lemmas.List.{get_or-set_same, get_or-set_other, set_past}
use Rattle.std.proofs.lemmas.Bool.{cases_eq, cases_lt}
use Rattle.std.proofs.lemmas.Bool.Decides.{nat_tests}
use Rattle.table.specs.declared.node.Node.{Node}
use Rattle.table.specs.Nodes.{at, blank}
use Rattle.table.specs.Sound.{within}

pub at_same : (xs : List Node) (k : ℕ) (y : Node) → k < length xs → at (set xs k y) k ≡ y
at_same xs k y h = get_or-set_same xs k y blank h

pub at_other : (xs : List Node) (k j : ℕ) (y : Node) → (j ≡ k → ⊥) → at (set xs k y) j ≡ at xs j
at_other xs k j y h = get_or-set_other xs k j y blank h

-- a write that leaves a part of the record leaves that part everywhere
pub keeps : {X : Type 0} (π : Node → X) (xs : List Node) (k : ℕ) (y : Node) → π y ≡ π (at xs k) → (j : ℕ) → π (at (set xs k y) j) ≡ π (at xs j)
keeps π xs k y e j =
    ⊎_elim
    (λ same. ⊎_elim (λ l. subst (λ z. π (at (set xs k y) z) ≡ π (at xs z)) (sym same) (ap π (at_same xs k y l) ∙ e))
    (λ l. ap (λ z. π (at z j)) (set_past xs k y l)) (cases_lt k (length xs)))
    (λ ne. ap π (at_other xs k j y ne)) (cases_eq j k)

pub within_lt : (k n : ℕ) → k < n → within k n ≡ 1
within_lt k n h = grind (arith, nat_tests)

pub lt_within : (k n : ℕ) → 0 < within k n → k < n
lt_within k n h = ⊎_elim (λ l. l) (λ l. absurd (grind (arith, nat_tests))) (cases_lt k n)

pub within_le : (k n : ℕ) → within k n ≤ 1
within_le k n = grind (arith, nat_tests)
