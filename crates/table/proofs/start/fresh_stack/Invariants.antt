use Rattle.std.proofs.Common.{◌≡◌, ◌+◌, ◌-◌, ◌≤◌, reverse, vec_items, vec_len, vec_capacity}
use Rattle.table.specs.Tables.{run}
use Rattle.table.proofs.start.fresh_stack.Given as goal

-- k is the lowest place on the stack
abbrev pub invariant-loop-k : goal.invariant-loop-k
invariant-loop-k l =
    (reverse (vec_items l.spare) ≡ run l.k (l.records - l.k)) × (1 ≤ l.k) × (vec_len l.spare + l.k ≡ l.records) × (l.records ≤ vec_capacity l.spare)
