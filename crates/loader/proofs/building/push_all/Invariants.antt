-- What the loop over the bytes keeps. Assumes nothing.
use Rattle.std.proofs.Common.{◌≡◌, ◌+◌, ◌++◌, take, vec_items, vec_len, vec_capacity}
use Rattle.loader.proofs.building.push_all.Given as goal

-- the bytes so far are behind those that were stored
abbrev pub invariant-loop-b : goal.invariant-loop-b
invariant-loop-b l =
    (vec_items l.store ≡ vec_items l.initial.store ++ take l.b-index l.bytes)
    × (vec_len l.store ≡ vec_len l.initial.store + l.b-index)
    × (vec_capacity l.store ≡ vec_capacity l.initial.store)
