-- A work list lies within its room, and is the same where its items and its live places are. Assumes nothing.
use Rattle.std.proofs.Common.{◌≡◌, ℕ, ◌+◌, ◌-◌, ◌≤◌, length, refl, ap, sym, ◌∙◌, subst, arith}
use Rattle.std.proofs.Math.Bridge.{le_prop}
use Rattle.std.specs.declared.ops.Range.{Range}
use Rattle.worklist.specs.declared.list.WorkList.{WorkList}
use Rattle.worklist.specs.Listed.{lent, listed, taken, room}
use Rattle.worklist.proofs.Parts.{part_length}

module _ {X : Type 0} where
  -- what was taken and what is listed lie within the room
  pub fits : (w : WorkList X) → taken w + length (listed w) ≤ room w
  unfolding listed taken room
  fits w =
      let o = w.ordered in
      omega (arith, part_length w.items.now w.live.start (w.live.end - w.live.start) (omega (arith, w.within)), w.within)

  -- the room is that of what was lent
  pub room_is : (w : WorkList X) → room w ≡ length (lent w)
  unfolding lent room
  room_is w = refl

  -- the same live places of the same items are the same list
  pub unmoved : (w : WorkList X) (l : Range ℕ) (o : l.start ≤ l.end) (i : l.end ≤ length w.items.now) → l.start ≡ w.live.start → l.end ≡ w.live.end
      → ◌≡◌ {A = WorkList X} (record { items = w.items; live = l; ordered = o; within = i }) w
  unmoved w l o i e f = subst Same (sym places) (λ o i. ap (λ p. record { items = w.items; live = w.live; ordered = p; within = i }) (le_prop o w.ordered) ∙ ap (λ p. record { items = w.items; live = w.live; ordered = w.ordered; within = p }) (le_prop i w.within)) o i
    where
      places : l ≡ w.live
      places = ap (λ a. record { start = a; end = l.end }) e ∙ ap (λ b. record { start = w.live.start; end = b }) f

      Same : Range ℕ → Type 0
      Same m = (o : m.start ≤ m.end) (i : m.end ≤ length w.items.now) → ◌≡◌ {A = WorkList X} (record { items = w.items; live = m; ordered = o; within = i }) w
