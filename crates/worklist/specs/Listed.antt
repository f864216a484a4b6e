-- The list that a work list stands for, and what each step does to it. Assumes nothing.
use Rattle.std.specs.Prelude.{◌≡◌, ℕ, ◌+◌, ◌-◌, Bool, true, false, List, [], ◌∷◌, ◌++◌, length, take, drop, Some, None, Option}
use Rattle.worklist.specs.declared.list.WorkList.{WorkList}

-- n items from k on
abbrev pub part : {X : Type 0} → List X → ℕ → ℕ → List X
part xs k n = take n (drop k xs)

module _ {X : Type 0} where
  -- what the lent room holds
  unfoldable pub lent : WorkList X → List X
  lent w = w.items.now

  -- the list
  unfoldable pub listed : WorkList X → List X
  listed w = part w.items.now w.live.start (w.live.end - w.live.start)

  -- how many were taken from the front
  unfoldable pub taken : WorkList X → ℕ
  taken w = w.live.start

  -- how many items the room takes: those of the list, those that were taken from the front, and those that may still be put
  unfoldable pub room : WorkList X → ℕ
  room w = length w.items.now

  -- a push that finds room puts the item at the back, and one that finds none leaves the list
  abbrev pub Pushed : Bool → X → WorkList X → WorkList X → Type 0
  Pushed true x v w = (listed w ≡ listed v ++ x ∷ []) × (taken w ≡ taken v) × (room w ≡ room v)
  Pushed false x v w = w ≡ v

  -- the last is taken, and of an empty list nothing
  abbrev pub Popped : Option X → WorkList X → WorkList X → Type 0
  Popped None v w = (listed v ≡ []) × (w ≡ v)
  Popped (Some x) v w = (listed v ≡ listed w ++ x ∷ []) × (taken w ≡ taken v) × (lent w ≡ lent v)

  -- the first is taken, and of an empty list nothing
  abbrev pub Shifted : Option X → WorkList X → WorkList X → Type 0
  Shifted None v w = (listed v ≡ []) × (w ≡ v)
  Shifted (Some x) v w = (listed v ≡ x ∷ listed w) × (taken w ≡ taken v + 1) × (lent w ≡ lent v)
