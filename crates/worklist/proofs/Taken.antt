-- A step of the range of live places takes the item there, and leaves the others. Assumes nothing.
use Rattle.std.proofs.Common.{◌≡◌, ℕ, ◌+◌, ◌-◌, ◌<◌, ◌≤◌, [], ◌∷◌, ◌++◌, Some, None, Option, length, get_or, refl, sym, ap, ◌∙◌, subst, arith}
use Rattle.std.specs.declared.ops.Range.{Range}
use Rattle.worklist.specs.declared.list.WorkList.{WorkList}
use Rattle.worklist.specs.Listed.{lent, listed, taken, part, Popped, Shifted}
use Rattle.worklist.proofs.Parts.{popped, shifted}
use Rattle.worklist.proofs.Room.{unmoved}

module _ {X : Type 0} (w : WorkList X) (l : Range ℕ) (o : l.start ≤ l.end) (i : l.end ≤ length w.items.now) where
  -- the list with these live places
  abbrev left : WorkList X
  left = record { items = w.items; live = l; ordered = o; within = i }

  -- where nothing is live, nothing changes
  none : l.start ≡ w.live.start → l.end ≡ w.live.end → w.live.end - w.live.start ≡ 0 → (listed w ≡ []) × (left ≡ w)
  unfolding listed
  none s f e = (ap (part w.items.now w.live.start) e, unmoved w l o i s f)

  -- from the back
  pub none_back : l.start ≡ w.live.start → l.end ≡ w.live.end → w.live.end - w.live.start ≡ 0 → (r : Option X) → r ≡ None → Popped r w left
  none_back s f e r n = let same : Popped None w left = none s f e in subst (λ y. Popped y w left) (sym n) same

  -- and from the front
  pub none_front : l.start ≡ w.live.start → l.end ≡ w.live.end → w.live.end - w.live.start ≡ 0 → (r : Option X) → r ≡ None → Shifted r w left
  none_front s f e r n = let same : Shifted None w left = none s f e in subst (λ y. Shifted y w left) (sym n) same

  -- the last live place goes
  pub some_back : (k : ℕ) (d : X) → l.start ≡ w.live.start → 0 < w.live.end - w.live.start → k ≡ l.end → w.live.end ≡ l.end + 1 → Popped (Some (get_or w.items.now k d)) w left
  unfolding listed taken lent
  some_back k d s p at f =
      let b = w.ordered in
      let fits : w.live.start + (w.live.end - w.live.start) ≤ length w.items.now = omega (arith, w.within) in
      let fewer : w.live.end - w.live.start - 1 ≡ l.end - l.start = omega arith in
      let here : w.live.start + (w.live.end - w.live.start - 1) ≡ k = omega arith in (
        popped w.items.now w.live.start (w.live.end - w.live.start) d p fits
            ∙ ap (λ a. part w.items.now a (w.live.end - w.live.start - 1) ++ get_or w.items.now (w.live.start + (w.live.end - w.live.start - 1)) d ∷ []) (sym s)
            ∙ ap (λ n. part w.items.now l.start n ++ get_or w.items.now (w.live.start + (w.live.end - w.live.start - 1)) d ∷ []) fewer
            ∙ ap (λ n. part w.items.now l.start (l.end - l.start) ++ get_or w.items.now n d ∷ []) here,
        s,
        refl,
      )

  -- the first live place goes
  pub some_front : (k : ℕ) (d : X) → l.end ≡ w.live.end → 0 < w.live.end - w.live.start → k ≡ w.live.start → l.start ≡ w.live.start + 1 → Shifted (Some (get_or w.items.now k d)) w left
  unfolding listed taken lent
  some_front k d f p at s =
      let b = w.ordered in
      let fits : w.live.start + (w.live.end - w.live.start) ≤ length w.items.now = omega (arith, w.within) in
      let fewer : w.live.end - w.live.start - 1 ≡ l.end - l.start = omega arith in (
        shifted w.items.now w.live.start (w.live.end - w.live.start) d p fits
            ∙ ap (λ n. get_or w.items.now n d ∷ part w.items.now (w.live.start + 1) (w.live.end - w.live.start - 1)) (sym at)
            ∙ ap (λ n. get_or w.items.now k d ∷ part w.items.now (w.live.start + 1) n) fewer
            ∙ ap (λ a. get_or w.items.now k d ∷ part w.items.now a (l.end - l.start)) (sym s),
        s,
        refl,
      )
