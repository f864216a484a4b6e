-- One item more or less of a part. Assumes nothing.
use Rattle.std.proofs.Common.{◌≡◌, ℕ, suc, ◌+◌, ◌-◌, ◌<◌, ◌≤◌, List, [], ◌∷◌, ◌++◌, length, get_or, take, drop, set, sym, ap, ◌∙◌, add-one, arith, length-drop, length-take, drop-cons}
use Rattle.std.proofs.lemmas.List.{take_more, take_more_set, get_or-drop, drop-set-add}
use Rattle.worklist.specs.Listed.{part}

module _ {X : Type 0} where
  -- one more at the back
  pub pushed : (xs : List X) (h n : ℕ) (x : X) → h + n < length xs → part (set xs (h + n) x) h (n + 1) ≡ part xs h n ++ x ∷ []
  pushed xs h n x l = ap (take (n + 1)) (drop-set-add h xs n x) ∙ take_more_set (drop h xs) n x (omega (arith, length-drop h xs))

  -- the same, where the part goes from s up to e
  pub pushed_upto : (xs : List X) (s e : ℕ) (x : X) → s ≤ e → e < length xs → part (set xs e x) s (e + 1 - s) ≡ part xs s (e - s) ++ x ∷ []
  pushed_upto xs s e x o l =
      let at : s + (e - s) ≡ e = omega arith in
      let more : e - s + 1 ≡ e + 1 - s = omega arith in
      ap (λ n. part (set xs e x) s n) (sym more) ∙ ap (λ n. part (set xs n x) s (e - s + 1)) (sym at) ∙ pushed xs s (e - s) x (omega (arith, l))

  -- one less at the back
  pub popped : (xs : List X) (h n : ℕ) (d : X) → 0 < n → h + n ≤ length xs → part xs h n ≡ part xs h (n - 1) ++ get_or xs (h + (n - 1)) d ∷ []
  popped xs h n d p l =
      let same : n ≡ n - 1 + 1 = omega arith in
      ap (λ m. take m (drop h xs)) same ∙ take_more (drop h xs) (n - 1) d (omega (arith, length-drop h xs))
      ∙ ap (λ y. part xs h (n - 1) ++ y ∷ []) (get_or-drop h xs (n - 1) d)

  -- one less at the front
  pub shifted : (xs : List X) (h n : ℕ) (d : X) → 0 < n → h + n ≤ length xs → part xs h n ≡ get_or xs h d ∷ part xs (h + 1) (n - 1)
  shifted xs h n d p l =
      let same : n ≡ suc (n - 1) = omega arith in
      let up : h + 1 ≡ suc h = add-one h in
      ap (λ m. take m (drop h xs)) same ∙ ap (take (suc (n - 1))) (drop-cons xs h d (omega arith))
      ∙ ap (λ k. get_or xs h d ∷ take (n - 1) (drop k xs)) (sym up)

  -- a part that lies within has its length
  pub part_length : (xs : List X) (h n : ℕ) → h + n ≤ length xs → length (part xs h n) ≡ n
  part_length xs h n l = omega (arith, length-take n (drop h xs), length-drop h xs)
