-- Siblings after siblings.
use Rattle.std.proofs.Common.{◌≡◌, ℕ, ◌+◌, ◌<◌, refl, ap, ◌∙◌, arith}
use Rattle.forest.specs.Forest.{Forest, end, node, count, size, Distinct, head_or, last_or, append}
use Rattle.forest.specs.Links.{none, Nexts, Firsts, Lasts}
use Rattle.forest.proofs.Frames.{one_same, nexts_kept}

module _ {X : Type 0} where
  pub append_count : (k : ℕ) (ts us : Forest X) → count k (append ts us) ≡ count k ts + count k us
  append_count k end us = omega arith
  append_count k (node p i ks ts) us = omega (arith, append_count k ts us)

  pub append_size : (ts us : Forest X) → size (append ts us) ≡ size ts + size us
  append_size end us = omega arith
  append_size (node p i ks ts) us = omega (arith, append_size ts us)

  pub append_firsts : (f : ℕ → ℕ) (ts us : Forest X) → Firsts f ts → Firsts f us → Firsts f (append ts us)
  append_firsts f end us h k = k
  append_firsts f (node p i ks ts) us h k = (h.0, h.1, append_firsts f ts us h.2 k)

  pub append_lasts : (f : ℕ → ℕ) (ts us : Forest X) → Lasts f ts → Lasts f us → Lasts f (append ts us)
  append_lasts f end us h k = k
  append_lasts f (node p i ks ts) us h k = (h.0, h.1, append_lasts f ts us h.2 k)

  pub last_inside : (p : ℕ) (i : X) (ks ts : Forest X) (x : ℕ) → 0 < count (last_or ts p) (node p i ks ts)
  last_inside p i ks end x = omega (arith, one_same p)
  last_inside p i ks (node q j ls ts) x = omega (arith, last_inside q j ls ts p)

  -- the last of ts leads to us now, and nothing else has changed
  pub append_nexts : (f g : ℕ → ℕ) (ts us : Forest X) (p : ℕ) (i : X) (ks : Forest X) → Distinct (node p i ks ts)
      → g (last_or ts p) ≡ head_or us none → ((k : ℕ) → (k ≡ last_or ts p → ⊥) → g k ≡ f k) → count (last_or ts p) us ≡ 0
      → Nexts f (node p i ks ts) → Nexts f us → Nexts g (append (node p i ks ts) us)
  append_nexts f g end us p i ks u to off c h k = (
    to,
    nexts_kept f g ks (λ j l. off j (λ e. omega (arith, u p, one_same p, ap (λ y. count y ks) e))) h.1,
    nexts_kept f g us (λ j l. off j (λ e. omega (arith, ap (λ y. count y us) e))) k,
  )
  append_nexts f g (node q j ls ts) us p i ks u to off c h k = (
    off p (λ e. omega (arith, u p, one_same p, last_inside q j ls ts p, ap (λ y. count y (node q j ls ts)) e)) ∙ h.0,
    nexts_kept f g ks (λ m l. off m (λ e. omega (arith, u m, last_inside q j ls ts p, ap (λ y. count y (node q j ls ts)) e))) h.1,
    append_nexts f g ts us q j ls (λ m. omega (arith, u m)) to off c h.2 k,
  )

  pub append_assoc : (ts us vs : Forest X) → append (append ts us) vs ≡ append ts (append us vs)
  append_assoc end us vs = refl
  append_assoc (node p i ks ts) us vs = ap (λ z. node p i ks z) (append_assoc ts us vs)

  pub append_end : (ts : Forest X) → append ts end ≡ ts
  append_end end = refl
  append_end (node p i ks ts) = ap (λ z. node p i ks z) (append_end ts)
