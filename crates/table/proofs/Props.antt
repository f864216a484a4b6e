-- That a table is good is a proposition, so what its ghost field holds is the fact itself.
use mathlib.Core.HLevel.{Unit-prop, ¬_prop, ×₃_prop}
use mathlib.Core.Logic.{∥∥₁_elim}
use Rattle.std.proofs.Common.{ℕ, List}
use native.Mathlib.Nat.{ℕ_set}
use native.Mathlib.Bridge.{le_prop}
use base.Stored.{Coded-set}
use Rattle.forest.specs.Forest.{Forest, end, node, head_or, last_or}
use Rattle.forest.specs.Links.{none, Owns, Ups, Prevs, Nexts, Firsts, Lasts}
use Rattle.table.specs.declared.node.Own.{Own}
use Rattle.table.specs.contracts.node.Own as O
use Rattle.table.specs.declared.node.Node.{Node}
use Rattle.table.specs.Nodes.{own_of, up_of, prev_of, next_of, first_of, last_of, forest_at}
use Rattle.table.specs.Sound.{Holds, Sound, Good}

own_set : IsSet Own
own_set = Coded-set (O.the_row).coded

owns_prop : (f : ℕ → Own) (ts : Forest Own) → IsProp (Owns f ts)
owns_prop f end = Unit-prop
owns_prop f (node p i ks ts) = ×₃_prop (own_set (f p) i) (owns_prop f ks) (owns_prop f ts)

module _ {X : Type 0} where
  ups_prop : (f : ℕ → ℕ) (u : ℕ) (ts : Forest X) → IsProp (Ups f u ts)
  ups_prop f u end = Unit-prop
  ups_prop f u (node p i ks ts) = ×₃_prop (ℕ_set (f p) u) (ups_prop f p ks) (ups_prop f u ts)

  prevs_prop : (f : ℕ → ℕ) (q : ℕ) (ts : Forest X) → IsProp (Prevs f q ts)
  prevs_prop f q end = Unit-prop
  prevs_prop f q (node p i ks ts) = ×₃_prop (ℕ_set (f p) q) (prevs_prop f none ks) (prevs_prop f p ts)

  nexts_prop : (f : ℕ → ℕ) (ts : Forest X) → IsProp (Nexts f ts)
  nexts_prop f end = Unit-prop
  nexts_prop f (node p i ks ts) = ×₃_prop (ℕ_set (f p) (head_or ts none)) (nexts_prop f ks) (nexts_prop f ts)

  firsts_prop : (f : ℕ → ℕ) (ts : Forest X) → IsProp (Firsts f ts)
  firsts_prop f end = Unit-prop
  firsts_prop f (node p i ks ts) = ×₃_prop (ℕ_set (f p) (head_or ks none)) (firsts_prop f ks) (firsts_prop f ts)

  lasts_prop : (f : ℕ → ℕ) (ts : Forest X) → IsProp (Lasts f ts)
  lasts_prop f end = Unit-prop
  lasts_prop f (node p i ks ts) = ×₃_prop (ℕ_set (f p) (last_or ks none)) (lasts_prop f ks) (lasts_prop f ts)

holds_prop : (xs : List Node) (ts : Forest Own) → IsProp (Holds xs ts)
holds_prop xs ts h k = λ i. record {
  owns = owns_prop (own_of xs) ts h.owns k.owns i;
  ups = ups_prop (up_of xs) none ts h.ups k.ups i;
  prevs = prevs_prop (prev_of xs) none ts h.prevs k.prevs i;
  nexts = nexts_prop (next_of xs) ts h.nexts k.nexts i;
  firsts = firsts_prop (first_of xs) ts h.firsts k.firsts i;
  lasts = lasts_prop (last_of xs) ts h.lasts k.lasts i;
}

sound_prop : (xs : List Node) (free : List ℕ) (ts : Forest Own) → IsProp (Sound xs free ts)
sound_prop xs free ts h k = λ i. record {
  holds = holds_prop xs ts h.holds k.holds i;
  starts = ℕ_set _ _ h.starts k.starts i;
  stops = ℕ_set _ _ h.stops k.stops i;
  once = λ j. ℕ_set _ _ (h.once j) (k.once j) i;
  sized = ℕ_set _ _ h.sized k.sized i;
  small = le_prop h.small k.small i;
  freed = λ j l. ℕ_set _ _ (h.freed j l) (k.freed j l) i;
  live = λ j l. ¬_prop (h.live j l) (k.live j l) i;
}

good_prop : (xs : List Node) (free : List ℕ) (room : ℕ) → IsProp (Good xs free room)
good_prop xs free room h k = λ i. record {
  sound = sound_prop xs free (forest_at xs 0) h.sound k.sound i;
  roomy = le_prop h.roomy k.roomy i;
}

pub held : (xs : List Node) (free : List ℕ) (room : ℕ) → ∥ Good xs free room ∥₁ → Good xs free room
held xs free room t = ∥∥₁_elim t (good_prop xs free room) (λ g. g)
