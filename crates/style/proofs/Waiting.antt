-- A queue of places in its room, and what is found first in its nodes level by level. Assumes nothing.
use Rattle.std.proofs.Common.{◌≡◌, ℕ, ◌+◌, ◌<◌, ◌≤◌, Bool, true, ltb, List, [], ◌∷◌, ◌++◌, length, Some, Option, sym, ap, ◌∙◌, subst, arith, lt-ltb}
use Rattle.forest.specs.Forest.{size}
use Rattle.model.specs.Nodes.{Sort, Nodes}
use Rattle.model.specs.Asks.{Spot, width}
use Rattle.tree.specs.Places.{Stands, spot_of}
use Rattle.worklist.specs.declared.list.WorkList.{WorkList}
use Rattle.worklist.specs.Listed.{listed, taken, room, Pushed, Shifted}
use Rattle.worklist.proofs.Room.{room_is}
use Rattle.style.specs.Standing.{standing, Each, heads, Filled}
use Rattle.tree.proofs.Rooms.{width_size}
use Rattle.style.proofs.Queues.{size_append, standing-++, each-++, length_standing, Seeks, seeks_hit, seeks_miss}

-- The places of the queue stand, and there is room for what is below them.
pub record Waiting (ks : Nodes) (w : WorkList ℕ) : Type 0 where
  pub each : Each ks (listed w)
  pub space : taken w + size (standing ks (listed w)) ≤ room w

-- a queue of one place
module _ (ks : Nodes) (p : ℕ) (v w : WorkList ℕ) (b : Bool) (e : listed v ≡ []) (z : taken v ≡ 0) (s : 1 + size (spot_of p ks).kids ≤ room v)
    (t : b ≡ ltb (taken v + length (listed v)) (room v)) (h : Pushed b p v w) where
  put : Pushed true p v w
  put = subst (λ y. Pushed y p v w) (t ∙ lt-ltb (taken v + length (listed v)) (room v) (omega (arith, ap length e))) h

  pub one_listed : listed w ≡ p ∷ []
  one_listed = put.0 ∙ ap (λ y. y ++ p ∷ []) e

  pub waiting_start : Stands p ks → Waiting ks w
  waiting_start c = record {
    each = subst (Each ks) (sym one_listed) (c, tt);
    space = omega (arith, ap (λ y. size (standing ks y)) one_listed, put.1, put.2);
  }

-- The first of a queue is taken: the place p, where the spot s is.
module _ (ks : Nodes) (p : ℕ) (v w : WorkList ℕ) (h : Shifted (Some p) v w) where
  -- it stands
  pub waiting_stands : Waiting ks v → Stands p ks
  waiting_stands a = (subst (Each ks) h.0 a.each).0

  module _ (s : Spot) (e : s ≡ spot_of p ks) where
    module _ (a : Waiting ks v) where
      sizes : size (standing ks (listed v)) ≡ 1 + (size s.kids + size (standing ks (listed w)))
      sizes = ap (λ y. size (standing ks y)) h.0 ∙ ap (λ y. 1 + (size y.kids + size (standing ks (listed w)))) (sym e)

      rooms : room w ≡ room v
      rooms = room_is w ∙ (ap length h.2 ∙ sym (room_is v))

      -- there is room for its children
      pub waiting_room : taken w + (length (listed w) + width s.kids) ≤ room w
      waiting_room = omega (arith, a.space, sizes, rooms, h.1, length_standing ks (listed w), width_size s.kids)

      -- its children are put behind, and there is less to be asked
      module _ (u : WorkList ℕ) (m : Filled ks s.kids w u) where
        size_turn : size (standing ks (listed u)) ≡ size (standing ks (listed w)) + size s.kids
        size_turn =
            ap (λ y. size (standing ks y)) m.listed_is ∙ (ap size (standing-++ ks (listed w) (heads s.kids))
            ∙ (size_append (standing ks (listed w)) (standing ks (heads s.kids))
            ∙ ap (λ y. size (standing ks (listed w)) + size y) m.stand))

        pub waiting_turn : Waiting ks u
        waiting_turn = record {
          each = subst (Each ks) (sym m.listed_is) (each-++ ks (listed w) (heads s.kids) (subst (Each ks) h.0 a.each).1 m.each);
          space = omega (arith, a.space, sizes, rooms, h.1, size_turn, m.taken_is, m.room_is);
        }

        pub waiting_less : size (standing ks (listed u)) < size (standing ks (listed v))
        waiting_less = omega (arith, size_turn, sizes)

    module _ {X : Type 0} (f : Sort → Nodes → List X) (r : Option X) (z : Seeks ks f (listed v) r) where
      front : Seeks ks f (p ∷ listed w) r
      front = subst (λ y. Seeks ks f y r) h.0 z

      -- something is found at it
      pub found_here : (x : X) → x ∷ [] ≡ f s.here.own.sort s.kids → Some x ≡ r
      found_here x d = sym (seeks_hit ks f p (listed w) r x front (sym (d ∙ ap (λ y. f y.here.own.sort y.kids) e)))

      -- nothing is: its children are put behind
      pub found_later : (u : WorkList ℕ) → Filled ks s.kids w u → [] ≡ f s.here.own.sort s.kids → Seeks ks f (listed u) r
      found_later u m d =
          subst (λ y. Seeks ks f y r) (sym m.listed_is)
          (seeks_miss ks f p (listed w) (heads s.kids) r front (sym (d ∙ ap (λ y. f y.here.own.sort y.kids) e)) (m.stand ∙ ap (λ y. y.kids) e))
