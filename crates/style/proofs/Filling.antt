-- A queue takes in a node's children one by one, and their places are where they stand.
use Rattle.std.proofs.Common.{◌≡◌, ℕ, ◌+◌, ◌≤◌, Bool, true, ltb, List, [], ◌∷◌, ◌++◌, length, sym, refl, ap, ◌∙◌, subst, append_assoc, append-nil, arith, length-append, lt-ltb}
use Rattle.forest.specs.Forest.{end, node}
use Rattle.model.specs.Nodes.{Nodes, Own}
use Rattle.model.specs.Asks.{Frame, width}
use Rattle.tree.specs.declared.node.Node.{Node}
use Rattle.tree.specs.Trees.{kids}
use Rattle.tree.specs.Steps.{spot, spots_on}
use Rattle.tree.proofs.Spots.{There}
use Rattle.tree.proofs.Nodes.{children_there}
use Rattle.worklist.specs.declared.list.WorkList.{WorkList}
use Rattle.worklist.specs.Listed.{listed, taken, room, Pushed}
use Rattle.style.specs.Standing.{standing, Each, heads, Filled}

-- siblings stand at their places
there_heads : (ks : Nodes) (us : List Frame) (bs ts : Nodes) → There ks (spots_on us bs ts) → Each ks (heads ts) × (standing ks (heads ts) ≡ ts)
there_heads ks us bs end h = (tt, refl)
there_heads ks us bs (node p i js ts) (a, e, h) =
    let m = there_heads ks us (node p i js bs) ts h in
    ((a, m.0), ap (λ s. node p s.here.own s.kids (standing ks (heads ts))) e ∙ ap (node p i js) m.1)

-- The queue v took in some of the siblings cs and is w now, and ts are still to come.
pub record Filling (cs : Nodes) (v : WorkList ℕ) (ts : Nodes) (w : WorkList ℕ) : Type 0 where
  pub lists : listed w ++ heads ts ≡ listed v ++ heads cs
  pub taken_is : taken w ≡ taken v
  pub room_is : room w ≡ room v
  pub space : taken w + (length (listed w) + width ts) ≤ room w

module _ (cs : Nodes) (v : WorkList ℕ) where
  -- all are to come
  pub filling_start : (ts : Nodes) → ts ≡ cs → taken v + (length (listed v) + width cs) ≤ room v → Filling cs v ts v
  filling_start ts e s = record { lists = ap (λ y. listed v ++ heads y) e; taken_is = refl; room_is = refl; space = omega (arith, ap width e) }

  -- one more
  pub filling_turn : (ts rs : Nodes) (p q : ℕ) (i : Own) (js : Nodes) (w u : WorkList ℕ) (b : Bool) → ts ≡ node p i js rs → p ≡ q → Filling cs v ts w
      → b ≡ ltb (taken w + length (listed w)) (room w) → Pushed b q w u → Filling cs v rs u
  filling_turn ts rs p q i js w u b e z f t h =
      go (subst (λ y. Pushed y q w u) (t ∙ lt-ltb (taken w + length (listed w)) (room w) (omega (arith, f.space, ap width e))) h)
    where
      longer : listed u ≡ listed w ++ q ∷ [] → length (listed u) ≡ length (listed w) + 1
      longer m = ap length m ∙ length-append (listed w) (q ∷ [])

      go : Pushed true q w u → Filling cs v rs u
      go (m, n, o) = record {
        lists =
            ap (λ y. y ++ heads rs) m ∙ (append_assoc (listed w) (q ∷ []) (heads rs)
            ∙ (ap (λ y. listed w ++ (y ∷ heads rs)) (sym z) ∙ (ap (λ y. listed w ++ heads y) (sym e) ∙ f.lists)));
        taken_is = n ∙ f.taken_is;
        room_is = o ∙ f.room_is;
        space = omega (arith, f.space, longer m, n, o, ap width e);
      }

-- none is left
pub filling_end : (n : Node) (v : WorkList ℕ) (ts : Nodes) (w : WorkList ℕ) → ts ≡ end → Filling (spot n).kids v ts w → Filled (kids n.tree.now) (spot n).kids v w
filling_end n v ts w e f =
    let m = there_heads (kids n.tree.now) ((spot n).here ∷ (spot n).ups) end (spot n).kids (children_there n) in
    record {
      listed_is = sym (append-nil (listed w)) ∙ (ap (λ y. listed w ++ heads y) (sym e) ∙ f.lists);
      taken_is = f.taken_is;
      room_is = f.room_is;
      each = m.0;
      stand = m.1;
    }
