-- `link_after` makes of a table for a forest one for the forest with the leaf in it.
use Rattle.std.proofs.Common.{◌≡◌, ℕ, ◌<◌, List, [], ◌∷◌, ◌++◌, ap, inl}
use Rattle.forest.specs.Forest.{Forest, count, Distinct}
use Rattle.forest.specs.Edits.{ins_after}
use Rattle.forest.specs.Links.{none}
use Rattle.forest.proofs.Inserts.{ins_owns, ins_ups, ins_firsts, ins_nexts, ins_prevs, ins_lasts, ins_count, ins_size, ins_head, ins_not_last}
use Rattle.table.specs.declared.node.Own.{Own}
use Rattle.table.specs.declared.node.Node.{Node}
use Rattle.table.specs.Nodes.{to, own_of, up_of, prev_of, next_of, first_of, last_of}
use Rattle.table.specs.Writes.{link_after}
use Rattle.table.specs.Sound.{Holds, Sound}
use Rattle.table.proofs.Added.{Added, added, also_at, top_within, top_off, not_top, added_sound}
use Rattle.table.proofs.Standing.{each_once, all_in, none_out, c_once, next_there, next_within, up_some, parent_there, up_within}

-- the table ys has the leaf n with i after s, where xs had not
abbrev pub Linked : List Node → ℕ → ℕ → Own → List Node → Type 0
Linked xs s n i ys = Added xs s n (up_of xs s) s (next_of xs s) i (λ _. to n) (λ y. y.first) ys

linked_holds : (xs ys : List Node) (s n : ℕ) (i : Own) (ts : Forest Own) → Linked xs s n i ys
    → Distinct ts → count none ts ≡ 0 → count s ts ≡ 1 → count n ts ≡ 0 → Holds xs ts → Holds ys (ins_after s n i ts)
linked_holds xs ys s n i ts l u z c w h =
    record {
      owns = ins_owns s n i (own_of xs) (own_of ys) (ap (λ y. y.own) l.new) l.own_off ts c w h.owns;
      ups = ins_ups s n i (up_of xs) (up_of ys) none ts (ap (λ y. y.parent.0) l.new) l.up_off c w h.ups;
      prevs = ins_prevs s n i (next_of xs) (prev_of xs) (prev_of ys) (ap (λ y. y.prev.0) l.new) l.prev_q l.prev_off none ts u z c w h.nexts h.prevs;
      nexts = ins_nexts s n i (next_of xs) (next_of ys) ts (ap (λ y. y.next.0) l.new) l.next_s l.next_off c w h.nexts;
      firsts = ins_firsts s n i (first_of xs) (first_of ys) ts (ap (λ y. y.first.0) l.new) (also_at (first_of ys) (first_of xs) s n l.first_s l.first_off) c w h.firsts;
      lasts = ins_lasts s n i (next_of xs) (up_of xs) (last_of xs) (last_of ys) (ap (λ y. y.last.0) l.new) l.last_u l.last_off none ts u z z c w h.nexts h.ups h.lasts;
    }

-- s is not the root, and n is the free place on top
module _ (xs : List Node) (free : List ℕ) (n s : ℕ) (ts : Forest Own) (h : Sound xs (free ++ n ∷ []) ts) (c : 0 < count s ts) (r : s ≡ 0 → ⊥) where
  pub is_linked : (i : Own) → Linked xs s n i (link_after xs s n i)
  is_linked i =
      added xs s n (up_of xs s) s (next_of xs s) i (λ _. to n) (λ y. y.first) (all_in xs (free ++ n ∷ []) ts h s c) (top_within xs free n ts h) (up_within xs (free ++ n ∷ []) ts h s c r)
      (not_top xs free n ts h s c) (not_top xs free n ts h (up_of xs s) (parent_there xs (free ++ n ∷ []) ts h s c r))
      (λ d. (next_within xs (free ++ n ∷ []) ts h s c d, not_top xs free n ts h (next_of xs s) (next_there xs (free ++ n ∷ []) ts h s c d)))

  pub after_sound : (i : Own) → (i.number ≡ 0 → ⊥) → Sound (link_after xs s n i) free (ins_after s n i ts)
  after_sound i nz =
      let o : count s ts ≡ 1 = c_once xs (free ++ n ∷ []) ts h s c in
      added_sound xs free n ts h s (up_of xs s) s (next_of xs s) i (λ _. to n) (λ y. y.first) (link_after xs s n i) (ins_after s n i ts) (is_linked i) nz
      (linked_holds xs (link_after xs s n i) s n i ts (is_linked i) (each_once xs (free ++ n ∷ []) ts h) (none_out xs (free ++ n ∷ []) ts h) o (top_off xs free n ts h) h.holds)
      (ins_head s n i ts none o)
      (ins_not_last s n i (next_of xs) (up_of xs) none none ts o h.holds.nexts h.holds.ups (inl (up_some xs (free ++ n ∷ []) ts h s c r)))
      (λ k. ins_count s n i k ts o) (ins_size s n i ts o)
