-- `link_first` makes of a table for a forest one for the forest with the leaf in it.
use Rattle.std.proofs.Common.{◌≡◌, ℕ, ◌<◌, List, [], ◌∷◌, ◌++◌, length, ap}
use Rattle.forest.specs.Forest.{Forest, count, Distinct}
use Rattle.forest.specs.Edits.{ins_first}
use Rattle.forest.specs.Links.{none}
use Rattle.forest.proofs.Heads.{fst_owns, fst_ups, fst_firsts, fst_nexts, fst_prevs, fst_lasts, fst_count, fst_size, fst_head, fst_last}
use Rattle.table.specs.declared.node.Own.{Own}
use Rattle.table.specs.declared.node.Node.{Node}
use Rattle.table.specs.Nodes.{to, own_of, up_of, prev_of, next_of, first_of, last_of}
use Rattle.table.specs.Writes.{link_first}
use Rattle.table.specs.Sound.{Holds, Sound}
use Rattle.table.proofs.Added.{Added, added, also_at, top_within, top_off, not_top, added_sound}
use Rattle.table.proofs.Standing.{each_once, all_in, none_out, c_once, first_there, first_within}

-- the table ys has the leaf n with i as the first child of v, where xs had not
abbrev pub Headed : List Node → ℕ → ℕ → Own → List Node → Type 0
Headed xs v n i ys = Added xs v n v none (first_of xs v) i (λ y. y.next) (λ _. to n) ys

headed_holds : (xs ys : List Node) (v n : ℕ) (i : Own) (ts : Forest Own) → Headed xs v n i ys
    → Distinct ts → count none ts ≡ 0 → count v ts ≡ 1 → count n ts ≡ 0 → Holds xs ts → Holds ys (ins_first v n i ts)
headed_holds xs ys v n i ts l u z c w h =
    record {
      owns = fst_owns v n i (own_of xs) (own_of ys) ts (ap (λ y. y.own) l.new) l.own_off c w h.owns;
      ups = fst_ups v n i (up_of xs) (up_of ys) none ts (ap (λ y. y.parent.0) l.new) l.up_off c w h.ups;
      prevs = fst_prevs v n i (first_of xs) (prev_of xs) (prev_of ys) (ap (λ y. y.prev.0) l.new) l.prev_q l.prev_off none ts u z c w h.firsts h.prevs;
      nexts = fst_nexts v n i (first_of xs) (next_of xs) (next_of ys) ts (ap (λ y. y.next.0) l.new) (also_at (next_of ys) (next_of xs) v n l.next_s l.next_off) c w h.firsts h.nexts;
      firsts = fst_firsts v n i (first_of xs) (first_of ys) ts (ap (λ y. y.first.0) l.new) l.first_s l.first_off c w h.firsts;
      lasts = fst_lasts v n i (first_of xs) (last_of xs) (last_of ys) (ap (λ y. y.last.0) l.new) l.last_u l.last_off ts z c w h.firsts h.lasts;
    }

-- n is the free place on top
module _ (xs : List Node) (free : List ℕ) (n v : ℕ) (ts : Forest Own) (h : Sound xs (free ++ n ∷ []) ts) (c : 0 < count v ts) where
  pub is_headed : (i : Own) → Headed xs v n i (link_first xs v n i)
  is_headed i =
      let v_in : v < length xs = all_in xs (free ++ n ∷ []) ts h v c in
      let apart : n ≡ v → ⊥ = not_top xs free n ts h v c in
      added xs v n v none (first_of xs v) i (λ y. y.next) (λ _. to n) v_in (top_within xs free n ts h) v_in apart apart
      (λ d. (first_within xs (free ++ n ∷ []) ts h v c d, not_top xs free n ts h (first_of xs v) (first_there xs (free ++ n ∷ []) ts h v c d)))

  pub first_sound : (i : Own) → (i.number ≡ 0 → ⊥) → Sound (link_first xs v n i) free (ins_first v n i ts)
  first_sound i nz =
      let o : count v ts ≡ 1 = c_once xs (free ++ n ∷ []) ts h v c in
      added_sound xs free n ts h v v none (first_of xs v) i (λ y. y.next) (λ _. to n) (link_first xs v n i) (ins_first v n i ts) (is_headed i) nz
      (headed_holds xs (link_first xs v n i) v n i ts (is_headed i) (each_once xs (free ++ n ∷ []) ts h) (none_out xs (free ++ n ∷ []) ts h) o (top_off xs free n ts h) h.holds)
      (fst_head v n i ts none o) (fst_last v n i ts none o) (λ k. fst_count v n i k ts o) (fst_size v n i ts o)
