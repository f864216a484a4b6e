-- A new table: the root at the place 0, and every other place free.
use Rattle.std.proofs.Common.{◌≡◌, ℕ, zero, suc, ◌+◌, ◌-◌, ◌<◌, ◌≤◌, List, [], reverse, length, set, replicate, sym, refl, ap, ◌∙◌, subst, ⊎_elim, arith}
use Rattle.std.proofs.lemmas.List.{length-set, length-replicate, length-reverse}
use Rattle.std.proofs.lemmas.Bool.{cases_eq}
use Rattle.std.proofs.lemmas.Bool.Decides.{nat_tests}
use Rattle.forest.specs.Forest.{end, node, one, occurs}
use Rattle.forest.specs.Links.{none}
use Rattle.forest.proofs.Frames.{one_eq, one_other}
use Rattle.forest.proofs.Places.{occurs_reverse}
use Rattle.table.specs.declared.node.Own.{Own}
use Rattle.table.specs.declared.node.Node.{Node}
use Rattle.table.specs.Nodes.{blank, leaf, at, forest_at}
use Rattle.table.specs.Sound.{Sound, Good, within}
use Rattle.table.specs.Tables.{run}
use Rattle.table.proofs.Writes.{at_same, at_other, within_le}
use Rattle.table.proofs.Goods.{sound_good}

within_more : (j k : ℕ) → within j k + one k j ≡ within j (k + 1)
within_more j k = grind (arith, nat_tests)

occurs_run : (j k m : ℕ) → within j k + occurs j (run k m) ≡ within j (k + m)
occurs_run j k zero = let e : k ≡ k + 0 = omega arith in omega (arith, ap (λ z. within j z) e)
occurs_run j k (suc m) =
    let e : (k + 1) + m ≡ k + suc m = omega arith in
    omega (arith, within_more j k, occurs_run j (k + 1) m, ap (λ z. within j z) e)

length_run : (k m : ℕ) → length (run k m) ≡ m
length_run k zero = refl
length_run k (suc m) = omega (arith, length_run (k + 1) m)

blank_at : (n j : ℕ) → at (replicate n blank) j ≡ blank
blank_at zero j = nil_at j
  where
    nil_at : (j : ℕ) → at [] j ≡ blank
    nil_at zero = refl
    nil_at (suc j) = refl
blank_at (suc n) zero = refl
blank_at (suc n) (suc j) = blank_at n j

module _ (n : ℕ) (i : Own) (fs : List ℕ) (some : 0 < n) (few : n ≤ none) (nz : i.number ≡ 0 → ⊥) (e : reverse fs ≡ run 1 (n - 1)) where
  long : length (set (replicate n blank) 0 (leaf i none none none)) ≡ n
  long = length-set (replicate n blank) 0 (leaf i none none none) ∙ length-replicate n blank

  at_root : at (set (replicate n blank) 0 (leaf i none none none)) 0 ≡ leaf i none none none
  at_root = at_same (replicate n blank) 0 (leaf i none none none) (omega (arith, length-replicate n blank))

  at_rest : (j : ℕ) → (j ≡ 0 → ⊥) → at (set (replicate n blank) 0 (leaf i none none none)) j ≡ blank
  at_rest j d = at_other (replicate n blank) 0 j (leaf i none none none) d ∙ blank_at n j

  all_once : (j : ℕ) → one 0 j + occurs j fs ≡ within j n
  all_once j =
      let q : 1 + (n - 1) ≡ n = omega arith in
      omega (arith, occurs_reverse j fs, ap (λ z. occurs j z) e, occurs_run j 1 (n - 1), ap (λ z. within j z) q, within_one j)
    where
      within_one : (j : ℕ) → within j 1 ≡ one 0 j
      within_one j = grind (arith, nat_tests)

  fresh_sound : Sound (set (replicate n blank) 0 (leaf i none none none)) fs (node 0 i end end)
  fresh_sound =
      record {
        holds = record {
          owns = (ap (λ x. x.own) at_root, tt, tt);
          ups = (ap (λ x. x.parent.0) at_root, tt, tt);
          prevs = (ap (λ x. x.prev.0) at_root, tt, tt);
          nexts = (ap (λ x. x.next.0) at_root, tt, tt);
          firsts = (ap (λ x. x.first.0) at_root, tt, tt);
          lasts = (ap (λ x. x.last.0) at_root, tt, tt);
        };
        starts = refl;
        stops = refl;
        once = λ j. omega (arith, all_once j, ap (λ z. within j z) long);
        sized = omega (arith, long, ap length e, length-reverse fs, length_run 1 (n - 1));
        small = omega (arith, long);
        freed = λ j l. ⊎_elim (λ z. absurd (omega (arith, all_once j, one_eq 0 j (sym z), within_le j n))) (λ d. ap (λ x. x.own.number) (at_rest j d)) (cases_eq j 0);
        live = λ j l z. ⊎_elim (λ q. nz (sym (ap (λ x. x.own.number) at_root) ∙ (ap (λ y. (at (set (replicate n blank) 0 (leaf i none none none)) y).own.number) q ∙ z)))
            (λ d. omega (arith, one_other 0 j d)) (cases_eq 0 j);
      }

  pub fresh_good : (xs : List Node) (room : ℕ) → xs ≡ set (replicate n blank) 0 (leaf i none none none) → n ≤ room
      → Good xs fs room × (forest_at xs 0 ≡ node 0 i end end)
  fresh_good xs room q r =
      subst (λ y. Good y fs room × (forest_at y 0 ≡ node 0 i end end)) (sym q)
      (sound_good (set (replicate n blank) 0 (leaf i none none none)) fs (node 0 i end end) room fresh_sound (omega (arith, long)))
