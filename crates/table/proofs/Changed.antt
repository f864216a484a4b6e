-- A table with other own data of one node.
use Rattle.std.proofs.Common.{◌≡◌, ℕ, ◌<◌, List, length, get_or, set, vec_items, vec_capacity, sym, refl, ap, ◌∙◌, subst, arith}
use Rattle.std.proofs.lemmas.List.{get_or_default, length-set}
use Rattle.forest.specs.Forest.{Forest, count}
use Rattle.forest.specs.Edits.{update}
use Rattle.forest.specs.Links.{none}
use Rattle.forest.proofs.Frames.{ups_kept, prevs_kept, nexts_kept, firsts_kept, lasts_kept}
use Rattle.forest.proofs.Updates.{update_count, update_size, update_head, update_last, update_owns, update_ups, update_prevs, update_nexts, update_firsts, update_lasts}
use Rattle.table.specs.declared.node.Own.{Own}
use Rattle.table.specs.declared.node.Node.{Node}
use Rattle.table.specs.declared.table.Table.{Table}
use Rattle.table.specs.Nodes.{at, blank, own_of, up_of, prev_of, next_of, first_of, last_of, forest_at}
use Rattle.table.specs.Writes.{with_own, moved, set_own}
use Rattle.table.specs.Sound.{Sound, Good, within}
use Rattle.table.specs.Tables.{tree}
use Rattle.table.proofs.Writes.{at_same, at_other, keeps}
use Rattle.table.proofs.Goods.{sound_good}
use Rattle.table.proofs.Seen.{good, there_in, nodes_long}

-- f keeps the number
module _ (xs : List Node) (fs : List ℕ) (ts : Forest Own) (h : Sound xs fs ts) (k : ℕ) (l : k < length xs) (f : Own → Own) (keep : (o : Own) → (f o).number ≡ o.number) where
  K : {X : Type 0} (π : Node → X) → π (with_own (at xs k) (f (own_of xs k))) ≡ π (at xs k) → (j : ℕ) → π (at (set_own xs k (f (own_of xs k))) j) ≡ π (at xs j)
  K π e j = keeps π xs k (with_own (at xs k) (f (own_of xs k))) e j

  len : length (set_own xs k (f (own_of xs k))) ≡ length xs
  len = length-set xs k (with_own (at xs k) (f (own_of xs k)))

  number : (j : ℕ) → (at (set_own xs k (f (own_of xs k))) j).own.number ≡ (at xs j).own.number
  number j = K (λ x. x.own.number) (keep (own_of xs k)) j

  pub update_sound : Sound (set_own xs k (f (own_of xs k))) fs (update k f ts)
  update_sound =
      record {
        holds = record {
          owns = update_owns k f (own_of xs) (own_of (set_own xs k (f (own_of xs k)))) ts (ap (λ x. x.own) (at_same xs k (with_own (at xs k) (f (own_of xs k))) l))
              (λ j d. ap (λ x. x.own) (at_other xs k j (with_own (at xs k) (f (own_of xs k))) d)) h.holds.owns;
          ups = ups_kept (up_of xs) (up_of (set_own xs k (f (own_of xs k)))) none (update k f ts) (λ j _. K (λ x. x.parent.0) refl j) (update_ups k f (up_of xs) none ts h.holds.ups);
          prevs = prevs_kept (prev_of xs) (prev_of (set_own xs k (f (own_of xs k)))) none (update k f ts) (λ j _. K (λ x. x.prev.0) refl j) (update_prevs k f (prev_of xs) none ts h.holds.prevs);
          nexts = nexts_kept (next_of xs) (next_of (set_own xs k (f (own_of xs k)))) (update k f ts) (λ j _. K (λ x. x.next.0) refl j) (update_nexts k f (next_of xs) ts h.holds.nexts);
          firsts = firsts_kept (first_of xs) (first_of (set_own xs k (f (own_of xs k)))) (update k f ts) (λ j _. K (λ x. x.first.0) refl j) (update_firsts k f (first_of xs) ts h.holds.firsts);
          lasts = lasts_kept (last_of xs) (last_of (set_own xs k (f (own_of xs k)))) (update k f ts) (λ j _. K (λ x. x.last.0) refl j) (update_lasts k f (last_of xs) ts h.holds.lasts);
        };
        starts = update_head k f ts none ∙ h.starts;
        stops = update_last k f ts none ∙ h.stops;
        once = λ j. omega (arith, update_count k f j ts, h.once j, ap (λ z. within j z) len);
        sized = omega (arith, update_size k f ts, h.sized, len);
        small = omega (arith, h.small, len);
        freed = λ j m. number j ∙ h.freed j m;
        live = λ j m e. h.live j (omega (arith, update_count k f j ts)) (sym (number j) ∙ e);
      }

own_changed : (t : Table) (k : ℕ) (c : 0 < count k (tree t)) (f : Own → Own) → ((o : Own) → (f o).number ≡ o.number)
    → (ys : List Node) → ys ≡ set_own (vec_items t.nodes) k (f (own_of (vec_items t.nodes) k))
    → Good ys (vec_items t.spare) (vec_capacity t.spare) × (forest_at ys 0 ≡ update k f (tree t))
unfolding tree
own_changed t k c f keep ys e =
    let l : k < length (vec_items t.nodes) = omega (arith, there_in t k c, nodes_long t) in
    subst (λ y. Good y (vec_items t.spare) (vec_capacity t.spare) × (forest_at y 0 ≡ update k f (tree t))) (sym e)
    (sound_good (set_own (vec_items t.nodes) k (f (own_of (vec_items t.nodes) k))) (vec_items t.spare) (update k f (tree t)) (vec_capacity t.spare)
    (update_sound (vec_items t.nodes) (vec_items t.spare) (tree t) (good t).sound k l f keep)
    (omega (arith, (good t).roomy, length-set (vec_items t.nodes) k (with_own (at (vec_items t.nodes) k) (f (own_of (vec_items t.nodes) k))))))

-- the same of the record x that is lent, and its own data with another part of the store
pub text_moved : (t : Table) (k : ℕ) → 0 < count k (tree t) → (s l : ℕ) (x : Node) → x ≡ get_or (vec_items t.nodes) k x
    → Good (set (vec_items t.nodes) k (with_own x (moved x.own s l))) (vec_items t.spare) (vec_capacity t.spare)
    × (forest_at (set (vec_items t.nodes) k (with_own x (moved x.own s l))) 0 ≡ update k (λ o. moved o s l) (tree t))
text_moved t k c s l x e =
    own_changed t k c (λ o. moved o s l) (λ _. refl) (set (vec_items t.nodes) k (with_own x (moved x.own s l)))
    (ap (λ y. set (vec_items t.nodes) k (with_own y (moved y.own s l))) (e ∙ get_or_default (vec_items t.nodes) k x blank (omega (arith, there_in t k c, nodes_long t))))
