-- `unlinked` and a release make of a table for a forest one for the forest without the node c.
use Rattle.std.proofs.Common.{◌≡◌, ℕ, ◌+◌, ◌<◌, ◌≤◌, ◌⊎◌, List, length, sym, refl, ap, ◌∙◌, inl, ⊎_elim, arith, length-append}
use Rattle.std.proofs.lemmas.List.{length-set}
use Rattle.std.proofs.lemmas.Bool.{cases_lt}
use Rattle.forest.specs.Forest.{Forest, end, node, one, count, places, occurs, Distinct}
use Rattle.forest.specs.Edits.{delete, kids}
use Rattle.forest.specs.Links.{none}
use Rattle.forest.proofs.Frames.{one_eq, owns_kept, ups_kept, prevs_kept, nexts_kept, firsts_kept, lasts_kept}
use Rattle.forest.proofs.Places.{occurs-++, occurs_places, length_places}
use Rattle.forest.proofs.Deletes.{out_off, del_count, del_size, del_owns, del_ups, del_nexts, del_prevs, del_firsts, del_lasts, del_head, del_last_off, kid_nexts, kid_firsts, kid_lasts, kid_head, kid_last, prev_apart, up_apart}
use Rattle.table.specs.declared.node.Own.{Own}
use Rattle.table.specs.declared.node.Node.{Node}
use Rattle.table.specs.Nodes.{at, own_of, up_of, prev_of, next_of, first_of, last_of}
use Rattle.table.specs.Writes.{with_next, cut_left, cut_both, unlinked}
use Rattle.table.specs.Sound.{Holds, Sound, Loose, Released, within}
use Rattle.table.proofs.Writes.{at_same, at_other, keeps}
use Rattle.table.proofs.Standing.{each_once, none_out, c_once}
use Rattle.table.proofs.Sides.{left_keeps, left_long, left_next, left_next_off, left_first, left_first_off, right_keeps, right_long, right_prev, right_prev_off, right_last, right_last_off}

-- the table ys has all links of xs lead past c, which leads to its own children alone
pub record Cut (xs : List Node) (c : ℕ) (ys : List Node) : Type 0 where
  pub long : length ys ≡ length xs
  pub own_all : (k : ℕ) → own_of ys k ≡ own_of xs k
  pub up_all : (k : ℕ) → up_of ys k ≡ up_of xs k
  pub next_c : next_of ys c ≡ none
  pub next_q : (prev_of xs c ≡ none → ⊥) → next_of ys (prev_of xs c) ≡ next_of xs c
  pub next_off : (k : ℕ) → (k ≡ c → ⊥) → (k ≡ prev_of xs c → ⊥) → next_of ys k ≡ next_of xs k
  pub prev_x : (next_of xs c ≡ none → ⊥) → prev_of ys (next_of xs c) ≡ prev_of xs c
  pub prev_off : (k : ℕ) → (k ≡ next_of xs c → ⊥) → prev_of ys k ≡ prev_of xs k
  pub first_u : prev_of xs c ≡ none → first_of ys (up_of xs c) ≡ next_of xs c
  pub first_off : (k : ℕ) → ((k ≡ up_of xs c → ⊥) ⊎ (prev_of xs c ≡ none → ⊥)) → first_of ys k ≡ first_of xs k
  pub last_u : next_of xs c ≡ none → last_of ys (up_of xs c) ≡ prev_of xs c
  pub last_off : (k : ℕ) → ((k ≡ up_of xs c → ⊥) ⊎ (next_of xs c ≡ none → ⊥)) → last_of ys k ≡ last_of xs k

pub cut_holds : (xs ys : List Node) (c : ℕ) (ts : Forest Own) → Cut xs c ys
    → Distinct ts → count none ts ≡ 0 → count c ts ≡ 1 → Holds xs ts → Holds ys (delete c ts)
cut_holds xs ys c ts l u z o h =
    record {
      owns = owns_kept (own_of xs) (own_of ys) (delete c ts) (λ k _. l.own_all k) (del_owns c (own_of xs) ts o h.owns);
      ups = ups_kept (up_of xs) (up_of ys) none (delete c ts) (λ k _. l.up_all k) (del_ups c (up_of xs) none ts o h.ups);
      prevs = del_prevs c (next_of xs) (prev_of xs) (prev_of ys) l.prev_x l.prev_off none ts u z o h.nexts h.prevs;
      nexts = del_nexts c (prev_of xs) (next_of xs) (next_of ys) l.next_q l.next_off none ts u z (inl refl) o h.prevs h.nexts;
      firsts = del_firsts c (prev_of xs) (up_of xs) (next_of xs) (first_of xs) (first_of ys) l.first_u l.first_off none none ts u z z o h.prevs h.ups h.nexts h.firsts;
      lasts = del_lasts c (prev_of xs) (up_of xs) (next_of xs) (last_of xs) (last_of ys) l.last_u l.last_off none none ts u z z o h.prevs h.ups h.nexts h.lasts;
    }

-- the node c with all below it
abbrev pub subtree : List Node → ℕ → Forest Own → Forest Own
subtree xs c ts = node c (own_of xs c) (kids c ts) end

pub cut_loose : (xs ys : List Node) (c : ℕ) (ts : Forest Own) → Cut xs c ys
    → Distinct ts → count none ts ≡ 0 → count c ts ≡ 1 → ((k : ℕ) → 0 < count k ts → k < length xs) → length xs ≤ none
    → (up_of xs c ≡ c → ⊥) → Holds xs ts → Loose ys c (subtree xs c ts)
cut_loose xs ys c ts l u z o i s d h =
    record {
      starts = refl;
      nexts = (
        l.next_c,
        nexts_kept (next_of xs) (next_of ys) (kids c ts)
            (λ k r. l.next_off k (λ e. omega (arith, C k, u k, one_eq c k (sym e)))
            (out_off (prev_of xs c) k (kids c ts) (prev_apart c (prev_of xs) none ts u (inl refl) o h.prevs) (omega (arith, C none)) r))
            (kid_nexts c (next_of xs) ts o h.nexts),
        tt,
      );
      firsts = (
        l.first_off c (inl (λ e. d (sym e))) ∙ kid_head c (first_of xs) ts o h.firsts,
        firsts_kept (first_of xs) (first_of ys) (kids c ts) (λ k r. l.first_off k (inl (not_up k r))) (kid_firsts c (first_of xs) ts o h.firsts),
        tt,
      );
      lasts = (
        l.last_off c (inl (λ e. d (sym e))) ∙ kid_last c (last_of xs) ts o h.lasts,
        lasts_kept (last_of xs) (last_of ys) (kids c ts) (λ k r. l.last_off k (inl (not_up k r))) (kid_lasts c (last_of xs) ts o h.lasts),
        tt,
      );
      once = λ k. omega (arith, C k, u k);
      inside = λ k r. omega (arith, i k (omega (arith, C k)), l.long);
      small = omega (arith, l.long);
    }
  where
    C : (k : ℕ) → count k ts ≡ count k (delete c ts) + (one c k + count k (kids c ts))
    C k = del_count c k ts o

    not_up : (k : ℕ) → 0 < count k (kids c ts) → k ≡ up_of xs c → ⊥
    not_up k r e = omega (arith, ap (λ y. count y (kids c ts)) e, up_apart c (up_of xs) none ts u z o h.ups)

-- a table for a forest does not ask what stands at other places
pub holds_kept : (xs ys : List Node) (ts : Forest Own) → ((k : ℕ) → 0 < count k ts → at ys k ≡ at xs k) → Holds xs ts → Holds ys ts
holds_kept xs ys ts s h =
    record {
      owns = owns_kept (own_of xs) (own_of ys) ts (λ k l. ap (λ x. x.own) (s k l)) h.owns;
      ups = ups_kept (up_of xs) (up_of ys) none ts (λ k l. ap (λ x. x.parent.0) (s k l)) h.ups;
      prevs = prevs_kept (prev_of xs) (prev_of ys) none ts (λ k l. ap (λ x. x.prev.0) (s k l)) h.prevs;
      nexts = nexts_kept (next_of xs) (next_of ys) ts (λ k l. ap (λ x. x.next.0) (s k l)) h.nexts;
      firsts = firsts_kept (first_of xs) (first_of ys) ts (λ k l. ap (λ x. x.first.0) (s k l)) h.firsts;
      lasts = lasts_kept (last_of xs) (last_of ys) ts (λ k l. ap (λ x. x.last.0) (s k l)) h.lasts;
    }

-- what a sound table says of a node c that is no root
module _ (xs : List Node) (free : List ℕ) (ts : Forest Own) (h : Sound xs free ts) (c : ℕ) (o : 0 < count c ts) where
  pub cut_sound : (c ≡ 0 → ⊥) → (ys : List Node) → Cut xs c ys → (zs : List Node) (more : List ℕ) → Released ys free (subtree xs c ts) zs more → Sound zs more (delete c ts)
  cut_sound nz ys l zs more r =
      record {
        holds = holds_kept ys zs (delete c ts) (λ k m. r.off k (omega (arith, C k, each_once xs free ts h k))) (cut_holds xs ys c ts l (each_once xs free ts h) (none_out xs free ts h) (c_once xs free ts h c o) h.holds);
        starts = del_head c ts none (c_once xs free ts h c o) (λ e. nz (sym e ∙ h.starts)) ∙ h.starts;
        stops = del_last_off c none ts (c_once xs free ts h c o) (λ e. nz (sym e ∙ h.stops)) ∙ h.stops;
        once = λ k. omega (arith, h.once k, C k, S k, ap (λ y. within k y) len);
        sized = omega (arith, h.sized, del_size c ts (c_once xs free ts h c o), ap length r.stack, length-append free (places (subtree xs c ts)), length_places (subtree xs c ts), len);
        small = omega (arith, h.small, len);
        freed = λ k m. ⊎_elim (λ a. r.zeros k a)
            (λ a. ap (λ x. x.own.number) (r.off k (omega arith)) ∙ (ap (λ x. x.number) (l.own_all k) ∙ h.freed k (omega (arith, S k))))
            (cases_lt 0 (count k (subtree xs c ts)));
        live = λ k m e. h.live k (omega (arith, C k)) (sym (ap (λ x. x.number) (l.own_all k)) ∙ (sym (ap (λ x. x.own.number) (r.off k (omega (arith, C k, each_once xs free ts h k)))) ∙ e));
      }
    where
      C : (k : ℕ) → count k ts ≡ count k (delete c ts) + (one c k + count k (kids c ts))
      C k = del_count c k ts (c_once xs free ts h c o)

      S : (k : ℕ) → occurs k more ≡ occurs k free + count k (subtree xs c ts)
      S k = omega (arith, ap (λ y. occurs k y) r.stack, occurs-++ k free (places (subtree xs c ts)), occurs_places k (subtree xs c ts))

      len : length zs ≡ length xs
      len = r.long ∙ l.long

module _ (xs : List Node) (c : ℕ) where
  -- the last write, at c, and the two before it
  pub cut : c < length xs → up_of xs c < length xs → ((prev_of xs c ≡ none → ⊥) → prev_of xs c < length xs) → ((next_of xs c ≡ none → ⊥) → next_of xs c < length xs)
      → (prev_of xs c ≡ c → ⊥) → Cut xs c (unlinked xs c)
  cut c-in u_in q_in x-in qc =
      record {
        long = length-set B c w ∙ len_b;
        own_all = λ k. K (λ x. x.own) refl k ∙ (right_keeps A u q x (λ x. x.own) (λ _ _. refl) (λ _ _. refl) k ∙ left_keeps xs u q x (λ x. x.own) (λ _ _. refl) (λ _ _. refl) k);
        up_all = λ k. K (λ y. y.parent.0) refl k ∙ (right_keeps A u q x (λ y. y.parent.0) (λ _ _. refl) (λ _ _. refl) k ∙ left_keeps xs u q x (λ y. y.parent.0) (λ _ _. refl) (λ _ _. refl) k);
        next_c = ap (λ y. y.next.0) (at_same B c w (omega (arith, len_b)));
        next_q = λ d. ap (λ y. y.next.0) (at_other B c q w qc) ∙ (RNext q ∙ left_next xs u q x d (q_in d));
        next_off = λ k d e. ap (λ y. y.next.0) (at_other B c k w d) ∙ (RNext k ∙ left_next_off xs u q x k e);
        prev_x = λ d. K (λ y. y.prev.0) refl x ∙ right_prev A u q x d (omega (arith, x-in d, left_long xs u q x));
        prev_off = λ k d. K (λ y. y.prev.0) refl k ∙ (right_prev_off A u q x k (λ _. d) ∙ left_keeps xs u q x (λ y. y.prev.0) (λ _ _. refl) (λ _ _. refl) k);
        first_u = λ d. K (λ y. y.first.0) refl u ∙ (RFirst u ∙ left_first xs u q x d u_in);
        first_off = λ k d. K (λ y. y.first.0) refl k ∙ (RFirst k ∙ left_first_off xs u q x k d);
        last_u = λ d. K (λ y. y.last.0) refl u ∙ right_last A u q x d (omega (arith, left_long xs u q x));
        last_off = λ k d. K (λ y. y.last.0) refl k ∙ (right_last_off A u q x k d ∙ left_keeps xs u q x (λ y. y.last.0) (λ _ _. refl) (λ _ _. refl) k);
      }
    where
      u : ℕ
      u = up_of xs c

      q : ℕ
      q = prev_of xs c

      x : ℕ
      x = next_of xs c

      A : List Node
      A = cut_left xs (up_of xs c) (prev_of xs c) (next_of xs c)

      B : List Node
      B = cut_both xs (up_of xs c) (prev_of xs c) (next_of xs c)

      w : Node
      w = with_next (at (cut_both xs (up_of xs c) (prev_of xs c) (next_of xs c)) c) none

      len_b : length (cut_both xs (up_of xs c) (prev_of xs c) (next_of xs c)) ≡ length xs
      len_b = right_long A u q x ∙ left_long xs u q x

      K : {X : Type 0} (π : Node → X) → π (with_next (at (cut_both xs (up_of xs c) (prev_of xs c) (next_of xs c)) c) none) ≡ π (at (cut_both xs (up_of xs c) (prev_of xs c) (next_of xs c)) c)
          → (k : ℕ) → π (at (unlinked xs c) k) ≡ π (at (cut_both xs (up_of xs c) (prev_of xs c) (next_of xs c)) k)
      K π e k = keeps π (cut_both xs (up_of xs c) (prev_of xs c) (next_of xs c)) c (with_next (at (cut_both xs (up_of xs c) (prev_of xs c) (next_of xs c)) c) none) e k

      RNext : (k : ℕ) → next_of (cut_both xs (up_of xs c) (prev_of xs c) (next_of xs c)) k ≡ next_of (cut_left xs (up_of xs c) (prev_of xs c) (next_of xs c)) k
      RNext k = right_keeps A u q x (λ y. y.next.0) (λ _ _. refl) (λ _ _. refl) k

      RFirst : (k : ℕ) → first_of (cut_both xs (up_of xs c) (prev_of xs c) (next_of xs c)) k ≡ first_of (cut_left xs (up_of xs c) (prev_of xs c) (next_of xs c)) k
      RFirst k = right_keeps A u q x (λ y. y.first.0) (λ _ _. refl) (λ _ _. refl) k
