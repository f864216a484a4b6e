-- The walk that gives the places of a loose forest back: each turn takes its first node out, and puts that node's children in front of the rest.
use Rattle.std.proofs.Common.{◌≡◌, ℕ, ◌+◌, ◌<◌, ◌≤◌, true, false, eqb, List, [], ◌∷◌, ◌++◌, length, Some, None, Option, sym, refl, ap, ◌∙◌, subst, ⊎_elim, append_assoc, append-nil, arith, length-append}
use Rattle.std.proofs.lemmas.List.{length-set}
use Rattle.std.proofs.lemmas.Bool.{cases_eq, eq-eqb, ne_eqb, eqb-true, eqb-false, cond_both, cond-true, cond-false}
use Rattle.forest.specs.Forest.{Forest, end, node, one, count, size, places, head_or, last_or, append}
use Rattle.forest.specs.Links.{none, target, Firsts, Lasts}
use Rattle.forest.proofs.Frames.{one_same, one_eq, one_other, nexts_kept, firsts_kept, lasts_kept}
use Rattle.forest.proofs.Places.{length_places, places_append}
use Rattle.forest.proofs.Appends.{append_count, append_nexts, append_firsts, append_lasts, last_inside}
use Rattle.table.specs.declared.node.Own.{Own}
use Rattle.table.specs.declared.node.Node.{Node}
use Rattle.table.specs.Nodes.{at, next_of, first_of, last_of}
use Rattle.table.specs.Writes.{with_next, with_own, renumbered, set_next, cleared, spliced, afterwards}
use Rattle.table.specs.Sound.{Loose, Released}
use Rattle.table.proofs.Writes.{at_same, at_other, keeps}

-- a walk under way: from the table xs0 with the forest ts0 to give back, to the table xs, where todo is left
pub record Work (xs0 : List Node) (fr0 : List ℕ) (ts0 : Forest Own) (xs : List Node) (fr : List ℕ) (k : ℕ) : Type 0 where
  pub todo : Forest Own
  pub loose : Loose xs k todo
  pub part : (j : ℕ) → count j todo ≤ count j ts0
  pub long : length xs ≡ length xs0
  pub off : (j : ℕ) → count j ts0 ≡ 0 → at xs j ≡ at xs0 j
  pub zeros : (j : ℕ) → 0 < count j ts0 → count j todo ≡ 0 → (at xs j).own.number ≡ 0
  pub order : fr ++ places todo ≡ fr0 ++ places ts0

-- a link that leads nowhere
leads_off : (k : ℕ) → None ≡ target k → k ≡ none
leads_off k e =
    cond_both (eqb k none) None (Some k) (λ z. None ≡ z → k ≡ none) (λ d _. eqb-true k none d) (λ _ q. absurd (grind (arith, q))) e

-- a link that leads to a place is that place
leads_to : (k p : ℕ) → Some p ≡ target k → (k ≡ p) × (k ≡ none → ⊥)
leads_to k p e =
    cond_both (eqb k none) None (Some k) (λ z. Some p ≡ z → (k ≡ p) × (k ≡ none → ⊥)) (λ _ q. absurd (grind (arith, q)))
    (λ d q. (grind (arith, q), eqb-false k none d)) e

work_start : (xs : List Node) (fr : List ℕ) (ts : Forest Own) (k : ℕ) → Loose xs k ts → Work xs fr ts xs fr k
work_start xs fr ts k h =
    record {
      todo = ts;
      loose = h;
      part = λ j. omega arith;
      long = refl;
      off = λ j e. refl;
      zeros = λ j l e. absurd (omega arith);
      order = refl;
    }

module _ (xs0 : List Node) (fr0 : List ℕ) (ts0 : Forest Own) (xs : List Node) (fr : List ℕ) where
  work_end : Work xs0 fr0 ts0 xs fr none → Released xs0 fr0 ts0 xs fr
  work_end w = go w.todo w.loose w.zeros w.order
    where
      go : (us : Forest Own) → Loose xs none us → ((j : ℕ) → 0 < count j ts0 → count j us ≡ 0 → (at xs j).own.number ≡ 0)
          → fr ++ places us ≡ fr0 ++ places ts0 → Released xs0 fr0 ts0 xs fr
      go end l z s = record { long = w.long; off = w.off; zeros = λ j h. z j h refl; stack = sym (append-nil fr) ∙ s }
      go (node p i ks ts) l z s = absurd (omega (arith, l.inside none (omega (arith, one_eq p none l.starts)), l.small))

  -- the first node has no children
  step_leaf : (p : ℕ) (i : Own) (ts : Forest Own) (w : Work xs0 fr0 ts0 xs fr p) → w.todo ≡ node p i end ts
      → Work xs0 fr0 ts0 (cleared xs p) (fr ++ p ∷ []) (next_of xs p)
  step_leaf p i ts w e =
      record {
        todo = ts;
        loose = record {
          starts = sym L.nexts.0;
          nexts = nexts_kept (next_of xs) (next_of Y) ts (λ j _. K (λ x. x.next.0) refl j) L.nexts.2;
          firsts = firsts_kept (first_of xs) (first_of Y) ts (λ j _. K (λ x. x.first.0) refl j) L.firsts.2;
          lasts = lasts_kept (last_of xs) (last_of Y) ts (λ j _. K (λ x. x.last.0) refl j) L.lasts.2;
          once = λ j. omega (arith, L.once j);
          inside = λ j l. omega (arith, L.inside j (omega arith), len);
          small = omega (arith, L.small, len);
        };
        part = λ j. omega (arith, C j, w.part j);
        long = len ∙ w.long;
        off = λ j z. at_other xs p j (with_own (at xs p) (renumbered (at xs p).own 0)) (λ q. omega (arith, one_eq p j (sym q), C j, w.part j)) ∙ w.off j z;
        zeros = λ j l z. ⊎_elim (λ q. subst (λ y. (at Y y).own.number ≡ 0) (sym q) (ap (λ x. x.own.number) (at_same xs p (with_own (at xs p) (renumbered (at xs p).own 0)) p_in)))
            (λ q. ap (λ x. x.own.number) (at_other xs p j (with_own (at xs p) (renumbered (at xs p).own 0)) q) ∙ w.zeros j l (omega (arith, C j, one_other p j (λ r. q (sym r))))) (cases_eq j p);
        order = append_assoc fr (p ∷ []) (places ts) ∙ (ap (λ y. fr ++ places y) (sym e) ∙ w.order);
      }
    where
      Y : List Node
      Y = cleared xs p

      L : Loose xs p (node p i end ts)
      L = subst (λ y. Loose xs p y) e w.loose

      C : (j : ℕ) → count j w.todo ≡ one p j + (0 + count j ts)
      C j = ap (λ y. count j y) e

      p_in : p < length xs
      p_in = L.inside p (omega (arith, one_same p))

      len : length (cleared xs p) ≡ length xs
      len = length-set xs p (with_own (at xs p) (renumbered (at xs p).own 0))

      K : {X : Type 0} (π : Node → X) → π (with_own (at xs p) (renumbered (at xs p).own 0)) ≡ π (at xs p) → (j : ℕ) → π (at (cleared xs p) j) ≡ π (at xs j)
      K π e j = keeps π xs p (with_own (at xs p) (renumbered (at xs p).own 0)) e j

  -- the first node has children, the last of which is q
  step_deep : (p : ℕ) (i : Own) (a : ℕ) (j : Own) (ls bs ts : Forest Own) (w : Work xs0 fr0 ts0 xs fr p) → w.todo ≡ node p i (node a j ls bs) ts
      → Work xs0 fr0 ts0 (cleared (set_next xs (last_of xs p) (next_of xs p)) p) (fr ++ p ∷ []) a
  step_deep p i a j ls bs ts w e =
      record {
        todo = append (node a j ls bs) ts;
        loose = record {
          starts = refl;
          nexts = append_nexts (next_of xs) (next_of Y) bs ts a j ls (λ m. omega (arith, L.once m))
              (K (λ x. x.next.0) refl (last_or bs a) ∙ (ap (λ y. next_of Z y) (sym q_is) ∙ (ap (λ x. x.next.0) (at_same xs (last_of xs p) v q_in) ∙ L.nexts.0)))
              (λ m d. K (λ x. x.next.0) refl m ∙ ap (λ x. x.next.0) (at_other xs (last_of xs p) m v (λ r. d (r ∙ q_is))))
              (omega (arith, L.once (last_or bs a), last_inside a j ls bs none)) L.nexts.1 L.nexts.2;
          firsts = append_firsts (first_of Y) (node a j ls bs) ts (F (node a j ls bs) L.firsts.1) (F ts L.firsts.2);
          lasts = append_lasts (last_of Y) (node a j ls bs) ts (G (node a j ls bs) L.lasts.1) (G ts L.lasts.2);
          once = λ m. omega (arith, L.once m, append_count m bs ts);
          inside = λ m l. omega (arith, L.inside m (omega (arith, append_count m bs ts)), len);
          small = omega (arith, L.small, len);
        };
        part = λ m. omega (arith, C m, w.part m, append_count m bs ts);
        long = len ∙ w.long;
        off = λ m z. at_other Z p m u (λ r. omega (arith, one_eq p m (sym r), C m, w.part m))
            ∙ (at_other xs (last_of xs p) m v (λ r. omega (arith, ap (λ y. count y (node a j ls bs)) (r ∙ q_is), last_inside a j ls bs none, C m, w.part m)) ∙ w.off m z);
        zeros = λ m l z. ⊎_elim (λ r. subst (λ y. (at Y y).own.number ≡ 0) (sym r) (ap (λ x. x.own.number) (at_same Z p u (omega (arith, p_in, len_Z)))))
            (λ r. ap (λ x. x.own.number) (at_other Z p m u r) ∙ (keeps (λ x. x.own.number) xs (last_of xs p) v refl m
            ∙ w.zeros m l (omega (arith, C m, append_count m bs ts, one_other p m (λ t. r (sym t)))))) (cases_eq m p);
        order = append_assoc fr (p ∷ []) (places (append (node a j ls bs) ts))
            ∙ (ap (λ y. fr ++ p ∷ y) (places_append (node a j ls bs) ts) ∙ (ap (λ y. fr ++ places y) (sym e) ∙ w.order));
      }
    where
      v : Node
      v = with_next (at xs (last_of xs p)) (next_of xs p)

      Z : List Node
      Z = set_next xs (last_of xs p) (next_of xs p)

      u : Node
      u = with_own (at (set_next xs (last_of xs p) (next_of xs p)) p) (renumbered (at (set_next xs (last_of xs p) (next_of xs p)) p).own 0)

      Y : List Node
      Y = cleared (set_next xs (last_of xs p) (next_of xs p)) p

      L : Loose xs p (node p i (node a j ls bs) ts)
      L = subst (λ y. Loose xs p y) e w.loose

      C : (m : ℕ) → count m w.todo ≡ one p m + ((one a m + (count m ls + count m bs)) + count m ts)
      C m = ap (λ y. count m y) e

      p_in : p < length xs
      p_in = L.inside p (omega (arith, one_same p))

      q_is : last_of xs p ≡ last_or bs a
      q_is = L.lasts.0

      q_in : last_of xs p < length xs
      q_in = subst (λ y. y < length xs) (sym L.lasts.0) (L.inside (last_or bs a) (omega (arith, last_inside a j ls bs none)))

      len_Z : length (set_next xs (last_of xs p) (next_of xs p)) ≡ length xs
      len_Z = simp length-set

      len : length (cleared (set_next xs (last_of xs p) (next_of xs p)) p) ≡ length xs
      len = simp length-set

      K : {X : Type 0} (π : Node → X) → π (with_own (at (set_next xs (last_of xs p) (next_of xs p)) p) (renumbered (at (set_next xs (last_of xs p) (next_of xs p)) p).own 0)) ≡ π (at (set_next xs (last_of xs p) (next_of xs p)) p) → (m : ℕ)
          → π (at (cleared (set_next xs (last_of xs p) (next_of xs p)) p) m) ≡ π (at (set_next xs (last_of xs p) (next_of xs p)) m)
      K π e m = keeps π (set_next xs (last_of xs p) (next_of xs p)) p (with_own (at (set_next xs (last_of xs p) (next_of xs p)) p) (renumbered (at (set_next xs (last_of xs p) (next_of xs p)) p).own 0)) e m

      F : (us : Forest Own) → Firsts (first_of xs) us → Firsts (first_of (cleared (set_next xs (last_of xs p) (next_of xs p)) p)) us
      F us h = firsts_kept (first_of xs) (first_of (cleared (set_next xs (last_of xs p) (next_of xs p)) p)) us
          (λ m _. K (λ x. x.first.0) refl m ∙ keeps (λ x. x.first.0) xs (last_of xs p) (with_next (at xs (last_of xs p)) (next_of xs p)) refl m) h

      G : (us : Forest Own) → Lasts (last_of xs) us → Lasts (last_of (cleared (set_next xs (last_of xs p) (next_of xs p)) p)) us
      G us h = lasts_kept (last_of xs) (last_of (cleared (set_next xs (last_of xs p) (next_of xs p)) p)) us
          (λ m _. K (λ x. x.last.0) refl m ∙ keeps (λ x. x.last.0) xs (last_of xs p) (with_next (at xs (last_of xs p)) (next_of xs p)) refl m) h

  work_more : (k : ℕ) → Work xs0 fr0 ts0 xs fr k → (k ≡ none → ⊥) → Work xs0 fr0 ts0 (cleared (spliced xs k) k) (fr ++ k ∷ []) (afterwards xs k)
  work_more k w d = go w.todo refl
    where
      go : (us : Forest Own) → w.todo ≡ us → Work xs0 fr0 ts0 (cleared (spliced xs k) k) (fr ++ k ∷ []) (afterwards xs k)
      go end e = absurd (d (sym (sym (ap (λ y. head_or y none) e) ∙ w.loose.starts)))
      go (node p i end ts) e =
          let pk : p ≡ k = sym (ap (λ y. head_or y none) e) ∙ w.loose.starts in
          let e' : w.todo ≡ node k i end ts = e ∙ ap (λ y. node y i end ts) pk in
          let L : Loose xs k (node k i end ts) = subst (λ y. Loose xs k y) e' w.loose in
          let t : eqb (first_of xs k) none ≡ true = eq-eqb (first_of xs k) none L.firsts.0 in
          subst (λ Y. Work xs0 fr0 ts0 (cleared Y k) (fr ++ k ∷ []) (afterwards xs k)) (sym (cond-true (eqb (first_of xs k) none) xs (set_next xs (last_of xs k) (next_of xs k)) t))
          (subst (λ y. Work xs0 fr0 ts0 (cleared xs k) (fr ++ k ∷ []) y) (sym (cond-true (eqb (first_of xs k) none) (next_of xs k) (first_of xs k) t)) (step_leaf k i ts w e'))
      go (node p i (node a j ls bs) ts) e =
          let pk : p ≡ k = sym (ap (λ y. head_or y none) e) ∙ w.loose.starts in
          let e' : w.todo ≡ node k i (node a j ls bs) ts = e ∙ ap (λ y. node y i (node a j ls bs) ts) pk in
          let L : Loose xs k (node k i (node a j ls bs) ts) = subst (λ y. Loose xs k y) e' w.loose in
          let ne : first_of xs k ≡ none → ⊥ = λ q. omega (arith, L.inside none (omega (arith, one_eq a none (sym L.firsts.0 ∙ q))), L.small) in
          let t : eqb (first_of xs k) none ≡ false = ne_eqb (first_of xs k) none ne in
          subst (λ Y. Work xs0 fr0 ts0 (cleared Y k) (fr ++ k ∷ []) (afterwards xs k)) (sym (cond-false (eqb (first_of xs k) none) xs (set_next xs (last_of xs k) (next_of xs k)) t))
          (subst (λ y. Work xs0 fr0 ts0 (cleared (set_next xs (last_of xs k) (next_of xs k)) k) (fr ++ k ∷ []) y)
          (sym (cond-false (eqb (first_of xs k) none) (next_of xs k) (first_of xs k) t ∙ L.firsts.0)) (step_deep k i a j ls bs ts w e'))

  -- what a turn of the walk asks
  work_in : (k : ℕ) → Work xs0 fr0 ts0 xs fr k → (k ≡ none → ⊥) → k < length xs
  work_in k w d = go w.todo w.loose
    where
      go : (us : Forest Own) → Loose xs k us → k < length xs
      go end l = absurd (d (sym l.starts))
      go (node p i ks ts) l = l.inside k (omega (arith, one_eq p k l.starts))

  work_last : (k : ℕ) → Work xs0 fr0 ts0 xs fr k → (k ≡ none → ⊥) → (first_of xs k ≡ none → ⊥) → last_of xs k < length xs
  work_last k w d f = go w.todo w.loose
    where
      go : (us : Forest Own) → Loose xs k us → last_of xs k < length xs
      go end l = absurd (d (sym l.starts))
      go (node p i end ts) l = absurd (f (ap (first_of xs) (sym l.starts) ∙ l.firsts.0))
      go (node p i (node a j ls bs) ts) l =
          subst (λ y. y < length xs) (sym (ap (last_of xs) (sym l.starts) ∙ l.lasts.0)) (l.inside (last_or bs a) (omega (arith, last_inside a j ls bs none)))

  work_room : (k : ℕ) → Work xs0 fr0 ts0 xs fr k → (k ≡ none → ⊥) → length fr < length fr0 + size ts0
  work_room k w d = go w.todo w.loose w.order
    where
      go : (us : Forest Own) → Loose xs k us → fr ++ places us ≡ fr0 ++ places ts0 → length fr < length fr0 + size ts0
      go end l m = absurd (d (sym l.starts))
      go (node p i ks ts) l m =
          omega (arith, ap length m, length-append fr (places (node p i ks ts)), length_places (node p i ks ts), length-append fr0 (places ts0), length_places ts0)

-- a walk under way, and its next step
pub record Walk (xs0 : List Node) (fr0 : List ℕ) (ts0 : Forest Own) (xs : List Node) (fr : List ℕ) (step : Option ℕ) : Type 0 where
  pub place : ℕ
  pub leads : step ≡ target place
  pub work : Work xs0 fr0 ts0 xs fr place

pub walk_start : (xs : List Node) (fr : List ℕ) (ts : Forest Own) (k : ℕ) (step : Option ℕ) → Loose xs k ts → step ≡ target k → Walk xs fr ts xs fr step
walk_start xs fr ts k step h e = record { place = k; leads = e; work = work_start xs fr ts k h }

module _ (xs0 : List Node) (fr0 : List ℕ) (ts0 : Forest Own) (xs : List Node) (fr : List ℕ) (step : Option ℕ) (w : Walk xs0 fr0 ts0 xs fr step) where
  pub walk_end : step ≡ None → Released xs0 fr0 ts0 xs fr
  walk_end e = work_end xs0 fr0 ts0 xs fr (subst (λ k. Work xs0 fr0 ts0 xs fr k) (leads_off w.place (sym e ∙ w.leads)) w.work)

  module _ (p : ℕ) (e : step ≡ Some p) where
    -- the walk stands at p
    to : (w.place ≡ p) × (w.place ≡ none → ⊥)
    to = leads_to w.place p (sym e ∙ w.leads)

    ne : p ≡ none → ⊥
    ne z = to.1 (to.0 ∙ z)

    here : Work xs0 fr0 ts0 xs fr p
    here = subst (λ k. Work xs0 fr0 ts0 xs fr k) to.0 w.work

    -- what a turn of the walk asks
    pub walk_in : p < length xs
    walk_in = work_in xs0 fr0 ts0 xs fr p here ne

    pub walk_last : (first_of xs p ≡ none → ⊥) → last_of xs p < length xs
    walk_last f = work_last xs0 fr0 ts0 xs fr p here ne f

    pub walk_room : length fr < length fr0 + size ts0
    walk_room = work_room xs0 fr0 ts0 xs fr p here ne

    -- the walk goes on from the table, the stack and the step that a turn makes
    pub walk_on : (ys : List Node) (more : List ℕ) (next : Option ℕ) → ys ≡ cleared (spliced xs p) p → more ≡ fr ++ p ∷ [] → next ≡ target (afterwards xs p)
        → Walk xs0 fr0 ts0 ys more next
    walk_on ys more next a b c =
        record {
          place = afterwards xs p;
          leads = c;
          work = subst (λ y. Work xs0 fr0 ts0 y more (afterwards xs p)) (sym a)
              (subst (λ y. Work xs0 fr0 ts0 (cleared (spliced xs p) p) y (afterwards xs p)) (sym b) (work_more xs0 fr0 ts0 xs fr p here ne));
        }
