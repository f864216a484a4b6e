-- A leaf n that is linked in, whichever way: s has other links to its next sibling and its first child then, and what comes after the leaf, or the parent u
-- where nothing does, leads back to it.
use Rattle.std.proofs.Common.{◌≡◌, ℕ, ◌+◌, ◌<◌, ◌⊎◌, List, [], ◌∷◌, ◌++◌, length, set, sym, refl, ap, ◌∙◌, inl, inr, ⊎_elim, arith, length-append}
use Rattle.std.proofs.lemmas.List.{length-set}
use Rattle.std.proofs.lemmas.Bool.{cases_eq}
use Rattle.forest.specs.Forest.{Forest, one, count, size, occurs, head_or, last_or}
use Rattle.forest.specs.Links.{none}
use Rattle.forest.proofs.Frames.{one_same, one_other}
use Rattle.forest.proofs.Places.{occurs-++}
use Rattle.table.specs.declared.link.Link.{Link}
use Rattle.table.specs.declared.node.Own.{Own}
use Rattle.table.specs.declared.node.Node.{Node}
use Rattle.table.specs.Nodes.{leaf, at, own_of, up_of, prev_of, next_of, first_of, last_of}
use Rattle.table.specs.Writes.{with_prev, with_last, cut_right}
use Rattle.table.specs.Sound.{Holds, Sound, within}
use Rattle.table.proofs.Writes.{at_same, at_other, keeps, lt_within, within_le}
use Rattle.table.proofs.Sides.{right_keeps, right_long, right_other, right_prev, right_prev_off, right_last, right_last_off}

-- a record with other links to the sibling after and to the first child
abbrev pub turned : (Node → Link) → (Node → Link) → Node → Node
turned x f y = record { own = y.own; parent = y.parent; prev = y.prev; next = x y; first = f y; last = y.last }

-- the leaf at n, and s with other links
abbrev pub put : List Node → ℕ → ℕ → Node → (Node → Link) → (Node → Link) → List Node
put xs s n new x f = set (set xs n new) s (turned x f (at (set xs n new) s))

-- the table ys has the leaf n with i and the links u, p and q, where xs had not; x and f say the links of s then, by its record in xs
pub record Added (xs : List Node) (s n u p q : ℕ) (i : Own) (x f : Node → Link) (ys : List Node) : Type 0 where
  pub long : length ys ≡ length xs
  pub new : at ys n ≡ leaf i u p q
  pub own_off : (k : ℕ) → (k ≡ n → ⊥) → own_of ys k ≡ own_of xs k
  pub up_off : (k : ℕ) → (k ≡ n → ⊥) → up_of ys k ≡ up_of xs k
  pub next_s : next_of ys s ≡ (x (at xs s)).0
  pub next_off : (k : ℕ) → (k ≡ n → ⊥) → (k ≡ s → ⊥) → next_of ys k ≡ next_of xs k
  pub first_s : first_of ys s ≡ (f (at xs s)).0
  pub first_off : (k : ℕ) → (k ≡ n → ⊥) → (k ≡ s → ⊥) → first_of ys k ≡ first_of xs k
  pub prev_q : (prev_of ys q ≡ n) ⊎ (q ≡ none)
  pub prev_off : (k : ℕ) → (k ≡ n → ⊥) → (k ≡ q → ⊥) → prev_of ys k ≡ prev_of xs k
  pub last_u : q ≡ none → last_of ys u ≡ n
  pub last_off : (k : ℕ) → (k ≡ n → ⊥) → ((k ≡ u → ⊥) ⊎ (q ≡ none → ⊥)) → last_of ys k ≡ last_of xs k

-- what is written makes ys so
module _ (xs : List Node) (s n u p q : ℕ) (i : Own) (x f : Node → Link) (s_in : s < length xs) (n_in : n < length xs) (u_in : u < length xs) (ns : n ≡ s → ⊥) (nu : n ≡ u → ⊥)
    (q_is : (q ≡ none → ⊥) → (q < length xs) × (n ≡ q → ⊥)) where
  pub added : Added xs s n u p q i x f (cut_right (put xs s n (leaf i u p q) x f) u n q)
  added =
      record {
        long = right_long P u n q ∙ put_long;
        new = right_other P u n q n (λ _. nu) (λ d. (q_is d).1) ∙ (at_other F s n w ns ∙ at_same xs n (leaf i u p q) n_in);
        own_off = λ k d. K (λ y. y.own) (λ _ _. refl) (λ _ _. refl) k ∙ off (λ y. y.own) refl k d;
        up_off = λ k d. K (λ y. y.parent.0) (λ _ _. refl) (λ _ _. refl) k ∙ off (λ y. y.parent.0) refl k d;
        next_s = K (λ y. y.next.0) (λ _ _. refl) (λ _ _. refl) s ∙ (ap (λ y. y.next.0) put_s ∙ ap (λ y. (x y).0) old_s);
        next_off = λ k d e. K (λ y. y.next.0) (λ _ _. refl) (λ _ _. refl) k ∙ ap (λ y. y.next.0) (other k d e);
        first_s = K (λ y. y.first.0) (λ _ _. refl) (λ _ _. refl) s ∙ (ap (λ y. y.first.0) put_s ∙ ap (λ y. (f y).0) old_s);
        first_off = λ k d e. K (λ y. y.first.0) (λ _ _. refl) (λ _ _. refl) k ∙ ap (λ y. y.first.0) (other k d e);
        prev_q = ⊎_elim (λ e. inr e) (λ d. inl (right_prev P u n q d (omega (arith, (q_is d).0, put_long)))) (cases_eq q none);
        prev_off = λ k d e. right_prev_off P u n q k (λ _. e) ∙ off (λ y. y.prev.0) refl k d;
        last_u = λ e. right_last P u n q e (omega (arith, put_long));
        last_off = λ k d v. right_last_off P u n q k v ∙ off (λ y. y.last.0) refl k d;
      }
    where
      F : List Node
      F = set xs n (leaf i u p q)

      w : Node
      w = turned x f (at (set xs n (leaf i u p q)) s)

      P : List Node
      P = put xs s n (leaf i u p q) x f

      K : {X : Type 0} (π : Node → X) → ((y : Node) (v : ℕ) → π (with_last y v) ≡ π y) → ((y : Node) (v : ℕ) → π (with_prev y v) ≡ π y)
          → (k : ℕ) → π (at (cut_right (put xs s n (leaf i u p q) x f) u n q) k) ≡ π (at (put xs s n (leaf i u p q) x f) k)
      K π a b k = right_keeps (put xs s n (leaf i u p q) x f) u n q π a b k

      put_long : length (put xs s n (leaf i u p q) x f) ≡ length xs
      put_long = simp length-set

      put_s : at (put xs s n (leaf i u p q) x f) s ≡ turned x f (at (set xs n (leaf i u p q)) s)
      put_s = at_same F s w (omega (arith, length-set xs n (leaf i u p q)))

      old_s : at (set xs n (leaf i u p q)) s ≡ at xs s
      old_s = at_other xs n s (leaf i u p q) (λ e. ns (sym e))

      other : (k : ℕ) → (k ≡ n → ⊥) → (k ≡ s → ⊥) → at (put xs s n (leaf i u p q) x f) k ≡ at xs k
      other k d e = at_other F s k w e ∙ at_other xs n k (leaf i u p q) d

      -- a part of the record other than the two links
      off : {X : Type 0} (π : Node → X) → π (turned x f (at (set xs n (leaf i u p q)) s)) ≡ π (at (set xs n (leaf i u p q)) s)
          → (k : ℕ) → (k ≡ n → ⊥) → π (at (put xs s n (leaf i u p q) x f) k) ≡ π (at xs k)
      off π e k d = keeps π F s w e k ∙ ap π (at_other xs n k (leaf i u p q) d)

-- a link of s that is turned to where it led
pub also_at : (g h : ℕ → ℕ) (s n : ℕ) → g s ≡ h s → ((k : ℕ) → (k ≡ n → ⊥) → (k ≡ s → ⊥) → g k ≡ h k) → (k : ℕ) → (k ≡ n → ⊥) → g k ≡ h k
also_at g h s n e off k d = ⊎_elim (λ r. ap g r ∙ (e ∙ ap h (sym r))) (λ r. off k d r) (cases_eq k s)

-- what a sound table says of the free place on top, and of a table for a forest us with it
module _ (xs : List Node) (free : List ℕ) (n : ℕ) (ts : Forest Own) (h : Sound xs (free ++ n ∷ []) ts) where
  top_in : 0 < occurs n (free ++ n ∷ [])
  top_in = omega (arith, occurs-++ n free (n ∷ []), one_same n)

  pub top_within : n < length xs
  top_within = lt_within n (length xs) (omega (arith, h.once n, top_in))

  pub top_off : count n ts ≡ 0
  top_off = omega (arith, h.once n, within_le n (length xs), top_in)

  pub not_top : (k : ℕ) → 0 < count k ts → n ≡ k → ⊥
  not_top k l e = omega (arith, ap (λ y. count y ts) e, top_off)

  pub added_sound : (s u p q : ℕ) (i : Own) (x f : Node → Link) (ys : List Node) (us : Forest Own) → Added xs s n u p q i x f ys → (i.number ≡ 0 → ⊥) → Holds ys us
      → head_or us none ≡ head_or ts none → last_or us none ≡ last_or ts none → ((k : ℕ) → count k us ≡ one n k + count k ts) → size us ≡ 1 + size ts → Sound ys free us
  added_sound s u p q i x f ys us a nz holds head last counts grows =
      record {
        holds = holds;
        starts = head ∙ h.starts;
        stops = last ∙ h.stops;
        once = λ k. omega (arith, counts k, h.once k, occurs-++ k free (n ∷ []), ap (λ z. within k z) a.long);
        sized = omega (arith, grows, h.sized, length-append free (n ∷ []), a.long);
        small = omega (arith, h.small, a.long);
        freed = λ k l. ap (λ y. y.number) (a.own_off k (λ e. omega (arith, ap (λ z. occurs z free) e, h.once n, within_le n (length xs), occurs-++ n free (n ∷ []), one_same n)))
            ∙ h.freed k (omega (arith, occurs-++ k free (n ∷ [])));
        live = λ k l e. ⊎_elim (λ r. nz (sym (ap (λ y. y.own.number) a.new) ∙ (ap (λ y. (at ys y).own.number) (sym r) ∙ e)))
            (λ d. h.live k (omega (arith, counts k, one_other n k (λ r. d (sym r)))) (sym (ap (λ y. y.number) (a.own_off k d)) ∙ e)) (cases_eq k n);
      }
