-- The write at one side of a node: at the sibling there, or at the parent u where there is none.
use Rattle.std.proofs.Common.{◌≡◌, ℕ, ◌<◌, eqb, ◌⊎◌, List, length, refl, ap, ⊎_elim}
use Rattle.std.proofs.lemmas.List.{length-set}
use Rattle.std.proofs.lemmas.Bool.{cond_both, eqb-true, eqb-false}
use Rattle.forest.specs.Links.{none}
use Rattle.table.specs.declared.node.Node.{Node}
use Rattle.table.specs.Nodes.{at, prev_of, next_of, first_of, last_of}
use Rattle.table.specs.Writes.{with_next, with_prev, with_last, with_first, set_next, set_prev, set_first, set_last, cut_left, cut_right}
use Rattle.table.proofs.Writes.{at_same, at_other, keeps}

module _ (xs : List Node) (u q x : ℕ) where
  left_case : (P : List Node → Type 0) → (q ≡ none → P (set_first xs u x)) → ((q ≡ none → ⊥) → P (set_next xs q x)) → P (cut_left xs u q x)
  left_case P a b = cond_both (eqb q none) (set_first xs u x) (set_next xs q x) P (λ e. a (eqb-true q none e)) (λ e. b (eqb-false q none e))

  pub left_keeps : {X : Type 0} (π : Node → X) → ((y : Node) (v : ℕ) → π (with_first y v) ≡ π y) → ((y : Node) (v : ℕ) → π (with_next y v) ≡ π y)
      → (k : ℕ) → π (at (cut_left xs u q x) k) ≡ π (at xs k)
  left_keeps π a b k =
      left_case (λ z. π (at z k) ≡ π (at xs k)) (λ _. keeps π xs u (with_first (at xs u) x) (a (at xs u) x) k) (λ _. keeps π xs q (with_next (at xs q) x) (b (at xs q) x) k)

  pub left_long : length (cut_left xs u q x) ≡ length xs
  left_long = left_case (λ z. length z ≡ length xs) (λ _. simp length-set) (λ _. simp length-set)

  pub left_next : (q ≡ none → ⊥) → q < length xs → next_of (cut_left xs u q x) q ≡ x
  left_next d l = left_case (λ z. next_of z q ≡ x) (λ e. absurd (d e)) (λ _. ap (λ y. y.next.0) (at_same xs q (with_next (at xs q) x) l))

  pub left_next_off : (k : ℕ) → (k ≡ q → ⊥) → next_of (cut_left xs u q x) k ≡ next_of xs k
  left_next_off k d =
      left_case (λ z. next_of z k ≡ next_of xs k) (λ _. keeps (λ y. y.next.0) xs u (with_first (at xs u) x) refl k)
      (λ _. ap (λ y. y.next.0) (at_other xs q k (with_next (at xs q) x) d))

  pub left_first : q ≡ none → u < length xs → first_of (cut_left xs u q x) u ≡ x
  left_first d l = left_case (λ z. first_of z u ≡ x) (λ _. ap (λ y. y.first.0) (at_same xs u (with_first (at xs u) x) l)) (λ e. absurd (e d))

  pub left_first_off : (k : ℕ) → ((k ≡ u → ⊥) ⊎ (q ≡ none → ⊥)) → first_of (cut_left xs u q x) k ≡ first_of xs k
  left_first_off k d =
      left_case (λ z. first_of z k ≡ first_of xs k)
      (λ e. ⊎_elim (λ n. ap (λ y. y.first.0) (at_other xs u k (with_first (at xs u) x) n)) (λ n. absurd (n e)) d)
      (λ _. keeps (λ y. y.first.0) xs q (with_next (at xs q) x) refl k)

  right_case : (P : List Node → Type 0) → (x ≡ none → P (set_last xs u q)) → ((x ≡ none → ⊥) → P (set_prev xs x q)) → P (cut_right xs u q x)
  right_case P a b = cond_both (eqb x none) (set_last xs u q) (set_prev xs x q) P (λ e. a (eqb-true x none e)) (λ e. b (eqb-false x none e))

  pub right_keeps : {X : Type 0} (π : Node → X) → ((y : Node) (v : ℕ) → π (with_last y v) ≡ π y) → ((y : Node) (v : ℕ) → π (with_prev y v) ≡ π y)
      → (k : ℕ) → π (at (cut_right xs u q x) k) ≡ π (at xs k)
  right_keeps π a b k =
      right_case (λ z. π (at z k) ≡ π (at xs k)) (λ _. keeps π xs u (with_last (at xs u) q) (a (at xs u) q) k) (λ _. keeps π xs x (with_prev (at xs x) q) (b (at xs x) q) k)

  pub right_long : length (cut_right xs u q x) ≡ length xs
  right_long = right_case (λ z. length z ≡ length xs) (λ _. simp length-set) (λ _. simp length-set)

  pub right_other : (k : ℕ) → (x ≡ none → k ≡ u → ⊥) → ((x ≡ none → ⊥) → k ≡ x → ⊥) → at (cut_right xs u q x) k ≡ at xs k
  right_other k a b =
      right_case (λ z. at z k ≡ at xs k) (λ e. at_other xs u k (with_last (at xs u) q) (a e)) (λ e. at_other xs x k (with_prev (at xs x) q) (b e))

  pub right_prev : (x ≡ none → ⊥) → x < length xs → prev_of (cut_right xs u q x) x ≡ q
  right_prev d l = right_case (λ z. prev_of z x ≡ q) (λ e. absurd (d e)) (λ _. ap (λ y. y.prev.0) (at_same xs x (with_prev (at xs x) q) l))

  pub right_prev_off : (k : ℕ) → ((x ≡ none → ⊥) → k ≡ x → ⊥) → prev_of (cut_right xs u q x) k ≡ prev_of xs k
  right_prev_off k d =
      right_case (λ z. prev_of z k ≡ prev_of xs k) (λ _. keeps (λ y. y.prev.0) xs u (with_last (at xs u) q) refl k)
      (λ e. ap (λ y. y.prev.0) (at_other xs x k (with_prev (at xs x) q) (d e)))

  pub right_last : x ≡ none → u < length xs → last_of (cut_right xs u q x) u ≡ q
  right_last d l = right_case (λ z. last_of z u ≡ q) (λ _. ap (λ y. y.last.0) (at_same xs u (with_last (at xs u) q) l)) (λ e. absurd (e d))

  pub right_last_off : (k : ℕ) → ((k ≡ u → ⊥) ⊎ (x ≡ none → ⊥)) → last_of (cut_right xs u q x) k ≡ last_of xs k
  right_last_off k d =
      right_case (λ z. last_of z k ≡ last_of xs k)
      (λ e. ⊎_elim (λ n. ap (λ y. y.last.0) (at_other xs u k (with_last (at xs u) q) n)) (λ n. absurd (n e)) d)
      (λ _. keeps (λ y. y.last.0) xs x (with_prev (at xs x) q) refl k)
