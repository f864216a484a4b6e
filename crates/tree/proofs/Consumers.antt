-- What the calls that run a walk answer, of a node's children, of its siblings and of its ancestors. Assumes nothing.
use denote.Param.Members.{Mut}
use Rattle.std.proofs.Common.{◌≡◌, ℕ, ◌≤◌, Bool, true, false, not, Bor, List, length, None, Option, ap, ◌∙◌}
use Rattle.std.specs.Bool.{⊤}
use Rattle.std.specs.Fn.{Called, CalledAt}
use Rattle.std.specs.List.{FoldsTo, slice_get, filter, find, last_or, take_while}
use Rattle.std.specs.Option.{option_map, MatchOption}
use Rattle.std.specs.Iterator.{YieldsThen, YieldsFirstBy, Drains}
use Rattle.std.specs.Iterator.Adapters.{filter_source, filter_callee, filter_steps, take_while_source, take_while_callee, take_while_done, take_while_steps}
use Rattle.std.proofs.lemmas.Iterator.{YieldsList}
use Rattle.std.proofs.lemmas.Iterator.Consumers.{YieldsList-from_first, YieldsList-from_filter, nth_from_yields_List, count_from_yields_List}
use Rattle.std.proofs.lemmas.Iterator.Search.{YieldsList-from_take_while, any_from_yields_List, find_from_yields_List}
use Rattle.model.specs.Nodes.{Class, class}
use Rattle.model.specs.Asks.{Spot, sort_of, spot_handle, any, tally, child_at, is_gap, is_value, value_in, trailing, then, behind_last}
use Rattle.tree.specs.declared.node.Node.{Node}
use Rattle.tree.specs.declared.walks.Siblings.{Siblings}
use Rattle.tree.specs.declared.walks.Preceding.{Preceding}
use Rattle.tree.specs.declared.walks.Ancestors.{Ancestors}
use Rattle.tree.specs.Steps.{spot, child_spots, later_spots, earlier_spots, ancestor_spots}
use Rattle.tree.specs.Walks.{siblings_left, preceding_left, ancestors_left}
use Rattle.tree.proofs.Listed.{length_up, tally_back, any_on, child_at_on, value_in_on, comma_of, trailing_on, last_gives, behind_last_on}

-- `count` of the ancestors
pub counted_up : {w : Ancestors} (s : Spot) (r : ℕ) → (xs : List Node) × Drains (YieldsFirstBy spot ancestors_left) w xs × (r ≡ length xs) → ancestors_left w ≡ ancestor_spots s → r ≡ length s.ups
counted_up {w} s r d e = count_from_yields_List w r d (YieldsList-from_first spot ancestors_left _ e) ∙ length_up s s.ups

-- `nth` of the children
pub nth_child : {w : Siblings} (u : Siblings) (s : Spot) (r : Option Node) (n : ℕ)
    → (xs : List Node) × YieldsThen (YieldsFirstBy spot siblings_left) w xs r u × MatchOption r (length xs ≤ n) (λ _. length xs ≡ n)
    → siblings_left w ≡ child_spots s → option_map spot_handle (option_map spot r) ≡ child_at n s.kids
nth_child u s r n d e =
    ap (option_map spot_handle) (nth_from_yields_List r u n d (YieldsList-from_first spot siblings_left _ e)) ∙ child_at_on n _ _ s.kids

-- `any` of the children, by a test of their classes
pub any_child : {F : Type 0} {g : Mut F (Node × Unit {0}) Bool} {w : Siblings} (f : F) (u : Siblings) (s : Spot) (r : Bool) (test : Class → Bool)
    → (xs : List Node) × (o : Option Node) × (j : F) × YieldsThen (YieldsFirstBy spot siblings_left) w xs o u × FoldsTo (λ p x q. Called g p (x, tt) false q) f xs j × MatchOption o (r ≡ false) (λ x. (r ≡ true) × ((h : F) × Called g j (x, tt) true h))
    → siblings_left w ≡ child_spots s → ((x : Node) (b : Bool) (q : F) → Called g f (x, tt) b q → (q ≡ f) × (b ≡ test (class (sort_of (spot x))))) → r ≡ any test s.kids
any_child f u s r test d e k =
    any_from_yields_List (λ (s : Spot). test (class (sort_of s))) u f r d (YieldsList-from_first spot siblings_left _ e) k ∙ any_on test _ _ s.kids

-- a closure that is lent nodes tests them so, by their spots
abbrev pub Tests : {F : Type 0} → Mut F (Bor Node × Unit {0}) Bool → F → (Spot → Bool) → Type 0
Tests g f test = (x : Node) (b : Bool) (q : _) → CalledAt g f x b q → (q ≡ f) × (b ≡ test (spot x))

module _ {F : Type 0} {g : Mut F (Bor Node × Unit {0}) Bool} where
  -- `find` among siblings
  pub found_sibling : {w : Siblings} (f : F) (u : Siblings) (xs : List Spot) (r : Option Node) (test : Spot → Bool)
      → (xs : List Node) × (j : F) × YieldsThen (YieldsFirstBy spot siblings_left) w xs r u × FoldsTo (λ p x q. CalledAt g p x false q) f xs j × MatchOption r ⊤ (λ x. (h : F) × CalledAt g j x true h)
      → siblings_left w ≡ xs → Tests g f test → option_map spot r ≡ find test xs
  found_sibling f u xs r test d e k = find_from_yields_List test u f r d (YieldsList-from_first spot siblings_left xs e) k

  -- `find` of a value or member among the children
  pub found_value : {w : Siblings} (f : F) (u : Siblings) (s : Spot) (r : Option Node)
      → (xs : List Node) × (j : F) × YieldsThen (YieldsFirstBy spot siblings_left) w xs r u × FoldsTo (λ p x q. CalledAt g p x false q) f xs j × MatchOption r ⊤ (λ x. (h : F) × CalledAt g j x true h)
      → siblings_left w ≡ child_spots s → Tests g f (λ s. is_value (class (sort_of s))) → option_map spot_handle (option_map spot r) ≡ value_in s.kids
  found_value f u s r d e k = ap (option_map spot_handle) (found_sibling f u _ r (λ s. is_value (class (sort_of s))) d e k) ∙ value_in_on _ _ s.kids

  -- `find` of a node that is no trivia behind the node
  pub found_solid : {w : Siblings} (f : F) (u : Siblings) (s : Spot) (r : Option Node)
      → (xs : List Node) × (j : F) × YieldsThen (YieldsFirstBy spot siblings_left) w xs r u × FoldsTo (λ p x q. CalledAt g p x false q) f xs j × MatchOption r ⊤ (λ x. (h : F) × CalledAt g j x true h)
      → siblings_left w ≡ later_spots s → Tests g f (λ s. not (is_gap (class (sort_of s)))) → then (option_map spot r) comma_of ≡ trailing s.here.after
  found_solid f u s r d e k = ap (λ o. then o comma_of) (found_sibling f u _ r (λ s. not (is_gap (class (sort_of s)))) d e k) ∙ trailing_on _ _ s.here.after

  -- `filter` of the children, of values and members
  values : {w : _} {f : F} {v : Siblings} (s : Spot) → filter_source w ≡ v → filter_callee w ≡ f → siblings_left v ≡ child_spots s → Tests g f (λ s. is_value (class (sort_of s)))
      → YieldsList (filter_steps (YieldsFirstBy spot siblings_left) g) spot w (filter (λ s. is_value (class (sort_of s))) (child_spots s))
  values s a b e k = YieldsList-from_filter g (λ s. is_value (class (sort_of s))) (YieldsList-from_first spot siblings_left (child_spots s) (ap siblings_left a ∙ e)) b k

  -- and `nth` of them
  pub nth_value : {w : _} {f : F} {v : Siblings} (u : _) (s : Spot) (r : Option Node) (n : ℕ)
      → (xs : List Node) × YieldsThen (filter_steps (YieldsFirstBy spot siblings_left) g) w xs r u × MatchOption r (length xs ≤ n) (λ _. length xs ≡ n)
      → filter_source w ≡ v → filter_callee w ≡ f → siblings_left v ≡ child_spots s → Tests g f (λ s. is_value (class (sort_of s)))
      → option_map spot r ≡ slice_get (filter (λ s. is_value (class (sort_of s))) (child_spots s)) n
  nth_value u s r n d a b e k = nth_from_yields_List r u n d (values s a b e k)

  -- and `last` of them: what stands behind it
  pub last_value : {w : _} {f : F} {v : Siblings} (s : Spot) (r : Option Node)
      → (xs : List Node) × Drains (filter_steps (YieldsFirstBy spot siblings_left) g) w xs × (r ≡ last_or None xs)
      → filter_source w ≡ v → filter_callee w ≡ f → siblings_left v ≡ child_spots s → Tests g f (λ s. is_value (class (sort_of s)))
      → option_map (λ s. s.here.after) (option_map spot r) ≡ behind_last s.kids
  last_value s r d a b e k = ap (option_map (λ s. s.here.after)) (last_gives r d (values s a b e k)) ∙ behind_last_on _ _ s.kids

  -- `filter` and `count` of values and members before the node
  pub counted_values : {w : _} {f : F} {v : Preceding} (s : Spot) (r : ℕ)
      → (xs : List Node) × Drains (filter_steps (YieldsFirstBy spot preceding_left) g) w xs × (r ≡ length xs)
      → filter_source w ≡ v → filter_callee w ≡ f → preceding_left v ≡ earlier_spots s → Tests g f (λ s. is_value (class (sort_of s)))
      → r ≡ tally is_value s.here.before
  counted_values {w} s r d a b e k =
      count_from_yields_List w r d (YieldsList-from_filter g (λ s. is_value (class (sort_of s))) (YieldsList-from_first spot preceding_left (earlier_spots s) (ap preceding_left a ∙ e)) b k)
      ∙ tally_back is_value _ _ s.here.before

  -- `take_while` of the siblings before the node
  pub taken_back : {w : _} {f : F} {v : Preceding} (s : Spot) (test : Spot → Bool)
      → take_while_source w ≡ v → take_while_callee w ≡ f → take_while_done w ≡ false → preceding_left v ≡ earlier_spots s → Tests g f test
      → YieldsList (take_while_steps (YieldsFirstBy spot preceding_left) g) spot w (take_while test (earlier_spots s))
  taken_back s test a b h e k = YieldsList-from_take_while g test (YieldsList-from_first spot preceding_left (earlier_spots s) (ap preceding_left a ∙ e)) b h k
