-- Changes of one child list: where it is, what the change has to keep, and what it does to a value. Assumes nothing.
use Rattle.std.specs.Prelude.{◌≡◌, ℕ, ◌≤◌, false, cond, ◌⊎◌, List, [], ◌++◌, ◌==◌}
use Rattle.grammar.specs.Layout.{Comment, Parts, nil, part}
use Rattle.grammar.specs.Classes.{Blank}
use Rattle.grammar.specs.Grammar.{All}
use Rattle.grammar.specs.Pieces.{Box}
use Rattle.forest.specs.Forest.{end, node, count}
use Rattle.model.specs.Nodes.{Handle, within, Own, Nodes, Gap, gap, value, class}
use Rattle.model.specs.Edits.{Lines}
use Rattle.model.specs.Written.{Value}
use Rattle.model.specs.Sources.{Shows, IsOne, free, Shaped}
use Rattle.model.specs.State.{Edit, Remove, Replace, SetValue, SetRoot, Clear, SetTrailingCommas, EnsureMultiline}
use Rattle.model.specs.Fits.{of, title, element, role, takes, Fits, Whole, comments, remarks_of}

-- a node at the place c has the data j and the children ks
abbrev pub At : ℕ → Own → Nodes → Nodes → Type 0
At c j ks end = ⊥
At c j ks (node p i us ts) = ((p ≡ c) × (i ≡ j) × (us ≡ ks)) ⊎ (At c j ks us ⊎ At c j ks ts)

-- the change keeps the children of a container as the grammar has them
abbrev pub Keeps : (Nodes → Nodes) → Own → Nodes → Type 0
Keeps f j ks = (b : Box) × (j.sort ≡ within b) × (Fits (of b) ks → Whole ks → Fits (of b) (f ks) × Whole (f ks))

-- g of the parts below the part at the place c, and all else as it was
abbrev pub changed : ℕ → (Parts Handle → Parts Handle) → Parts Handle → Parts Handle
changed c g nil = nil
changed c g (part h l ks ts) = cond (h.place == c) (part h l (g ks) ts) (part h l (changed c g ks) (changed c g ts))

-- in a list the part x stands between two that stay, and in the list that it becomes y stands there
pub record Around (from x to y : List Comment) : Type 0 where
  pub before : List Comment
  pub behind : List Comment
  pub was : from ≡ before ++ (x ++ behind)
  pub is : to ≡ before ++ (y ++ behind)

-- siblings' parts without the one at the place k
abbrev pub lost : ℕ → Parts Handle → Parts Handle
lost k nil = nil
lost k (part h l ks ts) = cond (h.place == k) ts (part h l ks (lost k ts))

-- parts in order, and then others
abbrev pub chain : {A : Type 0} → Parts A → Parts A → Parts A
chain nil v = v
chain (part h l ks ts) v = part h l ks (chain ts v)

-- siblings' parts with new ones in the place of the one at the place k
abbrev pub swapped : ℕ → Parts Handle → Parts Handle → Parts Handle
swapped k v nil = nil
swapped k v (part h l ks ts) = cond (h.place == k) (chain v ts) (part h l ks (swapped k v ts))

-- g of the parts below the part at the place c; those of the root's children are all
abbrev pub changed_under : ℕ → (Parts Handle → Parts Handle) → Parts Handle → Parts Handle
changed_under c g v = cond (c == 0) (g v) (changed c g v)

-- P holds of each of the siblings
abbrev pub Each : (Own → Nodes → Type 0) → Nodes → Type 0
Each P end = Unit {0}
Each P (node p i ks ts) = P i ks × Each P ts

-- a child that is trivia
abbrev pub Trivial : Own → Nodes → Type 0
Trivial i ks = (g : Gap) × (class i.sort ≡ gap g)

-- what stands at the place c is an array or an object; a container
abbrev pub IsBracketed : ℕ → Nodes → Type 0
IsBracketed c ts = (j : Own) (ks : Nodes) → At c j ks ts → (b : Box) × (j.sort ≡ within b) × (takes (of b) title ≡ false)

abbrev pub IsContainer : ℕ → Nodes → Type 0
IsContainer c ts = (j : Own) (ks : Nodes) → At c j ks ts → (b : Box) × (j.sort ≡ within b)

-- what stands at the place k is a value or a property; a value
abbrev pub IsItem : ℕ → Nodes → Type 0
IsItem k ts = (j : Own) (ks : Nodes) → At k j ks ts → class j.sort ≡ value

abbrev pub IsElement : ℕ → Nodes → Type 0
IsElement k ts = (j : Own) (ks : Nodes) → At k j ks ts → (class j.sort ≡ value) × (role j.sort ≡ element)

-- the indents that are written are spaces and tabs
pub record Blanked (l : Lines) : Type 0 where
  pub inner_blank : All Blank l.inner
  pub current_blank : All Blank l.current

-- the places of a document: each once, and none is the root's
pub record Placed (ts : Nodes) : Type 0 where
  pub once : (k : ℕ) → count k ts ≤ 1
  pub rootless : count 0 ts ≡ 0

-- a value that a source may show
abbrev pub Showable : Value → Type 0
Showable v = IsOne v × Shaped v free × Shows v

-- the value that an edit writes is one that a source may show
abbrev pub Showing : Edit Value → Type 0
Showing (Remove h) = Unit {0}
Showing (Replace h v) = Showable v
Showing (SetValue h v) = Showable v
Showing (SetRoot v) = Showable v
Showing Clear = Unit {0}
Showing (SetTrailingCommas h m) = Unit {0}
Showing (EnsureMultiline h) = Unit {0}

-- the comments of the siblings before, nearest first, in text order
abbrev pub notes_before : Nodes → List Comment
notes_before end = []
notes_before (node p i ks bs) = notes_before bs ++ remarks_of (class i.sort) (comments ks)
