-- Handles over a document's life: places and numbers are handed out once, and a handle keeps its node or is Gone. Assumes nothing.
use Rattle.std.specs.Prelude.{◌≡◌, ℕ, ◌+◌, ◌<◌, ◌≤◌, cond, ◌⊎◌, List, length, Some, None, Option, nat_lt}
use Rattle.grammar.specs.Pieces.{Pieces, end as no_pieces, leaf, box}
use Rattle.forest.specs.Forest.{end, node, one, count, occurs}
use Rattle.model.specs.Nodes.{Handle, Sort, root, within, single, Nodes}
use Rattle.model.specs.Asks.{tree, living, root_handle, Spot, spot_at, named, value_in}
use Rattle.model.specs.Written.{Value}
use Rattle.model.specs.Fits.{Document}
use Rattle.model.specs.Changes.{Placed}
use Rattle.model.specs.State.{State, Given, load, Edit, Remove, Replace, SetValue, SetRoot, Clear, Work, Plan, first_new, accepted, after}
use Rattle.model.specs.Account.{Call}
use Rattle.model.specs.Promise.{sort_named, Run, Lasting, meant}

-- 1 where k is below n, else 0
abbrev pub below : ℕ → ℕ → ℕ
below k n = cond (nat_lt k n) 1 0

-- how often the number n stands in a forest
abbrev pub often : ℕ → Nodes → ℕ
often n end = 0
often n (node p i ks ts) = one i.number n + (often n ks + often n ts)

-- Each record is the place of one node or is free once; as many are free as no node has; and each number stands once at most, and was handed out.
pub record Held (d : State) : Type 0 where
  pub split : (k : ℕ) → count k (tree d.kids) + occurs k d.free ≡ below k d.records
  pub sized : living d.kids + length d.free ≡ d.records
  pub given : (n : ℕ) → often n (tree d.kids) ≤ below n d.fresh

-- What a step does to handles: numbers are handed out upward, and a handle that names a node after it named a node of the same sort
-- before it, or has a new number.
pub record Moves (d e : State) : Type 0 where
  pub grows : d.fresh ≤ e.fresh
  pub names : (h : Handle) (s : Sort) → sort_named e h ≡ Some s → (sort_named d h ≡ Some s) ⊎ (d.fresh ≤ h.number)

-- a document newly loaded hands out each place and number once
abbrev pub LoadHolds : Type 0
LoadHolds = (r m : ℕ) (t : List ℕ) (d : State) → load r m t ≡ Given d → Held d

-- and every edit, accepted or refused, keeps it so
abbrev pub EditHolds : Type 0
EditHolds = (d : State) (w : Work) (e : Edit Value) → Held d → Held (after d w e)

-- no place holds two nodes
abbrev pub HeldSingle : Type 0
HeldSingle = (d : State) → Held d → (k : ℕ) → count k (tree d.kids) ≤ 1

-- no place holds two nodes, and no node below the root has the root's place
abbrev pub HeldPlaced : Type 0
HeldPlaced = (d : State) → Held d → Placed d.kids

-- so places are distinct after every edit
abbrev pub EditLeavesPlaced : Type 0
EditLeavesPlaced = (d : State) (w : Work) (e : Edit Value) → Held d → Placed (after d w e).kids

-- a handle that names a node has a number that was handed out
abbrev pub NamedWasGiven : Type 0
NamedWasGiven = (d : State) (h : Handle) (s : Sort) → Held d → sort_named d h ≡ Some s → h.number < d.fresh

-- what every edit, accepted or refused, does to handles
abbrev pub EditMoves : Type 0
EditMoves = (d : State) (w : Work) (e : Edit Value) → Held d → Moves d (after d w e)

-- the root's handle names the root
abbrev pub RootNamed : Type 0
RootNamed = (d : State) → sort_named d root_handle ≡ Some root

-- what the first of new pieces is
abbrev pub head_sort : Pieces → Option Sort
head_sort no_pieces = None
head_sort (leaf x r) = Some (single x)
head_sort (box b c r) = Some (within b)

-- after an accepted edit that writes something, the first new handle, which `replace` answers, names the first new node
abbrev pub NewNamed : Type 0
NewNamed =
    (d : State) (w : Work) (e : Edit Value) (x : Plan) (s : Sort) → Held d → accepted d w e ≡ Given x → head_sort x.adds ≡ Some s
    → sort_named (after d w e) (first_new d x) ≡ Some s

-- a node alone with all below it
abbrev pub family : Spot → Nodes
family s = node s.here.place s.here.own s.kids end

-- after a node is removed its handle, and those of all below it, name nothing
abbrev pub RemoveGone : Type 0
RemoveGone =
    (d : State) (w : Work) (h : Handle) (x : Plan) (s : Spot) → Held d → accepted d w (Remove h) ≡ Given x → named h d.kids ≡ Some s
    → (g : Handle) → g.number < d.fresh → 0 < count g.place (family s) → sort_named (after d w (Remove h)) g ≡ None

-- so after it is replaced
abbrev pub ReplaceGone : Type 0
ReplaceGone =
    (d : State) (w : Work) (h : Handle) (v : Value) (x : Plan) (s : Spot) → Held d → accepted d w (Replace h v) ≡ Given x → named h d.kids ≡ Some s
    → (g : Handle) → g.number < d.fresh → 0 < count g.place (family s) → sort_named (after d w (Replace h v)) g ≡ None

-- so after a property's value is set anew, for the old value
abbrev pub ValueGone : Type 0
ValueGone =
    (d : State) (w : Work) (h : Handle) (v : Value) (x : Plan) (s o : Spot) (i : Handle) → Held d → accepted d w (SetValue h v) ≡ Given x → named h d.kids ≡ Some s
    → value_in s.kids ≡ Some i → spot_at i.place d.kids ≡ Some o
    → (g : Handle) → g.number < d.fresh → 0 < count g.place (family o) → sort_named (after d w (SetValue h v)) g ≡ None

-- so after the root's value is set anew, for the old value
abbrev pub RootGone : Type 0
RootGone =
    (d : State) (w : Work) (v : Value) (x : Plan) (o : Spot) (i : Handle) → Held d → accepted d w (SetRoot v) ≡ Given x
    → value_in d.kids ≡ Some i → spot_at i.place d.kids ≡ Some o
    → (g : Handle) → g.number < d.fresh → 0 < count g.place (family o) → sort_named (after d w (SetRoot v)) g ≡ None

-- and after a document is cleared, for all nodes below the root
abbrev pub ClearGone : Type 0
ClearGone =
    (d : State) (w : Work) (x : Plan) → Held d → accepted d w Clear ≡ Given x
    → (g : Handle) → g.number < d.fresh → 0 < count g.place d.kids → sort_named (after d w Clear) g ≡ None

-- what any calls leave: each place and number handed out once, handles moved as by one step, and as many records
abbrev pub RunHolds : {S : Type 0} → (S → Value) → Type 0
RunHolds {S} says = (d : State) (cs : List (Call S)) (e : State) → Held d → Run says d cs e → Held e × Moves d e × (e.records ≡ d.records)

-- a handle keeps its node's kind and bytes until it is Gone, and is Gone ever after
abbrev pub HandlesLast : {S : Type 0} → (S → Value) → Type 0
HandlesLast says = (d : State) → Held d → Lasting says d

-- so it is at any hour of a document that was loaded
abbrev pub LoadedLast : {S : Type 0} → (S → Value) → Type 0
LoadedLast {S} says = (r m : ℕ) (t : List ℕ) (d : State) → load r m t ≡ Given d → (cs : List (Call S)) (e : State) → Run says d cs e → Lasting says e

-- and it is a document still, its places distinct and each place and number handed out once
abbrev pub LoadedStays : {S : Type 0} → (S → Value) → Type 0
LoadedStays {S} says = (r m : ℕ) (t : List ℕ) (d : State) → load r m t ≡ Given d → (cs : List (Call S)) (e : State) → Run says d cs e → Document e.kids × Placed e.kids × Held e

-- a value as a source of itself
abbrev pub itself : Value → Value
itself v = v

-- all of these: what concerns calls over values as sources of themselves, the last two over the values that sources may mean
pub record GivenLaws : Type 0 where
  pub load_holds : LoadHolds
  pub edit_holds : EditHolds
  pub held_single : HeldSingle
  pub held_placed : HeldPlaced
  pub edit_leaves_placed : EditLeavesPlaced
  pub named_was_given : NamedWasGiven
  pub edit_moves : EditMoves
  pub root_named : RootNamed
  pub new_named : NewNamed
  pub remove_gone : RemoveGone
  pub replace_gone : ReplaceGone
  pub value_gone : ValueGone
  pub root_gone : RootGone
  pub clear_gone : ClearGone
  pub run_holds : RunHolds itself
  pub handles_last : HandlesLast itself
  pub loaded_last : LoadedLast itself
  pub meant_last : LoadedLast meant
  pub meant_stays : LoadedStays meant
