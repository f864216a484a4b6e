-- The promise: what every history of a loaded document gives. Assumes nothing.
use Rattle.std.specs.Prelude.{◌≡◌, ℕ, ◌≤◌, Bool, true, false, cond, ◌||◌, T, List, [], ◌∷◌, length, Some, None, Option}
use Rattle.grammar.specs.Layout.{Layout, meaning, notes}
use Rattle.grammar.specs.Grammar.{Sentence}
use Rattle.forest.specs.Forest.{count}
use Rattle.model.specs.Nodes.{Handle, same, Sort, print}
use Rattle.model.specs.Asks.{is_some, Kind, then, tree, root_handle, named, sort_of, at_path, path}
use Rattle.model.specs.Fits.{bare}
use Rattle.model.specs.Written.{Value}
use Rattle.refusal.specs.declared.Refusal.TheVariants.{Gone, NotHere}
use Rattle.model.specs.State.{Outcome, Refused, Given, present, State, load, print_answer, at_answer, path_answer, kind_answer, Edit, Remove, Replace, SetValue, SetRoot, Clear, SetTrailingCommas, EnsureMultiline, map_edit, Work, planned, accepted, after_outcome, after}
use Rattle.model.specs.Sources.{Sourced}
use Rattle.model.specs.Account.{Call, Do, Print, Ask, Account, Fed, In, opened, layout_of, account}

-- what printing gives, with room enough
abbrev pub printing : State → List ℕ
printing d = print d.kids

-- what `at` answers, a refusal as absent
abbrev pub answered : {A : Type 0} → Outcome A → Option A
answered (Refused r) = None
answered (Given a) = Some a

-- the handle at a path
abbrev pub at_of : State → List ℕ → Option Handle
at_of d p = answered (at_answer d p)

-- what the node that a handle names is, its kind and the bytes of a leaf; absent where the handle is Gone
abbrev pub sort_named : State → Handle → Option Sort
sort_named d h = then (named h d.kids) (λ s. Some (sort_of s))

-- what an accepted edit makes of a document
abbrev pub made : State → Edit Value → State
made d e = after_outcome d (planned d e)

module _ {S : Type 0} (says : S → Value) where
  -- a call is accepted if it is an edit and nothing refuses it; what it makes of a document; the document after it
  abbrev pub takes : State → Call S → Bool
  takes d (Do e w) = is_some (answered (accepted d w (map_edit says e)))
  takes d (Print n) = false
  takes d (Ask h) = false

  -- what a call makes of a document, if it is accepted
  abbrev pub makes : State → Call S → State
  makes d (Do e w) = made d (map_edit says e)
  makes d (Print n) = d
  makes d (Ask h) = d

  -- the document after a call
  abbrev pub after_call : State → Call S → State
  after_call d (Do e w) = after d w (map_edit says e)
  after_call d (Print n) = d
  after_call d (Ask h) = d

  -- the documents that a list of calls leads through, each step being what that call does
  pub data Run : State → List (Call S) → State → Type 0 where
    over : (d : State) → Run d [] d
    goes : (d : State) (c : Call S) (cs : List (Call S)) (e : State) → Run (after_call d c) cs e → Run d (c ∷ cs) e

  -- what the account is fed of a call, and of all of them
  abbrev pub fed : State → Call S → Fed S
  fed d c = record { call = c; accepted = takes d c; text = printing d; answer = at_of (after_call d c) }

  -- what it is fed of all calls
  abbrev pub feds : State → List (Call S) → List (Fed S)
  feds d [] = []
  feds d (c ∷ cs) = fed d c ∷ feds (after_call d c) cs

  -- what the accepted edits, in order, make of a document
  abbrev pub makes_all : State → List (Fed S) → State
  makes_all d [] = d
  makes_all d (x ∷ xs) = makes_all (cond x.accepted (makes d x.call) d) xs

  -- the account of a run that begins at a document newly loaded
  abbrev pub account_of : State → List (Call S) → Account
  account_of d cs = account says (opened (layout_of (printing d)) (at_of d)) (feds d cs)

-- a handle has a path in the account, or is the root's
abbrev pub in_account : Account → Handle → Bool
in_account a h = is_some (path h a.value)

-- the handle that an edit takes is in the account; set_trailing_commas takes the root's too
abbrev pub Known : {S : Type 0} → Account → Edit S → Type 0
Known a (Remove h) = T (in_account a h)
Known a (Replace h v) = T (in_account a h)
Known a (SetValue h v) = T (in_account a h)
Known a (SetRoot v) = Unit {0}
Known a Clear = Unit {0}
Known a (SetTrailingCommas h m) = T (same root_handle h || in_account a h)
Known a (EnsureMultiline h) = T (in_account a h)

-- The promise at the end e of the calls cs on a document d newly loaded, with the account a of them.
pub record Promise {S : Type 0} (says : S → Value) (d : State) (cs : List (Call S)) (e : State) (a : Account) : Type 0 where
  -- (a) with room enough printing gives the bytes that the accepted edits make of the loaded document, a sentence with one layout, and so one reading
  pub bytes : (n : ℕ) → length (printing (makes_all says d (feds says d cs))) ≤ n → print_answer e n ≡ Given (printing (makes_all says d (feds says d cs)))
  pub laid : Layout
  pub sentence : Sentence laid (printing e)
  pub unique : (y : Layout) → Sentence y (printing e) → y ≡ laid
  -- (b) the value read is the account's
  pub value : meaning laid ≡ bare a.value
  -- (c) the comments read are the account's, in order
  pub remarks : notes laid ≡ a.comments
  -- (d) each path in the value answers with the account's handle, and that handle with its path; any other path is NotHere
  pub found : (p : List ℕ) → at_answer e p ≡ present NotHere (at_path a.value p)
  pub path_found : (p : List ℕ) (h : Handle) (n : ℕ) → 128 ≤ n → at_path a.value p ≡ Some h → path_answer e h n ≡ Given p
  -- the handles that left are Gone
  pub gone : (h : Handle) → In h a.left → kind_answer e h ≡ Refused Gone
  -- a handle names one node alone: no place holds two
  pub single : (k : ℕ) → count k (tree e.kids) ≤ 1
  -- an edit that is accepted takes a handle that is in the account
  pub known : (x : Edit S) (w : Work) → takes says e (Do x w) ≡ true → Known a x

-- A handle that names a node keeps its kind and a leaf's bytes as long as it names one, and once it names none it is Gone ever after.
pub record Lasting {S : Type 0} (says : S → Value) (d : State) : Type 0 where
  pub keeps : (cs : List (Call S)) (e : State) → Run says d cs e → (h : Handle) (k l : Sort) → sort_named d h ≡ Some k → sort_named e h ≡ Some l → k ≡ l
  pub gone : (cs bs : List (Call S)) (e f : State) → Run says d cs e → Run says e bs f
      → (h : Handle) (k : Kind) → kind_answer d h ≡ Given k → kind_answer e h ≡ Refused Gone → kind_answer f h ≡ Refused Gone

-- The whole promise for a document newly loaded: after any calls, and of any two later hours.
abbrev pub Kept : {S : Type 0} → (S → Value) → State → Type 0
Kept {S} says d = (cs : List (Call S)) (e : State) → Run says d cs e → Promise says d cs e (account_of says d cs) × Lasting says e

-- over every source that shows what sources must: in a contract of a generic function S is its type parameter, and `says` a ghost member
abbrev pub Over : (S : Type 0) → (S → Value) → Type 0
Over S says = ((s : S) → Sourced (says s)) → (r m : ℕ) (t : List ℕ) (d : State) → load r m t ≡ Given d → Kept says d

-- the values that sources may mean, taken as sources of themselves: every source's calls are calls of these
abbrev pub Meant : Type 0
Meant = (v : Value) × Sourced v

-- what such a source means
abbrev pub meant : Meant → Value
meant x = x.0

-- the promise for a document newly loaded, over every source
abbrev pub Promised : State → Type 0
Promised d = Kept meant d

-- and for every load
abbrev pub ThePromise : Type 0
ThePromise = (r m : ℕ) (t : List ℕ) (d : State) → load r m t ≡ Given d → Promised d
