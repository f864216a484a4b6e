-- The account of a document's history, kept beside it without looking into it: what each accepted edit does to value, comments and handles.
-- It is fed the calls, the text that printing just before would give, and what `at` answers straight after. Assumes nothing.
use Rattle.std.specs.Prelude.{◌≡◌, ℕ, zero, suc, Bool, true, false, cond, ◌||◌, ◌⊎◌, List, [], ◌∷◌, ◌++◌, length, take, drop, Some, None, Option}
use Rattle.grammar.specs.Layout.{Comment, Mark, Open, Close, Comma, Colon, Name, Layout, stop, note, mark, item, Parts, nil, part, meaning, notes}
use Rattle.grammar.specs.Pieces.{layout}
use Rattle.grammar.specs.Answer.{Answer, Read, BadText, TooDeep, read}
use Rattle.model.specs.Nodes.{Handle}
use Rattle.model.specs.Asks.{path}
use Rattle.model.specs.Written.{Value, spelled}
use Rattle.model.specs.State.{Edit, Remove, Replace, SetValue, SetRoot, Clear, SetTrailingCommas, EnsureMultiline, map_edit, Work}

-- THE COMMENTS THAT AN EDIT LOSES, by where they lie in the layout of the text

-- a Newline stands in front of the next non-trivia
abbrev pub breaks : Layout → Bool
breaks (stop b) = b
breaks (note b c r) = b || breaks r
breaks (mark b m r) = b
breaks (item b l ks r) = b

-- the trailing comma, where only trivia lies before it: what follows it
abbrev pub comma_mark : Mark → Layout → Option Layout
comma_mark Open r = None
comma_mark Close r = None
comma_mark Comma r = Some r
comma_mark Colon r = None
comma_mark Name r = None

-- what follows the trailing comma of a node, if it has one
abbrev pub after_comma : Layout → Option Layout
after_comma (stop b) = None
after_comma (note b c r) = after_comma r
after_comma (mark b m r) = comma_mark m r
after_comma (item b l ks r) = None

-- the comments up to the next non-trivia
abbrev pub gap_notes : Layout → List Comment
gap_notes (stop b) = []
gap_notes (note b c r) = c ∷ gap_notes r
gap_notes (mark b m r) = []
gap_notes (item b l ks r) = []

-- the comments up to the next Newline or non-trivia, and all those behind them
abbrev pub line_notes : Layout → List Comment
line_notes (stop b) = []
line_notes (note b c r) = cond b [] (c ∷ line_notes r)
line_notes (mark b m r) = []
line_notes (item b l ks r) = []

-- all comments from the next Newline or non-trivia on
abbrev pub past_line : Layout → List Comment
past_line (stop b) = []
past_line (note b c r) = cond b (c ∷ notes r) (past_line r)
past_line (mark b m r) = notes r
past_line (item b l ks r) = notes ks ++ notes r

-- a text's comments in three: those that stay before, those that are lost, those that stay behind
pub record Split : Type 0 where
  pub before : List Comment
  pub lost : List Comment
  pub behind : List Comment

-- What follows a removed node. With a trailing comma, the comments up to the comma are lost. If no Newline stood there, and there
-- is no trailing comma or only Whitespace and Comments lie between that comma and a Newline, also those after comma or node up to the next
-- Newline or non-trivia.
abbrev pub followed : Layout → Option Layout → Split
followed r None = record { before = []; lost = line_notes r; behind = past_line r }
followed r (Some q) =
    cond (breaks r) (record { before = []; lost = gap_notes r; behind = notes q })
    (cond (breaks q) (record { before = []; lost = gap_notes r ++ line_notes q; behind = past_line q })
    (record { before = []; lost = gap_notes r; behind = notes q }))

-- What an edit at a node loses: given whether a Newline stands before the node, the comments of the text before the last Newline or non-trivia,
-- those since, what stands inside the node, and what stands behind it.
abbrev pub Rule : Type 0
Rule = Bool → (kept line : List Comment) → (inside behind : Layout) → Split

-- the rule at the node of ordinal k among these siblings, and p within it
abbrev pub walk : Rule → Layout → (kept line : List Comment) → ℕ → List ℕ → Split
walk hit (stop b) kept line k p = record { before = kept ++ line; lost = []; behind = [] }
walk hit (note true c r) kept line k p = walk hit r (kept ++ line) (c ∷ []) k p
walk hit (note false c r) kept line k p = walk hit r kept (line ++ c ∷ []) k p
walk hit (mark b m r) kept line k p = walk hit r (kept ++ line) [] k p
walk hit (item b l ks r) kept line zero [] = hit b kept line ks r
walk hit (item b l ks r) kept line zero (j ∷ p) =
    let s = walk hit ks (kept ++ line) [] j p in record { before = s.before; lost = s.lost; behind = s.behind ++ notes r }
walk hit (item b l ks r) kept line (suc k) p = walk hit r ((kept ++ line) ++ notes ks) [] k p

-- remove: those inside the node, those before it back to a Newline or non-trivia, and what `followed` says of those behind it
abbrev pub remove_here : Rule
remove_here true kept line ks r =
    let f = followed r (after_comma r) in record { before = kept ++ line; lost = notes ks ++ f.lost; behind = f.behind }
remove_here false kept line ks r =
    let f = followed r (after_comma r) in record { before = kept; lost = line ++ (notes ks ++ f.lost); behind = f.behind }

-- replace, set_value, set_root: those inside the node
abbrev pub replace_here : Rule
replace_here b kept line ks r = record { before = kept ++ line; lost = notes ks; behind = notes r }

-- what remove loses at a path
abbrev pub lost_by_removal : Layout → List ℕ → Split
lost_by_removal y p = walk remove_here y [] [] 0 p

-- what replace, set_value and set_root lose at a path
abbrev pub lost_inside : Layout → List ℕ → Split
lost_inside y p = walk replace_here y [] [] 0 p

-- clear: all
abbrev pub lost_all : Layout → Split
lost_all y = record { before = []; lost = notes y; behind = [] }

-- a list of comments less those that a split loses, by their places in the list
abbrev pub less : Split → List Comment → List Comment
less s cs = take (length s.before) cs ++ drop (length (s.before ++ s.lost)) cs

-- VALUES WITH HANDLES

-- A handle for each path in a value. Where nothing is answered, a handle that names no node; by the promise that never comes to pass.
abbrev pub or_nobody : Option Handle → Handle
or_nobody (Some i) = i
or_nobody None = record { place = 0; number = 0 }

-- the same for siblings, f being asked by ordinal and path within
abbrev pub handled : (ℕ → List ℕ → Option Handle) → Value → Parts Handle
handled f nil = nil
handled f (part u l ks ts) =
    part (or_nobody (f 0 [])) l (handled (λ j p. f 0 (j ∷ p)) ks) (handled (λ k p. f (suc k) p) ts)

-- one value, with the handles that f answers for the paths in it
abbrev pub with_handles : (List ℕ → Option Handle) → Value → Parts Handle
with_handles f nil = nil
with_handles f (part u l ks ts) = part (or_nobody (f [])) l (handled (λ j p. f (j ∷ p)) ks) nil

-- the part at a path and the siblings behind it, changed by f
abbrev pub change : {A : Type 0} → (Parts A → Parts A) → Parts A → ℕ → List ℕ → Parts A
change f nil k p = nil
change f (part a l ks ts) zero [] = f (part a l ks ts)
change f (part a l ks ts) zero (j ∷ p) = part a l (change f ks j p) ts
change f (part a l ks ts) (suc k) p = part a l ks (change f ts k p)

-- the later siblings
abbrev pub others : {A : Type 0} → Parts A → Parts A
others nil = nil
others (part a l ks ts) = ts

-- one value in the place of the first of these
abbrev pub instead : {A : Type 0} → Parts A → Parts A → Parts A
instead nil ts = ts
instead (part a l ks us) ts = part a l ks (others ts)

-- delete at the path: later siblings move up
abbrev pub deleted : {A : Type 0} → Parts A → List ℕ → Parts A
deleted v p = change others v 0 p

-- put a value at the path
abbrev pub put : {A : Type 0} → Parts A → Parts A → List ℕ → Parts A
put w v p = change (instead w) v 0 p

-- the handles of the part at a path and of all below it
abbrev pub handles : {A : Type 0} → Parts A → List A
handles nil = []
handles (part a l ks ts) = a ∷ (handles ks ++ handles ts)

-- the handles that leave with the part at a path
abbrev pub leaving : {A : Type 0} → Parts A → ℕ → List ℕ → List A
leaving nil k p = []
leaving (part a l ks ts) zero [] = a ∷ handles ks
leaving (part a l ks ts) zero (j ∷ p) = leaving ks j p
leaving (part a l ks ts) (suc k) p = leaving ts k p

-- a handle is in a list
abbrev pub In : Handle → List Handle → Type 0
In h [] = ⊥
In h (i ∷ is) = (i ≡ h) ⊎ In h is

-- THE ACCOUNT

-- what a caller does with a loaded document: an edit with the work lists lent, a printing into a buffer of n bytes, a question
pub data Call (S : Type 0) : Type 0 where
  Do : Edit S → Work → Call S
  Print : ℕ → Call S
  Ask : Handle → Call S

-- a value or nothing with a handle at each path, the comments in order, the handles that left
pub record Account : Type 0 where
  pub value : Parts Handle
  pub comments : List Comment
  pub left : List Handle

-- what the account is fed of one call: the call, whether it was accepted, what printing just before would give, what `at` answers straight after
pub record Fed (S : Type 0) : Type 0 where
  pub call : Call S
  pub accepted : Bool
  pub text : List ℕ
  pub answer : List ℕ → Option Handle

-- the layout of a text; of one that is no sentence nothing, which by the promise is never fed
abbrev pub layout_read : Answer → Layout
layout_read (Read a) = layout a
layout_read (BadText k) = stop false
layout_read TooDeep = stop false

-- a text's layout
abbrev pub layout_of : List ℕ → Layout
layout_of t = layout_read (read 64 t)

-- it begins with the loaded text's reading, and the handles that `at` answers
abbrev pub opened : Layout → (List ℕ → Option Handle) → Account
opened y f = record { value = with_handles f (meaning y); comments = notes y; left = [] }

-- delete what stands at the path
abbrev pub without : Account → Layout → List ℕ → Account
without a y p = record {
  value = deleted a.value p;
  comments = less (lost_by_removal y p) a.comments;
  left = leaving a.value 0 p ++ a.left;
}

-- put the value w at the path, with the handles that f answers straight after
abbrev pub replaced : Account → Layout → List ℕ → Value → (List ℕ → Option Handle) → Account
replaced a y p w f = record {
  value = put (with_handles (λ q. f (p ++ q)) w) a.value p;
  comments = less (lost_inside y p) a.comments;
  left = leaving a.value 0 p ++ a.left;
}

-- at the path of a handle; a handle without a path changes nothing (by the promise no accepted edit of these takes one)
abbrev pub located : Account → Option (List ℕ) → (List ℕ → Account) → Account
located a None f = a
located a (Some p) f = f p

-- a value or nothing: set_root on nothing writes it
abbrev pub rooted : Account → Layout → Value → (List ℕ → Option Handle) → Parts Handle → Account
rooted a y w f nil = record { value = with_handles f w; comments = a.comments; left = a.left }
rooted a y w f (part i l ks ts) = replaced a y [] w f

-- an accepted edit: the value that is written has its strings and names escaped
abbrev pub done : Account → Edit Value → Layout → (List ℕ → Option Handle) → Account
done a (Remove h) y f = located a (path h a.value) (λ p. without a y p)
done a (Replace h v) y f = located a (path h a.value) (λ p. replaced a y p (spelled v) f)
done a (SetValue h v) y f = located a (path h a.value) (λ p. replaced a y (p ++ 0 ∷ []) (spelled v) f)
done a (SetRoot v) y f = rooted a y (spelled v) f a.value
done a Clear y f = record { value = nil; comments = less (lost_all y) a.comments; left = handles a.value ++ a.left }
done a (SetTrailingCommas h m) y f = a
done a (EnsureMultiline h) y f = a

-- `says` is the value that a source means
module _ {S : Type 0} (says : S → Value) where
  -- printings and questions change nothing
  abbrev pub called : Account → Call S → Layout → (List ℕ → Option Handle) → Account
  called a (Do e w) y f = done a (map_edit says e) y f
  called a (Print n) y f = a
  called a (Ask h) y f = a

  -- and neither do refused calls
  abbrev pub next : Account → Fed S → Account
  next a x = cond x.accepted (called a x.call (layout_of x.text) x.answer) a

  -- the account after all that was fed
  abbrev pub account : Account → List (Fed S) → Account
  account a [] = a
  account a (x ∷ xs) = account (next a x) xs
