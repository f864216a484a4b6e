-- Where a node lies, by place and by path, and what edits do to a whole document in the words of the account. Assumes nothing.
use Rattle.std.specs.Prelude.{◌≡◌, ℕ, suc, true, false, List, [], ◌∷◌, ◌++◌, Some, None, ◌==◌}
use Rattle.grammar.specs.Layout.{Parts, nil, part}
use Rattle.grammar.specs.Pieces.{Break, layout}
use Rattle.forest.specs.Forest.{node, count}
use Rattle.model.specs.Nodes.{Handle, handle, Own, Nodes, Class, gap, mark, value, class, pieces, parts}
use Rattle.model.specs.Asks.{Frame, Spot, named, sort_of, is_property, value_in, at_path, way_to, path}
use Rattle.model.specs.Edits.{Supply, sown, remove, exchange, root_cut, root_put}
use Rattle.model.specs.Fits.{Document, comments, bare}
use Rattle.model.specs.Written.{Value, Style, spelled, written}
use Rattle.model.specs.Laws.{Writable}
use Rattle.model.specs.State.{State, Outcome, Refused, Given, Plan, Remove, Replace, SetValue, planned, root_plan}
use Rattle.model.specs.Changes.{changed_under, lost, swapped, Placed, Showable}
use Rattle.model.specs.Account.{with_handles, deleted, put, less, lost_by_removal, lost_inside, lost_all}

-- an ordinal among siblings, one sibling of that class later: only values and members count
abbrev pub counted : Class → ℕ → ℕ
counted (gap g) n = n
counted (mark m) n = n
counted value n = suc n

-- the node that h names is one of these siblings, a value or a member, the n-th of those
pub data Among (h : Handle) : Nodes → ℕ → Type 0 where
  first : (p : ℕ) (i : Own) (ks ts : Nodes) → handle p i ≡ h → class i.sort ≡ value → Among h (node p i ks ts) 0
  later : (p : ℕ) (i : Own) (ks ts : Nodes) (n : ℕ) → (p == h.place) ≡ false → Among h ts n → Among h (node p i ks ts) (counted (class i.sort) n)

-- that node is a child of the node at the place c, which is one of these siblings or below one; n is the ordinal of that sibling, q the path within it
pub data Below (c : ℕ) (h : Handle) : Nodes → ℕ → List ℕ → Type 0 where
  child : (p : ℕ) (i : Own) (ks ts : Nodes) (j : ℕ) → p ≡ c → class i.sort ≡ value → Among h ks j → Below c h (node p i ks ts) 0 (j ∷ [])
  deeper : (p : ℕ) (i : Own) (ks ts : Nodes) (j : ℕ) (q : List ℕ) → (p == c) ≡ false → count c ts ≡ 0 → class i.sort ≡ value → Below c h ks j q → Below c h (node p i ks ts) 0 (j ∷ q)
  along : (p : ℕ) (i : Own) (ks ts : Nodes) (n : ℕ) (q : List ℕ) → (p == c) ≡ false → count c ks ≡ 0 → Below c h ts n q → Below c h (node p i ks ts) (counted (class i.sort) n) q

-- among the root's children and all below them, the node that h names lies at the ordinal n and the path q within, a child of what is at the place c
pub data Lies (c : ℕ) (h : Handle) (ts : Nodes) : ℕ → List ℕ → Type 0 where
  on_top : (n : ℕ) → c ≡ 0 → Among h ts n → Lies c h ts n []
  inside : (n : ℕ) (q : List ℕ) → (c == 0) ≡ false → Below c h ts n q → Lies c h ts n q

-- parts are one part
abbrev pub Alone : Parts Handle → Type 0
Alone nil = ⊥
Alone (part i l ks ts) = ts ≡ nil

-- a part lost by its place is deleted at its path
abbrev pub LostByPath : Type 0
LostByPath = (c : ℕ) (h : Handle) (ts : Nodes) (p : List ℕ) → Lies c h ts 0 p → changed_under c (lost h.place) (parts ts) ≡ deleted (parts ts) p

-- a part put in another's place is put at its path
abbrev pub SwappedByPath : Type 0
SwappedByPath =
    (c : ℕ) (h : Handle) (ts : Nodes) (p : List ℕ) (v : Parts Handle) → Alone v → Lies c h ts 0 p
    → changed_under c (swapped h.place v) (parts ts) ≡ put v (parts ts) p

-- a handle that lies at a path has that way in the value, and that path answers with it
abbrev pub LiesOnItsWay : Type 0
LiesOnItsWay =
    (c : ℕ) (h : Handle) (ts : Nodes) (p : List ℕ) → Placed ts → Lies c h ts 0 p
    → (way_to h (parts ts) ≡ Some (0, p)) × (path h (parts ts) ≡ Some p) × (at_path (parts ts) p ≡ Some h)

-- a handle names a value or a member of a document, which has the parent f and the path p
pub record Found (h : Handle) (ts : Nodes) (s : Spot) (f : Frame) (p : List ℕ) : Type 0 where
  pub document : Document ts
  pub placed : Placed ts
  pub is_named : named h ts ≡ Some s
  pub above : List Frame
  pub parent : s.ups ≡ f ∷ above
  pub class_is_value : class (sort_of s) ≡ value
  pub has_path : path h (parts ts) ≡ Some p

-- every value and member of a document has a path
abbrev pub NamedHasPath : Type 0
NamedHasPath =
    (h : Handle) (ts : Nodes) (s : Spot) (f : Frame) (us : List Frame) → Document ts → Placed ts → named h ts ≡ Some s → s.ups ≡ f ∷ us → class (sort_of s) ≡ value
    → (p : List ℕ) × Found h ts s f p

-- so it lies there, below its parent
abbrev pub FoundLies : Type 0
FoundLies = (h : Handle) (ts : Nodes) (s : Spot) (f : Frame) (p : List ℕ) → Found h ts s f p → Lies f.place h ts 0 p

-- after remove, value and comments are the account's
abbrev pub RemoveAccounted : Type 0
RemoveAccounted =
    (h : Handle) (ts : Nodes) (s : Spot) (f : Frame) (p : List ℕ) → Found h ts s f p → is_property f.own.sort ≡ false
    → (parts (remove f.place s.here.place ts) ≡ deleted (parts ts) p)
    × (comments (remove f.place s.here.place ts) ≡ less (lost_by_removal (layout (pieces ts)) p) (comments ts))

-- new nodes that are one value and have no comments
pub record Fresh (us : Nodes) : Type 0 where
  pub alone : Alone (parts us)
  pub quiet : comments us ≡ []

-- a written value is such, and says the source's value, its strings and names escaped
abbrev pub WrittenFresh : Type 0
WrittenFresh =
    (st : Style) (t : List ℕ) (v : Value) (s : Supply) → Writable st t v
    → Fresh (sown s (written st t v)) × (bare (parts (sown s (written st t v))) ≡ spelled v)

-- after replace, value and comments are the account's
abbrev pub ReplaceAccounted : Type 0
ReplaceAccounted =
    (h : Handle) (ts : Nodes) (s : Spot) (f : Frame) (p : List ℕ) (us : Nodes) → Found h ts s f p → is_property (sort_of s) ≡ false → Fresh us
    → (parts (exchange f.place s.here.place us ts) ≡ put (parts us) (parts ts) p)
    × (comments (exchange f.place s.here.place us ts) ≡ less (lost_inside (layout (pieces ts)) p) (comments ts))

-- after set_value on a property whose value is o, likewise, one level below the property's path
abbrev pub SetValueAccounted : Type 0
SetValueAccounted =
    (h : Handle) (ts : Nodes) (s : Spot) (f : Frame) (p : List ℕ) (o : Handle) (us : Nodes)
    → Found h ts s f p → is_property (sort_of s) ≡ true → value_in s.kids ≡ Some o → Fresh us
    → (at_path (parts ts) (p ++ 0 ∷ []) ≡ Some o)
    × (parts (exchange s.here.place o.place us ts) ≡ put (parts us) (parts ts) (p ++ 0 ∷ []))
    × (comments (exchange s.here.place o.place us ts) ≡ less (lost_inside (layout (pieces ts)) (p ++ 0 ∷ [])) (comments ts))

-- after set_root on a root whose value is o, likewise, at the empty path
abbrev pub SetRootAccounted : Type 0
SetRootAccounted =
    (ts : Nodes) (o : Handle) (us : Nodes) → Document ts → Placed ts → value_in ts ≡ Some o → Fresh us
    → (at_path (parts ts) [] ≡ Some o)
    × (parts (exchange 0 o.place us ts) ≡ put (parts us) (parts ts) [])
    × (comments (exchange 0 o.place us ts) ≡ less (lost_inside (layout (pieces ts)) []) (comments ts))

-- what is put has the handles that its paths answer straight after
abbrev pub PutAnswers : Type 0
PutAnswers =
    (w v : Parts Handle) (p : List ℕ) (h : Handle) → Alone w → at_path v p ≡ Some h
    → put (with_handles (λ q. at_path (put w v p) (p ++ q)) (bare w)) v p ≡ put w v p

-- after set_root on a root without a value, the value is the written one with the handles that its paths answer, and the comments are those that were
abbrev pub FirstRootAccounted : Type 0
FirstRootAccounted =
    (n : Break) (s : Supply) (st : Style) (t : List ℕ) (v : Value) (ts : Nodes) → Writable st t v → Document ts → value_in ts ≡ None
    → (parts ts ≡ nil) × Alone (parts (root_put (root_cut ts) n (written st t v) s)) × (bare (parts (root_put (root_cut ts) n (written st t v) s)) ≡ spelled v)
    × (with_handles (at_path (parts (root_put (root_cut ts) n (written st t v) s))) (spelled v) ≡ parts (root_put (root_cut ts) n (written st t v) s))
    × (comments (root_put (root_cut ts) n (written st t v) s) ≡ comments ts)

-- clear leaves no comments, as the account has it
abbrev pub ClearAccounted : Type 0
ClearAccounted = (ts : Nodes) → Document ts → less (lost_all (layout (pieces ts))) (comments ts) ≡ []

-- what a plan of remove makes of the document: what the account has at the path of h
abbrev pub RemovesSo : State → Handle → Outcome Plan → Type 0
RemovesSo d h (Refused r) = Unit {0}
RemovesSo d h (Given x) =
    (p : List ℕ) × (path h (parts d.kids) ≡ Some p)
    × ((u : Supply) → (parts (x.grow u) ≡ deleted (parts d.kids) p) × (comments (x.grow u) ≡ less (lost_by_removal (layout (pieces d.kids)) p) (comments d.kids)))

-- what a plan of replace makes of it: one value w that says v, put at the path of h
abbrev pub ReplacesSo : State → Handle → Value → Outcome Plan → Type 0
ReplacesSo d h v (Refused r) = Unit {0}
ReplacesSo d h v (Given x) =
    (p : List ℕ) × (path h (parts d.kids) ≡ Some p)
    × ((u : Supply) → (w : Parts Handle) × Alone w × (bare w ≡ spelled v) × (parts (x.grow u) ≡ put w (parts d.kids) p)
    × (comments (x.grow u) ≡ less (lost_inside (layout (pieces d.kids)) p) (comments d.kids)))

-- what a plan of set_value makes of it: likewise, one level below the path of h
abbrev pub SetsSo : State → Handle → Value → Outcome Plan → Type 0
SetsSo d h v (Refused r) = Unit {0}
SetsSo d h v (Given x) =
    (p : List ℕ) × (path h (parts d.kids) ≡ Some p)
    × ((u : Supply) → (w : Parts Handle) × Alone w × (bare w ≡ spelled v) × (parts (x.grow u) ≡ put w (parts d.kids) (p ++ 0 ∷ []))
    × (comments (x.grow u) ≡ less (lost_inside (layout (pieces d.kids)) (p ++ 0 ∷ [])) (comments d.kids)))

-- the plan of set_value does so, and the plan of set_root puts the value at the empty path where the root has a value
abbrev pub SetPlansAccounted : Type 0
SetPlansAccounted =
    (d : State) (v : Value) → Placed d.kids → Document d.kids → Showable v
    → ((h : Handle) → SetsSo d h v (planned d (SetValue h v)))
    × ((o : Handle) (u : Supply) → value_in d.kids ≡ Some o
    → (w : Parts Handle) × Alone w × (bare w ≡ spelled v) × (parts ((root_plan d v (Some o)).grow u) ≡ put w (parts d.kids) [])
    × (comments ((root_plan d v (Some o)).grow u) ≡ less (lost_inside (layout (pieces d.kids)) []) (comments d.kids)))

-- so do the plans of remove and replace
abbrev pub PlansAccounted : Type 0
PlansAccounted =
    (d : State) (h : Handle) → Placed d.kids → Document d.kids
    → RemovesSo d h (planned d (Remove h)) × ((v : Value) → Showable v → ReplacesSo d h v (planned d (Replace h v)))

-- all of these
pub record AccountLaws : Type 0 where
  pub lost_by_path : LostByPath
  pub swapped_by_path : SwappedByPath
  pub lies_on_its_way : LiesOnItsWay
  pub found_lies : FoundLies
  pub remove_accounted : RemoveAccounted
  pub written_fresh : WrittenFresh
  pub replace_accounted : ReplaceAccounted
  pub set_value_accounted : SetValueAccounted
  pub set_root_accounted : SetRootAccounted
  pub put_answers : PutAnswers
  pub first_root_accounted : FirstRootAccounted
  pub clear_accounted : ClearAccounted
  pub named_has_path : NamedHasPath
  pub plans_accounted : PlansAccounted
  pub set_plans_accounted : SetPlansAccounted
