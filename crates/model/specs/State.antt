-- A document's state, and what each edit makes of it or refuses. Assumes nothing.
use Rattle.std.specs.Prelude.{ℕ, zero, suc, ◌+◌, ◌-◌, max, Bool, false, cond, not, ◌&&◌, ◌||◌, List, [], ◌∷◌, ◌++◌, length, drop, Some, None, Option, ◌==◌, nat_lt}
use Rattle.refusal.specs.declared.Refusal.{Refusal}
use Rattle.refusal.specs.declared.Refusal.TheVariants.{BadText, TooDeep, NoNode, NoText, Gone, NotHere, Worn, Short, BadMemory}
use Rattle.grammar.specs.Layout.{nil, part, raised}
use Rattle.grammar.specs.Pieces.{Break, Pieces, end as no_pieces, nodes, stored}
use Rattle.grammar.specs.Answer.{Answer, Read, BadText as Bad, TooDeep as Deep, read}
use Rattle.forest.specs.Forest.{end, node, count, places}
use Rattle.model.specs.Nodes.{Handle, root, Nodes, loaded, class, print, parts}
use Rattle.model.specs.Asks.{living, then, Frame, Spot, spot_at, named, sort_of, is_root, is_property, bracketed, is_value, is_break, any, LineFeed, newline_kind, uses_trailing_commas, value_in, root_handle, Kind, kind, path, at_path, find, is_object, parent_info, previous_sibling, next_sibling, holds, child_at, element_index, trailing_comma, text, indent_text, NewlineKind, single_indent, start_in, same_bytes}
use Rattle.model.specs.Indents.{Indents, root_indents, indents}
use Rattle.model.specs.Written.{Value, Style, break_of, written}
use Rattle.model.specs.Edits.{Supply, next_place, sown, onto, under, remove, drop_node, exchange, root_cut, root_pieces, root_put, untrailed, lined, dues, commas, trailed, Lines, unspaced, leads, spread_out}

-- an answer, or a refusal
pub data Outcome (A : Type 0) : Type 0 where
  Refused : Refusal → Outcome A
  Given : A → Outcome A

-- what follows an answer; a refusal stays
abbrev pub and_then : {A B : Type 0} → Outcome A → (A → Outcome B) → Outcome B
and_then (Refused r) f = Refused r
and_then (Given a) f = f a

-- refused so if the condition holds
abbrev pub unless : {A : Type 0} → Bool → Refusal → Outcome A → Outcome A
unless b r o = cond b (Refused r) o

-- an absent answer refused so
abbrev pub present : {A : Type 0} → Refusal → Option A → Outcome A
present r (Some a) = Given a
present r None = Refused r

-- The state: the root's children, the next number, the store's used bytes, the accepted edits since load, how many records and how
-- much store there is, and the free places, the next to be taken first. Before the first load there are no records.
pub record State : Type 0 where
  pub kids : Nodes
  pub fresh : ℕ
  pub used : ℕ
  pub edits : ℕ
  pub records : ℕ
  pub store : ℕ
  pub free : List ℕ

-- a document before its first load
abbrev pub blank_state : State
blank_state = record { kids = end; fresh = 2; used = 0; edits = 0; records = 0; store = 0; free = [] }

-- the numbers from k, n of them
abbrev pub up_from : ℕ → ℕ → List ℕ
up_from k zero = []
up_from k (suc n) = k ∷ up_from (suc k) n

-- the state after the load of these pieces, with this many records and this much store
abbrev pub loaded_state : ℕ → ℕ → Pieces → State
loaded_state r m a = record {
  kids = loaded a;
  fresh = suc (suc (nodes a));
  used = length (stored a);
  edits = 0;
  records = r;
  store = m;
  free = up_from (suc (nodes a)) (r - suc (nodes a));
}

-- what load answers: BadMemory, then BadText or TooDeep, NoNode, NoText
abbrev pub largest : ℕ
largest = 1048576

-- load, of what the reader answers
abbrev pub loading : ℕ → ℕ → Answer → Outcome State
loading r m (Read a) = unless (nat_lt r (suc (nodes a))) NoNode (unless (nat_lt m (length (stored a))) NoText (Given (loaded_state r m a)))
loading r m (Bad p) = Refused (BadText p)
loading r m Deep = Refused TooDeep

-- load, with r records, m bytes of store and the text t
abbrev pub load : ℕ → ℕ → List ℕ → Outcome State
load r m t =
    unless (r == 0 || (nat_lt 65535 r || (nat_lt largest m || nat_lt largest (length t)))) BadMemory (loading r m (read 64 t))

-- when trailing commas are wanted
pub data Commas : Type 0 where
  Never : Commas
  IfMultiline : Commas

-- the seven edits; S says which values are written
pub data Edit (S : Type 0) : Type 0 where
  Remove : Handle → Edit S
  Replace : Handle → S → Edit S
  SetValue : Handle → S → Edit S
  SetRoot : S → Edit S
  Clear : Edit S
  SetTrailingCommas : Handle → Commas → Edit S
  EnsureMultiline : Handle → Edit S

-- the same edit of what f makes of the values
abbrev pub map_edit : {S T : Type 0} → (S → T) → Edit S → Edit T
map_edit f (Remove h) = Remove h
map_edit f (Replace h v) = Replace h (f v)
map_edit f (SetValue h v) = SetValue h (f v)
map_edit f (SetRoot v) = SetRoot (f v)
map_edit f Clear = Clear
map_edit f (SetTrailingCommas h m) = SetTrailingCommas h m
map_edit f (EnsureMultiline h) = EnsureMultiline h

-- the work lists lent: how many places the queue and the stack have
pub record Work : Type 0 where
  pub queue : ℕ
  pub stack : ℕ

-- a queue has a place for each record, a stack 64 places; a document that was never loaded has no records
abbrev pub short_queue : State → Work → Bool
short_queue d w = nat_lt w.queue d.records

-- the stack is short
abbrev pub short_stack : Work → Bool
short_stack w = nat_lt w.stack 64

-- a work list that the edit takes is short
abbrev pub short_work : {S : Type 0} → State → Work → Edit S → Bool
short_work d w (Remove h) = false
short_work d w (Replace h v) = short_queue d w || short_stack w
short_work d w (SetValue h v) = short_queue d w || short_stack w
short_work d w (SetRoot v) = short_queue d w || short_stack w
short_work d w Clear = false
short_work d w (SetTrailingCommas h m) = false
short_work d w (EnsureMultiline h) = short_queue d w

-- nothing was loaded, or a work list is short
abbrev pub bad_memory : {S : Type 0} → State → Work → Edit S → Bool
bad_memory d w e = d.records == 0 || short_work d w e

-- What an edit does: how many levels it would come to, what is left of the root's children after its removals, the new pieces in the order of
-- their numbers, and the root's children at its end.
pub record Plan : Type 0 where
  pub deep : ℕ
  pub cut : Nodes
  pub adds : Pieces
  pub grow : Supply → Nodes

-- levels: of a value, and around a place
abbrev pub levels_of : Value → ℕ
levels_of nil = 0
levels_of (part a l ks ts) = max (raised l (levels_of ks)) (levels_of ts)

-- how many arrays and objects stand around
abbrev pub around : List Frame → ℕ
around [] = 0
around (f ∷ us) = cond (bracketed f.own.sort) 1 0 + around us

-- nothing new
abbrev pub cutting : Nodes → Plan
cutting ks = record { deep = 0; cut = ks; adds = no_pieces; grow = λ s. ks }

-- REMOVE takes an element, a property, the root's value.
abbrev pub remove_plan : State → Spot → List Frame → Outcome Plan
remove_plan d s [] = Refused NotHere
remove_plan d s (f ∷ us) =
    cond (is_value (class (sort_of s)) && not (is_property f.own.sort))
    (Given (cutting (remove f.place s.here.place d.kids))) (Refused NotHere)

-- REPLACE takes an element, a property's value, the root's value.
-- the parent's spot, of its frame and those above it

-- where the parent stands, of its frame and those above it
abbrev pub parent_spot : Spot → Frame → List Frame → Spot
parent_spot s f us = record
    { here = f; kids = onto s.here.before (node s.here.place s.here.own s.kids s.here.after); ups = us }

-- how lines are written
abbrev pub styled : Break → Bool → Indents → Style
styled n t i = record { newline = n; trailing = t; step = i.step }

-- a value written into the place of the node k, a child of c, below so many levels
abbrev pub exchanging : State → ℕ → ℕ → ℕ → Value → Break → Bool → Indents → Plan
exchanging d n c k v b t i =
    let a = written (styled b t i) i.current v in
    record { deep = n + levels_of v; cut = drop_node c k d.kids; adds = a; grow = λ s. exchange c k (sown s a) d.kids }

-- the line break is LineFeed where the parent is the root
abbrev pub replace_plan : State → Value → Spot → List Frame → Outcome Plan
replace_plan d v s [] = Refused NotHere
replace_plan d v s (f ∷ us) =
    let p = parent_spot s f us in
    cond (is_value (class (sort_of s)) && not (is_property (sort_of s)))
    (Given (exchanging d (around (f ∷ us)) f.place s.here.place v
    (break_of (cond (is_root f.own.sort) LineFeed (newline_kind d.kids))) (uses_trailing_commas f.own.sort p.kids) (indents p d.kids)))
    (Refused NotHere)

-- SET_VALUE takes a property. Trailing commas are asked of the old value.
abbrev pub value_plan : State → Value → Spot → Option Spot → Outcome Plan
value_plan d v s None = Refused NotHere
value_plan d v s (Some o) =
    cond (is_property (sort_of s))
    (Given (exchanging d (around s.ups) s.here.place o.here.place v
    (break_of (newline_kind d.kids)) (uses_trailing_commas (sort_of o) o.kids) (indents s d.kids)))
    (Refused NotHere)

-- where a property's value stands
abbrev pub value_of : State → Nodes → Option Spot
value_of d ks = then (value_in ks) (λ h. spot_at h.place d.kids)

-- SET_ROOT: the value in the place of the old one, or where the root has none.
abbrev pub root_plan : State → Value → Option Handle → Plan
root_plan d v (Some h) =
    exchanging d 0 0 h.place v (break_of (newline_kind d.kids)) (uses_trailing_commas root d.kids) root_indents
root_plan d v None =
    let n = break_of (newline_kind d.kids) in
    let a = written (styled n (uses_trailing_commas root d.kids) root_indents) [] v in
    let c = root_cut d.kids in
    record { deep = levels_of v; cut = d.kids; adds = root_pieces c n a; grow = λ s. root_put c n a s }

-- SET_TRAILING_COMMAS takes the root, an array, an object.
abbrev pub commas_plan : State → Commas → Spot → Plan
commas_plan d Never s = cutting (under s.here.place untrailed d.kids)
commas_plan d IfMultiline s =
    let b = lined (sort_of s) s.kids in
    record { deep = 0; cut = d.kids; adds = commas (dues b s.kids); grow = λ u. under s.here.place (trailed b u) d.kids }

-- ENSURE_MULTILINE takes an array or object. One that has a Newline among its children stays as it is.
abbrev pub lines_of : Break → Indents → Lines
lines_of n i = record { newline = n; inner = i.current ++ i.step; current = i.current }

-- ensure_multiline at a node
abbrev pub multiline_plan : State → Spot → Plan
multiline_plan d s =
    let l = lines_of (break_of (newline_kind d.kids)) (indents s d.kids) in
    cond (any is_break s.kids) (cutting d.kids)
    (record {
      deep = 0;
      cut = under s.here.place (unspaced false) d.kids;
      adds = leads l false (unspaced false s.kids);
      grow = λ u. under s.here.place (λ ks. spread_out l false u (unspaced false ks)) d.kids;
    })

-- what an edit does, or Gone, or NotHere
abbrev pub spotted : State → Handle → Outcome Spot
spotted d h = present Gone (named h d.kids)

-- what each edit does, before it is judged
abbrev pub planned : State → Edit Value → Outcome Plan
planned d (Remove h) = and_then (spotted d h) (λ s. remove_plan d s s.ups)
planned d (Replace h v) = and_then (spotted d h) (λ s. replace_plan d v s s.ups)
planned d (SetValue h v) = and_then (spotted d h) (λ s. value_plan d v s (value_of d s.kids))
planned d (SetRoot v) = Given (root_plan d v (value_in d.kids))
planned d Clear = Given (cutting end)
planned d (SetTrailingCommas h m) =
    and_then (spotted d h) (λ s. cond (is_root (sort_of s) || bracketed (sort_of s)) (Given (commas_plan d m s)) (Refused NotHere))
planned d (EnsureMultiline h) = and_then (spotted d h) (λ s. cond (bracketed (sort_of s)) (Given (multiline_plan d s)) (Refused NotHere))

-- the places that are left free, in text order: those of the nodes that go
abbrev pub missing : List ℕ → Nodes → List ℕ
missing [] ks = []
missing (p ∷ ps) ks = cond (count p ks == 0) (p ∷ missing ps ks) (missing ps ks)

-- and the free places then, the one left free last the first to be taken
abbrev pub freeing : List ℕ → List ℕ → List ℕ
freeing [] free = free
freeing (p ∷ ps) free = freeing ps (p ∷ free)

-- what the new nodes take
abbrev pub supply_of : State → Plan → Supply
supply_of d x = record { places = freeing (missing (places d.kids) x.cut) d.free; number = d.fresh }

-- the state at the end
abbrev pub finished : State → Plan → State
finished d x = record {
  kids = x.grow (supply_of d x);
  fresh = d.fresh + nodes x.adds;
  used = d.used + length (stored x.adds);
  edits = suc d.edits;
  records = d.records;
  store = d.store;
  free = drop (nodes x.adds) (supply_of d x).places;
}

-- the largest number, and the largest count of accepted edits
abbrev pub last : ℕ
last = 4294967295

-- The judgement on the state at the end: TooDeep, NoNode, NoText, Worn in this order.
abbrev pub worn : State → Plan → Bool
worn d x = nat_lt last (d.edits + 1) || nat_lt (suc last) (d.fresh + nodes x.adds)

-- the plan, unless something is refused
abbrev pub judged : State → Plan → Outcome Plan
judged d x =
    unless (nat_lt 64 x.deep) TooDeep
    (unless (nat_lt d.records (living x.cut + nodes x.adds)) NoNode
    (unless (nat_lt d.store (d.used + length (stored x.adds))) NoText
    (unless (worn d x) Worn (Given x))))

-- an edit that is accepted, with its plan, or the first refusal: BadMemory, Gone, NotHere, TooDeep, NoNode, NoText, Worn
abbrev pub accepted : State → Work → Edit Value → Outcome Plan
accepted d w e = unless (bad_memory d w e) BadMemory (and_then (planned d e) (judged d))

-- the state after an edit: a refused one changes nothing
abbrev pub after_outcome : State → Outcome Plan → State
after_outcome d (Refused r) = d
after_outcome d (Given x) = finished d x

-- the state after an edit, accepted or refused
abbrev pub after : State → Work → Edit Value → State
after d w e = after_outcome d (accepted d w e)

-- what an edit answers: `replace` the new node's handle, the others nothing
abbrev pub first_new : State → Plan → Handle
first_new d x = record { place = next_place (supply_of d x).places; number = d.fresh }

-- what an accepted edit answers
abbrev pub answers : {S : Type 0} → State → Edit S → Plan → Option Handle
answers d (Remove h) x = None
answers d (Replace h v) x = Some (first_new d x)
answers d (SetValue h v) x = None
answers d (SetRoot v) x = None
answers d Clear x = None
answers d (SetTrailingCommas h m) x = None
answers d (EnsureMultiline h) x = None

-- what an edit gives: its answer, or its refusal
abbrev pub outcome : State → Work → Edit Value → Outcome (Option Handle)
outcome d w e = and_then (accepted d w e) (λ x. Given (answers d e x))

-- QUESTIONS AND PRINTING refuse in this order: BadMemory, Gone, NotHere, Short.

-- nothing was loaded
abbrev pub unloaded : State → Bool
unloaded d = d.records == 0

-- what is answered of the node that a handle names
abbrev pub asking : {A : Type 0} → State → Handle → (Spot → Outcome A) → Outcome A
asking d h f = unless (unloaded d) BadMemory (and_then (spotted d h) f)

-- the bytes that fill the start of a buffer of n bytes, or how many are needed
abbrev pub filled : ℕ → List ℕ → Outcome (List ℕ)
filled n t = unless (nat_lt n (length t)) (Short (length t)) (Given t)

-- the same for an answer that may be absent
abbrev pub filled_or : ℕ → Option (List ℕ) → Outcome (Option (List ℕ))
filled_or n (Some t) = and_then (filled n t) (λ u. Given (Some u))
filled_or n None = Given None

-- print, into a buffer of n bytes
abbrev pub print_answer : State → ℕ → Outcome (List ℕ)
print_answer d n = unless (unloaded d) BadMemory (filled n (print d.kids))

-- edits; root
abbrev pub edits_answer : State → Outcome ℕ
edits_answer d = unless (unloaded d) BadMemory (Given d.edits)

-- the root's handle
abbrev pub root_answer : State → Outcome Handle
root_answer d = unless (unloaded d) BadMemory (Given root_handle)

-- value, of the root or a property
abbrev pub value_answer : State → Handle → Outcome (Option Handle)
value_answer d h = asking d h (λ s. cond (is_root (sort_of s) || is_property (sort_of s)) (Given (value_in s.kids)) (Refused NotHere))

-- kind
abbrev pub kind_answer : State → Handle → Outcome Kind
kind_answer d h = asking d h (λ s. Given (kind (sort_of s)))

-- path, into a list of n places; at
abbrev pub path_answer : State → Handle → ℕ → Outcome (List ℕ)
path_answer d h n = unless (nat_lt n 128) BadMemory (asking d h (λ s. present NotHere (path h (parts d.kids))))

-- the handle at a path
abbrev pub at_answer : State → List ℕ → Outcome Handle
at_answer d p = unless (unloaded d) BadMemory (present NotHere (at_path (parts d.kids) p))

-- find, in an object
abbrev pub find_answer : State → Handle → List ℕ → Outcome (Option Handle)
find_answer d h t = asking d h (λ s. cond (is_object (sort_of s)) (Given (find t s.kids)) (Refused NotHere))

-- neighbours
abbrev pub parent_answer : State → Handle → Outcome (Option (Handle × ℕ))
parent_answer d h = asking d h (λ s. Given (parent_info s))

-- previous_sibling
abbrev pub previous_answer : State → Handle → Outcome (Option Handle)
previous_answer d h = asking d h (λ s. Given (previous_sibling s))

-- next_sibling
abbrev pub next_answer : State → Handle → Outcome (Option Handle)
next_answer d h = asking d h (λ s. Given (next_sibling s))

-- the child of an index, of a container
abbrev pub child_answer : State → Handle → ℕ → Outcome (Option Handle)
child_answer d h n = asking d h (λ s. cond (holds (sort_of s)) (Given (child_at n s.kids)) (Refused NotHere))

-- element_index
abbrev pub element_answer : State → Handle → Outcome (Option ℕ)
element_answer d h = asking d h (λ s. Given (element_index s))

-- trailing_comma
abbrev pub comma_answer : State → Handle → Outcome (Option Handle)
comma_answer d h = asking d h (λ s. Given (trailing_comma s))

-- text, of a stored leaf, and indent_text, each into a buffer of n bytes
abbrev pub text_answer : State → Handle → ℕ → Outcome (List ℕ)
text_answer d h n = asking d h (λ s. and_then (present NotHere (text (sort_of s))) (filled n))

-- indent_text, absent where the node has none
abbrev pub indent_answer : State → Handle → ℕ → Outcome (Option (List ℕ))
indent_answer d h n = asking d h (λ s. filled_or n (indent_text s))

-- newline_kind and uses_trailing_commas, with a queue of n places
abbrev pub newline_answer : State → ℕ → Outcome NewlineKind
newline_answer d n = unless (unloaded d || nat_lt n d.records) BadMemory (Given (newline_kind d.kids))

-- uses_trailing_commas
abbrev pub uses_answer : State → Handle → ℕ → Outcome Bool
uses_answer d h n =
    unless (unloaded d || nat_lt n d.records) BadMemory (and_then (spotted d h) (λ s. Given (uses_trailing_commas (sort_of s) s.kids)))

-- indent_or, lent the printing: where the single indentation stands in it and how long it is, or that the default is handed out
abbrev pub indent_part : State → Option (Handle × List ℕ) → Option (ℕ × ℕ)
indent_part d (Some x) = Some (start_in x.0.place 0 d.kids, length x.1)
indent_part d None = None

-- indent_or
abbrev pub indent_or_answer : State → List ℕ → Outcome (Option (ℕ × ℕ))
indent_or_answer d t =
    unless (unloaded d || not (same_bytes t (print d.kids))) BadMemory (Given (indent_part d (single_indent d.kids)))
