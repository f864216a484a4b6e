-- The seven edits, on one child list and on the tree: what goes, and what is written where. Assumes nothing.
use Rattle.std.specs.Prelude.{ℕ, zero, suc, ◌+◌, Bool, true, false, cond, not, ◌&&◌, ◌||◌, List, [], ◌∷◌, drop, Some, None, Option, ◌==◌}
use Rattle.grammar.specs.Layout.{Open, Close, Comma, Colon, Name}
use Rattle.grammar.specs.Pieces.{token, whitespace, newline, Break, comma, Pieces, end as no_pieces, leaf, box, join, nodes}
use Rattle.forest.specs.Forest.{end, node, append}
use Rattle.forest.specs.Edits.{edited}
use Rattle.model.specs.Nodes.{Sort, within, single, Own, Nodes, blank, break, remark, Class, gap, mark, value, class}
use Rattle.model.specs.Asks.{bracketed, is_break, is_gap, is_value, is_comma, any}

-- What new nodes take: the free places, the first first, and the next number.
pub record Supply : Type 0 where
  pub places : List ℕ
  pub number : ℕ

-- after k new nodes
abbrev pub skip : ℕ → Supply → Supply
skip k s = record { places = drop k s.places; number = s.number + k }

-- the place that the next new node takes
abbrev pub next_place : List ℕ → ℕ
next_place [] = 0
next_place (p ∷ ps) = p

-- one new node, before the siblings ts
abbrev pub grown : Supply → Sort → Nodes → Nodes → Nodes
grown s x ks ts = node (next_place s.places) (record { number = s.number; sort = x }) ks ts

-- pieces as new nodes: places and numbers in text order, containers before their children
abbrev pub sown : Supply → Pieces → Nodes
sown s no_pieces = end
sown s (leaf x r) = grown s (single x) end (sown (skip 1 s) r)
sown s (box b c r) = grown s (within b) (sown (skip 1 s) c) (sown (skip (suc (nodes c)) s) r)

-- siblings before, nearest first, put back before those after
abbrev pub onto : Nodes → Nodes → Nodes
onto end ts = ts
onto (node p i ks bs) ts = onto bs (node p i ks ts)

-- An edit at a node among its siblings: of those before it, nearest first, its place, own data and children, and those after it.
abbrev pub Local : Type 0
Local = Nodes → ℕ → Own → Nodes → Nodes → Nodes

-- the same, with the siblings already passed, nearest first
abbrev pub local_from : Local → ℕ → Nodes → Nodes → Nodes
local_from g k bs end = onto bs end
local_from g k bs (node p i ks ts) = cond (p == k) (g bs p i ks ts) (local_from g k (node p i ks bs) ts)

-- the sibling at the place k edited
abbrev pub local : Local → ℕ → Nodes → Nodes
local g k ts = local_from g k end ts

-- the children of the container at the place c changed; the root is at the place 0, and its children are given
abbrev pub under : ℕ → (Nodes → Nodes) → Nodes → Nodes
under c f ks = cond (c == 0) (f ks) (edited c f ks)

-- REMOVE

-- the siblings before, nearest first, less Whitespace and Comments back to a Newline or non-trivia
abbrev pub back_at : Class → Nodes → Nodes → Nodes
back_at (gap blank) stay go = go
back_at (gap break) stay go = stay
back_at (gap (remark c)) stay go = go
back_at (mark m) stay go = stay
back_at value stay go = stay

-- the siblings before, nearest first, less the rest of the line
abbrev pub back_line : Nodes → Nodes
back_line end = end
back_line (node p i ks bs) = back_at (class i.sort) (node p i ks bs) (back_line bs)

-- the siblings before, nearest first, less the nearest comma, wherever it stands
abbrev pub un_comma : Nodes → Nodes
un_comma end = end
un_comma (node p i ks bs) = cond (is_comma (class i.sort)) bs (node p i ks (un_comma bs))

-- what follows the trailing comma, if there is one
abbrev pub past_at : Class → Option Nodes → Nodes → Option Nodes
past_at (gap g) go ts = go
past_at (mark Open) go ts = None
past_at (mark Close) go ts = None
past_at (mark Comma) go ts = Some ts
past_at (mark Colon) go ts = None
past_at (mark Name) go ts = None
past_at value go ts = None

-- what follows the trailing comma of a node with these siblings after it
abbrev pub past_comma : Nodes → Option Nodes
past_comma end = None
past_comma (node p i ks ts) = past_at (class i.sort) (past_comma ts) ts

-- a Newline stands before the next non-trivia
abbrev pub line_at : Class → Bool → Bool
line_at (gap blank) go = go
line_at (gap break) go = true
line_at (gap (remark c)) go = go
line_at (mark m) go = false
line_at value go = false

-- the line ends among these siblings before anything but Whitespace and Comments
abbrev pub line_ends : Nodes → Bool
line_ends end = false
line_ends (node p i ks ts) = line_at (class i.sort) (line_ends ts)

-- the first sibling is there and is no trivia
abbrev pub solid_next : Nodes → Bool
solid_next end = false
solid_next (node p i ks ts) = not (is_gap (class i.sort))

-- less the trivia up to a Newline, with it, or to non-trivia; Whitespace right before non-trivia stays
abbrev pub rest_at : Class → Bool → Nodes → Nodes → Nodes → Nodes
rest_at (gap blank) solid stay go ts = cond solid stay go
rest_at (gap break) solid stay go ts = ts
rest_at (gap (remark c)) solid stay go ts = go
rest_at (mark m) solid stay go ts = stay
rest_at value solid stay go ts = stay

-- these siblings less the rest of the line
abbrev pub drop_line : Nodes → Nodes
drop_line end = end
drop_line (node p i ks ts) = rest_at (class i.sort) (solid_next ts) (node p i ks ts) (drop_line ts) ts

-- only Whitespace, Newlines and brackets
abbrev pub bare_at : Class → Bool → Bool
bare_at (gap blank) go = go
bare_at (gap break) go = go
bare_at (gap (remark c)) go = false
bare_at (mark Open) go = go
bare_at (mark Close) go = go
bare_at (mark Comma) go = false
bare_at (mark Colon) go = false
bare_at (mark Name) go = false
bare_at value go = false

-- nothing but blanks and brackets among siblings
abbrev pub empty : Nodes → Bool
empty end = true
empty (node p i ks ts) = bare_at (class i.sort) (empty ts)

-- without Whitespace and Newlines
abbrev pub tight_at : Class → Nodes → Nodes → Nodes
tight_at (gap blank) stay go = go
tight_at (gap break) stay go = go
tight_at (gap (remark c)) stay go = stay
tight_at (mark m) stay go = stay
tight_at value stay go = stay

-- siblings without blanks
abbrev pub tight : Nodes → Nodes
tight end = end
tight (node p i ks ts) = tight_at (class i.sort) (node p i ks (tight ts)) (tight ts)

-- where only blanks are left between the brackets, or in the root, they go too
abbrev pub tidy : Nodes → Nodes
tidy ts = cond (empty ts) (tight ts) ts

-- a node removed, with the siblings before it, nearest first, and those after it, and what follows its trailing comma, if it has one
abbrev pub closed : Nodes → Nodes → Option Nodes → Nodes
closed bs ts None = onto (un_comma (back_line bs)) (drop_line ts)
closed bs ts (Some r) = onto (back_line bs) (cond (not (line_ends ts) && line_ends r) (drop_line r) r)

-- a node removed among its siblings
abbrev pub removal : Local
removal bs p i ks ts = tidy (closed bs ts (past_comma ts))

-- the root's children after the node at the place k, a child of the container c, is removed
abbrev pub remove : ℕ → ℕ → Nodes → Nodes
remove c k ks = under c (local removal k) ks

-- SET_TRAILING_COMMAS

-- only trivia up to the closing bracket
abbrev pub end_at : Class → Bool → Bool
end_at (gap g) go = go
end_at (mark Open) go = false
end_at (mark Close) go = true
end_at (mark Comma) go = false
end_at (mark Colon) go = false
end_at (mark Name) go = false
end_at value go = false

-- only trivia is left up to the closing bracket
abbrev pub ends : Nodes → Bool
ends end = false
ends (node p i ks ts) = end_at (class i.sort) (ends ts)

-- Never: without the commas that only trivia follows up to the bracket, among siblings and in all below them
abbrev pub untrailed : Nodes → Nodes
untrailed end = end
untrailed (node p i ks ts) = cond (is_comma (class i.sort) && ends ts) (untrailed ts) (node p i (untrailed ks) (untrailed ts))

-- an array or object with a Newline among its children
abbrev pub lined : Sort → Nodes → Bool
lined s ks = bracketed s && any is_break ks

-- a comma is due behind this node: it is the last member, it has no trailing comma, and its container (b) has a Newline
abbrev pub due : Bool → Own → Nodes → ℕ
due b i ts = cond (b && (is_value (class i.sort) && ends ts)) 1 0

-- IfMultiline: how many commas are due among siblings and in all below them
abbrev pub dues : Bool → Nodes → ℕ
dues b end = 0
dues b (node p i ks ts) = due b i ts + (dues (lined i.sort ks) ks + dues b ts)

-- n commas
abbrev pub commas : ℕ → Pieces
commas zero = no_pieces
commas (suc n) = leaf (token comma) (commas n)

-- IfMultiline: a container's comma is written before those inside its last member
abbrev pub trailed : Bool → Supply → Nodes → Nodes
trailed b s end = end
trailed b s (node p i ks ts) =
    node p i (trailed (lined i.sort ks) (skip (due b i ts) s) ks)
    (append (sown s (commas (due b i ts))) (trailed b (skip (due b i ts + dues (lined i.sort ks) ks) s) ts))

-- REPLACE, SET_VALUE, SET_ROOT

-- a node alone gone, or new siblings in its place
abbrev pub dropped : Local
dropped bs p i ks ts = onto bs ts

-- a node alone gone, and new siblings in its place
abbrev pub exchanged : Nodes → Local
exchanged us bs p i ks ts = onto bs (append us ts)

-- the child k of the container c gone, or new siblings in its place
abbrev pub drop_node : ℕ → ℕ → Nodes → Nodes
drop_node c k ks = under c (local dropped k) ks

-- the child k of the container c gone, and new siblings in its place
abbrev pub exchange : ℕ → ℕ → Nodes → Nodes → Nodes
exchange c k us ks = under c (local (exchanged us) k) ks

-- A root without a value. Its children, the last first, are cut before a Newline that stands last.
pub record Cut : Type 0 where
  pub before : Nodes
  pub after : Nodes

-- the cut, of the children in reverse order
abbrev pub cut_at : Nodes → Cut
cut_at end = record { before = end; after = end }
cut_at (node p i ks bs) =
    cond (is_break (class i.sort)) (record { before = bs; after = node p i ks end }) (record { before = node p i ks bs; after = end })

-- the cut of the root's children
abbrev pub root_cut : Nodes → Cut
root_cut ks = cut_at (onto ks end)

-- a Comment
abbrev pub is_remark : Class → Bool
is_remark (gap blank) = false
is_remark (gap break) = false
is_remark (gap (remark c)) = true
is_remark (mark m) = false
is_remark value = false

-- a Newline is written before the value if a Comment stands there, and behind it if nothing does
abbrev pub break_before : Nodes → Break → Pieces
break_before end n = no_pieces
break_before (node p i ks bs) n = cond (is_remark (class i.sort)) (leaf (newline n) no_pieces) no_pieces

-- a Newline behind the value, if nothing stands there
abbrev pub break_behind : Nodes → Break → Pieces
break_behind end n = leaf (newline n) no_pieces
break_behind (node p i ks ts) n = no_pieces

-- what is written, in the order of its numbers
abbrev pub root_pieces : Cut → Break → Pieces → Pieces
root_pieces c n v = join (break_before c.before n) (join (break_behind c.after n) v)

-- and where it stands
abbrev pub root_put : Cut → Break → Pieces → Supply → Nodes
root_put c n v s =
    let x = break_before c.before n in
    let y = break_behind c.after n in
    onto c.before (append (sown s x) (append (sown (skip (nodes x + nodes y) s) v) (append (sown (skip (nodes x) s) y) c.after)))

-- ENSURE_MULTILINE

-- only Whitespace up to the closing bracket
abbrev pub shuts_at : Class → Bool → Bool
shuts_at (gap blank) go = go
shuts_at (gap break) go = false
shuts_at (gap (remark c)) go = false
shuts_at (mark Open) go = false
shuts_at (mark Close) go = true
shuts_at (mark Comma) go = false
shuts_at (mark Colon) go = false
shuts_at (mark Name) go = false
shuts_at value go = false

-- only Whitespace is left up to the closing bracket
abbrev pub shuts : Nodes → Bool
shuts end = false
shuts (node p i ks ts) = shuts_at (class i.sort) (shuts ts)

-- a child, as the parts between the brackets see it: a bracket, Whitespace, the comma that ends a part, or what stands in one
pub data Piece : Type 0 where
  opens : Piece
  closes : Piece
  space : Piece
  cut : Piece
  stuff : Piece

-- what a child is there
abbrev pub piece_of : Class → Piece
piece_of (gap blank) = space
piece_of (gap break) = stuff
piece_of (gap (remark c)) = stuff
piece_of (mark Open) = opens
piece_of (mark Close) = closes
piece_of (mark Comma) = cut
piece_of (mark Colon) = stuff
piece_of (mark Name) = stuff
piece_of value = stuff

-- without the Whitespace before a part and between the last part and the bracket; b says that a part has begun
abbrev pub begun : Piece → Bool → Bool
begun opens b = false
begun closes b = false
begun space b = b
begun cut b = false
begun stuff b = true

-- Whitespace that goes: before a part, or behind the last
abbrev pub loose : Piece → Bool → Bool → Bool
loose opens b last = false
loose closes b last = false
loose space b last = not b || last
loose cut b last = false
loose stuff b last = false

-- siblings without the Whitespace that goes
abbrev pub unspaced : Bool → Nodes → Nodes
unspaced b end = end
unspaced b (node p i ks ts) =
    let x = piece_of (class i.sort) in
    let r = unspaced (begun x b) ts in
    cond (loose x b (shuts ts)) r (node p i ks r)

-- What is written before a child: before a part a Newline and the inner indent, before the closing bracket a Newline and the current indent unless that is empty.
pub record Lines : Type 0 where
  pub newline : Break
  pub inner : List ℕ
  pub current : List ℕ

-- a Whitespace, unless it would be empty
abbrev pub unless_empty : List ℕ → Pieces
unless_empty [] = no_pieces
unless_empty (b ∷ t) = leaf (whitespace (b ∷ t)) no_pieces

-- what is written where a part begins
abbrev pub part_start : Lines → Bool → Pieces
part_start l true = no_pieces
part_start l false = leaf (newline l.newline) (leaf (whitespace l.inner) no_pieces)

-- what is written before a child
abbrev pub lead : Lines → Piece → Bool → Pieces
lead l opens b = no_pieces
lead l closes b = leaf (newline l.newline) (unless_empty l.current)
lead l space b = no_pieces
lead l cut b = part_start l b
lead l stuff b = part_start l b

-- all that is written, in text order
abbrev pub leads : Lines → Bool → Nodes → Pieces
leads l b end = no_pieces
leads l b (node p i ks ts) =
    let x = piece_of (class i.sort) in join (lead l x b) (leads l (begun x b) ts)

-- siblings with all that is written
abbrev pub spread_out : Lines → Bool → Supply → Nodes → Nodes
spread_out l b s end = end
spread_out l b s (node p i ks ts) =
    let x = piece_of (class i.sort) in
    append (sown s (lead l x b)) (node p i ks (spread_out l (begun x b) (skip (nodes (lead l x b)) s) ts))
