-- What holds of the definitions: of escapes, of newly loaded trees, of trees that are as the grammar has them, and of changes. Assumes nothing.
use Rattle.std.specs.Prelude.{◌≡◌, ℕ, ◌<◌, ◌≤◌, Bool, false, ◌⊎◌, List, [], ◌++◌}
use Rattle.std.proofs.Math.Option.{some}
use Rattle.grammar.specs.Classes.{Ascii, Blank}
use Rattle.grammar.specs.Layout.{Parts, nil, meaning, notes}
use Rattle.grammar.specs.Grammar.{All, Char, Many, StringChar, Sentence}
use Rattle.grammar.specs.Pieces.{Break, Pieces, nodes, layout, print as print_pieces}
use Rattle.grammar.specs.Answer.{Read, read}
use Rattle.forest.specs.Forest.{end, count, size, places}
use Rattle.forest.specs.Edits.{edited, kids}
use Rattle.model.specs.Nodes.{Handle, Own, Nodes, value, class, pieces, print, loaded, label_of, parts}
use Rattle.model.specs.Escapes.{escaped, decoded}
use Rattle.model.specs.Fits.{top, Fits, Whole, Document, comments, bare}
use Rattle.model.specs.Edits.{Supply, sown, local, under, back_line, removal, remove, untrailed, trailed, exchanged, exchange, root_cut, root_put, Lines, unspaced, spread_out}
use Rattle.model.specs.Written.{Value, Style, spelled, written}
use Rattle.model.specs.Sources.{Shows, IsOne, free, Shaped}
use Rattle.model.specs.State.{State, Work, Edit, after, up_from}
use Rattle.model.specs.Numbers.{numbers}
use Rattle.model.specs.Changes.{At, Keeps, changed, changed_under, lost, swapped, Around, Each, Trivial, IsBracketed, IsContainer, IsItem, IsElement, Blanked, Placed, Showing, notes_before}
use Rattle.model.specs.Account.{after_comma, followed}

-- an escaped text is what may stand between quotes
abbrev pub EscapedIsAString : Type 0
EscapedIsAString = (t : List ℕ) → Many (Char Ascii) t → Many StringChar (escaped t)

-- an escaped text says the text again
abbrev pub EscapedSaysTheText : Type 0
EscapedSaysTheText = (t : List ℕ) → Many (Char Ascii) t → decoded (escaped t) ≡ some t

-- a newly loaded tree prints what its pieces print
abbrev pub LoadedPrints : Type 0
LoadedPrints = (a : Pieces) → print (loaded a) ≡ print_pieces a

-- its nodes stand at the places from 1 on, in text order, and have the numbers from 2 on
abbrev pub LoadedPlaces : Type 0
LoadedPlaces = (a : Pieces) → (size (loaded a) ≡ nodes a) × (places (loaded a) ≡ up_from 1 (nodes a)) × (numbers (loaded a) ≡ up_from 2 (nodes a))

-- each place from 1 to the number of nodes stands once, and no other
abbrev pub LoadedOnce : Type 0
LoadedOnce = (a : Pieces) (k : ℕ) → (1 ≤ k → k ≤ nodes a → count k (loaded a) ≡ 1) × (nodes a < k → count k (loaded a) ≡ 0) × (count 0 (loaded a) ≡ 0)

-- its comments and its value are those of the text's layout
abbrev pub LoadedSays : Type 0
LoadedSays = (a : Pieces) → (comments (loaded a) ≡ notes (layout a)) × (bare (parts (loaded a)) ≡ meaning (layout a))

-- the tree of every text that the reader takes is a document
abbrev pub LoadsADocument : Type 0
LoadsADocument = (n : ℕ) (s : List ℕ) (a : Pieces) → read n s ≡ Read a → Document (loaded a)

-- a document prints a sentence, whose layout is the tree's own
abbrev pub DocumentPrints : Type 0
DocumentPrints = (ts : Nodes) → Document ts → Sentence (layout (pieces ts)) (print ts)

-- the comments and the value of that sentence are the document's
abbrev pub DocumentSays : Type 0
DocumentSays = (ts : Nodes) → Document ts → (comments ts ≡ notes (layout (pieces ts))) × (bare (parts ts) ≡ meaning (layout (pieces ts)))

-- a change that keeps what the children of c have to be keeps the document; the root's children are those of the place 0
abbrev pub ChangeKeepsTheDocument : Type 0
ChangeKeepsTheDocument =
    (c : ℕ) (f : Nodes → Nodes) (ts : Nodes) → ((j : Own) (ks : Nodes) → At c j ks ts → Keeps f j ks)
    → (c ≡ 0 → Fits top ts → Whole ts → Fits top (f ts) × Whole (f ts)) → Document ts → Document (under c f ts)

-- what a change does to the comments of one child list it does to all comments, where that list's stand
abbrev pub ChangeOfComments : Type 0
ChangeOfComments =
    (c : ℕ) (f : Nodes → Nodes) (ts : Nodes) → count c ts ≡ 1 → Whole ts → ((j : Own) (ks : Nodes) → At c j ks ts → class j.sort ≡ value)
    → Around (comments ts) (comments (kids c ts)) (comments (edited c f ts)) (comments (f (kids c ts)))

-- what a change does to the parts of one child list it does to the whole value, below the part at that place
abbrev pub ChangeOfValue : Type 0
ChangeOfValue =
    (c : ℕ) (f : Nodes → Nodes) (g : Parts Handle → Parts Handle) (ts : Nodes)
    → ((j : Own) (ks : Nodes) → At c j ks ts → (class j.sort ≡ value) × (parts (f ks) ≡ g (parts ks)) × (label_of j.sort (pieces (f ks)) ≡ label_of j.sort (pieces ks)))
    → parts (edited c f ts) ≡ changed c g (parts ts)

-- clear leaves a document that says nothing
abbrev pub ClearKeeps : Type 0
ClearKeeps = Document end × (comments end ≡ []) × (parts end ≡ nil)

-- remove keeps the document, and takes one part of its value
abbrev pub RemoveKeeps : Type 0
RemoveKeeps =
    (c k : ℕ) (ts : Nodes) → IsBracketed c ts → IsItem k ts → Document ts
    → Document (remove c k ts) × (parts (remove c k ts) ≡ changed_under c (lost k) (parts ts))

-- set_trailing_commas keeps the document, its comments and its value
abbrev pub NeverKeeps : Type 0
NeverKeeps =
    (c : ℕ) (ts : Nodes) → IsBracketed c ts → Document ts
    → Document (under c untrailed ts) × (comments (under c untrailed ts) ≡ comments ts) × (parts (under c untrailed ts) ≡ parts ts)

abbrev pub IfMultilineKeeps : Type 0
IfMultilineKeeps =
    (c : ℕ) (b : Bool) (s : Supply) (ts : Nodes) → IsBracketed c ts → (c ≡ 0 → b ≡ false) → Document ts
    → Document (under c (trailed b s) ts) × (comments (under c (trailed b s) ts) ≡ comments ts) × (parts (under c (trailed b s) ts) ≡ parts ts)

-- ensure_multiline keeps the document, its comments and its value
abbrev pub MultilineKeeps : Type 0
MultilineKeeps =
    (c : ℕ) (l : Lines) (s : Supply) (ts : Nodes) → Blanked l → IsBracketed c ts → Document ts
    → Document (under c (λ ks. spread_out l false s (unspaced false ks)) ts)
    × (comments (under c (λ ks. spread_out l false s (unspaced false ks)) ts) ≡ comments ts)
    × (parts (under c (λ ks. spread_out l false s (unspaced false ks)) ts) ≡ parts ts)

-- a value that can be written: one, with numbers, strings and names as sources show them, and blank indents
pub record Writable (st : Style) (t : List ℕ) (v : Value) : Type 0 where
  pub one : IsOne v
  pub shaped : Shaped v free
  pub shows : Shows v
  pub step_blank : All Blank st.step
  pub indent_blank : All Blank t

-- a written value says the source's value, its strings and names escaped, and has no comments
abbrev pub WrittenSays : Type 0
WrittenSays =
    (st : Style) (t : List ℕ) (v : Value) (s : Supply) → Writable st t v
    → (bare (parts (sown s (written st t v))) ≡ spelled v) × (comments (sown s (written st t v)) ≡ [])

-- replace, set_value and set_root keep the document
abbrev pub ExchangeKeeps : Type 0
ExchangeKeeps =
    (c k : ℕ) (s : Supply) (st : Style) (t : List ℕ) (v : Value) (ts : Nodes) → Writable st t v → IsContainer c ts → IsElement k ts → Document ts
    → Document (exchange c k (sown s (written st t v)) ts)

-- and put the new value in the place of the old one
abbrev pub ExchangePuts : Type 0
ExchangePuts =
    (k : ℕ) (us ks : Nodes) → IsItem k ks
    → (parts (local (exchanged us) k ks) ≡ swapped k (parts us) (parts ks))
    × ((comments (local (exchanged us) k ks) ≡ comments ks)
    ⊎ ((i : Own) × (ls : Nodes) × At k i ls ks × Around (comments ks) (comments ls) (comments (local (exchanged us) k ks)) (comments us)))

-- so does set_root where the root has only trivia
abbrev pub RootKeeps : Type 0
RootKeeps =
    (n : Break) (s : Supply) (st : Style) (t : List ℕ) (v : Value) (ts : Nodes) → Writable st t v → Each Trivial ts → Document ts
    → Document (root_put (root_cut ts) n (written st t v) s)

-- a newly loaded tree has distinct places, and none is the root's
abbrev pub LoadedPlaced : Type 0
LoadedPlaced = (a : Pieces) → Placed (loaded a)

-- every edit, accepted or refused, of a document whose places are distinct leaves a document
abbrev pub EditKeepsTheDocument : Type 0
EditKeepsTheDocument = (d : State) (w : Work) (e : Edit Value) → Placed d.kids → Document d.kids → Showing e → Document (after d w e).kids

-- so what is printed after it is a sentence
abbrev pub EditPrints : Type 0
EditPrints =
    (d : State) (w : Work) (e : Edit Value) → Placed d.kids → Document d.kids → Showing e
    → Sentence (layout (pieces (after d w e).kids)) (print (after d w e).kids)

-- the comments that stay where a node is removed: those before it but for its own line, and those that the layout says stay behind it
abbrev pub RemovalComments : Type 0
RemovalComments =
    (bs : Nodes) (p : ℕ) (i : Own) (ks ts : Nodes) → Whole ts
    → comments (removal bs p i ks ts) ≡ notes_before (back_line bs) ++ (followed (layout (pieces ts)) (after_comma (layout (pieces ts)))).behind

-- remove, and set_trailing_commas Never, leave places distinct
abbrev pub CutsLeavePlaces : Type 0
CutsLeavePlaces = (c k : ℕ) (ts : Nodes) → Placed ts → Placed (remove c k ts) × Placed (under c untrailed ts)

-- all of these
pub record Laws : Type 0 where
  pub escaped_is_a_string : EscapedIsAString
  pub escaped_says_the_text : EscapedSaysTheText
  pub loaded_prints : LoadedPrints
  pub loaded_places : LoadedPlaces
  pub loaded_once : LoadedOnce
  pub loaded_says : LoadedSays
  pub loads_a_document : LoadsADocument
  pub document_prints : DocumentPrints
  pub document_says : DocumentSays
  pub change_keeps_the_document : ChangeKeepsTheDocument
  pub change_of_comments : ChangeOfComments
  pub change_of_value : ChangeOfValue
  pub clear_keeps : ClearKeeps
  pub remove_keeps : RemoveKeeps
  pub never_keeps : NeverKeeps
  pub if_multiline_keeps : IfMultilineKeeps
  pub multiline_keeps : MultilineKeeps
  pub written_says : WrittenSays
  pub exchange_keeps : ExchangeKeeps
  pub exchange_puts : ExchangePuts
  pub root_keeps : RootKeeps
  pub loaded_placed : LoadedPlaced
  pub edit_keeps_the_document : EditKeepsTheDocument
  pub edit_prints : EditPrints
  pub removal_comments : RemovalComments
  pub cuts_leave_places : CutsLeavePlaces
