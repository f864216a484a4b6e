-- What a function of the reader answers, and what it has reported to the sink, in terms of a parser of pieces. Assumes nothing.
use Rattle.std.specs.Prelude.{◌≡◌, ℕ, Bool, true, false, not, ◌&&◌, ◌⊎◌, List, ◌++◌, length, Ok, Err, Result, ◌==◌, nat_lt, slice_index}
use Rattle.std.proofs.Common.{inl, inr, ControlFlow, Continue, Break}
use Rattle.std.specs.Borrow.{Bor}
use Rattle.grammar.specs.Parse.{ok, deep, res, Parser}
use Rattle.grammar.specs.Pieces.{Pieces, colon}
use Rattle.grammar.specs.Reader.{name_p, only_leaf, then_p, token_p, trivia_p}
use Rattle.lexemes.specs.declared.mismatch.Mismatch.{Mismatch}
use Rattle.lexemes.specs.Scan.{Left, Reads, Fails}
use Rattle.text.specs.declared.fault.Fault.{Fault}
use Rattle.text.specs.declared.fault.Fault.TheVariants.{Bad, Deep}
use Rattle.text.specs.declared.sink.LeafKind.{LeafKind}
use Rattle.text.specs.declared.sink.LeafKind.TheVariants.{Newline}
use Rattle.line_break.specs.declared.NewlineKind.{NewlineKind}
use Rattle.text.specs.Events.{Event, events, leaf_for}

-- what is left behind what was read, or why it is not read
abbrev pub Rest : Type 0
Rest = Result (Bor (List ℕ)) Fault

-- the same of a part of a list: whether the list goes on there, or has come to its end
abbrev pub Step : Type 0
Step = Result (ControlFlow (Bor (List ℕ)) (Bor (List ℕ))) Fault

-- in the text s the parser stops
abbrev pub Stops : {A : Type 0} → Parser A → List ℕ → Fault → Type 0
Stops p s (Bad t) = Fails p s t.now
Stops p s Deep = (t : List ℕ) × (p s ≡ res deep t)

-- of the text s the parser reads pieces, of which the sink has been told: it was a, and is b
abbrev pub Makes : {S : Type 0} → (S → List Event → S → Type 0) → Parser Pieces → List ℕ → S → Rest → S → Type 0
Makes after p s a (Ok t) b = (x : Pieces) × Reads p s x t.now × after a (events x) b
Makes after p s a (Err f) b = Stops p s f

-- the same, of a parser that says whether to go on
abbrev pub Turns : {S : Type 0} → (S → List Event → S → Type 0) → Parser (Pieces ⊎ Pieces) → List ℕ → S → Step → S → Type 0
Turns after p s a (Ok (Continue t)) b = (x : Pieces) × Reads p s (inl x) t.now × after a (events x) b
Turns after p s a (Ok (Break t)) b = (x : Pieces) × Reads p s (inr x) t.now × after a (events x) b
Turns after p s a (Err f) b = Stops p s f

-- the text begins with CR LF
abbrev pub crlf : List ℕ → Bool
crlf s = nat_lt 1 (length s) && slice_index s 0 == 13 && slice_index s 1 == 10

-- a line comment is the last thing of a text: it may be, and no line ends here
abbrev pub open_line : Bool → Bool → Bool
open_line true ends = not ends
open_line false ends = false

-- of the text s the parser reads one leaf of the kind, which is what stands in front of t
abbrev pub OneLeaf : Parser Pieces → List ℕ → LeafKind → List ℕ → Type 0
OneLeaf p s k t = (x : List ℕ) × (s ≡ x ++ t) × (p s ≡ res (ok (only_leaf (leaf_for k x))) t)

-- the parser reads such a leaf, and leaves what stands in Ok beside its kind, or fails where the mismatch is
abbrev pub Finds : Parser Pieces → List ℕ → Result (LeafKind × Bor (List ℕ)) Mismatch → Type 0
Finds p s (Ok x) = OneLeaf p s x.0 x.1.now
Finds p s (Err e) = Fails p s e.rest.now

-- the same, where the leaf is a line break
abbrev pub Breaks : Parser Pieces → List ℕ → Result (NewlineKind × Bor (List ℕ)) Mismatch → Type 0
Breaks p s (Ok x) = OneLeaf p s (Newline x.0) x.1.now
Breaks p s (Err e) = Fails p s e.rest.now

-- of the text s what stands in front of a parser's part is read; whatever that part then reads is read behind it
abbrev pub Leads : {S : Type 0} → (S → List Event → S → Type 0) → (Parser Pieces → Parser Pieces) → List ℕ → S → Rest → S → Type 0
Leads {S} after p s a (Ok t) b = Left t.now s × ((v : Parser Pieces) (r : Rest) (c : S) → Makes after v t.now b r c → Makes after (p v) s a r c)
Leads after p s a (Err f) b = (v : Parser Pieces) → Stops (p v) s f

-- a name, a colon, and what is behind it
abbrev pub labelled : Parser Pieces → Parser Pieces
labelled v = then_p name_p (then_p (trivia_p false) (then_p (token_p colon) (then_p (trivia_p false) v)))
