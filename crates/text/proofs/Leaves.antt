-- Tokens, scalars and labels. Assumes nothing.
use Rattle.std.proofs.Common.{◌≡◌, ℕ, true, false, List, [], ◌∷◌, ◌++◌, Ok, Err, sym, ap, ◌∙◌}
use Rattle.std.specs.Borrow.{Bor}
use Rattle.grammar.specs.Parse.{map_r, Parser, starts}
use Rattle.grammar.specs.Classes.{only}
use Rattle.grammar.specs.Pieces.{token, colon, Pieces, token_byte}
use Rattle.grammar.specs.Reader.{byte_p, or_p, then_p, only_leaf, token_p, trivia_p, name_p, string_leaf_p, null_p, true_p, false_p, number_leaf_p, scalar_p}
use Rattle.lexemes.specs.Scan.{Passes}
use Rattle.lexemes.proofs.Ties.{left_on, or_left, or_right, byte_split, one_is}
use Rattle.text.specs.declared.fault.Fault.{Fault}
use Rattle.text.specs.declared.sink.LeafKind.{LeafKind}
use Rattle.text.specs.declared.sink.LeafKind.TheVariants.{Token}
use Rattle.text.specs.declared.sink.TokenKind.{TokenKind}
use Rattle.text.specs.Events.{Event, token_for}
use Rattle.text.specs.Reports.{Rest, Stops, Makes, OneLeaf, Leads, labelled}
use Rattle.text.proofs.Telling as telling
use Rattle.text.proofs.Telling.{stops_then}

module _ {S : Type 0} (after : S → List Event → S → Type 0) (idle : (a : S) → after a [] a) (joined : (a b c : S) (x y : List Event) → after a x b → after b y c → after a (x ++ y) c) (s : List ℕ) (a : S) where
  module _ (t : Bor (List ℕ)) (b : S) (x : Makes after name_p s a (Ok t) b) (u : Bor (List ℕ)) (c : S) (y : Makes after (trivia_p false) t.now b (Ok u) c) (w : Bor (List ℕ)) (d : S) (z : Makes after (token_p colon) u.now c (Ok w) d) where
    onward : (v : Parser Pieces) (r : Rest) (f : S) → Makes after (then_p (trivia_p false) v) w.now d r f → Makes after (labelled v) s a r f
    onward v r f m =
        telling.makes_then after idle joined name_p s a (then_p (trivia_p false) (then_p (token_p colon) (then_p (trivia_p false) v))) t b x r f
        (telling.makes_then after idle joined (trivia_p false) t.now b (then_p (token_p colon) (then_p (trivia_p false) v)) u c y r f
        (telling.makes_then after idle joined (token_p colon) u.now c (then_p (trivia_p false) v) w d z r f m))

    pub label_made : (r : Rest) (e : S) → Makes after (trivia_p false) w.now d r e → Leads after labelled s a r e
    label_made (Ok n) e m = (left_on s t.now n.now x.1.left (left_on t.now u.now n.now y.1.left (left_on u.now w.now n.now z.1.left m.1.left)), λ v r f k. onward v r f (telling.makes_then after idle joined (trivia_p false) w.now d v n e m r f k))
    label_made (Err q) e m = λ v. onward v (Err q) e (stops_then (trivia_p false) v w.now q m)

  -- where it stops
  pub name_stops : (f : Fault) → Stops name_p s f → (v : Parser Pieces) → Stops (labelled v) s f
  name_stops f x v = stops_then name_p (then_p (trivia_p false) (then_p (token_p colon) (then_p (trivia_p false) v))) s f x

  module _ (t : Bor (List ℕ)) (b : S) (x : Makes after name_p s a (Ok t) b) where
    behind_name : (r : Rest) (f : S) (v : Parser Pieces) → Makes after (then_p (trivia_p false) (then_p (token_p colon) (then_p (trivia_p false) v))) t.now b r f → Makes after (labelled v) s a r f
    behind_name r f v m = telling.makes_then after idle joined name_p s a (then_p (trivia_p false) (then_p (token_p colon) (then_p (trivia_p false) v))) t b x r f m

    pub gap_stops : (f : Fault) → Stops (trivia_p false) t.now f → (v : Parser Pieces) → Stops (labelled v) s f
    gap_stops f y v = behind_name (Err f) b v (stops_then (trivia_p false) (then_p (token_p colon) (then_p (trivia_p false) v)) t.now f y)

    pub colon_stops : (u : Bor (List ℕ)) (c : S) → Makes after (trivia_p false) t.now b (Ok u) c → (f : Fault) → Stops (token_p colon) u.now f → (v : Parser Pieces) → Stops (labelled v) s f
    colon_stops u c y f z v =
        behind_name (Err f) b v
        (telling.makes_then after idle joined (trivia_p false) t.now b (then_p (token_p colon) (then_p (trivia_p false) v)) u c y (Err f) c (stops_then (token_p colon) (then_p (trivia_p false) v) u.now f z))

-- a token that was read
pub token_found : (k : TokenKind) (s t : List ℕ) → Passes (byte_p (only (token_byte (token_for k)))) s t → OneLeaf (token_p (token_for k)) s (Token k) t
token_found k s t x =
    let b = byte_split (only (token_byte (token_for k))) s t x in
    (b.0 ∷ [], b.1, ap (map_r (λ _. only_leaf (token (token_for k)))) (one_is (only (token_byte (token_for k))) s t x))

-- the value that the first byte chooses
abbrev after_true : Parser Pieces
after_true = or_p (only 102) false_p number_leaf_p

abbrev after_null : Parser Pieces
after_null = or_p (only 116) true_p after_true

abbrev after_string : Parser Pieces
after_string = or_p (only 110) null_p after_null

module _ (s : List ℕ) (k : LeafKind) (t : List ℕ) where
  pub scalar_string : true ≡ starts (only 34) s → OneLeaf string_leaf_p s k t → OneLeaf scalar_p s k t
  scalar_string e x = (x.0, x.1, or_left (only 34) string_leaf_p after_string s (sym e) ∙ x.2)

  pub scalar_number : false ≡ starts (only 34) s → false ≡ starts (only 110) s → false ≡ starts (only 116) s → false ≡ starts (only 102) s → OneLeaf number_leaf_p s k t → OneLeaf scalar_p s k t
  scalar_number p q u e x = (
    x.0,
    x.1,
    or_right (only 34) string_leaf_p after_string s (sym p)
        ∙ or_right (only 110) null_p after_null s (sym q)
        ∙ or_right (only 116) true_p after_true s (sym u)
        ∙ or_right (only 102) false_p number_leaf_p s (sym e)
        ∙ x.2,
  )
