-- The reader: the pieces of a text, by one parser for each production. Assumes nothing.
use Rattle.std.specs.Prelude.{ℕ, zero, suc, Bool, true, false, cond, ◌⊎◌, List, [], ◌∷◌, ◌++◌}
use Rattle.std.proofs.Common.{inl, inr}
use Rattle.grammar.specs.Parse.{ok, deep, res, map_r, Parser, Class, within, Opening, one_p, eps_p, seq_p, alt_p, map_p, iter_p}
use Rattle.grammar.specs.Classes.{only, Tail, MultiFirst, Digit, Digit1To9, Exponent, Signs, Hex, Escaped, Plain, Blank, LineEnd, InLine, InBlock, Gap, ScalarFirst}
use Rattle.grammar.specs.Layout.{Line, Block}
use Rattle.grammar.specs.Grammar.{Frame, brackets, braces, closer}
use Rattle.grammar.specs.Pieces.{Token, open_array, close_array, open_object, close_object, comma, colon, line_feed, carriage_return, both, Leaf, null, boolean, number, string, name, token, whitespace, newline, comment, Box, array, object, property, Pieces, end, leaf, box, join, token_byte}

-- one or the other, where the result does not say which
abbrev pub either : {X : Type 0} → X ⊎ X → X
either (inl x) = x
either (inr x) = x

abbrev pub or_p : {X : Type 0} → Class → Parser X → Parser X → Parser X
or_p c p q = map_p either (alt_p c p q)

-- Bytes: the result is what was read.

abbrev pub byte_p : Class → Parser (List ℕ)
byte_p c = map_p (λ b. b ∷ []) (one_p c)

abbrev pub empty_p : Parser (List ℕ)
empty_p = map_p (λ _. []) eps_p

abbrev pub cat_p : Parser (List ℕ) → Parser (List ℕ) → Parser (List ℕ)
cat_p p q = map_p (λ x. x.0 ++ x.1) (seq_p p q)

-- a word, byte by byte
abbrev pub word_p : List ℕ → Parser (List ℕ)
word_p [] s = empty_p s
word_p (b ∷ w) s = cat_p (byte_p (only b)) (word_p w) s

-- the bytes of the class that come first, as many as there are
abbrev pub run_p : Class → Parser (List ℕ)
run_p c [] = res (ok []) []
run_p c (b ∷ t) = cond (within c b) (map_r (λ y. b ∷ y) (run_p c t)) (res (ok []) (b ∷ t))

abbrev pub concats : List (List ℕ) → List ℕ → List ℕ
concats [] e = e
concats (x ∷ xs) e = x ++ concats xs e

-- again and again, the results one behind the other
abbrev pub loop_b : Parser (List ℕ ⊎ List ℕ) → Parser (List ℕ)
loop_b p = map_p (λ x. concats x.0 x.1) (iter_p p)

-- as many as come, where the first byte says whether one comes
abbrev pub many_p : Class → Parser (List ℕ) → Parser (List ℕ)
many_p c p = loop_b (alt_p c p empty_p)

-- RFC 3629, section 4
abbrev pub tail_p : Parser (List ℕ)
tail_p = byte_p Tail

abbrev pub two_p : Parser (List ℕ)
two_p = cat_p (byte_p ((194, 223) ∷ [])) tail_p

abbrev pub three_p : Class → Class → Parser (List ℕ)
three_p a b = cat_p (byte_p a) (cat_p (byte_p b) tail_p)

abbrev pub four_p : Class → Class → Parser (List ℕ)
four_p a b = cat_p (byte_p a) (cat_p (byte_p b) (cat_p tail_p tail_p))

abbrev pub multi_p : Parser (List ℕ)
multi_p =
    or_p ((194, 223) ∷ []) two_p
    (or_p (only 224) (three_p (only 224) ((160, 191) ∷ []))
    (or_p ((225, 236) ∷ []) (three_p ((225, 236) ∷ []) Tail)
    (or_p (only 237) (three_p (only 237) ((128, 159) ∷ []))
    (or_p ((238, 239) ∷ []) (three_p ((238, 239) ∷ []) Tail)
    (or_p (only 240) (four_p (only 240) ((144, 191) ∷ []))
    (or_p ((241, 243) ∷ []) (four_p ((241, 243) ∷ []) Tail)
    (four_p (only 244) ((128, 143) ∷ []))))))))

-- a character, those of one byte being of the class
abbrev pub char_p : Class → Parser (List ℕ)
char_p c = or_p c (byte_p c) multi_p

abbrev pub chars_p : Class → Parser (List ℕ)
chars_p c = many_p (c ++ MultiFirst) (char_p c)

-- RFC 8259, section 6
abbrev pub minus_p : Parser (List ℕ)
minus_p = or_p (only 45) (byte_p (only 45)) empty_p

abbrev pub digits_p : Parser (List ℕ)
digits_p = cat_p (byte_p Digit) (run_p Digit)

abbrev pub int_p : Parser (List ℕ)
int_p = or_p (only 48) (byte_p (only 48)) (cat_p (byte_p Digit1To9) (run_p Digit))

abbrev pub frac_p : Parser (List ℕ)
frac_p = or_p (only 46) (cat_p (byte_p (only 46)) digits_p) empty_p

abbrev pub power_p : Parser (List ℕ)
power_p = or_p Signs (cat_p (byte_p Signs) digits_p) digits_p

abbrev pub exp_p : Parser (List ℕ)
exp_p = or_p Exponent (cat_p (byte_p Exponent) power_p) empty_p

abbrev pub number_p : Parser (List ℕ)
number_p = cat_p minus_p (cat_p int_p (cat_p frac_p exp_p))

-- RFC 8259, section 7
abbrev pub hex_p : Parser (List ℕ)
hex_p = byte_p Hex

abbrev pub unicode_p : Parser (List ℕ)
unicode_p = cat_p (byte_p (only 117)) (cat_p hex_p (cat_p hex_p (cat_p hex_p hex_p)))

abbrev pub escape_p : Parser (List ℕ)
escape_p = cat_p (byte_p (only 92)) (or_p (only 117) unicode_p (byte_p Escaped))

abbrev pub string_char_p : Parser (List ℕ)
string_char_p = or_p (only 92) escape_p (char_p Plain)

abbrev pub StringFirst : Class
StringFirst = only 92 ++ (Plain ++ MultiFirst)

abbrev pub string_p : Parser (List ℕ)
string_p = cat_p (byte_p (only 34)) (cat_p (many_p StringFirst string_char_p) (byte_p (only 34)))

-- what follows `/*`: a star is the end if a slash follows it
abbrev pub block_turn : (ℕ × (ℕ ⊎ Unit {0})) ⊎ List ℕ → List ℕ ⊎ List ℕ
block_turn (inl (b, inl c)) = inr (b ∷ c ∷ [])
block_turn (inl (b, inr e)) = inl (b ∷ [])
block_turn (inr t) = inl t

abbrev pub block_turn_p : Parser (List ℕ ⊎ List ℕ)
block_turn_p = map_p block_turn (alt_p (only 42) (seq_p (one_p (only 42)) (alt_p (only 47) (one_p (only 47)) eps_p)) (char_p InBlock))

abbrev pub block_p : Parser (List ℕ)
block_p = loop_b block_turn_p

-- Pieces: the result is what was read, as pieces.

abbrev pub nothing_p : Parser Pieces
nothing_p = map_p (λ _. end) eps_p

abbrev pub then_p : Parser Pieces → Parser Pieces → Parser Pieces
then_p p q = map_p (λ x. join x.0 x.1) (seq_p p q)

abbrev pub ahead : Pieces → Pieces ⊎ Pieces → Pieces ⊎ Pieces
ahead a (inl x) = inl (join a x)
ahead a (inr x) = inr (join a x)

abbrev pub after_p : Parser Pieces → Parser (Pieces ⊎ Pieces) → Parser (Pieces ⊎ Pieces)
after_p p q = map_p (λ x. ahead x.0 x.1) (seq_p p q)

abbrev pub joins : List Pieces → Pieces → Pieces
joins [] e = e
joins (x ∷ xs) e = join x (joins xs e)

-- again and again, `inl` going on
abbrev pub loop_p : Parser (Pieces ⊎ Pieces) → Parser Pieces
loop_p p = map_p (λ x. joins x.0 x.1) (iter_p p)

abbrev pub only_leaf : Leaf → Pieces
only_leaf x = leaf x end

abbrev pub token_p : Token → Parser Pieces
token_p m = map_p (λ _. only_leaf (token m)) (one_p (only (token_byte m)))

-- trivia: a run of spaces and tabs is one piece, CR and LF together are one
abbrev pub space_p : Parser Pieces
space_p = map_p (λ t. only_leaf (whitespace t)) (cat_p (byte_p Blank) (run_p Blank))

abbrev pub returned : ℕ × (ℕ ⊎ Unit {0}) → Pieces
returned (r, inl l) = only_leaf (newline both)
returned (r, inr e) = only_leaf (newline carriage_return)

abbrev pub return_p : Parser Pieces
return_p = map_p returned (seq_p (one_p (only 13)) (alt_p (only 10) (one_p (only 10)) eps_p))

abbrev pub newline_p : Parser Pieces
newline_p = or_p (only 10) (map_p (λ _. only_leaf (newline line_feed)) (one_p (only 10))) return_p

-- what ends a line comment: a Newline, or the end of the text where it may be the last
abbrev pub line_end_p : Bool → Parser (Pieces ⊎ Unit {0})
line_end_p true = alt_p LineEnd newline_p eps_p
line_end_p false = map_p inl newline_p

abbrev pub comment_of : ℕ × ((ℕ × List ℕ) ⊎ (ℕ × (List ℕ × (Pieces ⊎ Unit {0})))) → Pieces ⊎ Pieces
comment_of (b, inl (c, t)) = inl (only_leaf (comment (Block (b ∷ c ∷ t))))
comment_of (b, inr (c, (t, inl n))) = inl (leaf (comment (Line (b ∷ c ∷ t))) n)
comment_of (b, inr (c, (t, inr e))) = inr (only_leaf (comment (Line (b ∷ c ∷ t))))

abbrev pub comment_p : Bool → Parser (Pieces ⊎ Pieces)
comment_p last = map_p comment_of (seq_p (one_p (only 47)) (alt_p (only 42) (seq_p (one_p (only 42)) block_p) (seq_p (one_p (only 47)) (seq_p (chars_p InLine) (line_end_p last)))))

abbrev pub plain_p : Parser Pieces
plain_p = or_p Blank space_p newline_p

abbrev pub piece_p : Bool → Parser (Pieces ⊎ Pieces)
piece_p last = or_p (only 47) (comment_p last) (map_p inl plain_p)

abbrev pub unit_p : Bool → Parser (Pieces ⊎ Pieces)
unit_p last = or_p Gap (piece_p last) (map_p inr nothing_p)

abbrev pub trivia_p : Bool → Parser Pieces
trivia_p last = loop_p (unit_p last)

-- values
abbrev pub string_leaf_p : Parser Pieces
string_leaf_p = map_p (λ t. only_leaf (string t)) string_p

abbrev pub number_leaf_p : Parser Pieces
number_leaf_p = map_p (λ t. only_leaf (number t)) number_p

abbrev pub literal_p : Leaf → List ℕ → Parser Pieces
literal_p x w = map_p (λ _. only_leaf x) (word_p w)

abbrev pub null_p : Parser Pieces
null_p = literal_p null (110 ∷ 117 ∷ 108 ∷ 108 ∷ [])

abbrev pub true_p : Parser Pieces
true_p = literal_p (boolean true) (116 ∷ 114 ∷ 117 ∷ 101 ∷ [])

abbrev pub false_p : Parser Pieces
false_p = literal_p (boolean false) (102 ∷ 97 ∷ 108 ∷ 115 ∷ 101 ∷ [])

abbrev pub scalar_p : Parser Pieces
scalar_p = or_p (only 34) string_leaf_p (or_p (only 110) null_p (or_p (only 116) true_p (or_p (only 102) false_p number_leaf_p)))

abbrev pub open_token : Frame → Token
open_token brackets = open_array
open_token braces = open_object

abbrev pub close_token : Frame → Token
close_token brackets = close_array
close_token braces = close_object

abbrev pub box_of : Frame → Box
box_of brackets = array
box_of braces = object

-- a comma goes on, a bracket stops
abbrev pub end_p : Frame → Parser (Pieces ⊎ Pieces)
end_p f = alt_p (only 44) (token_p comma) (token_p (close_token f))

abbrev pub name_p : Parser Pieces
name_p = map_p (λ t. only_leaf (name t)) string_p

-- a property runs from its name through its value
abbrev pub member_p : Parser Pieces → Parser Pieces
member_p v = map_p (λ c. box property c end) (then_p name_p (then_p (trivia_p false) (then_p (token_p colon) (then_p (trivia_p false) v))))

abbrev pub item_p : Frame → Parser Pieces → Parser Pieces
item_p brackets v = v
item_p braces v = member_p v

-- trivia and the closing bracket, or trivia, an item, trivia, and a comma or the bracket
abbrev pub turn_p : Frame → Parser Pieces → Parser (Pieces ⊎ Pieces)
turn_p f v = after_p (trivia_p false) (or_p (only (closer f)) (map_p inr (token_p (close_token f))) (after_p (item_p f v) (after_p (trivia_p false) (end_p f))))

abbrev pub items_p : Frame → Parser Pieces → Parser Pieces
items_p f v = loop_p (turn_p f v)

abbrev pub container_p : Frame → Parser Pieces → Parser Pieces
container_p f v = map_p (λ c. box (box_of f) c end) (then_p (token_p (open_token f)) (items_p f v))

-- a container, or a value that is none
abbrev pub value_from : Parser Pieces → Parser Pieces
value_from c = or_p Opening c scalar_p

-- an array or object that nests at most n deep
abbrev pub nested_p : ℕ → Parser Pieces
nested_p zero s = res deep s
nested_p (suc n) s = or_p (only 91) (container_p brackets (value_from (nested_p n))) (container_p braces (value_from (nested_p n))) s

-- a value that nests at most n deep
abbrev pub value_p : ℕ → Parser Pieces
value_p n = value_from (nested_p n)

abbrev pub ValueFirst : Class
ValueFirst = Opening ++ ScalarFirst

abbrev pub text_p : ℕ → Parser Pieces
text_p n = then_p (trivia_p true) (or_p ValueFirst (then_p (value_p n) (trivia_p true)) nothing_p)
