-- Each lexeme's bytes are what stands in the text. Assumes nothing.
use Rattle.std.proofs.Common.{◌≡◌, ℕ, ◌+◌, ◌≤◌, ◌⊎◌, List, [], ◌∷◌, ◌++◌, refl, ap, inl, inr, arith}
use Rattle.grammar.specs.Parse.{Parser, Class, one_p, eps_p, seq_p, alt_p, iter_p}
use Rattle.grammar.specs.Classes.{only, Tail, MultiFirst, Digit, Digit1To9, Exponent, Signs, Hex, Escaped, Plain, InBlock}
use Rattle.grammar.specs.Reader.{either, or_p, byte_p, empty_p, cat_p, word_p, run_p, concats, loop_b, many_p, tail_p, two_p, three_p, four_p, multi_p, char_p, chars_p, minus_p, digits_p, int_p, frac_p, power_p, exp_p, number_p, hex_p, unicode_p, escape_p, string_char_p, StringFirst, string_p, block_turn, block_turn_p, block_p}
use Rattle.grammar.proofs.Blocks.{slash_p, starred_p}
use Rattle.lexemes.specs.Scan.{Reads}
use Rattle.lexemes.proofs.Laws.{Law, law_one, law_eps, law_run, law_map, law_less, law_seq, sum2, law_alt, concat, law_iter, law_part}
use Rattle.lexemes.proofs.Ties.{goes, Turns}

-- the answer is what was read, l bytes at least
abbrev pub Bytes : ℕ → Parser (List ℕ) → Type 0
Bytes l p = Law (λ a. a) (λ _. l) p

pub bytes_less : (l k : ℕ) (p : Parser (List ℕ)) → k ≤ l → Bytes l p → Bytes k p
bytes_less l k p le h = law_less (λ a. a) (λ _. l) (λ _. k) p (λ a. le) h

pub bytes_byte : (c : Class) → Bytes 1 (byte_p c)
bytes_byte c = law_map (λ b. b ∷ []) (λ _. 1) (λ a. a) (λ _. 1) (λ b. b ∷ []) (one_p c) (λ a. refl) (λ a. omega arith) (law_one c)

pub bytes_empty : Bytes 0 empty_p
bytes_empty = law_map (λ _. []) (λ _. 0) (λ a. a) (λ _. 0) (λ _. []) eps_p (λ a. refl) (λ a. omega arith) law_eps

pub bytes_cat : (l m : ℕ) (p q : Parser (List ℕ)) → Bytes l p → Bytes m q → Bytes (l + m) (cat_p p q)
bytes_cat l m p q h k =
    law_map (λ (x : List ℕ × List ℕ). x.0 ++ x.1) (λ _. l + m) (λ a. a) (λ _. l + m) (λ x. x.0 ++ x.1) (seq_p p q)
    (λ x. refl) (λ x. omega arith) (law_seq (λ a. a) (λ _. l) (λ a. a) (λ _. m) p q h k)

pub bytes_or : (l : ℕ) (c : Class) (p q : Parser (List ℕ)) → Bytes l p → Bytes l q → Bytes l (or_p c p q)
bytes_or l c p q h k = law_map (sum2 (λ a. a) (λ a. a)) (sum2 (λ _. l) (λ _. l)) (λ a. a) (λ _. l) either (alt_p c p q) alike least (law_alt (λ a. a) (λ _. l) (λ a. a) (λ _. l) c p q h k)
  where
    alike : (a : List ℕ ⊎ List ℕ) → either a ≡ sum2 {A = List ℕ} {B = List ℕ} (λ a. a) (λ a. a) a
    alike (inl x) = refl
    alike (inr x) = refl

    least : (a : List ℕ ⊎ List ℕ) → l ≤ sum2 {A = List ℕ} {B = List ℕ} (λ _. l) (λ _. l) a
    least (inl x) = omega arith
    least (inr x) = omega arith

pub bytes_loop : (p : Parser (List ℕ ⊎ List ℕ)) → Turns p → Bytes 0 (loop_b p)
bytes_loop p h =
    law_map (λ (x : List (List ℕ) × List ℕ). concat (λ a. a) (λ a. a) x.0 x.1) (λ _. 0) (λ a. a) (λ _. 0) (λ x. concats x.0 x.1) (iter_p p)
    (λ x. alike x.0 x.1) (λ x. omega arith) (law_iter (λ a. a) (λ a. a) p h)
  where
    alike : (xs : List (List ℕ)) (e : List ℕ) → concats xs e ≡ concat (λ a. a) (λ a. a) xs e
    alike [] e = refl
    alike (x ∷ xs) e = ap (λ z. x ++ z) (alike xs e)

pub many_turns : (c : Class) (p : Parser (List ℕ)) → Bytes 1 p → Turns (alt_p c p empty_p)
many_turns c p h = law_alt (λ a. a) (λ _. 1) (λ a. a) (λ _. 0) c p empty_p h bytes_empty

pub bytes_many : (c : Class) (p : Parser (List ℕ)) → Bytes 1 p → Bytes 0 (many_p c p)
bytes_many c p h = bytes_loop (alt_p c p empty_p) (many_turns c p h)

pub bytes_word : (w : List ℕ) → Bytes 0 (word_p w)
bytes_word [] = bytes_empty
bytes_word (b ∷ w) = bytes_less 1 0 (cat_p (byte_p (only b)) (word_p w)) (omega arith) (bytes_cat 1 0 (byte_p (only b)) (word_p w) (bytes_byte (only b)) (bytes_word w))

-- UTF-8
three_bytes : (a b : Class) → Bytes 1 (three_p a b)
three_bytes a b = bytes_less 3 1 (three_p a b) (omega arith) (bytes_cat 1 2 (byte_p a) (cat_p (byte_p b) tail_p) (bytes_byte a) (bytes_cat 1 1 (byte_p b) tail_p (bytes_byte b) (bytes_byte Tail)))

four_bytes : (a b : Class) → Bytes 1 (four_p a b)
four_bytes a b = bytes_less 4 1 (four_p a b) (omega arith) (bytes_cat 1 3 (byte_p a) (cat_p (byte_p b) (cat_p tail_p tail_p)) (bytes_byte a) (bytes_cat 1 2 (byte_p b) (cat_p tail_p tail_p) (bytes_byte b) (bytes_cat 1 1 tail_p tail_p (bytes_byte Tail) (bytes_byte Tail))))

two_bytes : Bytes 1 two_p
two_bytes = bytes_less 2 1 two_p (omega arith) (bytes_cat 1 1 (byte_p ((194, 223) ∷ [])) tail_p (bytes_byte ((194, 223) ∷ [])) (bytes_byte Tail))

pub bytes_multi : Bytes 1 multi_p
bytes_multi =
    bytes_or 1 ((194, 223) ∷ []) two_p _ two_bytes
    (bytes_or 1 (only 224) (three_p (only 224) ((160, 191) ∷ [])) _ (three_bytes (only 224) ((160, 191) ∷ []))
    (bytes_or 1 ((225, 236) ∷ []) (three_p ((225, 236) ∷ []) Tail) _ (three_bytes ((225, 236) ∷ []) Tail)
    (bytes_or 1 (only 237) (three_p (only 237) ((128, 159) ∷ [])) _ (three_bytes (only 237) ((128, 159) ∷ []))
    (bytes_or 1 ((238, 239) ∷ []) (three_p ((238, 239) ∷ []) Tail) _ (three_bytes ((238, 239) ∷ []) Tail)
    (bytes_or 1 (only 240) (four_p (only 240) ((144, 191) ∷ [])) _ (four_bytes (only 240) ((144, 191) ∷ []))
    (bytes_or 1 ((241, 243) ∷ []) (four_p ((241, 243) ∷ []) Tail) (four_p (only 244) ((128, 143) ∷ [])) (four_bytes ((241, 243) ∷ []) Tail)
    (four_bytes (only 244) ((128, 143) ∷ []))))))))

pub bytes_char : (c : Class) → Bytes 1 (char_p c)
bytes_char c = bytes_or 1 c (byte_p c) multi_p (bytes_byte c) bytes_multi

pub char_turns : (c : Class) → Turns (alt_p (c ++ MultiFirst) (char_p c) empty_p)
char_turns c = many_turns (c ++ MultiFirst) (char_p c) (bytes_char c)

pub bytes_chars : (c : Class) → Bytes 0 (chars_p c)
bytes_chars c = bytes_many (c ++ MultiFirst) (char_p c) (bytes_char c)

-- numbers
bytes_digits : Bytes 1 digits_p
bytes_digits = bytes_cat 1 0 (byte_p Digit) (run_p Digit) (bytes_byte Digit) (law_run Digit)

bytes_minus : Bytes 0 minus_p
bytes_minus = bytes_or 0 (only 45) (byte_p (only 45)) empty_p (bytes_less 1 0 (byte_p (only 45)) (omega arith) (bytes_byte (only 45))) bytes_empty

bytes_int : Bytes 1 int_p
bytes_int = bytes_or 1 (only 48) (byte_p (only 48)) (cat_p (byte_p Digit1To9) (run_p Digit)) (bytes_byte (only 48)) (bytes_cat 1 0 (byte_p Digit1To9) (run_p Digit) (bytes_byte Digit1To9) (law_run Digit))

bytes_frac : Bytes 0 frac_p
bytes_frac = bytes_or 0 (only 46) (cat_p (byte_p (only 46)) digits_p) empty_p (bytes_less 2 0 (cat_p (byte_p (only 46)) digits_p) (omega arith) (bytes_cat 1 1 (byte_p (only 46)) digits_p (bytes_byte (only 46)) bytes_digits)) bytes_empty

bytes_power : Bytes 0 power_p
bytes_power = bytes_or 0 Signs (cat_p (byte_p Signs) digits_p) digits_p (bytes_less 2 0 (cat_p (byte_p Signs) digits_p) (omega arith) (bytes_cat 1 1 (byte_p Signs) digits_p (bytes_byte Signs) bytes_digits)) (bytes_less 1 0 digits_p (omega arith) bytes_digits)

bytes_exp : Bytes 0 exp_p
bytes_exp = bytes_or 0 Exponent (cat_p (byte_p Exponent) power_p) empty_p (bytes_less 1 0 (cat_p (byte_p Exponent) power_p) (omega arith) (bytes_cat 1 0 (byte_p Exponent) power_p (bytes_byte Exponent) bytes_power)) bytes_empty

pub bytes_number : Bytes 1 number_p
bytes_number = bytes_cat 0 1 minus_p (cat_p int_p (cat_p frac_p exp_p)) bytes_minus (bytes_cat 1 0 int_p (cat_p frac_p exp_p) bytes_int (bytes_cat 0 0 frac_p exp_p bytes_frac bytes_exp))

-- strings
bytes_unicode : Bytes 0 unicode_p
bytes_unicode =
    bytes_less 5 0 unicode_p (omega arith) (bytes_cat 1 4 (byte_p (only 117)) (cat_p hex_p (cat_p hex_p (cat_p hex_p hex_p))) (bytes_byte (only 117))
    (bytes_cat 1 3 hex_p (cat_p hex_p (cat_p hex_p hex_p)) (bytes_byte Hex) (bytes_cat 1 2 hex_p (cat_p hex_p hex_p) (bytes_byte Hex) (bytes_cat 1 1 hex_p hex_p (bytes_byte Hex) (bytes_byte Hex)))))

bytes_escape : Bytes 1 escape_p
bytes_escape = bytes_cat 1 0 (byte_p (only 92)) (or_p (only 117) unicode_p (byte_p Escaped)) (bytes_byte (only 92)) (bytes_or 0 (only 117) unicode_p (byte_p Escaped) bytes_unicode (bytes_less 1 0 (byte_p Escaped) (omega arith) (bytes_byte Escaped)))

bytes_string_char : Bytes 1 string_char_p
bytes_string_char = bytes_or 1 (only 92) escape_p (char_p Plain) bytes_escape (bytes_char Plain)

pub string_turns : Turns (alt_p StringFirst string_char_p empty_p)
string_turns = many_turns StringFirst string_char_p bytes_string_char

pub bytes_string : Bytes 1 string_p
bytes_string =
    bytes_less 2 1 string_p (omega arith) (bytes_cat 1 1 (byte_p (only 34)) (cat_p (many_p StringFirst string_char_p) (byte_p (only 34))) (bytes_byte (only 34))
    (bytes_cat 0 1 (many_p StringFirst string_char_p) (byte_p (only 34)) (bytes_many StringFirst string_char_p bytes_string_char) (bytes_byte (only 34))))

-- block comments
abbrev slash : ℕ ⊎ Unit {0} → List ℕ
slash = sum2 (λ b. b ∷ []) (λ _. [])

abbrev starred : ℕ × (ℕ ⊎ Unit {0}) → List ℕ
starred x = (x.0 ∷ []) ++ slash x.1

pub block_turns : Turns block_turn_p
block_turns =
    law_map (sum2 starred (λ a. a)) (sum2 (λ _. 1) (λ _. 1)) (sum2 (λ a. a) (λ a. a)) goes block_turn (alt_p (only 42) starred_p (char_p InBlock)) alike least
    (law_alt starred (λ _. 1) (λ a. a) (λ _. 1) (only 42) starred_p (char_p InBlock) star_law (bytes_char InBlock))
  where
    star_law : Law starred (λ _. 1) starred_p
    star_law =
        law_less starred (λ (x : ℕ × (ℕ ⊎ Unit {0})). 1 + sum2 {A = ℕ} {B = Unit {0}} (λ _. 1) (λ _. 0) x.1) (λ _. 1) starred_p (λ x. omega arith)
        (law_seq (λ b. b ∷ []) (λ _. 1) slash (sum2 (λ _. 1) (λ _. 0)) (one_p (only 42)) slash_p (law_one (only 42)) (law_alt (λ b. b ∷ []) (λ _. 1) (λ _. []) (λ _. 0) (only 47) (one_p (only 47)) eps_p (law_one (only 47)) law_eps))

    alike : (x : (ℕ × (ℕ ⊎ Unit {0})) ⊎ List ℕ) → sum2 {A = List ℕ} {B = List ℕ} (λ a. a) (λ a. a) (block_turn x) ≡ sum2 starred (λ a. a) x
    alike (inl (b, inl c)) = refl
    alike (inl (b, inr e)) = refl
    alike (inr t) = refl

    least : (x : (ℕ × (ℕ ⊎ Unit {0})) ⊎ List ℕ) → goes (block_turn x) ≤ sum2 {A = ℕ × (ℕ ⊎ Unit {0})} {B = List ℕ} (λ _. 1) (λ _. 1) x
    least (inl (b, inl c)) = omega arith
    least (inl (b, inr e)) = omega arith
    least (inr t) = omega arith

pub bytes_block : Bytes 0 block_p
bytes_block = bytes_loop block_turn_p block_turns

-- what a lexeme's parser reads stands in front of what it leaves
pub bytes_part : (l : ℕ) (p : Parser (List ℕ)) → Bytes l p → (s t a : List ℕ) → Reads p s a t → s ≡ a ++ t
bytes_part l p h s t a r = law_part (λ x. x) (λ _. l) p h s t a r
