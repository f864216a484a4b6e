-- Parsers that never nest too deep, and how much every parser leaves. Assumes nothing.
use Rattle.std.proofs.Common.{◌≡◌, ℕ, zero, suc, ◌<◌, ◌≤◌, Bool, true, false, cond, ◌⊎◌, List, [], ◌∷◌, ◌++◌, length, refl, ap, ◌∙◌, inl, inr, arith, length-append}
use Rattle.grammar.specs.Parse.{ok, bad, deep, Res, res, map_r, Lang, Parser, Class, within, starts, one_p, eps_p, bind, seq_p, pick, alt_p, map_p, onto, turn, loop, iter_p}
use Rattle.grammar.specs.Classes.{only, Tail, MultiFirst, Digit, Digit1To9, Exponent, Signs, Hex, Escaped, Plain, Blank, LineEnd, InLine, InBlock, Gap}
use Rattle.grammar.specs.Pieces.{Leaf, null, boolean, token, newline, whitespace, string, number, Token, token_byte, line_feed}
use Rattle.grammar.specs.Reader.{either, or_p, byte_p, empty_p, cat_p, word_p, run_p, concats, many_p, tail_p, two_p, three_p, four_p, multi_p, char_p, chars_p, minus_p, digits_p, int_p, frac_p, power_p, exp_p, number_p, hex_p, unicode_p, escape_p, string_char_p, StringFirst, string_p, block_turn, block_turn_p, block_p, nothing_p, joins, only_leaf, token_p, space_p, returned, return_p, newline_p, line_end_p, comment_of, comment_p, plain_p, piece_p, unit_p, trivia_p, string_leaf_p, number_leaf_p, literal_p, null_p, true_p, false_p, scalar_p}
use Rattle.grammar.proofs.Laws.{Laws, Means, progress}
use Rattle.grammar.proofs.Bytes.{ByteLaws, unit_laws as many_unit, TurnL as ManyL, unit_null_lem, unit_ext_lem}
use Rattle.grammar.specs.Grammar.{Char, StringChar}
use Rattle.grammar.proofs.Chars.{char_laws, strchar_laws}
use Rattle.grammar.proofs.Blocks.{slash_p, starred_p, TurnL, turn_laws, turn_null, turn_ext, BlockFirst}
use Rattle.grammar.proofs.Trivias.{feed_p, unit_ext}
use Rattle.grammar.proofs.Gaps.{UnitL, unit_laws, unit_null}

abbrev pub rest : {A : Type 0} → Res A → List ℕ
rest (res o t) = t

-- no more is left than there was
abbrev pub Shrinks : {A : Type 0} → Parser A → Type 0
Shrinks p = (s : List ℕ) → length (rest (p s)) ≤ length s

-- a turn that goes on reads something
abbrev pub Progress : {A B : Type 0} → Parser (A ⊎ B) → Type 0
Progress {A} p = (s : List ℕ) (a : A) (t : List ℕ) → p s ≡ res (ok (inl a)) t → length t < length s

rest_le : {A : Type 0} (L : Lang A) (p : Parser A) (s : List ℕ) (x : Res A) → Means L p s x → length (rest x) ≤ length s
rest_le L p s (res o t) m = (let f = ap length m.1 ∙ length-append m.0 t in omega arith)

pub shrinks : {A : Type 0} (L : Lang A) (p : Parser A) (first : Class) (nl : A → Bool) (ext : A → Class) → Laws L p first nl ext → Shrinks p
shrinks L p first nl ext h s = rest_le L p s (p s) (h.means s)

-- the answer is not that the text nests too deep
abbrev pub NoDeep : {A : Type 0} → Res A → Type 0
NoDeep (res (ok a) t) = Unit {0}
NoDeep (res bad t) = Unit {0}
NoDeep (res deep t) = ⊥

abbrev pub Calm : {A : Type 0} → Parser A → Type 0
Calm p = (s : List ℕ) → NoDeep (p s)

calm_res : {A B : Type 0} (f : A → B) (x : Res A) → NoDeep x → NoDeep (map_r f x)
calm_res f (res (ok a) t) h = tt
calm_res f (res bad t) h = tt
calm_res f (res deep t) h = h

pub calm_map : {A B : Type 0} (f : A → B) (p : Parser A) → Calm p → Calm (map_p f p)
calm_map f p h s = calm_res f (p s) (h s)

pub calm_one : (c : Class) → Calm (one_p c)
calm_one c [] = tt
calm_one c (b ∷ t) = go (within c b)
  where
    go : (v : Bool) → NoDeep (cond v (res (ok b) t) (res bad (b ∷ t)))
    go true = tt
    go false = tt

pub calm_eps : Calm eps_p
calm_eps s = tt

pub calm_alt : {A B : Type 0} (c : Class) (p : Parser A) (q : Parser B) → Calm p → Calm q → Calm (alt_p c p q)
calm_alt c p q h k s = go (starts c s)
  where
    go : (v : Bool) → NoDeep (pick v p q s)
    go true = calm_res inl (p s) (h s)
    go false = calm_res inr (q s) (k s)

pub calm_or : {A : Type 0} (c : Class) (p q : Parser A) → Calm p → Calm q → Calm (or_p c p q)
calm_or c p q h k = calm_map either (alt_p c p q) (calm_alt c p q h k)

calm_bind : {A B : Type 0} (q : Parser B) → Calm q → (x : Res A) → NoDeep x → NoDeep (bind q x)
calm_bind q k (res (ok a) t) h = calm_res (λ b. (a, b)) (q t) (k t)
calm_bind q k (res bad t) h = tt
calm_bind q k (res deep t) h = h

pub calm_seq : {A B : Type 0} (p : Parser A) (q : Parser B) → Calm p → Calm q → Calm (seq_p p q)
calm_seq p q h k s = calm_bind q k (p s) (h s)

calm_turn : {A B : Type 0} (k : Parser (List A × B)) (s : List ℕ) (x : Res (A ⊎ B)) → ((a : A) (t : List ℕ) → x ≡ res (ok (inl a)) t → NoDeep (k t)) → NoDeep x → NoDeep (turn k x)
calm_turn k s (res (ok (inl a)) t) f d = calm_res (onto a) (k t) (f a t refl)
calm_turn k s (res (ok (inr c)) t) f d = tt
calm_turn k s (res bad t) f d = tt
calm_turn k s (res deep t) f d = d

calm_loop : {A B : Type 0} (p : Parser (A ⊎ B)) → Calm p → Progress p → (n : ℕ) (s : List ℕ) → length s < n → NoDeep (loop n p s)
calm_loop p h g zero s lt = absurd (omega arith)
calm_loop p h g (suc n) s lt = calm_turn (loop n p) s (p s) (λ a t e. (let m = g s a t e in calm_loop p h g n t (omega arith))) (h s)

pub calm_iter : {A B : Type 0} (p : Parser (A ⊎ B)) → Calm p → Progress p → Calm (iter_p p)
calm_iter p h g s = calm_loop p h g (suc (length s)) s (omega arith)

-- bytes
calm_byte : (c : Class) → Calm (byte_p c)
calm_byte c = calm_map (λ b. b ∷ []) (one_p c) (calm_one c)

calm_empty : Calm empty_p
calm_empty s = tt

calm_cat : (p q : Parser (List ℕ)) → Calm p → Calm q → Calm (cat_p p q)
calm_cat p q h k = calm_map (λ x. x.0 ++ x.1) (seq_p p q) (calm_seq p q h k)

calm_word : (w : List ℕ) → Calm (word_p w)
calm_word [] s = calm_empty s
calm_word (b ∷ w) s = calm_cat (byte_p (only b)) (word_p w) (calm_byte (only b)) (calm_word w) s

calm_run : (c : Class) → Calm (run_p c)
calm_run c [] = tt
calm_run c (b ∷ t) = go (within c b) (calm_run c t)
  where
    go : (v : Bool) → NoDeep (run_p c t) → NoDeep (cond v (map_r (λ y. b ∷ y) (run_p c t)) (res (ok []) (b ∷ t)))
    go true d = calm_res (λ y. b ∷ y) (run_p c t) d
    go false d = tt

calm_many : (P : List ℕ → Type 0) (f : Class) (p : Parser (List ℕ)) → ByteLaws P p f false [] → Calm p → Calm (many_p f p)
calm_many P f p h k = calm_map (λ x. concats x.0 x.1) (iter_p (alt_p f p empty_p)) (calm_iter (alt_p f p empty_p) (calm_alt f p empty_p k calm_empty) (progress (ManyL P p f h) (alt_p f p empty_p) (f ++ []) (unit_null_lem P p f h) (unit_ext_lem P p f h) (many_unit P p f h) (λ a. refl)))

calm_three : (a b : Class) → Calm (three_p a b)
calm_three a b = calm_cat (byte_p a) (cat_p (byte_p b) tail_p) (calm_byte a) (calm_cat (byte_p b) tail_p (calm_byte b) (calm_byte Tail))

calm_four : (a b : Class) → Calm (four_p a b)
calm_four a b = calm_cat (byte_p a) (cat_p (byte_p b) (cat_p tail_p tail_p)) (calm_byte a) (calm_cat (byte_p b) (cat_p tail_p tail_p) (calm_byte b) (calm_cat tail_p tail_p (calm_byte Tail) (calm_byte Tail)))

calm_multi : Calm multi_p
calm_multi =
    let p8 = four_p (only 244) ((128, 143) ∷ []) in
    let p7 = or_p ((241, 243) ∷ []) (four_p ((241, 243) ∷ []) Tail) p8 in
    let p6 = or_p (only 240) (four_p (only 240) ((144, 191) ∷ [])) p7 in
    let p5 = or_p ((238, 239) ∷ []) (three_p ((238, 239) ∷ []) Tail) p6 in
    let p4 = or_p (only 237) (three_p (only 237) ((128, 159) ∷ [])) p5 in
    let p3 = or_p ((225, 236) ∷ []) (three_p ((225, 236) ∷ []) Tail) p4 in
    let p2 = or_p (only 224) (three_p (only 224) ((160, 191) ∷ [])) p3 in
    calm_or ((194, 223) ∷ []) two_p p2 (calm_cat (byte_p ((194, 223) ∷ [])) tail_p (calm_byte ((194, 223) ∷ [])) (calm_byte Tail))
    (calm_or (only 224) (three_p (only 224) ((160, 191) ∷ [])) p3 (calm_three (only 224) ((160, 191) ∷ []))
    (calm_or ((225, 236) ∷ []) (three_p ((225, 236) ∷ []) Tail) p4 (calm_three ((225, 236) ∷ []) Tail)
    (calm_or (only 237) (three_p (only 237) ((128, 159) ∷ [])) p5 (calm_three (only 237) ((128, 159) ∷ []))
    (calm_or ((238, 239) ∷ []) (three_p ((238, 239) ∷ []) Tail) p6 (calm_three ((238, 239) ∷ []) Tail)
    (calm_or (only 240) (four_p (only 240) ((144, 191) ∷ [])) p7 (calm_four (only 240) ((144, 191) ∷ []))
    (calm_or ((241, 243) ∷ []) (four_p ((241, 243) ∷ []) Tail) p8 (calm_four ((241, 243) ∷ []) Tail) (calm_four (only 244) ((128, 143) ∷ []))))))))

calm_char : (c : Class) → Calm (char_p c)
calm_char c = calm_or c (byte_p c) multi_p (calm_byte c) calm_multi

calm_chars : Calm (chars_p InLine)
calm_chars = calm_many (Char InLine) (InLine ++ MultiFirst) (char_p InLine) (char_laws InLine 0 refl refl) (calm_char InLine)

calm_digits : Calm digits_p
calm_digits = calm_cat (byte_p Digit) (run_p Digit) (calm_byte Digit) (calm_run Digit)

calm_number : Calm number_p
calm_number =
    calm_cat minus_p (cat_p int_p (cat_p frac_p exp_p)) (calm_or (only 45) (byte_p (only 45)) empty_p (calm_byte (only 45)) calm_empty)
    (calm_cat int_p (cat_p frac_p exp_p) (calm_or (only 48) (byte_p (only 48)) (cat_p (byte_p Digit1To9) (run_p Digit)) (calm_byte (only 48)) (calm_cat (byte_p Digit1To9) (run_p Digit) (calm_byte Digit1To9) (calm_run Digit)))
    (calm_cat frac_p exp_p (calm_or (only 46) (cat_p (byte_p (only 46)) digits_p) empty_p (calm_cat (byte_p (only 46)) digits_p (calm_byte (only 46)) calm_digits) calm_empty)
    (calm_or Exponent (cat_p (byte_p Exponent) power_p) empty_p (calm_cat (byte_p Exponent) power_p (calm_byte Exponent) (calm_or Signs (cat_p (byte_p Signs) digits_p) digits_p (calm_cat (byte_p Signs) digits_p (calm_byte Signs) calm_digits) calm_digits)) calm_empty)))

calm_escape : Calm escape_p
calm_escape =
    calm_cat (byte_p (only 92)) (or_p (only 117) unicode_p (byte_p Escaped)) (calm_byte (only 92))
    (calm_or (only 117) unicode_p (byte_p Escaped)
    (calm_cat (byte_p (only 117)) (cat_p hex_p (cat_p hex_p (cat_p hex_p hex_p))) (calm_byte (only 117))
    (calm_cat hex_p (cat_p hex_p (cat_p hex_p hex_p)) (calm_byte Hex) (calm_cat hex_p (cat_p hex_p hex_p) (calm_byte Hex) (calm_cat hex_p hex_p (calm_byte Hex) (calm_byte Hex)))))
    (calm_byte Escaped))

pub calm_string : Calm string_p
calm_string =
    calm_cat (byte_p (only 34)) (cat_p (many_p StringFirst string_char_p) (byte_p (only 34))) (calm_byte (only 34))
    (calm_cat (many_p StringFirst string_char_p) (byte_p (only 34)) (calm_many StringChar StringFirst string_char_p strchar_laws (calm_or (only 92) escape_p (char_p Plain) calm_escape (calm_char Plain))) (calm_byte (only 34)))

calm_block : Calm block_p
calm_block = calm_map (λ x. concats x.0 x.1) (iter_p block_turn_p) (calm_iter block_turn_p
    (calm_map block_turn (alt_p (only 42) starred_p (char_p InBlock)) (calm_alt (only 42) starred_p (char_p InBlock) (calm_seq (one_p (only 42)) slash_p (calm_one (only 42)) (calm_alt (only 47) (one_p (only 47)) eps_p (calm_one (only 47)) calm_eps)) (calm_char InBlock)))
    (progress TurnL block_turn_p BlockFirst turn_null turn_ext turn_laws (λ a. refl)))

-- pieces
pub calm_token : (m : Token) → Calm (token_p m)
calm_token m = calm_map (λ _. only_leaf (token m)) (one_p (only (token_byte m))) (calm_one (only (token_byte m)))

calm_newline : Calm newline_p
calm_newline = calm_or (only 10) (map_p (λ _. only_leaf (newline line_feed)) (one_p (only 10))) return_p
    (calm_map (λ _. only_leaf (newline line_feed)) (one_p (only 10)) (calm_one (only 10)))
    (calm_map returned (seq_p (one_p (only 13)) feed_p) (calm_seq (one_p (only 13)) feed_p (calm_one (only 13)) (calm_alt (only 10) (one_p (only 10)) eps_p (calm_one (only 10)) calm_eps)))

calm_end : (last : Bool) → Calm (line_end_p last)
calm_end true = calm_alt LineEnd newline_p eps_p calm_newline calm_eps
calm_end false = calm_map inl newline_p calm_newline

calm_comment : (last : Bool) → Calm (comment_p last)
calm_comment last =
    let star = seq_p (one_p (only 42)) block_p in
    let line = seq_p (one_p (only 47)) (seq_p (chars_p InLine) (line_end_p last)) in
    calm_map comment_of (seq_p (one_p (only 47)) (alt_p (only 42) star line)) (calm_seq (one_p (only 47)) (alt_p (only 42) star line) (calm_one (only 47))
    (calm_alt (only 42) star line (calm_seq (one_p (only 42)) block_p (calm_one (only 42)) calm_block)
    (calm_seq (one_p (only 47)) (seq_p (chars_p InLine) (line_end_p last)) (calm_one (only 47)) (calm_seq (chars_p InLine) (line_end_p last) calm_chars (calm_end last)))))

calm_space : Calm space_p
calm_space = calm_map (λ t. only_leaf (whitespace t)) (cat_p (byte_p Blank) (run_p Blank)) (calm_cat (byte_p Blank) (run_p Blank) (calm_byte Blank) (calm_run Blank))

pub calm_nothing : Calm nothing_p
calm_nothing s = tt

calm_unit : (last : Bool) → Calm (unit_p last)
calm_unit last = calm_or Gap (piece_p last) (map_p inr nothing_p)
    (calm_or (only 47) (comment_p last) (map_p inl plain_p) (calm_comment last) (calm_map inl plain_p (calm_or Blank space_p newline_p calm_space calm_newline)))
    (λ s. tt)

pub calm_trivia : (last : Bool) → Calm (trivia_p last)
calm_trivia last = calm_map (λ x. joins x.0 x.1) (iter_p (unit_p last)) (calm_iter (unit_p last) (calm_unit last) (progress (UnitL last) (unit_p last) Gap unit_null unit_ext (unit_laws last) (λ a. refl)))

calm_literal : (x : Leaf) (w : List ℕ) → Calm (literal_p x w)
calm_literal x w = calm_map (λ _. only_leaf x) (word_p w) (calm_word w)

pub calm_scalar : Calm scalar_p
calm_scalar =
    let p4 = or_p (only 102) false_p number_leaf_p in
    let p3 = or_p (only 116) true_p p4 in
    let p2 = or_p (only 110) null_p p3 in
    calm_or (only 34) string_leaf_p p2 (calm_map (λ t. only_leaf (string t)) string_p calm_string)
    (calm_or (only 110) null_p p3 (calm_literal null (110 ∷ 117 ∷ 108 ∷ 108 ∷ []))
    (calm_or (only 116) true_p p4 (calm_literal (boolean true) (116 ∷ 114 ∷ 117 ∷ 101 ∷ []))
    (calm_or (only 102) false_p number_leaf_p (calm_literal (boolean false) (102 ∷ 97 ∷ 108 ∷ 115 ∷ 101 ∷ [])) (calm_map (λ t. only_leaf (number t)) number_p calm_number))))
