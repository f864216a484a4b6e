-- The reader takes the printing of its pieces off the text. Assumes nothing.
use Rattle.std.proofs.Common.{◌≡◌, ℕ, zero, suc, ◌+◌, ◌≤◌, Bool, true, false, ◌⊎◌, List, [], ◌∷◌, ◌++◌, length, refl, ap, ◌∙◌, inl, inr, append-nil, arith}
use Rattle.grammar.specs.Parse.{Parser, Class, Opening, one_p, eps_p, seq_p, alt_p, map_p, iter_p}
use Rattle.grammar.specs.Classes.{only, Blank, LineEnd, Gap, InLine}
use Rattle.grammar.specs.Grammar.{Frame, brackets, braces, closer}
use Rattle.grammar.specs.Pieces.{Token, comma, colon, Leaf, null, boolean, number, string, name, token, whitespace, newline, line_feed, Box, property, Pieces, end, box, join, token_byte, own, print}
use Rattle.grammar.specs.Reader.{either, or_p, byte_p, cat_p, word_p, run_p, chars_p, number_p, string_p, block_p, nothing_p, then_p, ahead, after_p, joins, loop_p, only_leaf, token_p, space_p, returned, return_p, newline_p, line_end_p, comment_of, comment_p, plain_p, piece_p, unit_p, trivia_p, string_leaf_p, number_leaf_p, literal_p, null_p, true_p, false_p, scalar_p, open_token, close_token, box_of, end_p, name_p, member_p, item_p, turn_p, items_p, container_p, value_from, nested_p, value_p, ValueFirst, text_p}
use Rattle.grammar.proofs.Laid.{print_join}
use Rattle.grammar.proofs.Trivias.{feed_p}
use Rattle.lexemes.proofs.Laws.{Law, law_one, law_byte, law_eps, law_run, law_map, law_less, law_seq, sum2, law_alt, concat, law_iter}
use Rattle.lexemes.proofs.Lexed.{Bytes, bytes_byte, bytes_cat, bytes_chars, bytes_block, bytes_string, bytes_number}

-- pieces of l bytes at least
abbrev pub Says : ℕ → Parser Pieces → Type 0
Says l p = Law print (λ _. l) p

abbrev pub prints : Pieces ⊎ Pieces → List ℕ
prints = sum2 print print

abbrev pub goes : Pieces ⊎ Pieces → ℕ
goes = sum2 (λ _. 1) (λ _. 0)

-- a turn that goes on takes a byte at least
abbrev pub Steps : Parser (Pieces ⊎ Pieces) → Type 0
Steps p = Law prints goes p

says_less : (l k : ℕ) (p : Parser Pieces) → k ≤ l → Says l p → Says k p
says_less l k p le h = law_less print (λ _. l) (λ _. k) p (λ a. le) h

says_or : (l : ℕ) (c : Class) (p q : Parser Pieces) → Says l p → Says l q → Says l (or_p c p q)
says_or l c p q h k = law_map prints (sum2 (λ _. l) (λ _. l)) print (λ _. l) either (alt_p c p q) same least (law_alt print (λ _. l) print (λ _. l) c p q h k)
  where
    same : (a : Pieces ⊎ Pieces) → print (either a) ≡ prints a
    same (inl x) = refl
    same (inr x) = refl

    least : (a : Pieces ⊎ Pieces) → l ≤ sum2 {A = Pieces} {B = Pieces} (λ _. l) (λ _. l) a
    least (inl x) = omega arith
    least (inr x) = omega arith

steps_or : (c : Class) (p q : Parser (Pieces ⊎ Pieces)) → Steps p → Steps q → Steps (or_p c p q)
steps_or c p q h k = law_map (sum2 prints prints) (sum2 goes goes) prints goes either (alt_p c p q) same least (law_alt prints goes prints goes c p q h k)
  where
    same : (a : (Pieces ⊎ Pieces) ⊎ (Pieces ⊎ Pieces)) → prints (either a) ≡ sum2 prints prints a
    same (inl x) = refl
    same (inr x) = refl

    least : (a : (Pieces ⊎ Pieces) ⊎ (Pieces ⊎ Pieces)) → goes (either a) ≤ sum2 goes goes a
    least (inl x) = omega arith
    least (inr x) = omega arith

says_then : (l m : ℕ) (p q : Parser Pieces) → Says l p → Says m q → Says (l + m) (then_p p q)
says_then l m p q h k =
    law_map (λ (x : Pieces × Pieces). print x.0 ++ print x.1) (λ _. l + m) print (λ _. l + m) (λ x. join x.0 x.1) (seq_p p q)
    (λ x. print_join x.0 x.1) (λ x. omega arith) (law_seq print (λ _. l) print (λ _. m) p q h k)

steps_after : (l : ℕ) (p : Parser Pieces) (q : Parser (Pieces ⊎ Pieces)) → Says l p → Steps q → Steps (after_p p q)
steps_after l p q h k =
    law_map (λ (x : Pieces × (Pieces ⊎ Pieces)). print x.0 ++ prints x.1) (λ (x : Pieces × (Pieces ⊎ Pieces)). l + goes x.1) prints goes (λ x. ahead x.0 x.1) (seq_p p q)
    same least (law_seq print (λ _. l) prints goes p q h k)
  where
    same : (x : Pieces × (Pieces ⊎ Pieces)) → prints (ahead x.0 x.1) ≡ print x.0 ++ prints x.1
    same (a, inl y) = print_join a y
    same (a, inr y) = print_join a y

    least : (x : Pieces × (Pieces ⊎ Pieces)) → goes (ahead x.0 x.1) ≤ l + goes x.1
    least (a, inl y) = omega arith
    least (a, inr y) = omega arith

says_loop : (p : Parser (Pieces ⊎ Pieces)) → Steps p → Says 0 (loop_p p)
says_loop p h =
    law_map (λ (x : List Pieces × Pieces). concat print print x.0 x.1) (λ _. 0) print (λ _. 0) (λ x. joins x.0 x.1) (iter_p p)
    (λ x. same x.0 x.1) (λ x. omega arith) (law_iter print print p h)
  where
    same : (xs : List Pieces) (e : Pieces) → print (joins xs e) ≡ concat print print xs e
    same [] e = refl
    same (x ∷ xs) e = print_join x (joins xs e) ∙ ap (λ z. print x ++ z) (same xs e)

-- going on, and stopping
steps_on : (p : Parser Pieces) → Says 1 p → Steps (map_p inl p)
steps_on p h = law_map print (λ _. 1) prints goes inl p (λ a. refl) (λ a. omega arith) h

steps_off : (l : ℕ) (p : Parser Pieces) → Says l p → Steps (map_p inr p)
steps_off l p h = law_map print (λ _. l) prints goes inr p (λ a. refl) (λ a. omega arith) h

says_nothing : Says 0 nothing_p
says_nothing = law_map (λ _. []) (λ _. 0) print (λ _. 0) (λ _. end) eps_p (λ a. refl) (λ a. omega arith) law_eps

-- a leaf of the bytes that were read
says_leaf : (l : ℕ) (f : List ℕ → Leaf) (p : Parser (List ℕ)) → ((t : List ℕ) → own (f t) ≡ t) → Bytes l p → Says l (map_p (λ t. only_leaf (f t)) p)
says_leaf l f p e h = law_map (λ a. a) (λ _. l) print (λ _. l) (λ t. only_leaf (f t)) p (λ t. append-nil (own (f t)) ∙ e t) (λ t. omega arith) h

says_token : (m : Token) → Says 1 (token_p m)
says_token m = law_map (λ _. token_byte m ∷ []) (λ _. 1) print (λ _. 1) (λ _. only_leaf (token m)) (one_p (only (token_byte m))) (λ a. refl) (λ a. omega arith) (law_byte (token_byte m))

pub space_bytes : Bytes 1 (cat_p (byte_p Blank) (run_p Blank))
space_bytes = bytes_cat 1 0 (byte_p Blank) (run_p Blank) (bytes_byte Blank) (law_run Blank)

says_space : Says 1 space_p
says_space = says_leaf 1 whitespace (cat_p (byte_p Blank) (run_p Blank)) (λ t. refl) space_bytes

abbrev feed : ℕ ⊎ Unit {0} → List ℕ
feed = sum2 (λ _. 10 ∷ []) (λ _. [])

says_return : Says 1 return_p
says_return = law_map (λ (x : ℕ × (ℕ ⊎ Unit {0})). (13 ∷ []) ++ feed x.1) (λ (x : ℕ × (ℕ ⊎ Unit {0})). 1 + sum2 {A = ℕ} {B = Unit {0}} (λ _. 1) (λ _. 0) x.1) print (λ _. 1) returned (seq_p (one_p (only 13)) feed_p)
    same (λ x. omega arith)
    (law_seq (λ _. 13 ∷ []) (λ _. 1) feed (sum2 (λ _. 1) (λ _. 0)) (one_p (only 13)) feed_p (law_byte 13)
    (law_alt (λ _. 10 ∷ []) (λ _. 1) (λ _. []) (λ _. 0) (only 10) (one_p (only 10)) eps_p (law_byte 10) law_eps))
  where
    same : (x : ℕ × (ℕ ⊎ Unit {0})) → print (returned x) ≡ (13 ∷ []) ++ feed x.1
    same (r, inl l) = refl
    same (r, inr e) = refl

says_newline : Says 1 newline_p
says_newline =
    says_or 1 (only 10) (map_p (λ _. only_leaf (newline line_feed)) (one_p (only 10))) return_p
    (law_map (λ _. 10 ∷ []) (λ _. 1) print (λ _. 1) (λ _. only_leaf (newline line_feed)) (one_p (only 10)) (λ a. refl) (λ a. omega arith) (law_byte 10)) says_return

abbrev ending : Pieces ⊎ Unit {0} → List ℕ
ending = sum2 print (λ _. [])

line_end : (last : Bool) → Law ending (λ _. 0) (line_end_p last)
line_end true = law_less ending (sum2 (λ _. 1) (λ _. 0)) (λ _. 0) (line_end_p true) (λ a. omega arith) (law_alt print (λ _. 1) (λ _. []) (λ _. 0) LineEnd newline_p eps_p says_newline law_eps)
line_end false = law_map print (λ _. 1) ending (λ _. 0) inl newline_p (λ a. refl) (λ a. omega arith) says_newline

abbrev blocked : ℕ × List ℕ → List ℕ
blocked x = (x.0 ∷ []) ++ x.1

abbrev lined : ℕ × (List ℕ × (Pieces ⊎ Unit {0})) → List ℕ
lined x = (x.0 ∷ []) ++ (x.1.0 ++ ending x.1.1)

pub steps_comment : (last : Bool) → Steps (comment_p last)
steps_comment last =
    law_map (λ (x : ℕ × ((ℕ × List ℕ) ⊎ (ℕ × (List ℕ × (Pieces ⊎ Unit {0}))))). (x.0 ∷ []) ++ sum2 blocked lined x.1) (λ (x : ℕ × ((ℕ × List ℕ) ⊎ (ℕ × (List ℕ × (Pieces ⊎ Unit {0}))))). 1 + sum2 {A = ℕ × List ℕ} {B = ℕ × (List ℕ × (Pieces ⊎ Unit {0}))} (λ _. 1 + 0) (λ _. 1 + (0 + 0)) x.1) prints goes comment_of (seq_p (one_p (only 47)) (alt_p (only 42) (seq_p (one_p (only 42)) block_p) (seq_p (one_p (only 47)) (seq_p (chars_p InLine) (line_end_p last)))))
    same least
    (law_seq (λ b. b ∷ []) (λ _. 1) (sum2 blocked lined) (sum2 (λ _. 1 + 0) (λ _. 1 + (0 + 0))) (one_p (only 47)) (alt_p (only 42) (seq_p (one_p (only 42)) block_p) (seq_p (one_p (only 47)) (seq_p (chars_p InLine) (line_end_p last)))) (law_one (only 47))
    (law_alt blocked (λ _. 1 + 0) lined (λ _. 1 + (0 + 0)) (only 42) (seq_p (one_p (only 42)) block_p) (seq_p (one_p (only 47)) (seq_p (chars_p InLine) (line_end_p last)))
    (law_seq (λ b. b ∷ []) (λ _. 1) (λ a. a) (λ _. 0) (one_p (only 42)) block_p (law_one (only 42)) bytes_block)
    (law_seq (λ b. b ∷ []) (λ _. 1) (λ (x : List ℕ × (Pieces ⊎ Unit {0})). x.0 ++ ending x.1) (λ _. 0 + 0) (one_p (only 47)) (seq_p (chars_p InLine) (line_end_p last)) (law_one (only 47))
    (law_seq (λ a. a) (λ _. 0) ending (λ _. 0) (chars_p InLine) (line_end_p last) (bytes_chars InLine) (line_end last)))))
  where
    same : (x : ℕ × ((ℕ × List ℕ) ⊎ (ℕ × (List ℕ × (Pieces ⊎ Unit {0}))))) → prints (comment_of x) ≡ (x.0 ∷ []) ++ sum2 blocked lined x.1
    same (b, inl (c, t)) = append-nil (b ∷ c ∷ t)
    same (b, inr (c, (t, inl n))) = refl
    same (b, inr (c, (t, inr e))) = refl

    least : (x : ℕ × ((ℕ × List ℕ) ⊎ (ℕ × (List ℕ × (Pieces ⊎ Unit {0}))))) → goes (comment_of x) ≤ 1 + sum2 {A = ℕ × List ℕ} {B = ℕ × (List ℕ × (Pieces ⊎ Unit {0}))} (λ _. 1 + 0) (λ _. 1 + (0 + 0)) x.1
    least (b, inl (c, t)) = omega arith
    least (b, inr (c, (t, inl n))) = omega arith
    least (b, inr (c, (t, inr e))) = omega arith

says_plain : Says 1 plain_p
says_plain = says_or 1 Blank space_p newline_p says_space says_newline

steps_piece : (last : Bool) → Steps (piece_p last)
steps_piece last = steps_or (only 47) (comment_p last) (map_p inl plain_p) (steps_comment last) (steps_on plain_p says_plain)

pub steps_unit : (last : Bool) → Steps (unit_p last)
steps_unit last = steps_or Gap (piece_p last) (map_p inr nothing_p) (steps_piece last) (steps_off 0 nothing_p says_nothing)

pub says_trivia : (last : Bool) → Says 0 (trivia_p last)
says_trivia last = says_loop (unit_p last) (steps_unit last)

-- values
word_law : (w : List ℕ) → Law (λ _. w) (λ _. length w) (word_p w)
word_law [] = law_map {A = Unit {0}} {B = List ℕ} (λ _. []) (λ _. 0) (λ _. []) (λ _. 0) (λ _. []) eps_p (λ a. refl) (λ a. omega arith) law_eps
word_law (b ∷ w) =
    law_map (λ (x : List ℕ × List ℕ). (b ∷ []) ++ w) (λ _. 1 + length w) (λ _. b ∷ w) (λ _. length (b ∷ w)) (λ x. x.0 ++ x.1) (seq_p (byte_p (only b)) (word_p w)) (λ x. refl) (λ x. omega arith)
    (law_seq (λ _. b ∷ []) (λ _. 1) (λ _. w) (λ _. length w) (byte_p (only b)) (word_p w)
    (law_map (λ _. b ∷ []) (λ _. 1) (λ _. b ∷ []) (λ _. 1) (λ x. x ∷ []) (one_p (only b)) (λ a. refl) (λ a. omega arith) (law_byte b))
    (word_law w))

says_literal : (x : Leaf) (w : List ℕ) → own x ≡ w → 1 ≤ length w → Says 1 (literal_p x w)
says_literal x w e l = law_map (λ _. w) (λ _. length w) print (λ _. 1) (λ _. only_leaf x) (word_p w) (λ a. append-nil (own x) ∙ e) (λ a. l) (word_law w)

says_scalar : Says 1 scalar_p
says_scalar =
    says_or 1 (only 34) string_leaf_p _ (says_leaf 1 string string_p (λ t. refl) bytes_string)
    (says_or 1 (only 110) null_p _ (says_literal null (110 ∷ 117 ∷ 108 ∷ 108 ∷ []) refl (omega arith))
    (says_or 1 (only 116) true_p _ (says_literal (boolean true) (116 ∷ 114 ∷ 117 ∷ 101 ∷ []) refl (omega arith))
    (says_or 1 (only 102) false_p number_leaf_p (says_literal (boolean false) (102 ∷ 97 ∷ 108 ∷ 115 ∷ 101 ∷ []) refl (omega arith))
    (says_leaf 1 number number_p (λ t. refl) bytes_number))))

steps_end : (f : Frame) → Steps (end_p f)
steps_end f = law_less prints (sum2 (λ _. 1) (λ _. 1)) goes (end_p f) least (law_alt print (λ _. 1) print (λ _. 1) (only 44) (token_p comma) (token_p (close_token f)) (says_token comma) (says_token (close_token f)))
  where
    least : (a : Pieces ⊎ Pieces) → goes a ≤ sum2 {A = Pieces} {B = Pieces} (λ _. 1) (λ _. 1) a
    least (inl x) = omega arith
    least (inr x) = omega arith

-- a container prints what is in it
says_box : (l : ℕ) (k : Box) (p : Parser Pieces) → Says l p → Says l (map_p (λ c. box k c end) p)
says_box l k p h = law_map print (λ _. l) print (λ _. l) (λ c. box k c end) p (λ c. append-nil (print c)) (λ c. omega arith) h

-- what follows the trivia behind a name
abbrev coloned : Parser Pieces → Parser Pieces
coloned v = then_p (token_p colon) (then_p (trivia_p false) v)

abbrev named : Parser Pieces → Parser Pieces
named v = then_p name_p (then_p (trivia_p false) (coloned v))

says_member : (v : Parser Pieces) → Says 1 v → Says 1 (member_p v)
says_member v h =
    says_less 3 1 (member_p v) (omega arith) (says_box 3 property (named v)
    (says_then 1 2 name_p (then_p (trivia_p false) (coloned v)) (says_leaf 1 name string_p (λ t. refl) bytes_string)
    (says_then 0 2 (trivia_p false) (coloned v) (says_trivia false)
    (says_then 1 1 (token_p colon) (then_p (trivia_p false) v) (says_token colon)
    (says_then 0 1 (trivia_p false) v (says_trivia false) h)))))

says_item : (f : Frame) (v : Parser Pieces) → Says 1 v → Says 1 (item_p f v)
says_item brackets v h = h
says_item braces v h = says_member v h

pub steps_turn : (f : Frame) (v : Parser Pieces) → Says 1 v → Steps (turn_p f v)
steps_turn f v h =
    steps_after 0 (trivia_p false) _ (says_trivia false)
    (steps_or (only (closer f)) (map_p inr (token_p (close_token f))) (after_p (item_p f v) (after_p (trivia_p false) (end_p f)))
    (steps_off 1 (token_p (close_token f)) (says_token (close_token f)))
    (steps_after 1 (item_p f v) (after_p (trivia_p false) (end_p f)) (says_item f v h) (steps_after 0 (trivia_p false) (end_p f) (says_trivia false) (steps_end f))))

says_container : (f : Frame) (v : Parser Pieces) → Says 1 v → Says 1 (container_p f v)
says_container f v h =
    says_box 1 (box_of f) (then_p (token_p (open_token f)) (items_p f v)) (says_then 1 0 (token_p (open_token f)) (items_p f v) (says_token (open_token f)) (says_loop (turn_p f v) (steps_turn f v h)))

pub says_from : (c : Parser Pieces) → Says 1 c → Says 1 (value_from c)
says_from c h = says_or 1 Opening c scalar_p h says_scalar

pub says_nested : (n : ℕ) → Says 1 (nested_p n)
says_nested zero s = tt
says_nested (suc n) s =
    says_or 1 (only 91) (container_p brackets (value_p n)) (container_p braces (value_p n))
    (says_container brackets (value_p n) (says_from (nested_p n) (says_nested n))) (says_container braces (value_p n) (says_from (nested_p n) (says_nested n))) s

pub says_value : (n : ℕ) → Says 1 (value_p n)
says_value n = says_from (nested_p n) (says_nested n)

pub says_text : (n : ℕ) → Says 0 (text_p n)
says_text n =
    says_then 0 0 (trivia_p true) _ (says_trivia true)
    (says_or 0 ValueFirst (then_p (value_p n) (trivia_p true)) nothing_p
    (says_less 1 0 (then_p (value_p n) (trivia_p true)) (omega arith) (says_then 1 0 (value_p n) (trivia_p true) (says_value n) (says_trivia true))) says_nothing)
