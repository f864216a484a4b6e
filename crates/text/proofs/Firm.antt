-- The pieces of a text are few: at most two nodes for each byte. Assumes nothing.
use Rattle.std.proofs.Common.{◌≡◌, ℕ, zero, suc, ◌+◌, ◌*◌, ◌≤◌, Bool, true, false, ◌⊎◌, List, [], ◌∷◌, length, refl, ap, ◌∙◌, inl, inr, append-nil, arith, length-append}
use Rattle.grammar.specs.Parse.{ok, bad, deep, Res, res, map_r, Parser, Class, starts, Opening, one_p, eps_p, bind, seq_p, pick, alt_p, map_p, onto, turn, loop, iter_p}
use Rattle.grammar.specs.Classes.{only, Blank, LineEnd, Gap, InLine}
use Rattle.grammar.specs.Layout.{Line, Block}
use Rattle.grammar.specs.Grammar.{Frame, brackets, braces, closer}
use Rattle.grammar.specs.Pieces.{Token, comma, colon, Leaf, null, boolean, number, string, name, token, whitespace, newline, line_feed, comment, Box, property, Pieces, end, leaf, box, join, own, print, nodes}
use Rattle.grammar.specs.Reader.{either, or_p, byte_p, cat_p, word_p, run_p, chars_p, number_p, string_p, block_p, nothing_p, then_p, ahead, after_p, joins, loop_p, only_leaf, token_p, space_p, returned, return_p, newline_p, line_end_p, comment_of, comment_p, plain_p, piece_p, unit_p, trivia_p, string_leaf_p, number_leaf_p, null_p, true_p, false_p, scalar_p, open_token, close_token, box_of, end_p, name_p, member_p, item_p, turn_p, items_p, container_p, nested_p, value_p, ValueFirst, text_p}
use Rattle.grammar.proofs.Laid.{print_join}
use Rattle.grammar.proofs.Trivias.{feed_p}
use Rattle.lexemes.proofs.Lexed.{Bytes, bytes_string, bytes_number}
use Rattle.lexemes.proofs.Laws.{Law1}
use Rattle.text.specs.Reports.{labelled}
use Rattle.text.proofs.Spells.{space_bytes}

-- what holds of every answer of a parser
abbrev pub Sure1 : {A : Type 0} → (A → Type 0) → Res A → Type 0
Sure1 P (res (ok a) t) = P a
Sure1 P (res bad t) = Unit {0}
Sure1 P (res deep t) = Unit {0}

abbrev pub Sure : {A : Type 0} → (A → Type 0) → Parser A → Type 0
Sure P p = (s : List ℕ) → Sure1 P (p s)

abbrev Either : {A B : Type 0} → (A → Type 0) → (B → Type 0) → A ⊎ B → Type 0
Either P Q (inl a) = P a
Either P Q (inr b) = Q b

abbrev Each : {A : Type 0} → (A → Type 0) → List A → Type 0
Each P [] = Unit {0}
Each P (a ∷ more) = P a × Each P more

sure_any : {A : Type 0} (p : Parser A) → Sure (λ (a : A). Unit {0}) p
sure_any {A} p s = go (p s)
  where
    go : (x : Res A) → Sure1 (λ (a : A). Unit {0}) x
    go (res (ok a) t) = tt
    go (res bad t) = tt
    go (res deep t) = tt

sure_map : {A B : Type 0} (P : A → Type 0) (Q : B → Type 0) (f : A → B) (p : Parser A) → ((a : A) → P a → Q (f a)) → Sure P p → Sure Q (map_p f p)
sure_map {A} P Q f p e h s = go (p s) (h s)
  where
    go : (x : Res A) → Sure1 P x → Sure1 Q (map_r f x)
    go (res (ok a) t) k = e a k
    go (res bad t) k = tt
    go (res deep t) k = tt

sure_seq : {A B : Type 0} (P : A → Type 0) (Q : B → Type 0) (p : Parser A) (q : Parser B) → Sure P p → Sure Q q → Sure (λ (x : A × B). P x.0 × Q x.1) (seq_p p q)
sure_seq {A} {B} P Q p q h k s = go (p s) (h s)
  where
    inner : (a : A) → P a → (y : Res B) → Sure1 Q y → Sure1 (λ (x : A × B). P x.0 × Q x.1) (map_r (λ b. (a, b)) y)
    inner a m (res (ok b) u) n = (m, n)
    inner a m (res bad u) n = tt
    inner a m (res deep u) n = tt

    go : (x : Res A) → Sure1 P x → Sure1 (λ (x : A × B). P x.0 × Q x.1) (bind q x)
    go (res (ok a) t) m = inner a m (q t) (k t)
    go (res bad t) m = tt
    go (res deep t) m = tt

sure_alt : {A B : Type 0} (P : A → Type 0) (Q : B → Type 0) (c : Class) (p : Parser A) (q : Parser B) → Sure P p → Sure Q q → Sure (Either P Q) (alt_p c p q)
sure_alt {A} {B} P Q c p q h k s = go (starts c s)
  where
    left : (x : Res A) → Sure1 P x → Sure1 (Either P Q) (map_r inl x)
    left (res (ok a) t) m = m
    left (res bad t) m = tt
    left (res deep t) m = tt

    right : (x : Res B) → Sure1 Q x → Sure1 (Either P Q) (map_r inr x)
    right (res (ok a) t) m = m
    right (res bad t) m = tt
    right (res deep t) m = tt

    go : (v : Bool) → Sure1 (Either P Q) (pick v p q s)
    go true = left (p s) (h s)
    go false = right (q s) (k s)

sure_iter : {A B : Type 0} (P : A → Type 0) (Q : B → Type 0) (p : Parser (A ⊎ B)) → Sure (Either P Q) p → Sure (λ (x : List A × B). Each P x.0 × Q x.1) (iter_p p)
sure_iter {A} {B} P Q p h s = go (suc (length s)) s
  where
    turned : (k : Parser (List A × B)) → Sure (λ (x : List A × B). Each P x.0 × Q x.1) k → (x : Res (A ⊎ B)) → Sure1 (Either P Q) x → Sure1 (λ (x : List A × B). Each P x.0 × Q x.1) (turn k x)
    turned k f (res (ok (inl a)) t) m = inner (k t) (f t)
      where
        inner : (y : Res (List A × B)) → Sure1 (λ (x : List A × B). Each P x.0 × Q x.1) y → Sure1 (λ (x : List A × B). Each P x.0 × Q x.1) (map_r (onto a) y)
        inner (res (ok x) u) n = ((m, n.0), n.1)
        inner (res bad u) n = tt
        inner (res deep u) n = tt
    turned k f (res (ok (inr c)) t) m = (tt, m)
    turned k f (res bad t) m = tt
    turned k f (res deep t) m = tt

    go : (n : ℕ) → Sure (λ (x : List A × B). Each P x.0 × Q x.1) (loop n p)
    go zero s = tt
    go (suc n) s = turned (loop n p) (go n) (p s) (h s)

-- a lexeme of one byte at least
abbrev Some : List ℕ → Type 0
Some t = 1 ≤ length t

sure_some : (p : Parser (List ℕ)) → Bytes 1 p → Sure Some p
sure_some p h s = go (p s) (h s)
  where
    go : (x : Res (List ℕ)) → Law1 (λ a. a) (λ _. 1) s x → Sure1 Some x
    go (res (ok a) t) m = m.1
    go (res bad t) m = tt
    go (res deep t) m = tt

-- at most two nodes for each byte, and with room for one more
abbrev pub Fine : Pieces → Type 0
Fine a = nodes a ≤ 2 * length (print a)

abbrev Firm : Pieces → Type 0
Firm a = suc (nodes a) ≤ 2 * length (print a)

nodes_join : (x y : Pieces) → nodes (join x y) ≡ nodes x + nodes y
nodes_join end y = omega arith
nodes_join (leaf a r) y = omega (arith, nodes_join r y)
nodes_join (box k c r) y = omega (arith, nodes_join r y)

long_join : (x y : Pieces) → length (print (join x y)) ≡ length (print x) + length (print y)
long_join x y = ap length (print_join x y) ∙ length-append (print x) (print y)

fine_join : (x y : Pieces) → Fine x → Fine y → Fine (join x y)
fine_join x y h k = omega (arith, nodes_join x y, long_join x y)

firm_join : (x y : Pieces) → Firm x → Fine y → Firm (join x y)
firm_join x y h k = omega (arith, nodes_join x y, long_join x y)

firm_one : (x : Leaf) → 1 ≤ length (own x) → Firm (only_leaf x)
firm_one x h = omega (arith, ap length (append-nil (own x)))

loosen : (p : Parser Pieces) → Sure Firm p → Sure Fine p
loosen p h s = go (p s) (h s)
  where
    go : (x : Res Pieces) → Sure1 Firm x → Sure1 Fine x
    go (res (ok a) t) m = omega (arith, m)
    go (res bad t) m = tt
    go (res deep t) m = tt

abbrev Fines : Pieces ⊎ Pieces → Type 0
Fines = Either Fine Fine

fine_or : (c : Class) (p q : Parser Pieces) → Sure Fine p → Sure Fine q → Sure Fine (or_p c p q)
fine_or c p q h k = sure_map Fines Fine either (alt_p c p q) go (sure_alt Fine Fine c p q h k)
  where
    go : (a : Pieces ⊎ Pieces) → Fines a → Fine (either a)
    go (inl x) m = m
    go (inr x) m = m

fines_or : (c : Class) (p q : Parser (Pieces ⊎ Pieces)) → Sure Fines p → Sure Fines q → Sure Fines (or_p c p q)
fines_or c p q h k = sure_map (Either Fines Fines) Fines either (alt_p c p q) go (sure_alt Fines Fines c p q h k)
  where
    go : (a : (Pieces ⊎ Pieces) ⊎ (Pieces ⊎ Pieces)) → Either Fines Fines a → Fines (either a)
    go (inl x) m = m
    go (inr x) m = m

fine_then : (p q : Parser Pieces) → Sure Fine p → Sure Fine q → Sure Fine (then_p p q)
fine_then p q h k = sure_map (λ (x : Pieces × Pieces). Fine x.0 × Fine x.1) Fine (λ x. join x.0 x.1) (seq_p p q) (λ x m. fine_join x.0 x.1 m.0 m.1) (sure_seq Fine Fine p q h k)

firm_then : (p q : Parser Pieces) → Sure Firm p → Sure Fine q → Sure Firm (then_p p q)
firm_then p q h k = sure_map (λ (x : Pieces × Pieces). Firm x.0 × Fine x.1) Firm (λ x. join x.0 x.1) (seq_p p q) (λ x m. firm_join x.0 x.1 m.0 m.1) (sure_seq Firm Fine p q h k)

fines_after : (p : Parser Pieces) (q : Parser (Pieces ⊎ Pieces)) → Sure Fine p → Sure Fines q → Sure Fines (after_p p q)
fines_after p q h k = sure_map (λ (x : Pieces × (Pieces ⊎ Pieces)). Fine x.0 × Fines x.1) Fines (λ x. ahead x.0 x.1) (seq_p p q) (λ x m. go x.0 x.1 m.0 m.1) (sure_seq Fine Fines p q h k)
  where
    go : (a : Pieces) (y : Pieces ⊎ Pieces) → Fine a → Fines y → Fines (ahead a y)
    go a (inl y) m n = fine_join a y m n
    go a (inr y) m n = fine_join a y m n

fine_loop : (p : Parser (Pieces ⊎ Pieces)) → Sure Fines p → Sure Fine (loop_p p)
fine_loop p h = sure_map (λ (x : List Pieces × Pieces). Each Fine x.0 × Fine x.1) Fine (λ x. joins x.0 x.1) (iter_p p) (λ x m. go x.0 x.1 m.0 m.1) (sure_iter Fine Fine p h)
  where
    go : (xs : List Pieces) (e : Pieces) → Each Fine xs → Fine e → Fine (joins xs e)
    go [] e m n = n
    go (x ∷ xs) e m n = fine_join x (joins xs e) m.0 (go xs e m.1 n)

fine_box : (k : Box) (p : Parser Pieces) → Sure Firm p → Sure Fine (map_p (λ c. box k c end) p)
fine_box k p h = sure_map Firm Fine (λ c. box k c end) p (λ c m. omega (arith, m, ap length (append-nil (print c)))) h

on : (p : Parser Pieces) → Sure Fine p → Sure Fines (map_p inl p)
on p h = sure_map Fine Fines inl p (λ a m. m) h

off : (p : Parser Pieces) → Sure Fine p → Sure Fines (map_p inr p)
off p h = sure_map Fine Fines inr p (λ a m. m) h

fine_nothing : Sure Fine nothing_p
fine_nothing = sure_map (λ (a : Unit {0}). Unit {0}) Fine (λ _. end) eps_p (λ a m. omega arith) (sure_any eps_p)

firm_leaf : (f : List ℕ → Leaf) (p : Parser (List ℕ)) → ((t : List ℕ) → own (f t) ≡ t) → Bytes 1 p → Sure Firm (map_p (λ t. only_leaf (f t)) p)
firm_leaf f p e h = sure_map Some Firm (λ t. only_leaf (f t)) p (λ t m. firm_one (f t) (omega (arith, m, ap length (e t)))) (sure_some p h)

firm_fixed : {A : Type 0} (x : Leaf) (p : Parser A) → 1 ≤ length (own x) → Sure Firm (map_p (λ _. only_leaf x) p)
firm_fixed {A} x p h = sure_map (λ (a : A). Unit {0}) Firm (λ _. only_leaf x) p (λ a m. firm_one x h) (sure_any p)

firm_token : (m : Token) → Sure Firm (token_p m)
firm_token m = firm_fixed (token m) (one_p (only _)) (omega arith)

fine_return : Sure Fine return_p
fine_return = sure_map (λ (x : ℕ × (ℕ ⊎ Unit {0})). Unit {0}) Fine returned (seq_p (one_p (only 13)) feed_p) go (sure_any (seq_p (one_p (only 13)) feed_p))
  where
    go : (x : ℕ × (ℕ ⊎ Unit {0})) → Unit {0} → Fine (returned x)
    go (r, inl l) m = omega arith
    go (r, inr e) m = omega arith

fine_newline : Sure Fine newline_p
fine_newline =
    fine_or (only 10) (map_p (λ _. only_leaf (newline line_feed)) (one_p (only 10))) return_p
    (loosen (map_p (λ _. only_leaf (newline line_feed)) (one_p (only 10))) (firm_fixed (newline line_feed) (one_p (only 10)) (omega arith))) fine_return

abbrev Ends : Pieces ⊎ Unit {0} → Type 0
Ends = Either Fine (λ (e : Unit {0}). Unit {0})

sure_end : (last : Bool) → Sure Ends (line_end_p last)
sure_end true = sure_alt Fine (λ (e : Unit {0}). Unit {0}) LineEnd newline_p eps_p fine_newline (sure_any eps_p)
sure_end false = sure_map Fine Ends inl newline_p (λ a m. m) fine_newline

abbrev Lines : ℕ × (List ℕ × (Pieces ⊎ Unit {0})) → Type 0
Lines x = Unit {0} × (Unit {0} × Ends x.1.1)

fines_comment : (last : Bool) → Sure Fines (comment_p last)
fines_comment last =
    sure_map (λ (x : ℕ × ((ℕ × List ℕ) ⊎ (ℕ × (List ℕ × (Pieces ⊎ Unit {0}))))). Unit {0} × Either (λ (y : ℕ × List ℕ). Unit {0}) Lines x.1) Fines comment_of
    (seq_p (one_p (only 47)) (alt_p (only 42) (seq_p (one_p (only 42)) block_p) (seq_p (one_p (only 47)) (seq_p (chars_p InLine) (line_end_p last)))))
    (λ x m. go x m.1)
    (sure_seq (λ (b : ℕ). Unit {0}) (Either (λ (y : ℕ × List ℕ). Unit {0}) Lines) (one_p (only 47)) (alt_p (only 42) (seq_p (one_p (only 42)) block_p) (seq_p (one_p (only 47)) (seq_p (chars_p InLine) (line_end_p last)))) (sure_any (one_p (only 47)))
    (sure_alt (λ (y : ℕ × List ℕ). Unit {0}) Lines (only 42) (seq_p (one_p (only 42)) block_p) (seq_p (one_p (only 47)) (seq_p (chars_p InLine) (line_end_p last))) (sure_any (seq_p (one_p (only 42)) block_p))
    (sure_seq (λ (b : ℕ). Unit {0}) (λ (y : List ℕ × (Pieces ⊎ Unit {0})). Unit {0} × Ends y.1) (one_p (only 47)) (seq_p (chars_p InLine) (line_end_p last)) (sure_any (one_p (only 47)))
    (sure_seq (λ (t : List ℕ). Unit {0}) Ends (chars_p InLine) (line_end_p last) (sure_any (chars_p InLine)) (sure_end last)))))
  where
    go : (x : ℕ × ((ℕ × List ℕ) ⊎ (ℕ × (List ℕ × (Pieces ⊎ Unit {0}))))) → Either (λ (y : ℕ × List ℕ). Unit {0}) Lines x.1 → Fines (comment_of x)
    go (b, inl (c, t)) m = omega (arith, firm_one (comment (Block (b ∷ c ∷ t))) (omega arith))
    go (b, inr (c, (t, inl n))) m = fine_join (only_leaf (comment (Line (b ∷ c ∷ t)))) n (omega (arith, firm_one (comment (Line (b ∷ c ∷ t))) (omega arith))) m.1.1
    go (b, inr (c, (t, inr e))) m = omega (arith, firm_one (comment (Line (b ∷ c ∷ t))) (omega arith))

fine_plain : Sure Fine plain_p
fine_plain = fine_or Blank space_p newline_p (loosen space_p (firm_leaf whitespace (cat_p (byte_p Blank) (run_p Blank)) (λ t. refl) space_bytes)) fine_newline

fines_unit : (last : Bool) → Sure Fines (unit_p last)
fines_unit last =
    fines_or Gap (piece_p last) (map_p inr nothing_p) (fines_or (only 47) (comment_p last) (map_p inl plain_p) (fines_comment last) (on plain_p fine_plain)) (off nothing_p fine_nothing)

fine_trivia : (last : Bool) → Sure Fine (trivia_p last)
fine_trivia last = fine_loop (unit_p last) (fines_unit last)

fine_scalar : Sure Fine scalar_p
fine_scalar =
    fine_or (only 34) string_leaf_p (or_p (only 110) null_p (or_p (only 116) true_p (or_p (only 102) false_p number_leaf_p))) (loosen string_leaf_p (firm_leaf string string_p (λ t. refl) bytes_string))
    (fine_or (only 110) null_p (or_p (only 116) true_p (or_p (only 102) false_p number_leaf_p)) (loosen null_p (firm_fixed null (word_p (110 ∷ 117 ∷ 108 ∷ 108 ∷ [])) (omega arith)))
    (fine_or (only 116) true_p (or_p (only 102) false_p number_leaf_p) (loosen true_p (firm_fixed (boolean true) (word_p (116 ∷ 114 ∷ 117 ∷ 101 ∷ [])) (omega arith)))
    (fine_or (only 102) false_p number_leaf_p (loosen false_p (firm_fixed (boolean false) (word_p (102 ∷ 97 ∷ 108 ∷ 115 ∷ 101 ∷ [])) (omega arith)))
    (loosen number_leaf_p (firm_leaf number number_p (λ t. refl) bytes_number)))))

fines_end : (f : Frame) → Sure Fines (end_p f)
fines_end f = sure_alt Fine Fine (only 44) (token_p comma) (token_p (close_token f)) (loosen (token_p comma) (firm_token comma)) (loosen (token_p (close_token f)) (firm_token (close_token f)))

fine_member : (v : Parser Pieces) → Sure Fine v → Sure Fine (member_p v)
fine_member v h =
    fine_box property (labelled v)
    (firm_then name_p (then_p (trivia_p false) (then_p (token_p colon) (then_p (trivia_p false) v))) (firm_leaf name string_p (λ t. refl) bytes_string)
    (fine_then (trivia_p false) (then_p (token_p colon) (then_p (trivia_p false) v)) (fine_trivia false)
    (fine_then (token_p colon) (then_p (trivia_p false) v) (loosen (token_p colon) (firm_token colon))
    (fine_then (trivia_p false) v (fine_trivia false) h))))

fine_item : (f : Frame) (v : Parser Pieces) → Sure Fine v → Sure Fine (item_p f v)
fine_item brackets v h = h
fine_item braces v h = fine_member v h

fine_container : (f : Frame) (v : Parser Pieces) → Sure Fine v → Sure Fine (container_p f v)
fine_container f v h =
    fine_box (box_of f) (then_p (token_p (open_token f)) (items_p f v)) (firm_then (token_p (open_token f)) (items_p f v) (firm_token (open_token f))
    (fine_loop (turn_p f v)
    (fines_after (trivia_p false) (or_p (only (closer f)) (map_p inr (token_p (close_token f))) (after_p (item_p f v) (after_p (trivia_p false) (end_p f)))) (fine_trivia false)
    (fines_or (only (closer f)) (map_p inr (token_p (close_token f))) (after_p (item_p f v) (after_p (trivia_p false) (end_p f))) (off (token_p (close_token f)) (loosen (token_p (close_token f)) (firm_token (close_token f))))
    (fines_after (item_p f v) (after_p (trivia_p false) (end_p f)) (fine_item f v h) (fines_after (trivia_p false) (end_p f) (fine_trivia false) (fines_end f)))))))

fine_nested : (n : ℕ) → Sure Fine (nested_p n)
fine_nested zero s = tt
fine_nested (suc n) s =
    fine_or (only 91) (container_p brackets (value_p n)) (container_p braces (value_p n))
    (fine_container brackets (value_p n) (fine_or Opening (nested_p n) scalar_p (fine_nested n) fine_scalar)) (fine_container braces (value_p n) (fine_or Opening (nested_p n) scalar_p (fine_nested n) fine_scalar)) s

pub fine_text : (n : ℕ) → Sure Fine (text_p n)
fine_text n =
    fine_then (trivia_p true) (or_p ValueFirst (then_p (value_p n) (trivia_p true)) nothing_p) (fine_trivia true)
    (fine_or ValueFirst (then_p (value_p n) (trivia_p true)) nothing_p
    (fine_then (value_p n) (trivia_p true) (fine_or Opening (nested_p n) scalar_p (fine_nested n) fine_scalar) (fine_trivia true)) fine_nothing)
