-- A text that is escaped is a string of the grammar, and says the text again. Assumes nothing.
use Rattle.std.proofs.Common.{◌≡◌, ℕ, ◌+◌, ◌*◌, ◌/◌, ◌%◌, ◌<◌, ◌≤◌, true, false, ◌&&◌, eqb, ltb, leb, ◌⊎◌, List, [], ◌∷◌, ◌++◌, sym, refl, ap, ◌∙◌, subst, inl, inr, append_assoc, append-nil, arith}
use mathlib.Core.Bool.{false≢true}
use mathlib.Core.Option.{Option, some, none as nothing}
use Rattle.std.proofs.lemmas.Bool.{eqb-true, eqb-false, ne_eqb, leb-true, leb-false, le-leb, lt-leb, ltb-true, ltb-false, lt-ltb, le-ltb, and_parts, and_from, and_left, or_cases, or_parts, or_left, or_right, cond-true, cond-false, cond_both, cases_Bool}
use Rattle.grammar.specs.Parse.{Class, within}
use Rattle.grammar.specs.Classes.{Ascii, Tail, Plain, Hex}
use Rattle.grammar.specs.Grammar.{Multi, two, three_E0, three_E1, three_ED, three_EE, four_F0, four_F1, four_F4, Char, one, several, Many, none, next, StringChar, unescaped, escape}
use Rattle.model.specs.Escapes.{hex_digit, unicode, control, byte_escaped, control_pair, escaped, hex_value, utf8, first_half, second_half, ahead, before, unit, decoded_from, decoded}

-- a class of one range
in_range : (a b x : ℕ) → within ((a, b) ∷ []) x ≡ true → (a ≤ x) × (x ≤ b)
in_range a b x h =
    elim (or_cases (leb a x && leb x b) false h) [
      | inl e ↦ (let k = and_parts (leb a x) (leb x b) e in (leb-true a x k.0, leb-true x b k.1))
      | inr e ↦ absurd (false≢true e)
    ]

range_in : (a b x : ℕ) (c : Class) → a ≤ x → x ≤ b → within ((a, b) ∷ c) x ≡ true
range_in a b x c h k = or_left (leb a x && leb x b) (within c x) (and_from (leb a x) (leb x b) (le-leb a x h) (le-leb x b k))

range_later : (a b x : ℕ) (c : Class) → within c x ≡ true → within ((a, b) ∷ c) x ≡ true
range_later a b x c h = or_right (leb a x && leb x b) (within c x) h

-- what may be said of how a byte is escaped
byte_ways : (P : List ℕ → Type 0) (b : ℕ)
    → (b ≡ 34 → P (92 ∷ 34 ∷ [])) → (b ≡ 92 → P (92 ∷ 92 ∷ [])) → (b ≡ 8 → P (92 ∷ 98 ∷ [])) → (b ≡ 12 → P (92 ∷ 102 ∷ [])) → (b ≡ 10 → P (92 ∷ 110 ∷ [])) → (b ≡ 13 → P (92 ∷ 114 ∷ [])) → (b ≡ 9 → P (92 ∷ 116 ∷ []))
    → (control b ≡ true → P (unicode b)) → ((b ≡ 34 → ⊥) → (b ≡ 92 → ⊥) → control b ≡ false → P (b ∷ [])) → P (byte_escaped b)
byte_ways P b q s bs ff lf cr tab con rest =
    cond_both (eqb b 34) _ _ P (λ e. q (eqb-true b 34 e)) (λ n34.
    cond_both (eqb b 92) _ _ P (λ e. s (eqb-true b 92 e)) (λ n92.
    cond_both (eqb b 8) _ _ P (λ e. bs (eqb-true b 8 e)) (λ n8.
    cond_both (eqb b 12) _ _ P (λ e. ff (eqb-true b 12 e)) (λ n12.
    cond_both (eqb b 10) _ _ P (λ e. lf (eqb-true b 10 e)) (λ n10.
    cond_both (eqb b 13) _ _ P (λ e. cr (eqb-true b 13 e)) (λ n13.
    cond_both (eqb b 9) _ _ P (λ e. tab (eqb-true b 9 e)) (λ n9.
    cond_both (control b) _ _ P con (λ n. rest (eqb-false b 34 n34) (eqb-false b 92 n92) n))))))))

control_is : (b : ℕ) → control b ≡ true → (b < 32) ⊎ (b ≡ 127)
control_is b h = elim (or_cases (ltb b 32) (eqb b 127) h) [ inl e ↦ inl (ltb-true b 32 e) | inr e ↦ inr (eqb-true b 127 e) ]

control_not : (b : ℕ) → control b ≡ false → 32 ≤ b
control_not b h = ltb-false b 32 (or_parts (ltb b 32) (eqb b 127) h).0

-- a hexadecimal digit is one
hex_is : (n : ℕ) → n < 16 → within Hex (hex_digit n) ≡ true
hex_is n h = cond_both (ltb n 10) (48 + n) (87 + n) (λ x. within Hex x ≡ true)
    (λ e. (let k = ltb-true n 10 e in range_in 48 57 (48 + n) ((65, 70) ∷ (97, 102) ∷ []) (omega arith) (omega arith)))
    (λ e. (let k = ltb-false n 10 e in range_later 48 57 (87 + n) ((65, 70) ∷ (97, 102) ∷ []) (range_later 65 70 (87 + n) ((97, 102) ∷ []) (range_in 97 102 (87 + n) [] (omega arith) (omega arith)))))

hex_value_lem : (n : ℕ) → n < 16 → hex_value (hex_digit n) ≡ n
hex_value_lem n h = cond_both (ltb n 10) (48 + n) (87 + n) (λ x. hex_value x ≡ n)
    (λ e. (let k = ltb-true n 10 e in cond-true (ltb (48 + n) 58) _ _ (lt-ltb (48 + n) 58 (omega arith)) ∙ omega arith))
    (λ e. (let k = ltb-false n 10 e in cond-false (ltb (87 + n) 58) _ _ (le-ltb (87 + n) 58 (omega arith)) ∙ (cond-false (ltb (87 + n) 71) _ _ (le-ltb (87 + n) 71 (omega arith)) ∙ omega arith)))

unicode_char : (n : ℕ) → n < 256 → StringChar (unicode n)
unicode_char n h = StringChar.unicode 48 48 (hex_digit (n / 16)) (hex_digit (n % 16)) refl refl (hex_is (n / 16) (omega arith)) (hex_is (n % 16) (omega arith))

-- a byte of one character
byte_char : (b : ℕ) → b ≤ 127 → StringChar (byte_escaped b)
byte_char b h = byte_ways StringChar b (λ e. escape 34 refl) (λ e. escape 92 refl) (λ e. escape 98 refl) (λ e. escape 102 refl) (λ e. escape 110 refl) (λ e. escape 114 refl) (λ e. escape 116 refl)
    (λ e. unicode_char b (omega arith)) (λ q s n. unescaped (one b (plain q s (control_not b n))))
  where
    plain : (b ≡ 34 → ⊥) → (b ≡ 92 → ⊥) → 32 ≤ b → within Plain b ≡ true
    plain q s n = elim (cases_Bool (leb b 33)) [
      | inl e ↦ range_in 32 33 b ((35, 91) ∷ (93, 127) ∷ []) n (leb-true b 33 e)
      | inr e ↦ elim (cases_Bool (leb b 91)) [
        | inl f ↦ (let x = leb-false b 33 e in let y = leb-true b 91 f in range_later 32 33 b ((35, 91) ∷ (93, 127) ∷ []) (range_in 35 91 b ((93, 127) ∷ []) (omega (arith, q)) y))
        | inr f ↦ (let y = leb-false b 91 f in range_later 32 33 b ((35, 91) ∷ (93, 127) ∷ []) (range_later 35 91 b ((93, 127) ∷ []) (range_in 93 127 b [] (omega (arith, s)) h)))
      ]
    ]

-- a byte that begins no control character of two bytes
pub escaped_byte : (b : ℕ) (t : List ℕ) → (b ≡ 194 → ⊥) → escaped (b ∷ t) ≡ byte_escaped b ++ escaped t
escaped_byte b [] h = sym (append-nil (byte_escaped b))
escaped_byte b (c ∷ t) h = cond-false (control_pair b c) _ _ (and_left (eqb b 194) (leb 128 c && leb c 159) (ne_eqb b 194 h))

-- a byte above the one-byte characters stays as it is
high_byte : (b : ℕ) → 128 ≤ b → byte_escaped b ≡ b ∷ []
high_byte b h = byte_ways (λ x. x ≡ b ∷ []) b (λ e. absurd (omega arith)) (λ e. absurd (omega arith)) (λ e. absurd (omega arith)) (λ e. absurd (omega arith)) (λ e. absurd (omega arith)) (λ e. absurd (omega arith)) (λ e. absurd (omega arith))
    (λ e. elim (control_is b e) [ inl k ↦ absurd (omega arith) | inr k ↦ absurd (omega arith) ]) (λ q s n. refl)

pub escaped_high : (b : ℕ) (t : List ℕ) → 128 ≤ b → (b ≡ 194 → ⊥) → escaped (b ∷ t) ≡ b ∷ escaped t
escaped_high b t h n = escaped_byte b t n ∙ ap (λ y. y ++ escaped t) (high_byte b h)

-- two bytes where the pair is no control character
escaped_pair : (b c : ℕ) (t : List ℕ) → 128 ≤ b → control_pair b c ≡ false → escaped (b ∷ c ∷ t) ≡ b ∷ escaped (c ∷ t)
escaped_pair b c t h n = cond-false (control_pair b c) _ _ n ∙ ap (λ y. y ++ escaped (c ∷ t)) (high_byte b h)

escaped_control : (b c : ℕ) (t : List ℕ) → control_pair b c ≡ true → escaped (b ∷ c ∷ t) ≡ unicode c ++ escaped t
escaped_control b c t e = cond-true (control_pair b c) _ _ e

tail : (b : ℕ) → within Tail b ≡ true → (128 ≤ b) × (b ≤ 191)
tail b h = in_range 128 191 b h

-- a character of several bytes is written as it is, or as an escape
pub data Written (u : List ℕ) : List ℕ → Type 0 where
  as_is : Written u u
  as_unicode : (c : ℕ) → u ≡ 194 ∷ c ∷ [] → 128 ≤ c → c ≤ 159 → Written u (unicode c)

pub record Wrote (u t : List ℕ) : Type 0 where
  pub bytes : List ℕ
  pub how : Written u bytes
  pub is : escaped (u ++ t) ≡ bytes ++ escaped t

same : (u t : List ℕ) → escaped (u ++ t) ≡ u ++ escaped t → Wrote u t
same u t e = record { bytes = u; how = as_is; is = e }

three : (a b c : ℕ) (t : List ℕ) → 195 ≤ a → within Tail b ≡ true → within Tail c ≡ true → Wrote (a ∷ b ∷ c ∷ []) t
three a b c t h x y =
    let hb = tail b x in let hc = tail c y in
    same (a ∷ b ∷ c ∷ []) t (escaped_high a (b ∷ c ∷ t) (omega arith) (λ e. omega arith) ∙ ap (λ z. a ∷ z) (escaped_high b (c ∷ t) hb.0 (λ e. omega arith) ∙ ap (λ z. b ∷ z) (escaped_high c t hc.0 (λ e. omega arith))))

four : (a b c d : ℕ) (t : List ℕ) → 195 ≤ a → within Tail b ≡ true → within Tail c ≡ true → within Tail d ≡ true → Wrote (a ∷ b ∷ c ∷ d ∷ []) t
four a b c d t h x y z =
    let k = three b c d t in
    let hb = tail b x in let hc = tail c y in let hd = tail d z in
    same (a ∷ b ∷ c ∷ d ∷ []) t (escaped_high a (b ∷ c ∷ d ∷ t) (omega arith) (λ e. omega arith) ∙ ap (λ w. a ∷ w) (escaped_high b (c ∷ d ∷ t) hb.0 (λ e. omega arith) ∙ ap (λ w. b ∷ w) (escaped_high c (d ∷ t) hc.0 (λ e. omega arith) ∙ ap (λ w. c ∷ w) (escaped_high d t hd.0 (λ e. omega arith)))))

within_tail : (a b x : ℕ) → 128 ≤ a → b ≤ 191 → within ((a, b) ∷ []) x ≡ true → within Tail x ≡ true
within_tail a b x h k e = let r = in_range a b x e in range_in 128 191 x [] (omega arith) (omega arith)

multi_wrote : {u : List ℕ} (t : List ℕ) → Multi u → Wrote u t
multi_wrote t (two a b h k) =
    let ha = in_range 194 223 a h in let hb = tail b k in
    elim (cases_Bool (control_pair a b)) [
      | inl e ↦ (let p = and_parts (eqb a 194) (leb 128 b && leb b 159) e in let q = and_parts (leb 128 b) (leb b 159) p.1 in
          record { bytes = unicode b; how = as_unicode b (ap (λ x. x ∷ b ∷ []) (eqb-true a 194 p.0)) hb.0 (leb-true b 159 q.1); is = escaped_control a b t e })
      | inr e ↦ same (a ∷ b ∷ []) t (escaped_pair a b t (omega arith) e ∙ ap (λ w. a ∷ w) (escaped_high b t hb.0 (λ z. omega arith)))
    ]
multi_wrote t (three_E0 b c h k) = three 224 b c t (omega arith) (within_tail 160 191 b (omega arith) (omega arith) h) k
multi_wrote t (three_E1 a b c h k l) = let ha = in_range 225 236 a h in three a b c t (omega arith) k l
multi_wrote t (three_ED b c h k) = three 237 b c t (omega arith) (within_tail 128 159 b (omega arith) (omega arith) h) k
multi_wrote t (three_EE a b c h k l) = let ha = in_range 238 239 a h in three a b c t (omega arith) k l
multi_wrote t (four_F0 b c d h k l) = four 240 b c d t (omega arith) (within_tail 144 191 b (omega arith) (omega arith) h) k l
multi_wrote t (four_F1 a b c d h k l m) = let ha = in_range 241 243 a h in four a b c d t (omega arith) k l m
multi_wrote t (four_F4 b c d h k l) = four 244 b c d t (omega arith) (within_tail 128 143 b (omega arith) (omega arith) h) k l

written_char : {u w : List ℕ} → Multi u → Written u w → StringChar w
written_char m as_is = unescaped (several m)
written_char m (as_unicode c e h k) = unicode_char c (omega arith)

-- An escaped text is what may stand between quotes.
pub escaped_string : {t : List ℕ} → Many (Char Ascii) t → Many StringChar (escaped t)
escaped_string none = none
escaped_string (next {v = v} (one b h) m) =
    let r = in_range 0 127 b h in
    subst (Many StringChar) (sym (escaped_byte b v (λ e. omega arith))) (next (byte_char b r.1) (escaped_string m))
escaped_string (next {v = v} (several x) m) =
    let w = multi_wrote v x in
    subst (Many StringChar) (sym w.is) (next (written_char x w.how) (escaped_string m))

-- what a `\u` escape of a control character says
unicode_said : (n : ℕ) (x : List ℕ) → n < 256 → decoded_from (unicode n ++ x) (before 0) ≡ ahead (utf8 n) (decoded_from x (before 0))
unicode_said n x h =
    let a = hex_value_lem (n / 16) (omega arith) in
    let b = hex_value_lem (n % 16) (omega arith) in
    let e : (0 * 16 + hex_value (hex_digit (n / 16))) * 16 + hex_value (hex_digit (n % 16)) ≡ n =
    ap (λ y. (0 * 16 + y) * 16 + hex_value (hex_digit (n % 16))) a ∙ (ap (λ y. (0 * 16 + n / 16) * 16 + y) b ∙ omega arith) in
    ap (λ m. unit 0 m (decoded_from x)) e
    ∙ (cond-false (first_half n) _ _ (and_left (leb 55296 n) (leb n 56319) (lt-leb 55296 n (omega arith)))
    ∙ cond-false (second_half n) _ _ (and_left (leb 56320 n) (leb n 57343) (lt-leb 56320 n (omega arith))))

utf8_one : (n : ℕ) → n < 128 → utf8 n ≡ n ∷ []
utf8_one n h = cond-true (ltb n 128) _ _ (lt-ltb n 128 h)

utf8_two : (n : ℕ) → 128 ≤ n → n ≤ 159 → utf8 n ≡ 194 ∷ n ∷ []
utf8_two n h k =
    let a : 192 + n / 64 ≡ 194 = omega arith in
    let b : 128 + n % 64 ≡ n = omega arith in
    cond-false (ltb n 128) _ _ (le-ltb n 128 h) ∙ (cond-true (ltb n 2048) _ _ (lt-ltb n 2048 (omega arith)) ∙ (ap (λ y. y ∷ (128 + n % 64) ∷ []) a ∙ ap (λ y. 194 ∷ y ∷ []) b))

-- a byte that is no backslash says itself
plain_said : (b : ℕ) (x : List ℕ) → (b ≡ 92 → ⊥) → decoded_from (b ∷ x) (before 0) ≡ ahead (b ∷ []) (decoded_from x (before 0))
plain_said b x h = cond-false (eqb b 92) _ _ (ne_eqb b 92 h)

byte_said : (b : ℕ) (x : List ℕ) → b ≤ 127 → decoded_from (byte_escaped b ++ x) (before 0) ≡ ahead (b ∷ []) (decoded_from x (before 0))
byte_said b x h = byte_ways (λ u. decoded_from (u ++ x) (before 0) ≡ ahead (b ∷ []) (decoded_from x (before 0))) b
    (is 34) (is 92) (is 8) (is 12) (is 10) (is 13) (is 9)
    (λ e. unicode_said b x (omega arith) ∙ ap (λ y. ahead y (decoded_from x (before 0))) (utf8_one b (omega arith)))
    (λ q s n. plain_said b x s)
  where
    is : (k : ℕ) → b ≡ k → ahead (k ∷ []) (decoded_from x (before 0)) ≡ ahead (b ∷ []) (decoded_from x (before 0))
    is k e = ap (λ y. ahead (y ∷ []) (decoded_from x (before 0))) (sym e)

ahead_twice : (u v : List ℕ) (o : Option (List ℕ)) → ahead u (ahead v o) ≡ ahead (u ++ v) o
ahead_twice u v nothing = refl
ahead_twice u v (some t) = ap some (sym (append_assoc u v t))

-- none of the bytes is a backslash
abbrev Straight : List ℕ → Type 0
Straight [] = Unit {0}
Straight (b ∷ t) = (b ≡ 92 → ⊥) × Straight t

ahead_none : (o : Option (List ℕ)) → o ≡ ahead [] o
ahead_none nothing = refl
ahead_none (some t) = refl

straight_said : (u x : List ℕ) → Straight u → decoded_from (u ++ x) (before 0) ≡ ahead u (decoded_from x (before 0))
straight_said [] x s = ahead_none (decoded_from x (before 0))
straight_said (b ∷ u) x s = plain_said b (u ++ x) s.0 ∙ (ap (ahead (b ∷ [])) (straight_said u x s.1) ∙ ahead_twice (b ∷ []) u (decoded_from x (before 0)))

tail_not : (b : ℕ) → within Tail b ≡ true → b ≡ 92 → ⊥
tail_not b h e = let k = tail b h in omega arith

range_not : (a b x : ℕ) → 93 ≤ a → within ((a, b) ∷ []) x ≡ true → x ≡ 92 → ⊥
range_not a b x k h e = let r = in_range a b x h in omega arith

multi_straight : {u : List ℕ} → Multi u → Straight u
multi_straight (two a b h k) = (range_not 194 223 a (omega arith) h, (tail_not b k, tt))
multi_straight (three_E0 b c h k) = ((λ e. omega arith), (range_not 160 191 b (omega arith) h, (tail_not c k, tt)))
multi_straight (three_E1 a b c h k l) = (range_not 225 236 a (omega arith) h, (tail_not b k, (tail_not c l, tt)))
multi_straight (three_ED b c h k) = ((λ e. omega arith), (range_not 128 159 b (omega arith) h, (tail_not c k, tt)))
multi_straight (three_EE a b c h k l) = (range_not 238 239 a (omega arith) h, (tail_not b k, (tail_not c l, tt)))
multi_straight (four_F0 b c d h k l) = ((λ e. omega arith), (range_not 144 191 b (omega arith) h, (tail_not c k, (tail_not d l, tt))))
multi_straight (four_F1 a b c d h k l m) = (range_not 241 243 a (omega arith) h, (tail_not b k, (tail_not c l, (tail_not d m, tt))))
multi_straight (four_F4 b c d h k l) = ((λ e. omega arith), (range_not 128 143 b (omega arith) h, (tail_not c k, (tail_not d l, tt))))

written_said : {u w : List ℕ} (x : List ℕ) → Multi u → Written u w → decoded_from (w ++ x) (before 0) ≡ ahead u (decoded_from x (before 0))
written_said {u = u} x m as_is = straight_said u x (multi_straight m)
written_said x m (as_unicode c e h k) = unicode_said c x (omega arith) ∙ ap (λ y. ahead y (decoded_from x (before 0))) (utf8_two c h k ∙ sym e)

-- An escaped text says the text again.
pub escaped_says : {t : List ℕ} → Many (Char Ascii) t → decoded (escaped t) ≡ some t
escaped_says none = refl
escaped_says (next {v = v} (one b h) m) =
    let r = in_range 0 127 b h in
    ap (λ y. decoded_from y (before 0)) (escaped_byte b v (λ e. omega arith)) ∙ (byte_said b (escaped v) r.1 ∙ ap (ahead (b ∷ [])) (escaped_says m))
escaped_says (next {u = u} {v = v} (several x) m) =
    let w = multi_wrote v x in
    ap (λ y. decoded_from y (before 0)) w.is ∙ (written_said (escaped v) x w.how ∙ ap (ahead u) (escaped_says m))
