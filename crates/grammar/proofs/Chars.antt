-- UTF-8 characters, numbers and strings: the laws of their parsers. Assumes nothing.
use Rattle.std.proofs.Common.{◌≡◌, ℕ, true, false, List, [], ◌∷◌, ◌++◌, sym, refl, ap, ◌∙◌, subst, inl, inr}
use Rattle.grammar.specs.Parse.{Parser, Class, within}
use Rattle.grammar.specs.Classes.{only, Tail, MultiFirst, Digit, Digit1To9, Exponent, Signs, Hex, Escaped, Plain}
use Rattle.grammar.specs.Grammar.{All, Multi, two, three_E0, three_E1, three_ED, three_EE, four_F0, four_F1, four_F4, Char, one, several, Many, none, Minus, plus, minus, Int, zero, other, Frac, whole, point, Exp, plain, bare, signed, Number, number, StringChar, unescaped, escape, unicode, quoted}
use Rattle.grammar.specs.Reader.{or_p, byte_p, empty_p, cat_p, run_p, many_p, tail_p, two_p, three_p, four_p, multi_p, char_p, chars_p, minus_p, digits_p, int_p, frac_p, power_p, exp_p, number_p, hex_p, unicode_p, escape_p, string_char_p, StringFirst, string_p}
use Rattle.grammar.proofs.Laws.{apart}
use Rattle.grammar.proofs.Bytes.{ByteLaws, is_only, say, Is, byte_laws, Empty, empty_laws, Cat, cat_laws, Or, or_laws, run_laws, many_laws}

abbrev Two : Class → Class → List ℕ → Type 0
Two a b = Cat (Is a) (Is b)

abbrev Three : Class → Class → Class → List ℕ → Type 0
Three a b c = Cat (Is a) (Two b c)

abbrev Four : Class → Class → Class → Class → List ℕ → Type 0
Four a b c d = Cat (Is a) (Three b c d)

pub record Bytes2 (a b : Class) (u : List ℕ) : Type 0 where
  pub x : ℕ
  pub y : ℕ
  pub is : u ≡ x ∷ y ∷ []
  pub in_x : within a x ≡ true
  pub in_y : within b y ≡ true

pub record Bytes3 (a b c : Class) (u : List ℕ) : Type 0 where
  pub x : ℕ
  pub y : ℕ
  pub z : ℕ
  pub is : u ≡ x ∷ y ∷ z ∷ []
  pub in_x : within a x ≡ true
  pub in_y : within b y ≡ true
  pub in_z : within c z ≡ true

pub record Bytes4 (a b c d : Class) (u : List ℕ) : Type 0 where
  pub x : ℕ
  pub y : ℕ
  pub z : ℕ
  pub w : ℕ
  pub is : u ≡ x ∷ y ∷ z ∷ w ∷ []
  pub in_x : within a x ≡ true
  pub in_y : within b y ≡ true
  pub in_z : within c z ≡ true
  pub in_w : within d w ≡ true

of2 : (a b : Class) (u : List ℕ) → Two a b u → Bytes2 a b u
of2 a b u l = record { x = l.3.0; y = l.4.0; is = l.2 ∙ ap (λ v. v ++ l.1) l.3.1 ∙ ap (λ v. l.3.0 ∷ v) l.4.1; in_x = l.3.2; in_y = l.4.2 }

of3 : (a b c : Class) (u : List ℕ) → Three a b c u → Bytes3 a b c u
of3 a b c u l =
    let m = of2 b c l.1 l.4 in
    record { x = l.3.0; y = m.x; z = m.y; is = l.2 ∙ ap (λ v. v ++ l.1) l.3.1 ∙ ap (λ v. l.3.0 ∷ v) m.is; in_x = l.3.2; in_y = m.in_x; in_z = m.in_y }

of4 : (a b c d : Class) (u : List ℕ) → Four a b c d u → Bytes4 a b c d u
of4 a b c d u l =
    let m = of3 b c d l.1 l.4 in
    record { x = l.3.0; y = m.x; z = m.y; w = m.z; is = l.2 ∙ ap (λ v. v ++ l.1) l.3.1 ∙ ap (λ v. l.3.0 ∷ v) m.is; in_x = l.3.2; in_y = m.in_x; in_z = m.in_y; in_w = m.in_z }

mk1 : (a : Class) (x : ℕ) → within a x ≡ true → Is a (x ∷ [])
mk1 a x h = (x, refl, h)

mk2 : (a b : Class) (x y : ℕ) → within a x ≡ true → within b y ≡ true → Two a b (x ∷ y ∷ [])
mk2 a b x y h k = (x ∷ [], y ∷ [], refl, mk1 a x h, mk1 b y k)

mk3 : (a b c : Class) (x y z : ℕ) → within a x ≡ true → within b y ≡ true → within c z ≡ true → Three a b c (x ∷ y ∷ z ∷ [])
mk3 a b c x y z h k m = (x ∷ [], y ∷ z ∷ [], refl, mk1 a x h, mk2 b c y z k m)

mk4 : (a b c d : Class) (x y z w : ℕ) → within a x ≡ true → within b y ≡ true → within c z ≡ true → within d w ≡ true → Four a b c d (x ∷ y ∷ z ∷ w ∷ [])
mk4 a b c d x y z w h k m n = (x ∷ [], y ∷ z ∷ w ∷ [], refl, mk1 a x h, mk3 b c d y z w k m n)

two_laws : (a b : Class) (x y : ℕ) → within a x ≡ true → within b y ≡ true → apart b [] ≡ true → ByteLaws (Two a b) (cat_p (byte_p a) (byte_p b)) (a ++ []) false []
two_laws a b x y h k d = cat_laws (Is a) (Is b) (byte_p a) (byte_p b) a b false false [] [] (byte_laws a x h) (byte_laws b y k) d (y ∷ []) (mk1 b y k)

three_laws : (a b : Class) (x y : ℕ) → within a x ≡ true → within b y ≡ true → apart b [] ≡ true → apart (b ++ []) [] ≡ true → ByteLaws (Three a b Tail) (three_p a b) (a ++ []) false []
three_laws a b x y h k d e = cat_laws (Is a) (Two b Tail) (byte_p a) (cat_p (byte_p b) tail_p) a (b ++ []) false false [] [] (byte_laws a x h) (two_laws b Tail y 128 k refl refl) e (y ∷ 128 ∷ []) (mk2 b Tail y 128 k refl)

four_laws : (a b : Class) (x y : ℕ) → within a x ≡ true → within b y ≡ true → apart (b ++ []) [] ≡ true → ByteLaws (Four a b Tail Tail) (four_p a b) (a ++ []) false []
four_laws a b x y h k e =
    cat_laws (Is a) (Three b Tail Tail) (byte_p a) (cat_p (byte_p b) (cat_p tail_p tail_p)) a (b ++ []) false false [] [] (byte_laws a x h)
    (cat_laws (Is b) (Two Tail Tail) (byte_p b) (cat_p tail_p tail_p) b Tail false false [] [] (byte_laws b y k) (two_laws Tail Tail 128 128 refl refl refl) refl (128 ∷ 128 ∷ []) (mk2 Tail Tail 128 128 refl refl))
    e (y ∷ 128 ∷ 128 ∷ []) (mk3 b Tail Tail y 128 128 k refl refl)

-- RFC 3629, section 4, case by case
abbrev C2 : Class
C2 = (194, 223) ∷ []

abbrev E1 : Class
E1 = (225, 236) ∷ []

abbrev EE : Class
EE = (238, 239) ∷ []

abbrev F1 : Class
F1 = (241, 243) ∷ []

abbrev A0 : Class
A0 = (160, 191) ∷ []

abbrev T9 : Class
T9 = (128, 159) ∷ []

abbrev T90 : Class
T90 = (144, 191) ∷ []

abbrev T8 : Class
T8 = (128, 143) ∷ []

abbrev M8 : List ℕ → Type 0
M8 = Four (only 244) T8 Tail Tail

abbrev M7 : List ℕ → Type 0
M7 = Or (Four F1 Tail Tail Tail) M8

abbrev M6 : List ℕ → Type 0
M6 = Or (Four (only 240) T90 Tail Tail) M7

abbrev M5 : List ℕ → Type 0
M5 = Or (Three EE Tail Tail) M6

abbrev M4 : List ℕ → Type 0
M4 = Or (Three (only 237) T9 Tail) M5

abbrev M3 : List ℕ → Type 0
M3 = Or (Three E1 Tail Tail) M4

abbrev M2 : List ℕ → Type 0
M2 = Or (Three (only 224) A0 Tail) M3

abbrev M1 : List ℕ → Type 0
M1 = Or (Two C2 Tail) M2

abbrev P8 : Parser (List ℕ)
P8 = four_p (only 244) T8

abbrev K8 : Class
K8 = only 244

abbrev P7 : Parser (List ℕ)
P7 = or_p F1 (four_p F1 Tail) P8

abbrev K7 : Class
K7 = F1 ++ K8

abbrev P6 : Parser (List ℕ)
P6 = or_p (only 240) (four_p (only 240) T90) P7

abbrev K6 : Class
K6 = only 240 ++ K7

abbrev P5 : Parser (List ℕ)
P5 = or_p EE (three_p EE Tail) P6

abbrev K5 : Class
K5 = EE ++ K6

abbrev P4 : Parser (List ℕ)
P4 = or_p (only 237) (three_p (only 237) T9) P5

abbrev K4 : Class
K4 = only 237 ++ K5

abbrev P3 : Parser (List ℕ)
P3 = or_p E1 (three_p E1 Tail) P4

abbrev K3 : Class
K3 = E1 ++ K4

abbrev P2 : Parser (List ℕ)
P2 = or_p (only 224) (three_p (only 224) A0) P3

abbrev K2 : Class
K2 = only 224 ++ K3

m7_laws : ByteLaws M7 P7 K7 false []
m7_laws = or_laws (Four F1 Tail Tail Tail) M8 (four_p F1 Tail) (four_p (only 244) T8) F1 (only 244) false [] [] (four_laws F1 Tail 241 128 refl refl refl) (four_laws (only 244) T8 244 128 refl refl refl) refl

m6_laws : ByteLaws M6 P6 K6 false []
m6_laws = or_laws (Four (only 240) T90 Tail Tail) M7 (four_p (only 240) T90) P7 (only 240) K7 false [] [] (four_laws (only 240) T90 240 144 refl refl refl) m7_laws refl

m5_laws : ByteLaws M5 P5 K5 false []
m5_laws = or_laws (Three EE Tail Tail) M6 (three_p EE Tail) P6 EE K6 false [] [] (three_laws EE Tail 238 128 refl refl refl refl) m6_laws refl

m4_laws : ByteLaws M4 P4 K4 false []
m4_laws = or_laws (Three (only 237) T9 Tail) M5 (three_p (only 237) T9) P5 (only 237) K5 false [] [] (three_laws (only 237) T9 237 128 refl refl refl refl) m5_laws refl

m3_laws : ByteLaws M3 P3 K3 false []
m3_laws = or_laws (Three E1 Tail Tail) M4 (three_p E1 Tail) P4 E1 K4 false [] [] (three_laws E1 Tail 225 128 refl refl refl refl) m4_laws refl

m2_laws : ByteLaws M2 P2 K2 false []
m2_laws = or_laws (Three (only 224) A0 Tail) M3 (three_p (only 224) A0) P3 (only 224) K3 false [] [] (three_laws (only 224) A0 224 160 refl refl refl refl) m3_laws refl

m1_laws : ByteLaws M1 multi_p MultiFirst false []
m1_laws = or_laws (Two C2 Tail) M2 two_p P2 C2 K2 false [] [] (two_laws C2 Tail 194 128 refl refl refl) m2_laws refl

multi_to : (u : List ℕ) → M1 u → Multi u
multi_to u (inl l) = (let k = of2 C2 Tail u l in subst Multi (sym k.is) (two k.x k.y k.in_x k.in_y))
multi_to u (inr (inl l)) = (let k = of3 (only 224) A0 Tail u l in subst Multi (sym (k.is ∙ ap (λ v. v ∷ k.y ∷ k.z ∷ []) (is_only 224 k.x k.in_x))) (three_E0 k.y k.z k.in_y k.in_z))
multi_to u (inr (inr (inl l))) = (let k = of3 E1 Tail Tail u l in subst Multi (sym k.is) (three_E1 k.x k.y k.z k.in_x k.in_y k.in_z))
multi_to u (inr (inr (inr (inl l)))) = (let k = of3 (only 237) T9 Tail u l in subst Multi (sym (k.is ∙ ap (λ v. v ∷ k.y ∷ k.z ∷ []) (is_only 237 k.x k.in_x))) (three_ED k.y k.z k.in_y k.in_z))
multi_to u (inr (inr (inr (inr (inl l))))) = (let k = of3 EE Tail Tail u l in subst Multi (sym k.is) (three_EE k.x k.y k.z k.in_x k.in_y k.in_z))
multi_to u (inr (inr (inr (inr (inr (inl l)))))) = (let k = of4 (only 240) T90 Tail Tail u l in subst Multi (sym (k.is ∙ ap (λ v. v ∷ k.y ∷ k.z ∷ k.w ∷ []) (is_only 240 k.x k.in_x))) (four_F0 k.y k.z k.w k.in_y k.in_z k.in_w))
multi_to u (inr (inr (inr (inr (inr (inr (inl l))))))) = (let k = of4 F1 Tail Tail Tail u l in subst Multi (sym k.is) (four_F1 k.x k.y k.z k.w k.in_x k.in_y k.in_z k.in_w))
multi_to u (inr (inr (inr (inr (inr (inr (inr l))))))) = (let k = of4 (only 244) T8 Tail Tail u l in subst Multi (sym (k.is ∙ ap (λ v. v ∷ k.y ∷ k.z ∷ k.w ∷ []) (is_only 244 k.x k.in_x))) (four_F4 k.y k.z k.w k.in_y k.in_z k.in_w))

multi_from : {u : List ℕ} → Multi u → M1 u
multi_from (two a b h k) = inl (mk2 C2 Tail a b h k)
multi_from (three_E0 b c h k) = inr (inl (mk3 (only 224) A0 Tail 224 b c refl h k))
multi_from (three_E1 a b c g h k) = inr (inr (inl (mk3 E1 Tail Tail a b c g h k)))
multi_from (three_ED b c h k) = inr (inr (inr (inl (mk3 (only 237) T9 Tail 237 b c refl h k))))
multi_from (three_EE a b c g h k) = inr (inr (inr (inr (inl (mk3 EE Tail Tail a b c g h k)))))
multi_from (four_F0 b c d h k m) = inr (inr (inr (inr (inr (inl (mk4 (only 240) T90 Tail Tail 240 b c d refl h k m))))))
multi_from (four_F1 a b c d g h k m) = inr (inr (inr (inr (inr (inr (inl (mk4 F1 Tail Tail Tail a b c d g h k m)))))))
multi_from (four_F4 b c d h k m) = inr (inr (inr (inr (inr (inr (inr (mk4 (only 244) T8 Tail Tail 244 b c d refl h k m)))))))

pub multi_laws : ByteLaws Multi multi_p MultiFirst false []
multi_laws = say M1 Multi multi_p MultiFirst false [] m1_laws multi_to (λ u l. multi_from l)

-- characters
char_to : (c : Class) (u : List ℕ) → Or (Is c) Multi u → Char c u
char_to c u (inl l) = subst (Char c) (sym l.1) (one l.0 l.2)
char_to c u (inr m) = several m

char_from : (c : Class) {u : List ℕ} → Char c u → Or (Is c) Multi u
char_from c (one b h) = inl (b, refl, h)
char_from c (several m) = inr m

pub char_laws : (c : Class) (a : ℕ) → within c a ≡ true → apart MultiFirst c ≡ true → ByteLaws (Char c) (char_p c) (c ++ MultiFirst) false []
char_laws c a h d = say (Or (Is c) Multi) (Char c) (char_p c) (c ++ MultiFirst) false [] (or_laws (Is c) Multi (byte_p c) multi_p c MultiFirst false [] [] (byte_laws c a h) multi_laws d) (char_to c) (λ u l. char_from c l)

pub chars_laws : (c : Class) (a : ℕ) → within c a ≡ true → apart MultiFirst c ≡ true → ByteLaws (Many (Char c)) (chars_p c) (c ++ MultiFirst) true (c ++ MultiFirst)
chars_laws c a h d = many_laws (Char c) (char_p c) (c ++ MultiFirst) (char_laws c a h d)

-- numbers
abbrev Digits : List ℕ → Type 0
Digits = Cat (Is Digit) (All Digit)

record Digits1 (u : List ℕ) : Type 0 where
  d : ℕ
  ds : List ℕ
  is : u ≡ d ∷ ds
  in_d : within Digit d ≡ true
  in_ds : All Digit ds

of_digits : (u : List ℕ) → Digits u → Digits1 u
of_digits u l = record { d = l.3.0; ds = l.1; is = l.2 ∙ ap (λ v. v ++ l.1) l.3.1; in_d = l.3.2; in_ds = l.4 }

mk_digits : (d : ℕ) (ds : List ℕ) → within Digit d ≡ true → All Digit ds → Digits (d ∷ ds)
mk_digits d ds h k = (d ∷ [], ds, refl, mk1 Digit d h, k)

digits_laws : ByteLaws Digits digits_p Digit false Digit
digits_laws = cat_laws (Is Digit) (All Digit) (byte_p Digit) (run_p Digit) Digit Digit false true [] Digit (byte_laws Digit 48 refl) (run_laws Digit) refl [] tt

minus_to : (u : List ℕ) → Or (Is (only 45)) Empty u → Minus u
minus_to u (inl l) = subst Minus (sym (l.1 ∙ ap (λ v. v ∷ []) (is_only 45 l.0 l.2))) minus
minus_to u (inr l) = subst Minus (sym l) plus

minus_from : {u : List ℕ} → Minus u → Or (Is (only 45)) Empty u
minus_from plus = inr refl
minus_from minus = inl (45, refl, refl)

minus_laws : ByteLaws Minus minus_p (only 45) true (only 45)
minus_laws = say (Or (Is (only 45)) Empty) Minus minus_p (only 45) true (only 45) (or_laws (Is (only 45)) Empty (byte_p (only 45)) empty_p (only 45) [] true [] [] (byte_laws (only 45) 45 refl) empty_laws refl) minus_to (λ u l. minus_from l)

abbrev Int2 : List ℕ → Type 0
Int2 = Or (Is (only 48)) (Cat (Is Digit1To9) (All Digit))

int_to : (u : List ℕ) → Int2 u → Int u
int_to u (inl l) = subst Int (sym (l.1 ∙ ap (λ v. v ∷ []) (is_only 48 l.0 l.2))) zero
int_to u (inr l) = subst Int (sym (l.2 ∙ ap (λ v. v ++ l.1) l.3.1)) (other l.3.0 l.1 l.3.2 l.4)

int_from : {u : List ℕ} → Int u → Int2 u
int_from zero = inl (48, refl, refl)
int_from (other d ds h k) = inr (d ∷ [], ds, refl, (d, refl, h), k)

abbrev IntFirst : Class
IntFirst = only 48 ++ Digit1To9

int_laws : ByteLaws Int int_p IntFirst false Digit
int_laws = say Int2 Int int_p IntFirst false Digit (or_laws (Is (only 48)) (Cat (Is Digit1To9) (All Digit)) (byte_p (only 48)) (cat_p (byte_p Digit1To9) (run_p Digit)) (only 48) Digit1To9 false [] Digit (byte_laws (only 48) 48 refl)
    (cat_laws (Is Digit1To9) (All Digit) (byte_p Digit1To9) (run_p Digit) Digit1To9 Digit false true [] Digit (byte_laws Digit1To9 49 refl) (run_laws Digit) refl [] tt) refl) int_to (λ u l. int_from l)

abbrev Frac2 : List ℕ → Type 0
Frac2 = Or (Cat (Is (only 46)) Digits) Empty

frac_to : (u : List ℕ) → Frac2 u → Frac u
frac_to u (inl l) =
    let k = of_digits l.1 l.4 in
    subst Frac (sym (l.2 ∙ ap (λ v. v ++ l.1) (l.3.1 ∙ ap (λ v. v ∷ []) (is_only 46 l.3.0 l.3.2)) ∙ ap (λ v. 46 ∷ v) k.is)) (point k.d k.ds k.in_d k.in_ds)
frac_to u (inr l) = subst Frac (sym l) whole

frac_from : {u : List ℕ} → Frac u → Frac2 u
frac_from whole = inr refl
frac_from (point d ds h k) = inl (46 ∷ [], d ∷ ds, refl, (46, refl, refl), mk_digits d ds h k)

frac_laws : ByteLaws Frac frac_p (only 46) true (Digit ++ only 46)
frac_laws = say Frac2 Frac frac_p (only 46) true (Digit ++ only 46) (or_laws (Cat (Is (only 46)) Digits) Empty (cat_p (byte_p (only 46)) digits_p) empty_p (only 46) [] true Digit []
    (cat_laws (Is (only 46)) Digits (byte_p (only 46)) digits_p (only 46) Digit false false [] Digit (byte_laws (only 46) 46 refl) digits_laws refl (48 ∷ []) (mk_digits 48 [] refl tt)) empty_laws refl) frac_to (λ u l. frac_from l)

abbrev Power : List ℕ → Type 0
Power = Or (Cat (Is Signs) Digits) Digits

power_laws : ByteLaws Power power_p (Signs ++ Digit) false (Digit ++ Digit)
power_laws = or_laws (Cat (Is Signs) Digits) Digits (cat_p (byte_p Signs) digits_p) digits_p Signs Digit false Digit Digit
    (cat_laws (Is Signs) Digits (byte_p Signs) digits_p Signs Digit false false [] Digit (byte_laws Signs 43 refl) digits_laws refl (48 ∷ []) (mk_digits 48 [] refl tt)) digits_laws refl

abbrev Exp2 : List ℕ → Type 0
Exp2 = Or (Cat (Is Exponent) Power) Empty

exp_to : (u : List ℕ) → Exp2 u → Exp u
exp_to u (inl (e, v, i, l, inl m)) =
    let k = of_digits m.1 m.4 in
    subst Exp (sym (i ∙ ap (λ y. y ++ v) l.1 ∙ ap (λ y. l.0 ∷ y) (m.2 ∙ ap (λ y. y ++ m.1) m.3.1 ∙ ap (λ y. m.3.0 ∷ y) k.is))) (signed l.0 m.3.0 k.d k.ds l.2 m.3.2 k.in_d k.in_ds)
exp_to u (inl (e, v, i, l, inr m)) =
    let k = of_digits v m in
    subst Exp (sym (i ∙ ap (λ y. y ++ v) l.1 ∙ ap (λ y. l.0 ∷ y) k.is)) (bare l.0 k.d k.ds l.2 k.in_d k.in_ds)
exp_to u (inr l) = subst Exp (sym l) plain

exp_from : {u : List ℕ} → Exp u → Exp2 u
exp_from plain = inr refl
exp_from (bare e d ds g h k) = inl (e ∷ [], d ∷ ds, refl, (e, refl, g), inr (mk_digits d ds h k))
exp_from (signed e s d ds g f h k) = inl (e ∷ [], s ∷ d ∷ ds, refl, (e, refl, g), inl (s ∷ [], d ∷ ds, refl, (s, refl, f), mk_digits d ds h k))

abbrev ExpMore : Class
ExpMore = (Digit ++ Digit) ++ Exponent

exp_laws : ByteLaws Exp exp_p Exponent true ExpMore
exp_laws = say Exp2 Exp exp_p Exponent true ExpMore (or_laws (Cat (Is Exponent) Power) Empty (cat_p (byte_p Exponent) power_p) empty_p Exponent [] true (Digit ++ Digit) []
    (cat_laws (Is Exponent) Power (byte_p Exponent) power_p Exponent (Signs ++ Digit) false false [] (Digit ++ Digit) (byte_laws Exponent 101 refl) power_laws refl (48 ∷ []) (inr (mk_digits 48 [] refl tt))) empty_laws refl) exp_to (λ u l. exp_from l)

abbrev Number2 : List ℕ → Type 0
Number2 = Cat Minus (Cat Int (Cat Frac Exp))

number_to : (u : List ℕ) → Number2 u → Number u
number_to u l =
    let m = l.4 in
    let n = m.4 in
    subst Number (sym (l.2 ∙ ap (λ y. l.0 ++ y) (m.2 ∙ ap (λ y. m.0 ++ y) n.2))) (number l.3 m.3 n.3 n.4)

number_from : {u : List ℕ} → Number u → Number2 u
number_from (number {m = m} {i = i} {f = f} {e = e} x y z w) = (m, i ++ (f ++ e), refl, x, (i, f ++ e, refl, y, (f, e, refl, z, w)))

-- what begins a number, and what may go on one
abbrev pub NumberFirst : Class
NumberFirst = only 45 ++ IntFirst

abbrev pub NumberMore : Class
NumberMore = (ExpMore ++ (Digit ++ only 46)) ++ Digit

pub number_laws : ByteLaws Number number_p NumberFirst false NumberMore
number_laws = say Number2 Number number_p NumberFirst false NumberMore
    (cat_laws Minus (Cat Int (Cat Frac Exp)) minus_p (cat_p int_p (cat_p frac_p exp_p)) (only 45) IntFirst true false (only 45) NumberMore minus_laws
    (cat_laws Int (Cat Frac Exp) int_p (cat_p frac_p exp_p) IntFirst (only 46 ++ Exponent) false true Digit (ExpMore ++ (Digit ++ only 46)) int_laws
    (cat_laws Frac Exp frac_p exp_p (only 46) Exponent true true (Digit ++ only 46) ExpMore frac_laws exp_laws refl [] plain)
    refl [] ([], [], refl, whole, plain))
    refl (48 ∷ []) (48 ∷ [], [], refl, zero, ([], [], refl, whole, plain)))
    number_to (λ u l. number_from l)

-- strings
abbrev Hex4 : List ℕ → Type 0
Hex4 = Four Hex Hex Hex Hex

abbrev Escape2 : List ℕ → Type 0
Escape2 = Cat (Is (only 92)) (Or (Cat (Is (only 117)) Hex4) (Is Escaped))

hex4_laws : ByteLaws Hex4 (cat_p hex_p (cat_p hex_p (cat_p hex_p hex_p))) Hex false []
hex4_laws =
    cat_laws (Is Hex) (Three Hex Hex Hex) hex_p (cat_p hex_p (cat_p hex_p hex_p)) Hex Hex false false [] [] (byte_laws Hex 48 refl)
    (cat_laws (Is Hex) (Two Hex Hex) hex_p (cat_p hex_p hex_p) Hex Hex false false [] [] (byte_laws Hex 48 refl) (two_laws Hex Hex 48 48 refl refl refl) refl (48 ∷ 48 ∷ []) (mk2 Hex Hex 48 48 refl refl))
    refl (48 ∷ 48 ∷ 48 ∷ []) (mk3 Hex Hex Hex 48 48 48 refl refl refl)

escape_laws : ByteLaws Escape2 escape_p (only 92) false []
escape_laws = cat_laws (Is (only 92)) (Or (Cat (Is (only 117)) Hex4) (Is Escaped)) (byte_p (only 92)) (or_p (only 117) unicode_p (byte_p Escaped)) (only 92) (only 117 ++ Escaped) false false [] [] (byte_laws (only 92) 92 refl)
    (or_laws (Cat (Is (only 117)) Hex4) (Is Escaped) unicode_p (byte_p Escaped) (only 117) Escaped false [] []
    (cat_laws (Is (only 117)) Hex4 (byte_p (only 117)) (cat_p hex_p (cat_p hex_p (cat_p hex_p hex_p))) (only 117) Hex false false [] [] (byte_laws (only 117) 117 refl) hex4_laws refl (48 ∷ 48 ∷ 48 ∷ 48 ∷ []) (mk4 Hex Hex Hex Hex 48 48 48 48 refl refl refl refl))
    (byte_laws Escaped 34 refl) refl)
    refl (34 ∷ []) (inr (mk1 Escaped 34 refl))

strchar_to : (u : List ℕ) → Or Escape2 (Char Plain) u → StringChar u
strchar_to u (inl (a, v, i, l, inl m)) =
    let k = of4 Hex Hex Hex Hex m.1 m.4 in
    subst StringChar (sym (i ∙ ap (λ y. y ++ v) (l.1 ∙ ap (λ y. y ∷ []) (is_only 92 l.0 l.2)) ∙ ap (λ y. 92 ∷ y) (m.2 ∙ ap (λ y. y ++ m.1) (m.3.1 ∙ ap (λ y. y ∷ []) (is_only 117 m.3.0 m.3.2)) ∙ ap (λ y. 117 ∷ y) k.is))) (unicode k.x k.y k.z k.w k.in_x k.in_y k.in_z k.in_w)
strchar_to u (inl (a, v, i, l, inr m)) =
    subst StringChar (sym (i ∙ ap (λ y. y ++ v) (l.1 ∙ ap (λ y. y ∷ []) (is_only 92 l.0 l.2)) ∙ ap (λ y. 92 ∷ y) m.1)) (escape m.0 m.2)
strchar_to u (inr m) = unescaped m

strchar_from : {u : List ℕ} → StringChar u → Or Escape2 (Char Plain) u
strchar_from (unescaped m) = inr m
strchar_from (escape b h) = inl (92 ∷ [], b ∷ [], refl, (92, refl, refl), inr (b, refl, h))
strchar_from (unicode a b c d h k m n) = inl (92 ∷ [], 117 ∷ a ∷ b ∷ c ∷ d ∷ [], refl, (92, refl, refl), inl (117 ∷ [], a ∷ b ∷ c ∷ d ∷ [], refl, (117, refl, refl), mk4 Hex Hex Hex Hex a b c d h k m n))

pub strchar_laws : ByteLaws StringChar string_char_p StringFirst false []
strchar_laws = say (Or Escape2 (Char Plain)) StringChar string_char_p StringFirst false [] (or_laws Escape2 (Char Plain) escape_p (char_p Plain) (only 92) (Plain ++ MultiFirst) false [] [] escape_laws (char_laws Plain 32 refl refl) refl) strchar_to (λ u l. strchar_from l)

-- a string with its quotes
abbrev pub Quoted : List ℕ → Type 0
Quoted u = (t : List ℕ) × (u ≡ quoted t) × Many StringChar t

abbrev Quoted2 : List ℕ → Type 0
Quoted2 = Cat (Is (only 34)) (Cat (Many StringChar) (Is (only 34)))

quoted_to : (u : List ℕ) → Quoted2 u → Quoted u
quoted_to u l =
    let m = l.4 in (
      m.0,
      l.2 ∙ ap (λ y. y ++ l.1) (l.3.1 ∙ ap (λ y. y ∷ []) (is_only 34 l.3.0 l.3.2)) ∙ ap (λ y. 34 ∷ y) (m.2 ∙ ap (λ y. m.0 ++ y) (m.4.1 ∙ ap (λ y. y ∷ []) (is_only 34 m.4.0 m.4.2))),
      m.3,
    )

quoted_from : (u : List ℕ) → Quoted u → Quoted2 u
quoted_from u l = (34 ∷ [], l.0 ++ 34 ∷ [], l.1, (34, refl, refl), (l.0, 34 ∷ [], refl, l.2, (34, refl, refl)))

pub string_laws : ByteLaws Quoted string_p (only 34) false []
string_laws = say Quoted2 Quoted string_p (only 34) false []
    (cat_laws (Is (only 34)) (Cat (Many StringChar) (Is (only 34))) (byte_p (only 34)) (cat_p (many_p StringFirst string_char_p) (byte_p (only 34))) (only 34) (StringFirst ++ only 34) false false [] [] (byte_laws (only 34) 34 refl)
    (cat_laws (Many StringChar) (Is (only 34)) (many_p StringFirst string_char_p) (byte_p (only 34)) StringFirst (only 34) true false StringFirst [] (many_laws StringChar string_char_p StringFirst strchar_laws) (byte_laws (only 34) 34 refl) refl (34 ∷ []) (34, refl, refl))
    refl (34 ∷ []) ([], 34 ∷ [], refl, none, (34, refl, refl)))
    quoted_to quoted_from
