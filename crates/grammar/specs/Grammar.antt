-- The grammar of house files: which bytes are a text, and with which layout. Assumes nothing.
use Rattle.std.specs.Prelude.{◌≡◌, ℕ, Bool, true, false, List, [], ◌∷◌, ◌++◌, ◌≢◌}
use Rattle.grammar.specs.Parse.{Class, within}
use Rattle.grammar.specs.Classes.{Ascii, Tail, Digit, Digit1To9, Exponent, Signs, Hex, Escaped, Plain, Blank, LineEnd, InLine}
use Rattle.grammar.specs.Layout.{Comment, Line, Block, Open, Close, Comma, Colon, Name, Label, Null, Boolean, Numeral, Text, Array, Object, Member, Layout, stop, note, mark, item}

-- each byte is of the class
abbrev pub All : Class → List ℕ → Type 0
All c [] = Unit {0}
All c (b ∷ t) = (within c b ≡ true) × All c t

-- RFC 3629, section 4: UTF8-2, UTF8-3 and UTF8-4
pub data Multi : List ℕ → Type 0 where
  two : (a b : ℕ) → within ((194, 223) ∷ []) a ≡ true → within Tail b ≡ true → Multi (a ∷ b ∷ [])
  three_E0 : (b c : ℕ) → within ((160, 191) ∷ []) b ≡ true → within Tail c ≡ true → Multi (224 ∷ b ∷ c ∷ [])
  three_E1 : (a b c : ℕ) → within ((225, 236) ∷ []) a ≡ true → within Tail b ≡ true → within Tail c ≡ true → Multi (a ∷ b ∷ c ∷ [])
  three_ED : (b c : ℕ) → within ((128, 159) ∷ []) b ≡ true → within Tail c ≡ true → Multi (237 ∷ b ∷ c ∷ [])
  three_EE : (a b c : ℕ) → within ((238, 239) ∷ []) a ≡ true → within Tail b ≡ true → within Tail c ≡ true → Multi (a ∷ b ∷ c ∷ [])
  four_F0 : (b c d : ℕ) → within ((144, 191) ∷ []) b ≡ true → within Tail c ≡ true → within Tail d ≡ true → Multi (240 ∷ b ∷ c ∷ d ∷ [])
  four_F1 : (a b c d : ℕ) → within ((241, 243) ∷ []) a ≡ true → within Tail b ≡ true → within Tail c ≡ true → within Tail d ≡ true → Multi (a ∷ b ∷ c ∷ d ∷ [])
  four_F4 : (b c d : ℕ) → within ((128, 143) ∷ []) b ≡ true → within Tail c ≡ true → within Tail d ≡ true → Multi (244 ∷ b ∷ c ∷ d ∷ [])

-- UTF8-char, where only the one-byte characters of a class are taken
pub data Char (c : Class) : List ℕ → Type 0 where
  one : (b : ℕ) → within c b ≡ true → Char c (b ∷ [])
  several : {u : List ℕ} → Multi u → Char c u

-- any number of them, one behind the other
pub data Many (P : List ℕ → Type 0) : List ℕ → Type 0 where
  none : Many P []
  next : {u v : List ℕ} → P u → Many P v → Many P (u ++ v)

-- RFC 8259, section 6: number = [ minus ] int [ frac ] [ exp ]
pub data Minus : List ℕ → Type 0 where
  plus : Minus []
  minus : Minus (45 ∷ [])

-- int = zero / ( digit1-9 *DIGIT )
pub data Int : List ℕ → Type 0 where
  zero : Int (48 ∷ [])
  other : (d : ℕ) (ds : List ℕ) → within Digit1To9 d ≡ true → All Digit ds → Int (d ∷ ds)

-- frac = decimal-point 1*DIGIT
pub data Frac : List ℕ → Type 0 where
  whole : Frac []
  point : (d : ℕ) (ds : List ℕ) → within Digit d ≡ true → All Digit ds → Frac (46 ∷ d ∷ ds)

-- exp = e [ minus / plus ] 1*DIGIT
pub data Exp : List ℕ → Type 0 where
  plain : Exp []
  bare : (e d : ℕ) (ds : List ℕ) → within Exponent e ≡ true → within Digit d ≡ true → All Digit ds → Exp (e ∷ d ∷ ds)
  signed : (e s d : ℕ) (ds : List ℕ) → within Exponent e ≡ true → within Signs s ≡ true → within Digit d ≡ true → All Digit ds → Exp (e ∷ s ∷ d ∷ ds)

pub data Number : List ℕ → Type 0 where
  number : {m i f e : List ℕ} → Minus m → Int i → Frac f → Exp e → Number (m ++ (i ++ (f ++ e)))

-- RFC 8259, section 7: char = unescaped / escape ( .. / %x75 4HEXDIG ); a `\u` escape may be half of a surrogate pair
pub data StringChar : List ℕ → Type 0 where
  unescaped : {u : List ℕ} → Char Plain u → StringChar u
  escape : (b : ℕ) → within Escaped b ≡ true → StringChar (92 ∷ b ∷ [])
  unicode : (a b c d : ℕ) → within Hex a ≡ true → within Hex b ≡ true → within Hex c ≡ true → within Hex d ≡ true → StringChar (92 ∷ 117 ∷ a ∷ b ∷ c ∷ d ∷ [])

-- string = quotation-mark *char quotation-mark
abbrev pub quoted : List ℕ → List ℕ
quoted t = 34 ∷ (t ++ 34 ∷ [])

-- `*/` stands nowhere in the bytes
abbrev pub Shut : List ℕ → Type 0
Shut t = (x y : List ℕ) → t ≢ x ++ 42 ∷ 47 ∷ y

-- a line comment, up to the next CR, LF or end
pub data LineComment : List ℕ → Type 0 where
  line : {t : List ℕ} → Many (Char InLine) t → LineComment (47 ∷ 47 ∷ t)

-- a block comment, through the first `*/` after its `/*`
pub data BlockComment : List ℕ → Type 0 where
  block : {t : List ℕ} → Many (Char Ascii) t → Shut t → BlockComment (47 ∷ 42 ∷ (t ++ 42 ∷ 47 ∷ []))

-- what stands between two lexemes: comments, each with whether a Newline stands in front of it, and whether one stands behind them all
pub data Between : Type 0 where
  quiet : Bool → Between
  remark : Bool → Comment → Between → Between

-- a Newline in front
abbrev pub broken : Between → Between
broken (quiet b) = quiet true
broken (remark b c g) = remark true c g

-- the layout of what stands between, and then of what follows
abbrev pub after : Between → (Bool → Layout) → Layout
after (quiet b) k = k b
after (remark b c g) k = note b c (after g k)

-- trivia; at the end of the text (`true`) a line comment may be open
pub data Trivia (last : Bool) : Between → List ℕ → Type 0 where
  empty : Trivia last (quiet false) []
  blank : {g : Between} {s : List ℕ} (x : ℕ) → within Blank x ≡ true → Trivia last g s → Trivia last g (x ∷ s)
  newline : {g : Between} {s : List ℕ} (x : ℕ) → within LineEnd x ≡ true → Trivia last g s → Trivia last (broken g) (x ∷ s)
  block_comment : {g : Between} {t s : List ℕ} → BlockComment t → Trivia last g s → Trivia last (remark false (Block t) g) (t ++ s)
  line_comment : {g : Between} {t s : List ℕ} (x : ℕ) → LineComment t → within LineEnd x ≡ true → Trivia last g s → Trivia last (remark false (Line t) (broken g)) (t ++ x ∷ s)
  open_line : {t : List ℕ} → last ≡ true → LineComment t → Trivia last (remark false (Line t) (quiet false)) t

-- what a container's items stand between
pub data Frame : Type 0 where
  brackets : Frame
  braces : Frame

abbrev pub opener : Frame → ℕ
opener brackets = 91
opener braces = 123

abbrev pub closer : Frame → ℕ
closer brackets = 93
closer braces = 125

abbrev pub shut : Bool → Layout
shut b = mark b Close (stop false)

mutual
  -- value = false / null / true / object / array / number / string
  pub data Value : Label → Layout → List ℕ → Type 0 where
    null : Value Null (stop false) (110 ∷ 117 ∷ 108 ∷ 108 ∷ [])
    truth : Value (Boolean true) (stop false) (116 ∷ 114 ∷ 117 ∷ 101 ∷ [])
    falsity : Value (Boolean false) (stop false) (102 ∷ 97 ∷ 108 ∷ 115 ∷ 101 ∷ [])
    numeral : {t : List ℕ} → Number t → Value (Numeral t) (stop false) t
    text : {t : List ℕ} → Many StringChar t → Value (Text t) (stop false) (quoted t)
    array : {y : Layout} {u : List ℕ} → Items brackets y u → Value Array (mark false Open y) (91 ∷ u)
    object : {y : Layout} {u : List ℕ} → Items braces y u → Value Object (mark false Open y) (123 ∷ u)

  -- an element of an array is a value; member = string name-separator value
  pub data Item : Frame → Label → Layout → List ℕ → Type 0 where
    element : {l : Label} {k : Layout} {t : List ℕ} → Value l k t → Item brackets l k t
    member : {n : List ℕ} {g h : Between} {s r : List ℕ} {l : Label} {k : Layout} {t : List ℕ}
        → Many StringChar n → Trivia false g s → Trivia false h r → Value l k t
        → Item braces (Member n) (mark false Name (after g (λ b. mark b Colon (after h (λ d. item d l k (stop false)))))) (quoted n ++ (s ++ 58 ∷ (r ++ t)))

  -- what follows an opening bracket, or a comma: the closing bracket, a last item and the bracket, or an item, a comma and more
  pub data Items : Frame → Layout → List ℕ → Type 0 where
    close : {f : Frame} {g : Between} {s : List ℕ} → Trivia false g s → Items f (after g shut) (s ++ closer f ∷ [])
    last : {f : Frame} {g h : Between} {l : Label} {k : Layout} {s t r : List ℕ}
        → Trivia false g s → Item f l k t → Trivia false h r
        → Items f (after g (λ b. item b l k (after h shut))) (s ++ (t ++ (r ++ closer f ∷ [])))
    more : {f : Frame} {g h : Between} {l : Label} {k y : Layout} {s t r u : List ℕ}
        → Trivia false g s → Item f l k t → Trivia false h r → Items f y u
        → Items f (after g (λ b. item b l k (after h (λ d. mark d Comma y)))) (s ++ (t ++ (r ++ 44 ∷ u)))

-- a text is trivia, or trivia, one value and trivia
pub data Sentence : Layout → List ℕ → Type 0 where
  nothing : {g : Between} {s : List ℕ} → Trivia true g s → Sentence (after g stop) s
  something : {g h : Between} {l : Label} {k : Layout} {s t r : List ℕ}
      → Trivia false g s → Value l k t → Trivia true h r → Sentence (after g (λ b. item b l k (after h stop))) (s ++ (t ++ r))
