-- Classes of bytes, as ranges with both ends in, in the words of RFC 3629 and RFC 8259. Assumes nothing.
use Rattle.std.specs.Prelude.{ℕ, [], ◌∷◌}
use Rattle.grammar.specs.Parse.{Class}

-- one byte alone
abbrev pub only : ℕ → Class
only b = (b, b) ∷ []

-- UTF8-1 = %x00-7F
abbrev pub Ascii : Class
Ascii = (0, 127) ∷ []

-- UTF8-tail = %x80-BF
abbrev pub Tail : Class
Tail = (128, 191) ∷ []

-- the first bytes of UTF8-2, UTF8-3 and UTF8-4
abbrev pub MultiFirst : Class
MultiFirst = (194, 223) ∷ (224, 224) ∷ (225, 236) ∷ (237, 237) ∷ (238, 239) ∷ (240, 240) ∷ (241, 243) ∷ (244, 244) ∷ []

-- DIGIT = %x30-39, and digit1-9 = %x31-39
abbrev pub Digit : Class
Digit = (48, 57) ∷ []

abbrev pub Digit1To9 : Class
Digit1To9 = (49, 57) ∷ []

-- e = %x65 / %x45
abbrev pub Exponent : Class
Exponent = (101, 101) ∷ (69, 69) ∷ []

-- plus and minus
abbrev pub Signs : Class
Signs = (43, 43) ∷ (45, 45) ∷ []

-- HEXDIG, of either case
abbrev pub Hex : Class
Hex = (48, 57) ∷ (65, 70) ∷ (97, 102) ∷ []

-- what stands behind a backslash, but for `u`: " \ / b f n r t
abbrev pub Escaped : Class
Escaped = (34, 34) ∷ (92, 92) ∷ (47, 47) ∷ (98, 98) ∷ (102, 102) ∷ (110, 110) ∷ (114, 114) ∷ (116, 116) ∷ []

-- unescaped = %x20-21 / %x23-5B / %x5D-10FFFF: those of one byte
abbrev pub Plain : Class
Plain = (32, 33) ∷ (35, 91) ∷ (93, 127) ∷ []

-- space and tab
abbrev pub Blank : Class
Blank = (32, 32) ∷ (9, 9) ∷ []

-- line feed and carriage return
abbrev pub LineEnd : Class
LineEnd = (10, 10) ∷ (13, 13) ∷ []

-- one byte of a line comment
abbrev pub InLine : Class
InLine = (0, 9) ∷ (11, 12) ∷ (14, 127) ∷ []

-- one byte of a block comment, but for the star
abbrev pub InBlock : Class
InBlock = (0, 41) ∷ (43, 127) ∷ []

-- what begins a piece of trivia: space, tab, LF, CR, slash
abbrev pub Gap : Class
Gap = (47, 47) ∷ (32, 32) ∷ (9, 9) ∷ (10, 10) ∷ (13, 13) ∷ []

-- what begins a value that is no container: a quote, the letters of null, true and false, minus, a digit
abbrev pub ScalarFirst : Class
ScalarFirst = (34, 34) ∷ (110, 110) ∷ (116, 116) ∷ (102, 102) ∷ (45, 45) ∷ (48, 57) ∷ []
