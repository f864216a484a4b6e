-- What the reader answers on a few telling texts. Assumes nothing.
use Rattle.std.specs.Prelude.{◌≡◌, ℕ, zero, suc, Bool, true, false, List, [], ◌∷◌, ◌++◌, codes}
use Rattle.grammar.specs.Pieces.{Pieces, end, leaf, box, array, property, object, name, number, whitespace, newline, comment, token, both, carriage_return, open_array, close_array, open_object, close_object, comma, colon}
use Rattle.grammar.specs.Layout.{Line, Block}
use Rattle.grammar.specs.Answer.{Answer, Read, BadText, TooDeep, read}

-- n opening brackets, and as many closing ones
abbrev pub nest : ℕ → List ℕ
nest zero = []
nest (suc n) = 91 ∷ (nest n ++ 93 ∷ [])

abbrev pub taken : Answer → Bool
taken (Read a) = true
taken (BadText k) = false
taken TooDeep = false

-- a row: a text, and the answer of the reader of 64 levels
abbrev pub Refuses : List (List ℕ × ℕ) → Type 0
Refuses [] = Unit {0}
Refuses (r ∷ rs) = (read 64 r.0 ≡ BadText r.1) × Refuses rs

abbrev pub Takes : List (List ℕ) → Type 0
Takes [] = Unit {0}
Takes (t ∷ ts) = (taken (read 64 t) ≡ true) × Takes ts

-- texts that stop being one: misplaced values and commas, numbers, comments, an open line comment in an array, looser forms, a control character in a string,
-- a byte order mark, an overlong form, half a surrogate pair in UTF-8, a character above U+10FFFF, a character that is cut off
abbrev pub refused : List (List ℕ × ℕ)
refused =
    (codes "[1 2]", 3) ∷ (codes "[,]", 1) ∷ (codes "[1,,]", 3) ∷ (codes "{,}", 1) ∷ (codes "{\"a\" 1}", 5)
    ∷ (codes "01", 1) ∷ (codes "1.", 2) ∷ (codes "-", 1) ∷ (codes "1e+", 3) ∷ (codes "tru", 3) ∷ (codes "nul]", 3)
    ∷ (codes "/", 1) ∷ (codes "/* x", 4) ∷ (codes "/* x *", 6) ∷ (codes "[1 // x", 7) ∷ (codes "[1 // x\n", 8) ∷ (codes "1 // x\n2", 7)
    ∷ (codes "'a'", 0) ∷ (codes "{a:1}", 1) ∷ (codes "NaN", 0) ∷ (codes "{\"a\":1 \"b\":2}", 7) ∷ (codes "0x1F", 1) ∷ (codes "+1", 0) ∷ (codes ".5", 0)
    ∷ (34 ∷ 9 ∷ 34 ∷ [], 1) ∷ (codes "\"\\x", 2) ∷ (codes "\"\\u00g", 5)
    ∷ (239 ∷ 187 ∷ 191 ∷ 49 ∷ [], 0) ∷ (34 ∷ 192 ∷ 128 ∷ 34 ∷ [], 1) ∷ (34 ∷ 224 ∷ 159 ∷ 191 ∷ 34 ∷ [], 2) ∷ (34 ∷ 237 ∷ 160 ∷ 128 ∷ 34 ∷ [], 2)
    ∷ (34 ∷ 244 ∷ 144 ∷ 128 ∷ 128 ∷ 34 ∷ [], 2) ∷ (47 ∷ 47 ∷ 226 ∷ 130 ∷ [], 4) ∷ (47 ∷ 47 ∷ 226 ∷ 130 ∷ 10 ∷ [], 4) ∷ []

-- texts that are taken: nothing, trivia alone, a line comment at the end, a trailing comma, half a surrogate pair escaped, a name that recurs,
-- characters of two, three and four bytes, a control character in a comment, 64 levels
abbrev pub accepted : List (List ℕ)
accepted =
    [] ∷ codes " \t\r\n\r" ∷ codes "1 // x" ∷ codes "[1,]" ∷ codes "{\"a\":1,\"a\":2,}" ∷ codes "\"\\uD800\"" ∷ codes "/***/[/*/*/]//"
    ∷ (34 ∷ 194 ∷ 128 ∷ 224 ∷ 160 ∷ 128 ∷ 237 ∷ 159 ∷ 191 ∷ 238 ∷ 128 ∷ 128 ∷ 240 ∷ 144 ∷ 128 ∷ 128 ∷ 244 ∷ 143 ∷ 191 ∷ 191 ∷ 127 ∷ 34 ∷ [])
    ∷ (47 ∷ 47 ∷ 0 ∷ 127 ∷ 10 ∷ []) ∷ codes "-0.5e+3" ∷ codes "//c\r1" ∷ nest 64 ∷ []

-- one text with its pieces
abbrev pub sample : List ℕ
sample = codes "{\"a\":[1 ,],/***/\"\\uD800\":-1.5e+3}\r\n\r// end"

abbrev pub sample_pieces : Pieces
sample_pieces =
    box object (leaf (token open_object)
    (box property (leaf (name (codes "\"a\"")) (leaf (token colon)
    (box array (leaf (token open_array) (leaf (number (codes "1")) (leaf (whitespace (codes " ")) (leaf (token comma) (leaf (token close_array) end))))) end)))
    (leaf (token comma) (leaf (comment (Block (codes "/***/")))
    (box property (leaf (name (codes "\"\\uD800\"")) (leaf (token colon) (leaf (number (codes "-1.5e+3")) end)))
    (leaf (token close_object) end))))))
    (leaf (newline both) (leaf (newline carriage_return) (leaf (comment (Line (codes "// end"))) end)))

pub record Examples : Type 0 where
  pub refuses : Refuses refused
  pub takes : Takes accepted
  pub too_deep : read 64 (nest 65) ≡ TooDeep
  pub pieces : read 64 sample ≡ Read sample_pieces
