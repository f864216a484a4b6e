-- Escapes by example. Assumes nothing.
use Rattle.std.proofs.Common.{◌≡◌, [], ◌∷◌, refl}
use mathlib.Core.Option.{some, none}
use Rattle.model.specs.Escapes.{escaped, decoded}

-- U+0080 and U+001F as `\u` escapes, quote and slash
escaped_1 : escaped (194 ∷ 128 ∷ 31 ∷ 34 ∷ 47 ∷ []) ≡ 92 ∷ 117 ∷ 48 ∷ 48 ∷ 56 ∷ 48 ∷ 92 ∷ 117 ∷ 48 ∷ 48 ∷ 49 ∷ 102 ∷ 92 ∷ 34 ∷ 47 ∷ []
escaped_1 = refl

-- U+00A0 as it is
escaped_2 : escaped (194 ∷ 160 ∷ []) ≡ 194 ∷ 160 ∷ []
escaped_2 = refl

-- `\uD83D\ude00` is U+1F600
decoded_1 : decoded (92 ∷ 117 ∷ 68 ∷ 56 ∷ 51 ∷ 68 ∷ 92 ∷ 117 ∷ 100 ∷ 101 ∷ 48 ∷ 48 ∷ []) ≡ some (240 ∷ 159 ∷ 152 ∷ 128 ∷ [])
decoded_1 = refl

-- `\u20AC` is U+20AC
decoded_2 : decoded (92 ∷ 117 ∷ 50 ∷ 48 ∷ 65 ∷ 67 ∷ []) ≡ some (226 ∷ 130 ∷ 172 ∷ [])
decoded_2 = refl

-- a half alone says nothing: the first, before a character, and the second
decoded_3 : decoded (92 ∷ 117 ∷ 68 ∷ 56 ∷ 51 ∷ 68 ∷ []) ≡ none
decoded_3 = refl

decoded_4 : decoded (92 ∷ 117 ∷ 68 ∷ 56 ∷ 51 ∷ 68 ∷ 97 ∷ []) ≡ none
decoded_4 = refl

decoded_5 : decoded (92 ∷ 117 ∷ 100 ∷ 101 ∷ 48 ∷ 48 ∷ []) ≡ none
decoded_5 = refl

-- `\n\/`
decoded_6 : decoded (92 ∷ 110 ∷ 92 ∷ 47 ∷ []) ≡ some (10 ∷ 47 ∷ [])
decoded_6 = refl
