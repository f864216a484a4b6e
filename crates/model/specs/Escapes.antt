-- How a text is written between quotes, and what the bytes between quotes say. Both as UTF-8 bytes. Assumes nothing.
use Rattle.std.specs.Prelude.{ℕ, ◌+◌, ◌-◌, ◌*◌, ◌/◌, ◌%◌, Bool, cond, ◌&&◌, ◌||◌, List, [], ◌∷◌, ◌++◌, ◌==◌, nat_le, nat_lt}
use Rattle.std.proofs.Math.Option.{Option, some, none}

-- a hexadecimal digit, letters in lower case
abbrev pub hex_digit : ℕ → ℕ
hex_digit n = cond (nat_lt n 10) (48 + n) (87 + n)

-- `\u` and four hexadecimal digits, of a character below 256
abbrev pub unicode : ℕ → List ℕ
unicode n = 92 ∷ 117 ∷ 48 ∷ 48 ∷ hex_digit (n / 16) ∷ hex_digit (n % 16) ∷ []

-- a control character of one byte: U+0000 to U+001F, and U+007F
abbrev pub control : ℕ → Bool
control b = nat_lt b 32 || b == 127

-- a byte that is a character of its own: quote, backslash, BS, FF, LF, CR, tab and the other control characters escaped, all else as it is
abbrev pub byte_escaped : ℕ → List ℕ
byte_escaped b =
    cond (b == 34) (92 ∷ 34 ∷ [])
    (cond (b == 92) (92 ∷ 92 ∷ [])
    (cond (b == 8) (92 ∷ 98 ∷ [])
    (cond (b == 12) (92 ∷ 102 ∷ [])
    (cond (b == 10) (92 ∷ 110 ∷ [])
    (cond (b == 13) (92 ∷ 114 ∷ [])
    (cond (b == 9) (92 ∷ 116 ∷ [])
    (cond (control b) (unicode b)
    (b ∷ []))))))))

-- U+0080 to U+009F, control characters of two bytes: C2 80 to C2 9F
abbrev pub control_pair : ℕ → ℕ → Bool
control_pair b c = b == 194 && (nat_le 128 c && nat_le c 159)

-- the bytes between the quotes that write a text
abbrev pub escaped : List ℕ → List ℕ
escaped [] = []
escaped (b ∷ []) = byte_escaped b
escaped (b ∷ c ∷ t) = cond (control_pair b c) (unicode c ++ escaped t) (byte_escaped b ++ escaped (c ∷ t))

-- what a hexadecimal digit stands for
abbrev pub hex_value : ℕ → ℕ
hex_value b = cond (nat_lt b 58) (b - 48) (cond (nat_lt b 71) (b - 55) (b - 87))

-- what stands behind a backslash, but for `u`, says: b f n r t, and " \ / themselves
abbrev pub plain_escape : ℕ → ℕ
plain_escape b =
    cond (b == 98) 8
    (cond (b == 102) 12
    (cond (b == 110) 10
    (cond (b == 114) 13
    (cond (b == 116) 9
    b))))

-- a character in UTF-8
abbrev pub utf8 : ℕ → List ℕ
utf8 n =
    cond (nat_lt n 128) (n ∷ [])
    (cond (nat_lt n 2048) ((192 + n / 64) ∷ (128 + n % 64) ∷ [])
    (cond (nat_lt n 65536) ((224 + n / 4096) ∷ (128 + (n / 64) % 64) ∷ (128 + n % 64) ∷ [])
    ((240 + n / 262144) ∷ (128 + (n / 4096) % 64) ∷ (128 + (n / 64) % 64) ∷ (128 + n % 64) ∷ [])))

-- the first half of a surrogate pair, U+D800 to U+DBFF; the second, U+DC00 to U+DFFF; and the character that both together are
abbrev pub first_half : ℕ → Bool
first_half n = nat_le 55296 n && nat_le n 56319

abbrev pub second_half : ℕ → Bool
second_half n = nat_le 56320 n && nat_le n 57343

abbrev pub paired : ℕ → ℕ → ℕ
paired h n = 65536 + ((h - 55296) * 1024 + (n - 56320))

-- bytes in front of what is said, where anything is
abbrev pub ahead : List ℕ → Option (List ℕ) → Option (List ℕ)
ahead u none = none
ahead u (some t) = some (u ++ t)

-- Where decoding stands. h is a first half that still wants its second, or 0.
-- `before h`: before a character; `slash h`: behind a backslash; `digits h k n`: k + 1 hexadecimal digits are still to come, and n is what the others say.
pub data Spot : Type 0 where
  before : ℕ → Spot
  slash : ℕ → Spot
  digits : ℕ → ℕ → ℕ → Spot

-- what a `\u` escape that is complete says, where h stood before it and z is what follows, from each spot
abbrev pub unit : ℕ → ℕ → (Spot → Option (List ℕ)) → Option (List ℕ)
unit h n z =
    cond (h == 0)
    (cond (first_half n) (z (before n)) (cond (second_half n) none (ahead (utf8 n) (z (before 0)))))
    (cond (second_half n) (ahead (utf8 (paired h n)) (z (before 0))) none)

-- one byte, where z is what follows, from each spot
abbrev pub said : Spot → ℕ → (Spot → Option (List ℕ)) → Option (List ℕ)
said (before h) b z = cond (b == 92) (z (slash h)) (cond (h == 0) (ahead (b ∷ []) (z (before 0))) none)
said (slash h) b z = cond (b == 117) (z (digits h 3 0)) (cond (h == 0) (ahead (plain_escape b ∷ []) (z (before 0))) none)
said (digits h k n) b z = cond (k == 0) (unit h (n * 16 + hex_value b) z) (z (digits h (k - 1) (n * 16 + hex_value b)))

-- at the end, all is said if no escape is open
abbrev pub said_all : Spot → Option (List ℕ)
said_all (before h) = cond (h == 0) (some []) none
said_all (slash h) = none
said_all (digits h k n) = none

abbrev pub decoded_from : List ℕ → Spot → Option (List ℕ)
decoded_from [] q = said_all q
decoded_from (b ∷ t) q = said q b (decoded_from t)

-- what the bytes between the quotes of a string say; none where a half of a surrogate pair stands alone
abbrev pub decoded : List ℕ → Option (List ℕ)
decoded t = decoded_from t (before 0)
