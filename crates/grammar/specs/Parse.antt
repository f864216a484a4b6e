-- Languages and the parsers that read them, by four ways to join them. Assumes nothing.
use Rattle.std.specs.Prelude.{◌≡◌, ℕ, zero, suc, Bool, true, false, cond, ◌&&◌, ◌||◌, ◌⊎◌, List, [], ◌∷◌, ◌++◌, length, nat_le}
use Rattle.std.proofs.Common.{inl, inr}

-- what a parser answers: a result, a byte (or the end) that fits nothing, or a text that nests too deep
pub data Out (A : Type 0) : Type 0 where
  ok : A → Out A
  bad : Out A
  deep : Out A

-- and what it has not read
pub data Res (A : Type 0) : Type 0 where
  res : Out A → List ℕ → Res A

abbrev pub map_o : {A B : Type 0} → (A → B) → Out A → Out B
map_o f (ok a) = ok (f a)
map_o f bad = bad
map_o f deep = deep

abbrev pub map_r : {A B : Type 0} → (A → B) → Res A → Res B
map_r f (res o t) = res (map_o f o) t

abbrev pub Lang : Type 0 → Type 1
Lang A = A → List ℕ → Type 0

abbrev pub Parser : Type 0 → Type 0
Parser A = List ℕ → Res A

-- a class of bytes: ranges, both ends in
abbrev pub Class : Type 0
Class = List (ℕ × ℕ)

abbrev pub within : Class → ℕ → Bool
within [] b = false
within (r ∷ rs) b = (nat_le r.0 b && nat_le b r.1) || within rs b

abbrev pub starts : Class → List ℕ → Bool
starts c [] = false
starts c (b ∷ t) = within c b

-- no byte of the class comes next
abbrev pub Free : Class → List ℕ → Type 0
Free c [] = Unit {0}
Free c (b ∷ t) = within c b ≡ false

-- the brackets that open a level
abbrev pub Opening : Class
Opening = (91, 91) ∷ (123, 123) ∷ []

-- one byte of a class
abbrev pub one_l : Class → Lang ℕ
one_l c a u = (u ≡ a ∷ []) × (within c a ≡ true)

abbrev pub one_p : Class → Parser ℕ
one_p c [] = res bad []
one_p c (b ∷ t) = cond (within c b) (res (ok b) t) (res bad (b ∷ t))

-- nothing
abbrev pub eps_l : Lang (Unit {0})
eps_l a u = u ≡ []

abbrev pub eps_p : Parser (Unit {0})
eps_p s = res (ok tt) s

-- one after the other
abbrev pub seq_l : {A B : Type 0} → Lang A → Lang B → Lang (A × B)
seq_l L M x w = (u : List ℕ) × (v : List ℕ) × (w ≡ u ++ v) × L x.0 u × M x.1 v

abbrev pub bind : {A B : Type 0} → Parser B → Res A → Res (A × B)
bind q (res (ok a) t) = map_r (λ b. (a, b)) (q t)
bind q (res bad t) = res bad t
bind q (res deep t) = res deep t

abbrev pub seq_p : {A B : Type 0} → Parser A → Parser B → Parser (A × B)
seq_p p q s = bind q (p s)

-- one or the other, which the first byte decides
abbrev pub alt_l : {A B : Type 0} → Lang A → Lang B → Lang (A ⊎ B)
alt_l L M (inl a) u = L a u
alt_l L M (inr b) u = M b u

abbrev pub pick : {A B : Type 0} → Bool → Parser A → Parser B → Parser (A ⊎ B)
pick true p q s = map_r inl (p s)
pick false p q s = map_r inr (q s)

abbrev pub alt_p : {A B : Type 0} → Class → Parser A → Parser B → Parser (A ⊎ B)
alt_p c p q s = pick (starts c s) p q s

-- the same with another result
abbrev pub map_l : {A B : Type 0} → (A → B) → Lang A → Lang B
map_l {A} f L b u = (a : A) × (f a ≡ b) × L a u

abbrev pub map_p : {A B : Type 0} → (A → B) → Parser A → Parser B
map_p f p s = map_r f (p s)

-- again and again: `inl` goes on, `inr` stops; behind a turn a comes nothing of the class `wide a`, which would have made it longer
abbrev pub iterate : {A B : Type 0} → Lang (A ⊎ B) → (A → Class) → List A → B → List ℕ → Type 0
iterate L wide [] c w = L (inr c) w
iterate L wide (a ∷ more) c w = (u : List ℕ) × (v : List ℕ) × (w ≡ u ++ v) × L (inl a) u × Free (wide a) v × iterate L wide more c v

abbrev pub iter_l : {A B : Type 0} → Lang (A ⊎ B) → (A → Class) → Lang (List A × B)
iter_l L wide x w = iterate L wide x.0 x.1 w

abbrev pub onto : {A B : Type 0} → A → List A × B → List A × B
onto a x = (a ∷ x.0, x.1)

abbrev pub turn : {A B : Type 0} → Parser (List A × B) → Res (A ⊎ B) → Res (List A × B)
turn k (res (ok (inl a)) t) = map_r (onto a) (k t)
turn k (res (ok (inr c)) t) = res (ok ([], c)) t
turn k (res bad t) = res bad t
turn k (res deep t) = res deep t

-- n turns suffice, where n is more than the length of the text
abbrev pub loop : {A B : Type 0} → ℕ → Parser (A ⊎ B) → Parser (List A × B)
loop zero p s = res deep s
loop (suc n) p s = turn (loop n p) (p s)

abbrev pub iter_p : {A B : Type 0} → Parser (A ⊎ B) → Parser (List A × B)
iter_p p s = loop (suc (length s)) p s
