-- What a parser takes off the text is what its answer stands for, and a loop's turns go on only past a byte. Assumes nothing.
use Rattle.std.proofs.Common.{◌≡◌, ℕ, zero, suc, ◌+◌, ◌<◌, ◌≤◌, Bool, true, false, cond, ◌⊎◌, List, [], ◌∷◌, ◌++◌, length, sym, refl, ap, ◌∙◌, subst, inl, inr, append_assoc, arith, length-append}
use Rattle.std.proofs.lemmas.Bool.Decides.{nat_tests}
use Rattle.grammar.specs.Parse.{ok, bad, deep, Res, res, map_r, Parser, Class, within, starts, one_p, eps_p, bind, seq_p, pick, alt_p, map_p, onto, turn, loop, iter_p}
use Rattle.grammar.specs.Classes.{only}
use Rattle.grammar.specs.Reader.{run_p}
use Rattle.lexemes.specs.Scan.{Reads}

-- the bytes of an answer, and the least number of them
abbrev pub Law1 : {A : Type 0} → (A → List ℕ) → (A → ℕ) → List ℕ → Res A → Type 0
Law1 g lo s (res (ok a) t) = (s ≡ g a ++ t) × (lo a ≤ length (g a))
Law1 g lo s (res bad t) = Unit {0}
Law1 g lo s (res deep t) = Unit {0}

abbrev pub Law : {A : Type 0} → (A → List ℕ) → (A → ℕ) → Parser A → Type 0
Law g lo p = (s : List ℕ) → Law1 g lo s (p s)

-- one byte
pub law_one : (c : Class) → Law (λ b. b ∷ []) (λ _. 1) (one_p c)
law_one c [] = tt
law_one c (b ∷ t) = go (within c b)
  where
    go : (v : Bool) → Law1 (λ b. b ∷ []) (λ _. 1) (b ∷ t) (cond v (res (ok b) t) (res bad (b ∷ t)))
    go true = (refl, omega arith)
    go false = tt

-- one byte that is known
pub law_byte : (b : ℕ) → Law (λ _. b ∷ []) (λ _. 1) (one_p (only b))
law_byte b [] = tt
law_byte b (x ∷ t) = go (within (only b) x) refl
  where
    go : (v : Bool) → within (only b) x ≡ v → Law1 (λ _. b ∷ []) (λ _. 1) (x ∷ t) (cond v (res (ok x) t) (res bad (x ∷ t)))
    go true e = (let q : x ≡ b = grind (arith, nat_tests) in ap (λ z. z ∷ t) q, omega arith)
    go false e = tt

pub law_eps : Law (λ _. []) (λ _. 0) eps_p
law_eps s = (refl, omega arith)

pub law_run : (c : Class) → Law (λ b. b) (λ _. 0) (run_p c)
law_run c [] = (refl, omega arith)
law_run c (b ∷ t) = go (within c b) (run_p c t) (law_run c t)
  where
    go : (v : Bool) (x : Res (List ℕ)) → Law1 (λ b. b) (λ _. 0) t x → Law1 (λ b. b) (λ _. 0) (b ∷ t) (cond v (map_r (λ y. b ∷ y) x) (res (ok []) (b ∷ t)))
    go true (res (ok a) u) h = (ap (λ y. b ∷ y) h.0, omega arith)
    go true (res bad u) h = tt
    go true (res deep u) h = tt
    go false x h = (refl, omega arith)

pub law_map : {A B : Type 0} (g : A → List ℕ) (lo : A → ℕ) (g2 : B → List ℕ) (lo2 : B → ℕ) (f : A → B) (p : Parser A)
    → ((a : A) → g2 (f a) ≡ g a) → ((a : A) → lo2 (f a) ≤ lo a) → Law g lo p → Law g2 lo2 (map_p f p)
law_map {A} {B} g lo g2 lo2 f p e l h s = go (p s) (h s)
  where
    go : (x : Res A) → Law1 g lo s x → Law1 g2 lo2 s (map_r f x)
    go (res (ok a) t) k = (k.0 ∙ ap (λ y. y ++ t) (sym (e a)), omega (arith, l a, k.1, ap length (e a)))
    go (res bad t) k = tt
    go (res deep t) k = tt

-- a lower bound on the number of bytes
pub law_less : {A : Type 0} (g : A → List ℕ) (lo lo2 : A → ℕ) (p : Parser A) → ((a : A) → lo2 a ≤ lo a) → Law g lo p → Law g lo2 p
law_less {A} g lo lo2 p l h s = go (p s) (h s)
  where
    go : (x : Res A) → Law1 g lo s x → Law1 g lo2 s x
    go (res (ok a) t) k = (k.0, omega (arith, l a, k.1))
    go (res bad t) k = tt
    go (res deep t) k = tt

pub law_seq : {A B : Type 0} (g : A → List ℕ) (lo : A → ℕ) (g2 : B → List ℕ) (lo2 : B → ℕ) (p : Parser A) (q : Parser B)
    → Law g lo p → Law g2 lo2 q → Law (λ (x : A × B). g x.0 ++ g2 x.1) (λ (x : A × B). lo x.0 + lo2 x.1) (seq_p p q)
law_seq {A} {B} g lo g2 lo2 p q h k s = go (p s) (h s)
  where
    inner : (a : A) (t : List ℕ) → (s ≡ g a ++ t) → lo a ≤ length (g a) → (y : Res B) → Law1 g2 lo2 t y → Law1 (λ (x : A × B). g x.0 ++ g2 x.1) (λ (x : A × B). lo x.0 + lo2 x.1) s (map_r (λ b. (a, b)) y)
    inner a t e l (res (ok b) u) m = (e ∙ ap (λ y. g a ++ y) m.0 ∙ sym (append_assoc (g a) (g2 b) u), omega (arith, length-append (g a) (g2 b), m.1))
    inner a t e l (res bad u) m = tt
    inner a t e l (res deep u) m = tt

    go : (x : Res A) → Law1 g lo s x → Law1 (λ (x : A × B). g x.0 ++ g2 x.1) (λ (x : A × B). lo x.0 + lo2 x.1) s (bind q x)
    go (res (ok a) t) m = inner a t m.0 m.1 (q t) (k t)
    go (res bad t) m = tt
    go (res deep t) m = tt

abbrev pub sum2 : {A B : Type 0} {X : Type 0} → (A → X) → (B → X) → A ⊎ B → X
sum2 f g (inl a) = f a
sum2 f g (inr b) = g b

pub law_alt : {A B : Type 0} (g : A → List ℕ) (lo : A → ℕ) (g2 : B → List ℕ) (lo2 : B → ℕ) (c : Class) (p : Parser A) (q : Parser B)
    → Law g lo p → Law g2 lo2 q → Law (sum2 g g2) (sum2 lo lo2) (alt_p c p q)
law_alt {A} {B} g lo g2 lo2 c p q h k s = go (starts c s)
  where
    left : (x : Res A) → Law1 g lo s x → Law1 (sum2 g g2) (sum2 lo lo2) s (map_r inl x)
    left (res (ok a) t) m = m
    left (res bad t) m = tt
    left (res deep t) m = tt

    right : (x : Res B) → Law1 g2 lo2 s x → Law1 (sum2 g g2) (sum2 lo lo2) s (map_r inr x)
    right (res (ok a) t) m = m
    right (res bad t) m = tt
    right (res deep t) m = tt

    go : (v : Bool) → Law1 (sum2 g g2) (sum2 lo lo2) s (pick v p q s)
    go true = left (p s) (h s)
    go false = right (q s) (k s)

-- a loop whose turns that go on take a byte at least
abbrev pub concat : {A B : Type 0} → (A → List ℕ) → (B → List ℕ) → List A → B → List ℕ
concat g g2 [] b = g2 b
concat g g2 (x ∷ xs) b = g x ++ concat g g2 xs b

module _ {A B : Type 0} (g : A → List ℕ) (g2 : B → List ℕ) (p : Parser (A ⊎ B)) (h : Law (sum2 g g2) (sum2 (λ _. 1) (λ _. 0)) p) where
  turn_law : (k : Parser (List A × B)) (s : List ℕ) (x : Res (A ⊎ B)) → Law1 (sum2 g g2) (sum2 (λ _. 1) (λ _. 0)) s x
      → Law (λ (x : List A × B). concat g g2 x.0 x.1) (λ _. 0) k → Law1 (λ (x : List A × B). concat g g2 x.0 x.1) (λ _. 0) s (turn k x)
  turn_law k s (res (ok (inl a)) t) m f = go (k t) (f t)
    where
      go : (y : Res (List A × B)) → Law1 (λ (x : List A × B). concat g g2 x.0 x.1) (λ _. 0) t y → Law1 (λ (x : List A × B). concat g g2 x.0 x.1) (λ _. 0) s (map_r (onto a) y)
      go (res (ok x) u) n = (m.0 ∙ ap (λ y. g a ++ y) n.0 ∙ sym (append_assoc (g a) (concat g g2 x.0 x.1) u), omega arith)
      go (res bad u) n = tt
      go (res deep u) n = tt
  turn_law k s (res (ok (inr c)) t) m f = (m.0, omega arith)
  turn_law k s (res bad t) m f = tt
  turn_law k s (res deep t) m f = tt

  loop_law : (n : ℕ) → Law (λ (x : List A × B). concat g g2 x.0 x.1) (λ _. 0) (loop n p)
  loop_law zero s = tt
  loop_law (suc n) s = turn_law (loop n p) s (p s) (h s) (loop_law n)

  pub law_iter : Law (λ (x : List A × B). concat g g2 x.0 x.1) (λ _. 0) (iter_p p)
  law_iter s = loop_law (suc (length s)) s

  -- a turn that goes on leaves less than there was
  pub turn_less : (s : List ℕ) (a : A) (t : List ℕ) → p s ≡ res (ok (inl a)) t → length t < length s
  turn_less s a t e = (let m = subst (Law1 (sum2 g g2) (sum2 (λ _. 1) (λ _. 0)) s) e (h s) in omega (arith, ap length m.0, length-append (g a) t, m.1))

-- what is read stands in front of what is left
module _ {A : Type 0} (g : A → List ℕ) (lo : A → ℕ) (p : Parser A) (h : Law g lo p) (s t : List ℕ) (a : A) (r : Reads p s a t) where
  split : Law1 g lo s (res (ok a) t)
  split = subst (Law1 g lo s) r.reads (h s)

  pub law_part : s ≡ g a ++ t
  law_part = split.0

  pub law_moves : length t + lo a ≤ length s
  law_moves = omega (arith, ap length law_part, length-append (g a) t, split.1)
