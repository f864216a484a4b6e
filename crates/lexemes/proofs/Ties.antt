-- What the parsers of lexemes leave of a text, by the way that they are joined. Assumes nothing.
use Rattle.std.proofs.Common.{◌≡◌, ℕ, ◌+◌, ◌-◌, ◌<◌, ◌≤◌, Bool, true, false, cond, ◌||◌, ◌⊎◌, List, [], ◌∷◌, ◌++◌, length, get_or, take, drop, Ok, Err, Result, sym, refl, ap, ◌∙◌, subst, inl, inr, append_assoc, add-one, arith, take_all, drop_of_length-le, drop-cons}
use Rattle.std.specs.Borrow.{Bor}
use Rattle.grammar.specs.Parse.{ok, bad, deep, Res, res, map_r, Parser, Class, within, starts, one_p, bind, seq_p, pick, alt_p, onto, turn, iter_p}
use Rattle.grammar.specs.Reader.{either, or_p, byte_p, empty_p, cat_p, word_p, run_p, concats, loop_b, many_p}
use Rattle.grammar.specs.Classes.{only}
use Rattle.grammar.proofs.Laws.{within_app, iter_turn}
use Rattle.lexemes.specs.declared.mismatch.Mismatch.{Mismatch}
use Rattle.lexemes.specs.Scan.{Left, Reads, Fails, Passes, Goes}
use Rattle.lexemes.proofs.Laws.{Law, sum2, turn_less, law_moves}

-- what is left
pub left_all : (s : List ℕ) → Left s s
left_all s = ([], refl)

pub left_on : (s t u : List ℕ) → Left t s → Left u t → Left u s
left_on s t u x y = (x.0 ++ y.0, x.1 ∙ ap (λ z. x.0 ++ z) y.1 ∙ sym (append_assoc x.0 y.0 u))

-- a text by its first bytes and what is left behind them
pub first_of : (s : List ℕ) → 1 ≤ length s → s ≡ get_or s 0 0 ∷ take (length s - 1) (drop 1 s)
first_of [] h = absurd (omega arith)
first_of (b ∷ t) h = ap (λ z. b ∷ z) (sym (take_all (length (b ∷ t) - 1) t (omega arith)))

pub starts_app : (c d : Class) (t : List ℕ) → starts (c ++ d) t ≡ (starts c t || starts d t)
starts_app c d [] = refl
starts_app c d (b ∷ t) = within_app c d b

-- another parser that answers the same
pub goes_same : {A B : Type 0} (p : Parser A) (q : Parser B) (s : List ℕ) (f : A → B) → q s ≡ map_r f (p s) → (r : Result (Bor (List ℕ)) Mismatch) → Goes p s r → Goes q s r
goes_same p q s f e (Ok t) g = (f g.0, record { left = g.1.left; reads = e ∙ ap (map_r f) g.1.reads })
goes_same p q s f e (Err t) g = record { left = g.left; fails = e ∙ ap (map_r f) g.fails }

-- one byte
pub one_reads : (c : Class) (b : ℕ) (t : List ℕ) → within c b ≡ true → Reads (one_p c) (b ∷ t) b t
one_reads c b t e = record { left = (b ∷ [], refl); reads = ap (λ v. cond v (res (ok b) t) (res bad (b ∷ t))) e }

one_out : (c : Class) (t : List ℕ) → starts c t ≡ false → one_p c t ≡ res bad t
one_out c [] e = refl
one_out c (b ∷ t) e = ap (λ v. cond v (res (ok b) t) (res bad (b ∷ t))) e

pub byte_passes : (c : Class) (b : ℕ) (t : List ℕ) → within c b ≡ true → Passes (byte_p c) (b ∷ t) t
byte_passes c b t e = let r = one_reads c b t e in (b ∷ [], record { left = r.left; reads = ap (map_r (λ b. b ∷ [])) r.reads })

-- what stands where a byte was read, or was not
pub byte_split : (c : Class) (s t : List ℕ) → Passes (byte_p c) s t → (b : ℕ) × (s ≡ b ∷ t) × (within c b ≡ true)
byte_split c [] t x = let y = x.1.reads in let z : ◌≡◌ {A = ℕ} 0 1 = cc in absurd (omega arith)
byte_split c (b ∷ s) t x = go (within c b) refl x.1.reads
  where
    go : (v : Bool) → within c b ≡ v → map_r (λ b. b ∷ []) (cond v (res (ok b) s) (res bad (b ∷ s))) ≡ res (ok x.0) t → (a : ℕ) × (b ∷ s ≡ a ∷ t) × (within c a ≡ true)
    go true e f = let q : s ≡ t = cc in (b, ap (λ z. b ∷ z) q, e)
    go false e f = let z : ◌≡◌ {A = ℕ} 0 1 = cc in absurd (omega arith)

pub byte_starts : (c : Class) (s t : List ℕ) → Passes (byte_p c) s t → starts c s ≡ true
byte_starts c s t x = let b = byte_split c s t x in ap (starts c) b.1 ∙ b.2

pub byte_moves : (c : Class) (s t : List ℕ) → Passes (byte_p c) s t → length t < length s
byte_moves c s t x = omega (arith, ap length (byte_split c s t x).1)

pub byte_none : (c : Class) (s t : List ℕ) → Fails (byte_p c) s t → starts c s ≡ false
byte_none c [] t x = refl
byte_none c (b ∷ s) t x = go (within c b) x.fails
  where
    go : (v : Bool) → map_r (λ b. b ∷ []) (cond v (res (ok b) s) (res bad (b ∷ s))) ≡ res bad t → v ≡ false
    go true f = let z : ◌≡◌ {A = ℕ} 0 1 = cc in absurd (omega arith)
    go false f = refl

pub one_is : (c : Class) (s t : List ℕ) (x : Passes (byte_p c) s t) → one_p c s ≡ res (ok (byte_split c s t x).0) t
one_is c s t x = let b = byte_split c s t x in ap (one_p c) b.1 ∙ (one_reads c b.0 t b.2).reads

pub empty_passes : (s : List ℕ) → Passes empty_p s s
empty_passes s = ([], record { left = left_all s; reads = refl })

-- one after the other
module _ {A B : Type 0} (p : Parser A) (q : Parser B) (s t : List ℕ) where
  pub seq_goes : (a : A) → Reads p s a t → (r : Result (Bor (List ℕ)) Mismatch) → Goes q t r → Goes (seq_p p q) s r
  seq_goes a x (Ok u) y = ((a, y.0), record { left = left_on s t u.now x.left y.1.left; reads = ap (bind q) x.reads ∙ ap (map_r (λ b. (a, b))) y.1.reads })
  seq_goes a x (Err u) y = record { left = left_on s t u.rest.now x.left y.left; fails = ap (bind q) x.reads ∙ ap (map_r (λ b. (a, b))) y.fails }

  pub seq_fails : Fails p s t → Fails (seq_p p q) s t
  seq_fails x = record { left = x.left; fails = ap (bind q) x.fails }

module _ (p q : Parser (List ℕ)) (s t : List ℕ) where
  abbrev both : List ℕ × List ℕ → List ℕ
  both x = x.0 ++ x.1

  pub cat_goes : Passes p s t → (r : Result (Bor (List ℕ)) Mismatch) → Goes q t r → Goes (cat_p p q) s r
  cat_goes x r y = goes_same (seq_p p q) (cat_p p q) s both refl r (seq_goes p q s t x.0 x.1 r y)

  pub cat_fails : Fails p s t → Fails (cat_p p q) s t
  cat_fails x = let y = seq_fails p q s t x in record { left = y.left; fails = ap (map_r both) y.fails }

-- one or the other
module _ {X : Type 0} (c : Class) (p q : Parser X) where
  fold_l : (x : Res X) → map_r either (map_r inl x) ≡ x
  fold_l (res (ok a) t) = refl
  fold_l (res bad t) = refl
  fold_l (res deep t) = refl

  fold_r : (x : Res X) → map_r either (map_r inr x) ≡ x
  fold_r (res (ok a) t) = refl
  fold_r (res bad t) = refl
  fold_r (res deep t) = refl

  same : (x : Res X) → x ≡ map_r (λ a. a) x
  same (res (ok a) t) = refl
  same (res bad t) = refl
  same (res deep t) = refl

  pub or_left : (t : List ℕ) → starts c t ≡ true → or_p c p q t ≡ p t
  or_left t e = ap (λ v. map_r either (pick v p q t)) e ∙ fold_l (p t)

  pub or_right : (t : List ℕ) → starts c t ≡ false → or_p c p q t ≡ q t
  or_right t e = ap (λ v. map_r either (pick v p q t)) e ∙ fold_r (q t)

  pub or_goes_left : (s : List ℕ) → starts c s ≡ true → (r : Result (Bor (List ℕ)) Mismatch) → Goes p s r → Goes (or_p c p q) s r
  or_goes_left s e r g = goes_same p (or_p c p q) s (λ a. a) (or_left s e ∙ same (p s)) r g

  pub or_goes_right : (s : List ℕ) → starts c s ≡ false → (r : Result (Bor (List ℕ)) Mismatch) → Goes q s r → Goes (or_p c p q) s r
  or_goes_right s e r g = goes_same q (or_p c p q) s (λ a. a) (or_right s e ∙ same (q s)) r g

-- what a first byte of the class decides
module _ (c : Class) (p q : Parser (List ℕ)) (s t : List ℕ) where
  pub chosen : Passes (byte_p c) s t → (r : Result (Bor (List ℕ)) Mismatch) → Goes p t r → Goes (or_p c (cat_p (byte_p c) p) q) s r
  chosen x r y = or_goes_left c (cat_p (byte_p c) p) q s (byte_starts c s t x) r (cat_goes (byte_p c) p s t x r y)

  pub unchosen : Fails (byte_p c) s t → (r : Result (Bor (List ℕ)) Mismatch) → Goes q s r → Goes (or_p c p q) s r
  unchosen x r y = or_goes_right c p q s (byte_none c s t x) r y

-- a run
run_in : (c : Class) (b : ℕ) (t : List ℕ) → within c b ≡ true → run_p c (b ∷ t) ≡ map_r (λ y. b ∷ y) (run_p c t)
run_in c b t e = ap (λ v. cond v (map_r (λ y. b ∷ y) (run_p c t)) (res (ok []) (b ∷ t))) e

run_out : (c : Class) (t : List ℕ) → starts c t ≡ false → run_p c t ≡ res (ok []) t
run_out c [] e = refl
run_out c (b ∷ t) e = ap (λ v. cond v (map_r (λ y. b ∷ y) (run_p c t)) (res (ok []) (b ∷ t))) e

pub run_step : (c : Class) (s t u : List ℕ) → Passes (byte_p c) s t → Passes (run_p c) t u → Passes (run_p c) s u
run_step c s t u x r =
    let b = byte_split c s t x in (
      b.0 ∷ r.0,
      record {
        left = left_on s t u x.1.left r.1.left;
        reads = ap (run_p c) b.1 ∙ run_in c b.0 t b.2 ∙ ap (map_r (λ y. b.0 ∷ y)) r.1.reads;
      },
    )

pub run_stop : (c : Class) (s t : List ℕ) → Fails (byte_p c) s t → Passes (run_p c) s s
run_stop c s t x = ([], record { left = left_all s; reads = run_out c s (byte_none c s t x) })

-- a loop over bytes, whose turns that go on take a byte at least
abbrev pub goes : List ℕ ⊎ List ℕ → ℕ
goes = sum2 (λ _. 1) (λ _. 0)

-- what is read is what stands in the text; a turn that goes on takes a byte at least
abbrev pub Turns : Parser (List ℕ ⊎ List ℕ) → Type 0
Turns p = Law (sum2 (λ a. a) (λ a. a)) goes p

module _ (p : Parser (List ℕ ⊎ List ℕ)) (h : Turns p) (s t : List ℕ) where
  abbrev flat : List (List ℕ) × List ℕ → List ℕ
  flat x = concats x.0 x.1

  unrolled : loop_b p s ≡ map_r flat (turn (iter_p p) (p s))
  unrolled = ap (map_r flat) (iter_turn p (turn_less (λ a. a) (λ a. a) p h) s)

  onto_flat : (a : List ℕ) (x : Res (List (List ℕ) × List ℕ)) → map_r flat (map_r (onto a) x) ≡ map_r (λ y. a ++ y) (map_r flat x)
  onto_flat a (res (ok x) t) = refl
  onto_flat a (res bad t) = refl
  onto_flat a (res deep t) = refl

  turned : (a : List ℕ) → p s ≡ res (ok (inl a)) t → loop_b p s ≡ map_r (λ y. a ++ y) (loop_b p t)
  turned a e = unrolled ∙ ap (λ z. map_r flat (turn (iter_p p) z)) e ∙ onto_flat a (iter_p p t)

  pub loop_more : (a : List ℕ) → Reads p s (inl a) t → (r : Result (Bor (List ℕ)) Mismatch) → Goes (loop_b p) t r → Goes (loop_b p) s r
  loop_more a x (Ok u) y = (a ++ y.0, record { left = left_on s t u.now x.left y.1.left; reads = turned a x.reads ∙ ap (map_r (λ z. a ++ z)) y.1.reads })
  loop_more a x (Err u) y = record { left = left_on s t u.rest.now x.left y.left; fails = turned a x.reads ∙ ap (map_r (λ z. a ++ z)) y.fails }

  pub loop_done : (a : List ℕ) → Reads p s (inr a) t → Passes (loop_b p) s t
  loop_done a x = (a, record { left = x.left; reads = unrolled ∙ ap (λ z. map_r flat (turn (iter_p p) z)) x.reads })

  pub loop_fails : Fails p s t → Fails (loop_b p) s t
  loop_fails x = record { left = x.left; fails = unrolled ∙ ap (λ z. map_r flat (turn (iter_p p) z)) x.fails }

-- as many as come
module _ (c : Class) (p : Parser (List ℕ)) (h : Turns (alt_p c p empty_p)) (s : List ℕ) where
  module _ (e : starts c s ≡ true) (t : List ℕ) where
    again : (x : Passes p s t) → Reads (alt_p c p empty_p) s (inl x.0) t
    again x = record { left = x.1.left; reads = ap (λ v. pick v p empty_p s) e ∙ ap (map_r inl) x.1.reads }

    pub many_more : Passes p s t → (r : Result (Bor (List ℕ)) Mismatch) → Goes (many_p c p) t r → Goes (many_p c p) s r
    many_more x r y = loop_more (alt_p c p empty_p) h s t x.0 (again x) r y

    pub many_moves : Passes p s t → length t < length s
    many_moves x = let m = law_moves (sum2 (λ a. a) (λ a. a)) goes (alt_p c p empty_p) h s t (inl x.0) (again x) in omega arith

    pub many_fails : Fails p s t → Fails (many_p c p) s t
    many_fails x = loop_fails (alt_p c p empty_p) h s t (record { left = x.left; fails = ap (λ v. pick v p empty_p s) e ∙ ap (map_r inl) x.fails })

  pub many_stop : starts c s ≡ false → Passes (many_p c p) s s
  many_stop e = loop_done (alt_p c p empty_p) h s s [] (record { left = left_all s; reads = ap (λ v. pick v p empty_p s) e })

-- a word
letter_of : (w : List ℕ) (k : ℕ) → k < length w → drop k w ≡ get_or w k 0 ∷ drop (k + 1) w
letter_of w k h = rw (add-one, drop-cons w k 0)

pub word_more : (w : List ℕ) (k : ℕ) (s t : List ℕ) → k < length w → Passes (byte_p (only (get_or w k 0))) s t → (r : Result (Bor (List ℕ)) Mismatch) → Goes (word_p (drop (k + 1) w)) t r → Goes (word_p (drop k w)) s r
word_more w k s t h x r y =
    subst (λ v. Goes (word_p v) s r) (sym (letter_of w k h)) (cat_goes (byte_p (only (get_or w k 0))) (word_p (drop (k + 1) w)) s t x r y)

pub word_done : (w : List ℕ) (k : ℕ) (s : List ℕ) → length w ≤ k → Passes (word_p (drop k w)) s s
word_done w k s h = subst (λ v. Passes (word_p v) s s) (sym (drop_of_length-le w h)) (empty_passes s)
