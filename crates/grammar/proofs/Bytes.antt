-- The laws of parsers whose result is what they read. Assumes nothing.
use Rattle.std.proofs.Common.{◌≡◌, ℕ, Bool, true, false, cond, ◌&&◌, leb, ◌⊎◌, List, [], ◌∷◌, ◌++◌, sym, refl, ap, ◌∙◌, subst, inl, inr, append-nil, arith}
use mathlib.Core.Bool.{false≢true}
use Rattle.std.proofs.lemmas.Bool.{and_parts, leb-true, or_cases}
use Rattle.grammar.specs.Parse.{Out, ok, bad, deep, Res, res, map_o, map_r, Lang, Parser, Class, within, Free, one_l, one_p, eps_l, eps_p, seq_l, seq_p, alt_l, alt_p, iterate, iter_l, iter_p}
use Rattle.grammar.specs.Classes.{only}
use Rattle.grammar.specs.Grammar.{All, Many, none, next}
use Rattle.grammar.specs.Reader.{either, or_p, byte_p, empty_p, cat_p, word_p, run_p, concats, many_p}
use Rattle.grammar.proofs.Laws.{Laws, Says, Means, Again, apart, free_left, free_right, free_none, one_laws, eps_laws, map_laws, say_laws, wide_laws, conv_laws, seq_laws, alt_laws, iter_laws, Greedy}

-- the bytes are themselves the result
abbrev pub Of : (List ℕ → Type 0) → Lang (List ℕ)
Of P t u = (t ≡ u) × P u

-- the laws of a parser of bytes: one class of bytes may go on what it reads
abbrev pub ByteLaws : (List ℕ → Type 0) → Parser (List ℕ) → Class → Bool → Class → Type 0
ByteLaws P p first nl E = Laws (Of P) p first (λ _. nl) (λ _. E)

pub is_only : (b c : ℕ) → within (only b) c ≡ true → c ≡ b
is_only b c h =
    elim (or_cases (leb b c && leb c b) false h) [
      | inl e ↦ (let k = and_parts (leb b c) (leb c b) e in let x = leb-true b c k.0 in let y = leb-true c b k.1 in omega arith)
      | inr e ↦ absurd (false≢true e)
    ]

-- the language in other words
pub say : (P Q : List ℕ → Type 0) (p : Parser (List ℕ)) (first : Class) (nl : Bool) (E : Class) → ByteLaws P p first nl E → ((u : List ℕ) → P u → Q u) → ((u : List ℕ) → Q u → P u) → ByteLaws Q p first nl E
say P Q p first nl E h to from = say_laws (Of P) (Of Q) p first (λ _. nl) (λ _. E) h (λ t u l. (l.0, to u l.1)) (λ t u l. (l.0, from u l.1))

-- a larger class behind it
pub wider : (P : List ℕ → Type 0) (p : Parser (List ℕ)) (first : Class) (nl : Bool) (E F : Class) → ByteLaws P p first nl E → ((t : List ℕ) → Free F t → Free E t) → ByteLaws P p first nl F
wider P p first nl E F h f = wide_laws (Of P) p first (λ _. nl) (λ _. nl) (λ _. E) (λ _. F) h (λ a e. e) (λ a u t l. f t)

-- one byte
abbrev pub Is : Class → List ℕ → Type 0
Is c u = (b : ℕ) × (u ≡ b ∷ []) × (within c b ≡ true)

pub byte_laws : (c : Class) (a : ℕ) → within c a ≡ true → ByteLaws (Is c) (byte_p c) c false []
byte_laws c a h = conv_laws (λ b. b ∷ []) (one_l c) (Of (Is c)) (one_p c) c (λ _. false) (λ _. []) (one_laws c a h)
    (λ b u l. (sym l.0, (b, l.0, l.1)))
    (λ t u l. (l.1.0, sym l.1.1 ∙ sym l.0, (l.1.1, l.1.2)))
    (λ _. false) (λ _. []) (λ b e. e) (λ b u t l f. f)

-- nothing
abbrev pub Empty : List ℕ → Type 0
Empty u = u ≡ []

pub empty_laws : ByteLaws Empty empty_p [] true []
empty_laws = conv_laws (λ _. []) eps_l (Of Empty) eps_p [] (λ _. true) (λ _. []) eps_laws
    (λ a u l. (sym l, l)) (λ t u l. (tt, sym l.1 ∙ sym l.0, l.1)) (λ _. true) (λ _. []) (λ a e. refl) (λ a u t l f. f)

-- one behind the other
abbrev pub Cat : (List ℕ → Type 0) → (List ℕ → Type 0) → List ℕ → Type 0
Cat P Q w = (u : List ℕ) × (v : List ℕ) × (w ≡ u ++ v) × P u × Q v

pub cat_laws : (P Q : List ℕ → Type 0) (p q : Parser (List ℕ)) (f g : Class) (nl ml : Bool) (E F : Class) → ByteLaws P p f nl E → ByteLaws Q q g ml F → apart g E ≡ true → (v : List ℕ) → Q v → ByteLaws (Cat P Q) (cat_p p q) (f ++ cond nl g []) (nl && ml) (F ++ cond ml E [])
cat_laws P Q p q f g nl ml E F h k d v z =
    conv_laws (λ x. x.0 ++ x.1) (seq_l (Of P) (Of Q)) (Of (Cat P Q)) (seq_p p q) (f ++ cond nl g []) (λ _. nl && ml) (λ _. F ++ cond ml E [])
    (seq_laws (Of P) p f (λ _. nl) (λ _. E) h (Of Q) q g (λ _. ml) (λ _. F) k nl (λ a e. e) (λ a. d) v v (refl, z))
    (λ a u l. (ap (λ y. y ++ a.1) l.3.0 ∙ ap (λ y. l.0 ++ y) l.4.0 ∙ sym l.2, (l.0, l.1, l.2, l.3.1, l.4.1)))
    (λ t u l. ((l.1.0, l.1.1), sym l.1.2 ∙ sym l.0, (l.1.0, l.1.1, l.1.2, (refl, l.1.3), (refl, l.1.4))))
    (λ _. nl && ml) (λ _. F ++ cond ml E []) (λ a e. e) (λ a u t l y. y)

-- one or the other
abbrev pub Or : (List ℕ → Type 0) → (List ℕ → Type 0) → List ℕ → Type 0
Or P Q u = P u ⊎ Q u

module _ (P Q : List ℕ → Type 0) where
  or_to : (x : List ℕ ⊎ List ℕ) (u : List ℕ) → alt_l (Of P) (Of Q) x u → Of (Or P Q) (either x) u
  or_to (inl a) u l = (l.0, inl l.1)
  or_to (inr b) u l = (l.0, inr l.1)

  or_from : (t u : List ℕ) → t ≡ u → Or P Q u → (x : List ℕ ⊎ List ℕ) × (either x ≡ t) × alt_l (Of P) (Of Q) x u
  or_from t u e (inl l) = (inl t, refl, (e, l))
  or_from t u e (inr l) = (inr t, refl, (e, l))

  pub or_laws : (p q : Parser (List ℕ)) (f g : Class) (ml : Bool) (E F : Class) → ByteLaws P p f false E → ByteLaws Q q g ml F → apart g f ≡ true → ByteLaws (Or P Q) (or_p f p q) (f ++ g) ml (E ++ (F ++ cond ml f []))
  or_laws p q f g ml E F h k d =
      conv_laws either (alt_l (Of P) (Of Q)) (Of (Or P Q)) (alt_p f p q) (f ++ g) _ _
      (alt_laws (Of P) p f (λ _. false) (λ _. E) h (Of Q) q g (λ _. ml) (λ _. F) k (λ a. refl) d)
      or_to (λ t u l. or_from t u l.0 l.1) (λ _. ml) (λ _. E ++ (F ++ cond ml f [])) nul ext
    where
      nul : (x : List ℕ ⊎ List ℕ) → Rattle.grammar.proofs.Laws.alt_null (Of P) p f (λ _. false) (λ _. E) h (Of Q) q g (λ _. ml) (λ _. F) k x ≡ true → ml ≡ true
      nul (inl a) e = absurd (false≢true e)
      nul (inr b) e = e

      ext : (x : List ℕ ⊎ List ℕ) (u t : List ℕ) → alt_l (Of P) (Of Q) x u → Free (E ++ (F ++ cond ml f [])) t → Free (Rattle.grammar.proofs.Laws.alt_ext (Of P) p f (λ _. false) (λ _. E) h (Of Q) q g (λ _. ml) (λ _. F) k x) t
      ext (inl a) u t l y = free_left E (F ++ cond ml f []) t y
      ext (inr b) u t l y = free_right E (F ++ cond ml f []) t y

-- a run of a class
module _ (c : Class) where
  run_more : (b : ℕ) (t : List ℕ) → within c b ≡ true → (x : Res (List ℕ)) → Means (Of (All c)) (run_p c) t x → Means (Of (All c)) (run_p c) (b ∷ t) (map_r (λ y. b ∷ y) x)
  run_more b t e (res o r) m = (b ∷ m.0, ap (λ y. b ∷ y) m.1, says o m.2, ag r m.3, Rattle.grammar.proofs.Laws.halts_map (λ y. b ∷ y) o r m.4)
    where
      says : (o : Out (List ℕ)) → Says (Of (All c)) m.0 o → Says (Of (All c)) (b ∷ m.0) (map_o (λ y. b ∷ y) o)
      says (ok a) l = (ap (λ y. b ∷ y) l.0, (e, l.1))
      says bad l = (l.0, b ∷ l.1, (ap (λ y. b ∷ y) l.2.0, (e, l.2.1)))
      says deep l = (l.0, b ∷ l.1, (ap (λ y. b ∷ y) l.2.0, (e, l.2.1)))

      ag : (r : List ℕ) → Again (run_p c) m.0 o r → Again (run_p c) (b ∷ m.0) (map_o (λ y. b ∷ y) o) r
      ag [] z = tt
      ag (d ∷ r) z = λ w. ap (λ v. cond v (map_r (λ y. b ∷ y) (run_p c (m.0 ++ d ∷ w))) (res (ok []) (b ∷ (m.0 ++ d ∷ w)))) e ∙ ap (map_r (λ y. b ∷ y)) (z w)

  run_at : (b : ℕ) (t : List ℕ) → Means (Of (All c)) (run_p c) t (run_p c t) → (v : Bool) → within c b ≡ v → Means (Of (All c)) (run_p c) (b ∷ t) (cond v (map_r (λ y. b ∷ y) (run_p c t)) (res (ok []) (b ∷ t)))
  run_at b t m true e = run_more b t e (run_p c t) m
  run_at b t m false e = ([], refl, (refl, tt), (λ w. ap (λ v. cond v (map_r (λ y. b ∷ y) (run_p c w)) (res (ok []) (b ∷ w))) e), tt)

  run_means : (s : List ℕ) → Means (Of (All c)) (run_p c) s (run_p c s)
  run_means [] = ([], refl, (refl, tt), tt, tt)
  run_means (b ∷ t) = run_at b t (run_means t) (within c b) refl

  run_complete : (a t : List ℕ) → All c a → Free c t → run_p c (a ++ t) ≡ res (ok a) t
  run_complete [] [] l f = refl
  run_complete [] (b ∷ t) l f = ap (λ v. cond v (map_r (λ y. b ∷ y) (run_p c t)) (res (ok []) (b ∷ t))) f
  run_complete (b ∷ a) t l f = ap (λ v. cond v (map_r (λ y. b ∷ y) (run_p c (a ++ t))) (res (ok []) (b ∷ (a ++ t)))) l.0 ∙ ap (map_r (λ y. b ∷ y)) (run_complete a t l.1 f)

  pub run_laws : ByteLaws (All c) (run_p c) c true c
  run_laws = record {
    first_ok = λ a b u l. l.1.0;
    null_ok = λ a l. refl;
    means = run_means;
    complete = λ a u t l f. run_complete u t l.1 f ∙ ap (λ y. res (ok y) t) (sym l.0);
  }

-- a word
pub word_laws : (b : ℕ) (w : List ℕ) → within (only b) b ≡ true → ((c : ℕ) → within (only c) c ≡ true) → ByteLaws (λ u. u ≡ b ∷ w) (word_p (b ∷ w)) (only b) false []
word_laws b [] h k = say (Cat (Is (only b)) Empty) (λ u. u ≡ b ∷ []) (word_p (b ∷ [])) (only b) false []
    (cat_laws (Is (only b)) Empty (byte_p (only b)) empty_p (only b) [] false true [] [] (byte_laws (only b) b h) empty_laws refl [] refl)
    (λ u l. l.2 ∙ ap (λ y. y ++ l.1) (l.3.1 ∙ ap (λ y. y ∷ []) (is_only b l.3.0 l.3.2)) ∙ ap (λ y. b ∷ y) l.4)
    (λ u l. (b ∷ [], [], l, (b, refl, h), refl))
word_laws b (c ∷ w) h k = say (Cat (Is (only b)) (λ u. u ≡ c ∷ w)) (λ u. u ≡ b ∷ c ∷ w) (word_p (b ∷ c ∷ w)) (only b) false []
    (cat_laws (Is (only b)) (λ u. u ≡ c ∷ w) (byte_p (only b)) (word_p (c ∷ w)) (only b) (only c) false false [] [] (byte_laws (only b) b h) (word_laws c w (k c) k) refl (c ∷ w) refl)
    (λ u l. l.2 ∙ ap (λ y. y ++ l.1) (l.3.1 ∙ ap (λ y. y ∷ []) (is_only b l.3.0 l.3.2)) ∙ ap (λ y. b ∷ y) l.4)
    (λ u l. (b ∷ [], c ∷ w, l, (b, refl, h), refl))

-- as many as come
module _ (P : List ℕ → Type 0) (p : Parser (List ℕ)) (f : Class) (h : ByteLaws P p f false []) where
  abbrev pub TurnL : Lang (List ℕ ⊎ List ℕ)
  TurnL = alt_l (Of P) (Of Empty)

  abbrev pub unit_null_lem : List ℕ ⊎ List ℕ → Bool
  unit_null_lem x = Rattle.grammar.proofs.Laws.alt_null (Of P) p f (λ _. false) (λ _. []) h (Of Empty) empty_p [] (λ _. true) (λ _. []) empty_laws x

  abbrev pub unit_ext_lem : List ℕ ⊎ List ℕ → Class
  unit_ext_lem x = Rattle.grammar.proofs.Laws.alt_ext (Of P) p f (λ _. false) (λ _. []) h (Of Empty) empty_p [] (λ _. true) (λ _. []) empty_laws x

  pub unit_laws : Laws TurnL (alt_p f p empty_p) (f ++ []) unit_null_lem unit_ext_lem
  unit_laws = alt_laws (Of P) p f (λ _. false) (λ _. []) h (Of Empty) empty_p [] (λ _. true) (λ _. []) empty_laws (λ a. refl) refl

  many_to : (a : List (List ℕ)) (e : List ℕ) (w : List ℕ) → iterate TurnL (λ a. unit_ext_lem (inl a)) a e w → Of (Many P) (concats a e) w
  many_to [] e w l = (l.0, subst (Many P) (sym l.1) none)
  many_to (x ∷ a) e w l =
      let m = many_to a e l.1 l.5 in
      (ap (λ y. y ++ concats a e) l.3.0 ∙ ap (λ y. l.0 ++ y) m.0 ∙ sym l.2, subst (Many P) (sym l.2) (next l.3.1 m.1))

  many_from : {u : List ℕ} → Many P u → (a : List (List ℕ)) × (concats a [] ≡ u) × iterate TurnL (λ a. unit_ext_lem (inl a)) a [] u
  many_from none = ([], refl, (refl, refl))
  many_from (next {u = u} {v = v} x m) =
      let k = many_from m in
      (u ∷ k.0, ap (λ y. u ++ y) k.1, (u, v, refl, (refl, x), free_none v, k.2))

  loop_laws : Laws (iter_l TurnL (λ a. unit_ext_lem (inl a))) (iter_p (alt_p f p empty_p)) (f ++ []) (λ _. true) (λ _. f ++ [])
  loop_laws = iter_laws TurnL (alt_p f p empty_p) (f ++ []) unit_null_lem unit_ext_lem unit_laws (λ a. refl) [] (λ a t y. free_none t) (λ s a t e. free_none t) [] [] (refl, refl) (λ a. tt)

  pub many_laws : ByteLaws (Many P) (many_p f p) f true f
  many_laws =
      let k : ByteLaws (Many P) (many_p f p) (f ++ []) true f = conv_laws (λ x. concats x.0 x.1) (iter_l TurnL (λ a. unit_ext_lem (inl a))) (Of (Many P)) (iter_p (alt_p f p empty_p)) (f ++ []) (λ _. true) (λ _. f ++ []) loop_laws
      (λ a u l. many_to a.0 a.1 u l)
      (λ t u l. (let k = many_from l.1 in ((k.0, []), k.1 ∙ sym l.0, k.2)))
      (λ _. true) (λ _. f) (λ a e. refl) (λ a u t l y. subst (λ z. Free z t) (sym (append-nil f)) y) in
      subst (λ z. ByteLaws (Many P) (many_p f p) z true f) (append-nil f) k
