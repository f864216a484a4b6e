-- What holds of a parser and the language that it reads. Assumes nothing.
use Rattle.std.proofs.Common.{◌≡◌, ℕ, zero, suc, ◌<◌, ◌≤◌, Bool, true, false, cond, ◌&&◌, ◌||◌, ltb, leb, ◌⊎◌, List, [], ◌∷◌, ◌++◌, length, sym, refl, ap, ◌∙◌, subst, inl, inr, true≢false, append_assoc, append-nil, arith, length-append}
use mathlib.Core.List.{nil≢cons, cons≢nil, head-eq_of_cons-eq, tail-eq_of_cons-eq}
use mathlib.Core.Bool.{false≢true}
use Rattle.grammar.specs.Reader.{either, or_p}
use Rattle.std.proofs.lemmas.Bool.{leb-true, le-leb, lt-leb, and_parts, or_cases, or_parts, or_from, and_left, and_right, ltb-true, or_left, or_right, and_from}
use Rattle.grammar.specs.Parse.{Out, ok, bad, deep, Res, res, map_o, map_r, Lang, Parser, Class, within, starts, Free, Opening, one_l, one_p, eps_l, eps_p, seq_l, bind, seq_p, alt_l, pick, alt_p, map_l, map_p, iterate, iter_l, onto, turn, loop, iter_p}

-- what the outcome says of the part that was read
abbrev pub Says : {A : Type 0} → Lang A → List ℕ → Out A → Type 0
Says L u (ok a) = L a u
Says {A} L u bad = (w : List ℕ) × (a : A) × L a (u ++ w)
Says {A} L u deep = (w : List ℕ) × (a : A) × L a (u ++ w)

-- a text that nests too deep does so at an opening bracket
abbrev pub Halts : {A : Type 0} → Out A → List ℕ → Type 0
Halts (ok a) t = Unit {0}
Halts bad t = Unit {0}
Halts deep t = starts Opening t ≡ true

pub halts_map : {A B : Type 0} (f : A → B) (o : Out A) (t : List ℕ) → Halts o t → Halts (map_o f o) t
halts_map f (ok a) t h = tt
halts_map f bad t h = tt
halts_map f deep t h = h

-- the outcome rests on what was read and on the next byte
abbrev pub Again : {A : Type 0} → Parser A → List ℕ → Out A → List ℕ → Type 0
Again p u o [] = Unit {0}
Again p u o (b ∷ t) = (w : List ℕ) → p (u ++ b ∷ w) ≡ res o (b ∷ w)

abbrev pub Means : {A : Type 0} → Lang A → Parser A → List ℕ → Res A → Type 0
Means L p s (res o t) = (u : List ℕ) × (s ≡ u ++ t) × Says L u o × Again p u o t × Halts o t

pub record Laws {A : Type 0} (L : Lang A) (p : Parser A) (first : Class) (null : A → Bool) (ext : A → Class) : Type 0 where
  pub first_ok : (a : A) (b : ℕ) (u : List ℕ) → L a (b ∷ u) → within first b ≡ true
  pub null_ok : (a : A) → L a [] → null a ≡ true
  pub means : (s : List ℕ) → Means L p s (p s)
  pub complete : (a : A) (u t : List ℕ) → L a u → Free (ext a) t → p (u ++ t) ≡ res (ok a) t

pub within_app : (c d : Class) (b : ℕ) → within (c ++ d) b ≡ (within c b || within d b)
within_app [] d b = refl
within_app (r ∷ rs) d b = go (leb r.0 b && leb b r.1) (within_app rs d b)
  where
    go : (v : Bool) → within (rs ++ d) b ≡ (within rs b || within d b) → (v || within (rs ++ d) b) ≡ ((v || within rs b) || within d b)
    go true e = refl
    go false e = e

pub free_left : (c d : Class) (t : List ℕ) → Free (c ++ d) t → Free c t
free_left c d [] h = tt
free_left c d (b ∷ t) h = (or_parts (within c b) (within d b) (sym (within_app c d b) ∙ h)).0

pub free_right : (c d : Class) (t : List ℕ) → Free (c ++ d) t → Free d t
free_right c d [] h = tt
free_right c d (b ∷ t) h = (or_parts (within c b) (within d b) (sym (within_app c d b) ∙ h)).1

pub free_none : (t : List ℕ) → Free [] t
free_none [] = tt
free_none (b ∷ t) = refl

pub free_both : (c d : Class) (t : List ℕ) → Free c t → Free d t → Free (c ++ d) t
free_both c d [] f g = tt
free_both c d (b ∷ t) f g = within_app c d b ∙ or_from (within c b) (within d b) f g

pub free_front : (c : Class) (x y : List ℕ) → Free c (x ++ y) → Free c x
free_front c [] y h = tt
free_front c (b ∷ x) y h = h

pub in_left : (c d : Class) (b : ℕ) → within c b ≡ true → within (c ++ d) b ≡ true
in_left c d b h = within_app c d b ∙ or_left (within c b) (within d b) h

pub in_right : (c d : Class) (b : ℕ) → within d b ≡ true → within (c ++ d) b ≡ true
in_right c d b h = within_app c d b ∙ or_right (within c b) (within d b) h

-- two classes with no byte in common, by a test that computes
abbrev pub aside : ℕ × ℕ → Class → Bool
aside r [] = true
aside r (q ∷ qs) = (ltb r.1 q.0 || ltb q.1 r.0) && aside r qs

abbrev pub apart : Class → Class → Bool
apart [] d = true
apart (r ∷ rs) d = aside r d && apart rs d

aside_ok : (r : ℕ × ℕ) (d : Class) → aside r d ≡ true → (b : ℕ) → r.0 ≤ b → b ≤ r.1 → within d b ≡ false
aside_ok r [] h b lo hi = refl
aside_ok r (q ∷ qs) h b lo hi =
    let k = and_parts (ltb r.1 q.0 || ltb q.1 r.0) (aside r qs) h in
    or_from (leb q.0 b && leb b q.1) (within qs b)
    (elim (or_cases (ltb r.1 q.0) (ltb q.1 r.0) k.0) [
      | inl e ↦ (let e2 = ltb-true r.1 q.0 e in and_left (leb q.0 b) (leb b q.1) (lt-leb q.0 b (omega arith)))
      | inr e ↦ (let e2 = ltb-true q.1 r.0 e in and_right (leb q.0 b) (leb b q.1) (lt-leb b q.1 (omega arith)))
    ])
    (aside_ok r qs k.1 b lo hi)

pub apart_ok : (c d : Class) → apart c d ≡ true → (b : ℕ) → within c b ≡ true → within d b ≡ false
apart_ok [] d h b e = absurd (false≢true e)
apart_ok (r ∷ rs) d h b e =
    let k = and_parts (aside r d) (apart rs d) h in
    elim (or_cases (leb r.0 b && leb b r.1) (within rs b) e) [
      | inl y ↦ (let z = and_parts (leb r.0 b) (leb b r.1) y in aside_ok r d k.0 b (leb-true r.0 b z.0) (leb-true b r.1 z.1))
      | inr y ↦ apart_ok rs d k.1 b y
    ]

-- a class whose ranges each lie in a range of another, by a test that computes
abbrev pub inside : ℕ × ℕ → Class → Bool
inside r [] = false
inside r (q ∷ qs) = (leb q.0 r.0 && leb r.1 q.1) || inside r qs

abbrev pub covers : Class → Class → Bool
covers d [] = true
covers d (r ∷ rs) = inside r d && covers d rs

pub inside_ok : (r : ℕ × ℕ) (d : Class) → inside r d ≡ true → (b : ℕ) → r.0 ≤ b → b ≤ r.1 → within d b ≡ true
inside_ok r [] h b lo hi = absurd (false≢true h)
inside_ok r (q ∷ qs) h b lo hi =
    elim (or_cases (leb q.0 r.0 && leb r.1 q.1) (inside r qs) h) [
      | inl e ↦ (let k = and_parts (leb q.0 r.0) (leb r.1 q.1) e in let x = leb-true q.0 r.0 k.0 in let y = leb-true r.1 q.1 k.1 in
          or_left (leb q.0 b && leb b q.1) (within qs b) (and_from (leb q.0 b) (leb b q.1) (le-leb q.0 b (omega arith)) (le-leb b q.1 (omega arith))))
      | inr e ↦ or_right (leb q.0 b && leb b q.1) (within qs b) (inside_ok r qs e b lo hi)
    ]

pub covers_ok : (d c : Class) → covers d c ≡ true → (b : ℕ) → within c b ≡ true → within d b ≡ true
covers_ok d [] h b e = absurd (false≢true e)
covers_ok d (r ∷ rs) h b e =
    let k = and_parts (inside r d) (covers d rs) h in
    elim (or_cases (leb r.0 b && leb b r.1) (within rs b) e) [
      | inl y ↦ (let z = and_parts (leb r.0 b) (leb b r.1) y in inside_ok r d k.0 b (leb-true r.0 b z.0) (leb-true b r.1 z.1))
      | inr y ↦ covers_ok d rs k.1 b y
    ]

pub free_covers : (d c : Class) → covers d c ≡ true → (t : List ℕ) → Free d t → Free c t
free_covers d c h [] f = tt
free_covers d c h (b ∷ t) f = go (within c b) refl
  where
    go : (v : Bool) → within c b ≡ v → v ≡ false
    go true e = absurd (true≢false (sym (covers_ok d c h b e) ∙ f))
    go false e = refl

-- lists
pub cons_parts : (b c : ℕ) (s t : List ℕ) → b ∷ s ≡ c ∷ t → (b ≡ c) × (s ≡ t)
cons_parts b c s t e = (head-eq_of_cons-eq e, tail-eq_of_cons-eq e)

pub app_nil : (u v : List ℕ) → [] ≡ u ++ v → (u ≡ []) × (v ≡ [])
app_nil [] v e = (refl, sym e)
app_nil (b ∷ u) v e = absurd (nil≢cons e)

-- what was read ends before a part that is read again
pub carry : {A : Type 0} (p : Parser A) (u : List ℕ) (o : Out A) (t : List ℕ) → Again p u o t → (v : List ℕ) (b : ℕ) (r : List ℕ) → t ≡ v ++ b ∷ r → (w : List ℕ) → p (u ++ (v ++ b ∷ w)) ≡ res o (v ++ b ∷ w)
carry p u o t h [] b r e w = (subst (Again p u o) e h) w
carry p u o t h (c ∷ v) b r e w = (subst (Again p u o) e h) (v ++ b ∷ w)

-- one byte
pub one_laws : (c : Class) (a : ℕ) → within c a ≡ true → Laws (one_l c) (one_p c) c (λ _. false) (λ _. [])
one_laws c a h = record {
  first_ok = λ x b u l. (let k = cons_parts b x u [] l.0 in subst (λ y. within c y ≡ true) (sym k.0) l.1);
  null_ok = λ x l. absurd (nil≢cons l.0);
  means = m;
  complete = λ x u t l f. rw l.0 (ap (λ v. cond v (res (ok x) t) (res bad (x ∷ t))) l.1);
}
  where
    ag : (b : ℕ) (t : List ℕ) → within c b ≡ true → Again (one_p c) (b ∷ []) (ok b) t
    ag b [] e = tt
    ag b (d ∷ t) e = λ w. ap (λ v. cond v (res (ok b) (d ∷ w)) (res bad (b ∷ d ∷ w))) e

    go : (b : ℕ) (t : List ℕ) (v : Bool) → within c b ≡ v → Means (one_l c) (one_p c) (b ∷ t) (cond v (res (ok b) t) (res bad (b ∷ t)))
    go b t true e = (b ∷ [], refl, (refl, e), ag b t e, tt)
    go b t false e = ([], refl, (a ∷ [], a, (refl, h)), (λ w. ap (λ v. cond v (res (ok b) w) (res bad (b ∷ w))) e), tt)

    m : (s : List ℕ) → Means (one_l c) (one_p c) s (one_p c s)
    m [] = ([], refl, (a ∷ [], a, (refl, h)), tt, tt)
    m (b ∷ t) = go b t (within c b) refl

-- nothing
pub eps_laws : Laws eps_l eps_p [] (λ _. true) (λ _. [])
eps_laws = record {
  first_ok = λ x b u l. absurd (cons≢nil l);
  null_ok = λ x l. refl;
  means = λ s. ([], refl, refl, ag s, tt);
  complete = λ x u t l f. rw l refl;
}
  where
    ag : (s : List ℕ) → Again eps_p [] (ok tt) s
    ag [] = tt
    ag (b ∷ t) = λ w. refl

pub says_map : {A B : Type 0} (L : Lang A) (M : Lang B) (f : A → B) (u v : List ℕ) → ((a : A) (w : List ℕ) → L a (u ++ w) → M (f a) (v ++ w)) → (o : Out A) → Says L u o → Says M v (map_o f o)
says_map L M f u v h (ok a) l = rw append-nil at (h a [] (rw append-nil l))
says_map L M f u v h bad l = (l.0, f l.1, h l.1 l.0 l.2)
says_map L M f u v h deep l = (l.0, f l.1, h l.1 l.0 l.2)

-- the same with another result
module _ {A B : Type 0} (f : A → B) (L : Lang A) (p : Parser A) (first : Class) (null : A → Bool) (ext : A → Class) (h : Laws L p first null ext) where
  map_means : (s : List ℕ) (x : Res A) → Means L p s x → Means (map_l f L) (map_p f p) s (map_r f x)
  map_means s (res o t) m = (m.0, m.1, says_map L (map_l f L) f m.0 m.0 (λ a w l. (a, refl, l)) o m.2, ag t m.3, halts_map f o t m.4)
    where
      ag : (t : List ℕ) → Again p m.0 o t → Again (map_p f p) m.0 (map_o f o) t
      ag [] k = tt
      ag (b ∷ t) k = λ w. ap (map_r f) (k w)

  pub map_laws : (null2 : B → Bool) (ext2 : B → Class) → ((a : A) → null a ≡ true → null2 (f a) ≡ true) → ((a : A) (u t : List ℕ) → L a u → Free (ext2 (f a)) t → Free (ext a) t) → Laws (map_l f L) (map_p f p) first null2 ext2
  map_laws null2 ext2 hn he = record {
    first_ok = λ b c u l. h.first_ok l.0 c u l.2;
    null_ok = λ b l. subst (λ y. null2 y ≡ true) l.1 (hn l.0 (h.null_ok l.0 l.2));
    means = λ s. map_means s (p s) (h.means s);
    complete = λ b u t l k. ap (map_r f) (h.complete l.0 u t l.2 (he l.0 u t l.2 (subst (λ y. Free (ext2 y) t) (sym l.1) k))) ∙ ap (λ y. res (ok y) t) l.1;
  }

-- the same parser, its language in other words
pub say_laws : {A : Type 0} (L M : Lang A) (p : Parser A) (first : Class) (null : A → Bool) (ext : A → Class) → Laws L p first null ext → ((a : A) (u : List ℕ) → L a u → M a u) → ((a : A) (u : List ℕ) → M a u → L a u) → Laws M p first null ext
say_laws L M p first null ext h to from = record {
  first_ok = λ a b u l. h.first_ok a b u (from a (b ∷ u) l);
  null_ok = λ a l. h.null_ok a (from a [] l);
  means = λ s. go s (p s) (h.means s);
  complete = λ a u t l. h.complete a u t (from a u l);
}
  where
    says : (u : List ℕ) (o : Out _) → Says L u o → Says M u o
    says u (ok a) l = to a u l
    says u bad l = (l.0, l.1, to l.1 (u ++ l.0) l.2)
    says u deep l = (l.0, l.1, to l.1 (u ++ l.0) l.2)

    go : (s : List ℕ) (x : Res _) → Means L p s x → Means M p s x
    go s (res o t) m = (m.0, m.1, says m.0 o m.2, m.3, m.4)

-- the same parser, with a larger first class
pub first_laws : {A : Type 0} (L : Lang A) (p : Parser A) (first first2 : Class) (null : A → Bool) (ext : A → Class) → Laws L p first null ext → covers first2 first ≡ true → Laws L p first2 null ext
first_laws L p first first2 null ext h c = record {
  first_ok = λ a b u l. covers_ok first2 first c b (h.first_ok a b u l);
  null_ok = h.null_ok;
  means = h.means;
  complete = h.complete;
}

-- the same parser, with a wider class behind it
pub wide_laws : {A : Type 0} (L : Lang A) (p : Parser A) (first : Class) (null null2 : A → Bool) (ext ext2 : A → Class) → Laws L p first null ext → ((a : A) → null a ≡ true → null2 a ≡ true) → ((a : A) (u t : List ℕ) → L a u → Free (ext2 a) t → Free (ext a) t) → Laws L p first null2 ext2
wide_laws L p first null null2 ext ext2 h hn he = record {
  first_ok = h.first_ok;
  null_ok = λ a l. hn a (h.null_ok a l);
  means = h.means;
  complete = λ a u t l f. h.complete a u t l (he a u t l f);
}

-- the same parser with another result, its language in other words
pub conv_laws : {A B : Type 0} (f : A → B) (L : Lang A) (M : Lang B) (p : Parser A) (first : Class) (null : A → Bool) (ext : A → Class) → Laws L p first null ext → ((a : A) (u : List ℕ) → L a u → M (f a) u) → ((b : B) (u : List ℕ) → M b u → (a : A) × (f a ≡ b) × L a u) → (null2 : B → Bool) (ext2 : B → Class) → ((a : A) → null a ≡ true → null2 (f a) ≡ true) → ((a : A) (u t : List ℕ) → L a u → Free (ext2 (f a)) t → Free (ext a) t) → Laws M (map_p f p) first null2 ext2
conv_laws f L M p first null ext h to from null2 ext2 hn he =
    say_laws (map_l f L) M (map_p f p) first null2 ext2 (map_laws f L p first null ext h null2 ext2 hn he)
    (λ b u l. subst (λ y. M y u) l.1 (to l.0 u l.2)) from

-- what a first part rests on that is all, the whole rests on
seq_early : {A B : Type 0} (p : Parser A) (q : Parser B) (u : List ℕ) (o : Out A) (o2 : Out (A × B)) (t : List ℕ) → ((r : List ℕ) → bind q (res o r) ≡ res o2 r) → Again p u o t → Again (seq_p p q) u o2 t
seq_early p q u o o2 [] f z = tt
seq_early p q u o o2 (b ∷ t) f z = λ w. ap (bind q) (z w) ∙ f (b ∷ w)

-- what a second part rests on, the whole rests on
seq_again : {A B : Type 0} (p : Parser A) (q : Parser B) (a : A) (u v t r : List ℕ) (o : Out B) → Again p u (ok a) t → t ≡ v ++ r → Again q v o r → Again (seq_p p q) (u ++ v) (map_o (λ b. (a, b)) o) r
seq_again p q a u v t [] o h e z = tt
seq_again p q a u v t (b ∷ r) o h e z = λ w. rw append_assoc (ap (bind q) (carry p u (ok a) t h v b r e w) ∙ ap (map_r (λ b. (a, b))) (z w))

-- one after the other
module _ {A B : Type 0} (L : Lang A) (p : Parser A) (first : Class) (null : A → Bool) (ext : A → Class) (h : Laws L p first null ext) (M : Lang B) (q : Parser B) (first2 : Class) (null2 : B → Bool) (ext2 : B → Class) (k : Laws M q first2 null2 ext2) where
  seq_second : (s : List ℕ) (a : A) (t : List ℕ) → Means L p s (res (ok a) t) → (y : Res B) → Means M q t y → Means (seq_l L M) (seq_p p q) s (map_r (λ b. (a, b)) y)
  seq_second s a t m (res o r) n = (
    m.0 ++ n.0,
    m.1 ∙ ap (λ y. m.0 ++ y) n.1 ∙ sym (append_assoc m.0 n.0 r),
    says_map M (seq_l L M) (λ b. (a, b)) n.0 (m.0 ++ n.0) (λ b w l. (m.0, n.0 ++ w, append_assoc m.0 n.0 w, m.2, l)) o n.2,
    seq_again p q a m.0 n.0 t r o m.3 n.1 n.3,
    halts_map (λ b. (a, b)) o r n.4,
  )

  seq_means : (c : B) (v : List ℕ) → M c v → (s : List ℕ) (x : Res A) → Means L p s x → Means (seq_l L M) (seq_p p q) s (bind q x)
  seq_means c v l s (res (ok a) t) m = seq_second s a t m (q t) (k.means t)
  seq_means c v l s (res bad t) m = (
    m.0,
    m.1,
    (m.2.0 ++ v, (m.2.1, c), (m.0 ++ m.2.0, v, sym (append_assoc m.0 m.2.0 v), m.2.2, l)),
    seq_early p q m.0 bad bad t (λ r. refl) m.3,
    tt,
  )
  seq_means c v l s (res deep t) m = (
    m.0,
    m.1,
    (m.2.0 ++ v, (m.2.1, c), (m.0 ++ m.2.0, v, sym (append_assoc m.0 m.2.0 v), m.2.2, l)),
    seq_early p q m.0 deep deep t (λ r. refl) m.3,
    m.4,
  )

  abbrev pub seq_first : Bool → Class
  seq_first nl = first ++ cond nl first2 []

  abbrev pub seq_null : A × B → Bool
  seq_null x = null x.0 && null2 x.1

  abbrev pub seq_ext : A × B → Class
  seq_ext x = ext2 x.1 ++ cond (null2 x.1) (ext x.0) []

  seq_free : (a : A) (c : B) (v t : List ℕ) → ((b : ℕ) → within first2 b ≡ true → within (ext a) b ≡ false) → M c v → Free (seq_ext (a, c)) t → Free (ext a) (v ++ t)
  seq_free a c [] t d l f = subst (λ y. Free (cond y (ext a) []) t) (k.null_ok c l) (free_right (ext2 c) (cond (null2 c) (ext a) []) t f)
  seq_free a c (b ∷ v) t d l f = d b (k.first_ok c b v l)

  seq_first_ok : (nl : Bool) → ((a : A) → null a ≡ true → nl ≡ true) → (x : A × B) (b : ℕ) (w u v : List ℕ) → b ∷ w ≡ u ++ v → L x.0 u → M x.1 v → within (seq_first nl) b ≡ true
  seq_first_ok nl hn x b w [] v e l m =
      let n : M x.1 (b ∷ w) = subst (M x.1) (sym e) m in
      in_right first (cond nl first2 []) b (subst (λ y. within (cond y first2 []) b ≡ true) (sym (hn x.0 (h.null_ok x.0 l))) (k.first_ok x.1 b w n))
  seq_first_ok nl hn x b w (c ∷ u) v e l m =
      in_left first (cond nl first2 []) b (subst (λ y. within first y ≡ true) (sym (head-eq_of_cons-eq e)) (h.first_ok x.0 c u l))

  pub seq_laws : (nl : Bool) → ((a : A) → null a ≡ true → nl ≡ true) → ((a : A) → apart first2 (ext a) ≡ true) → (c : B) (v : List ℕ) → M c v → Laws (seq_l L M) (seq_p p q) (seq_first nl) seq_null seq_ext
  seq_laws nl hn d c v l = record {
    first_ok = λ x b w z. seq_first_ok nl hn x b w z.0 z.1 z.2 z.3 z.4;
    null_ok = λ x z. (let e = app_nil z.0 z.1 z.2 in
        and_from (null x.0) (null2 x.1) (h.null_ok x.0 (subst (L x.0) e.0 z.3)) (k.null_ok x.1 (subst (M x.1) e.1 z.4)));
    means = λ s. seq_means c v l s (p s) (h.means s);
    complete = λ x w t z f.
        ap (λ y. bind q (p (y ++ t))) z.2
        ∙ ap (λ y. bind q (p y)) (append_assoc z.0 z.1 t)
        ∙ ap (bind q) (h.complete x.0 z.0 (z.1 ++ t) z.3 (seq_free x.0 x.1 z.1 t (apart_ok first2 (ext x.0) (d x.0)) z.4 f))
        ∙ ap (map_r (λ b. (x.0, b))) (k.complete x.1 z.1 t z.4 (free_left (ext2 x.1) (cond (null2 x.1) (ext x.0) []) t f));
  }

-- one or the other
pub starts_same : (c : Class) (u : List ℕ) (b : ℕ) (t w : List ℕ) → starts c (u ++ b ∷ t) ≡ starts c (u ++ b ∷ w)
starts_same c [] b t w = refl
starts_same c (d ∷ u) b t w = refl

module _ {A B : Type 0} (L : Lang A) (p : Parser A) (first : Class) (null : A → Bool) (ext : A → Class) (h : Laws L p first null ext) (M : Lang B) (q : Parser B) (first2 : Class) (null2 : B → Bool) (ext2 : B → Class) (k : Laws M q first2 null2 ext2) where
  abbrev pub alt_null : A ⊎ B → Bool
  alt_null (inl a) = false
  alt_null (inr b) = null2 b

  abbrev pub alt_ext : A ⊎ B → Class
  alt_ext (inl a) = ext a
  alt_ext (inr b) = ext2 b ++ cond (null2 b) first []

  alt_left : (s : List ℕ) → starts first s ≡ true → (x : Res A) → Means L p s x → Means (alt_l L M) (alt_p first p q) s (map_r inl x)
  alt_left s e (res o t) m = (m.0, m.1, says_map L (alt_l L M) inl m.0 m.0 (λ a w l. l) o m.2, ag t m.1 m.3, halts_map inl o t m.4)
    where
      ag : (t : List ℕ) → s ≡ m.0 ++ t → Again p m.0 o t → Again (alt_p first p q) m.0 (map_o inl o) t
      ag [] f z = tt
      ag (b ∷ t) f z = λ w.
          ap (λ y. pick y p q (m.0 ++ b ∷ w)) (starts_same first m.0 b w t ∙ ap (starts first) (sym f) ∙ e) ∙ ap (map_r inl) (z w)

  alt_right : (s : List ℕ) → starts first s ≡ false → (x : Res B) → Means M q s x → Means (alt_l L M) (alt_p first p q) s (map_r inr x)
  alt_right s e (res o t) m = (m.0, m.1, says_map M (alt_l L M) inr m.0 m.0 (λ a w l. l) o m.2, ag t m.1 m.3, halts_map inr o t m.4)
    where
      ag : (t : List ℕ) → s ≡ m.0 ++ t → Again q m.0 o t → Again (alt_p first p q) m.0 (map_o inr o) t
      ag [] f z = tt
      ag (b ∷ t) f z = λ w.
          ap (λ y. pick y p q (m.0 ++ b ∷ w)) (starts_same first m.0 b w t ∙ ap (starts first) (sym f) ∙ e) ∙ ap (map_r inr) (z w)

  alt_means : (s : List ℕ) (v : Bool) → starts first s ≡ v → Means (alt_l L M) (alt_p first p q) s (pick v p q s)
  alt_means s true e = alt_left s e (p s) (h.means s)
  alt_means s false e = alt_right s e (q s) (k.means s)

  alt_first_ok : (x : A ⊎ B) (b : ℕ) (u : List ℕ) → alt_l L M x (b ∷ u) → within (first ++ first2) b ≡ true
  alt_first_ok (inl a) b u l = in_left first first2 b (h.first_ok a b u l)
  alt_first_ok (inr c) b u l = in_right first first2 b (k.first_ok c b u l)

  alt_null_ok : ((a : A) → null a ≡ false) → (x : A ⊎ B) → alt_l L M x [] → alt_null x ≡ true
  alt_null_ok hn (inl a) l = sym (hn a) ∙ h.null_ok a l
  alt_null_ok hn (inr c) l = k.null_ok c l

  alt_complete : ((a : A) → null a ≡ false) → apart first2 first ≡ true → (x : A ⊎ B) (u t : List ℕ) → alt_l L M x u → Free (alt_ext x) t → alt_p first p q (u ++ t) ≡ res (ok x) t
  alt_complete hn d (inl a) [] t l f = absurd (false≢true (sym (hn a) ∙ h.null_ok a l))
  alt_complete hn d (inl a) (b ∷ u) t l f =
      ap (λ y. pick y p q (b ∷ (u ++ t))) (h.first_ok a b u l) ∙ ap (map_r inl) (h.complete a (b ∷ u) t l f)
  alt_complete hn d (inr c) [] t l f =
      ap (λ y. pick y p q t) (none t (subst (λ y. Free (cond y first []) t) (k.null_ok c l) (free_right (ext2 c) (cond (null2 c) first []) t f)))
      ∙ ap (map_r inr) (k.complete c [] t l (free_left (ext2 c) (cond (null2 c) first []) t f))
    where
      none : (t : List ℕ) → Free first t → starts first t ≡ false
      none [] z = refl
      none (b ∷ t) z = z
  alt_complete hn d (inr c) (b ∷ u) t l f =
      ap (λ y. pick y p q (b ∷ (u ++ t))) (apart_ok first2 first d b (k.first_ok c b u l))
      ∙ ap (map_r inr) (k.complete c (b ∷ u) t l (free_left (ext2 c) (cond (null2 c) first []) t f))

  pub alt_laws : ((a : A) → null a ≡ false) → apart first2 first ≡ true → Laws (alt_l L M) (alt_p first p q) (first ++ first2) alt_null alt_ext
  alt_laws hn d = record {
    first_ok = alt_first_ok;
    null_ok = alt_null_ok hn;
    means = λ s. alt_means s (starts first s) refl;
    complete = alt_complete hn d;
  }

-- one after the other, where what follows does not go on the first
abbrev pub tied_l : {A B : Type 0} → Lang A → (A → Class) → Lang B → Lang (A × B)
tied_l L ext M x w = (u : List ℕ) × (v : List ℕ) × (w ≡ u ++ v) × L x.0 u × Free (ext x.0) v × M x.1 v

module _ {A B : Type 0} (L : Lang A) (p : Parser A) (first : Class) (null : A → Bool) (ext : A → Class) (h : Laws L p first null ext) (M : Lang B) (q : Parser B) (first2 : Class) (null2 : B → Bool) (ext2 : B → Class) (k : Laws M q first2 null2 ext2) (greedy : (s : List ℕ) (a : A) (t : List ℕ) → p s ≡ res (ok a) t → Free (ext a) t) (c : B) (l : M c []) where
  tied_says : (a : A) (x y r : List ℕ) → L a x → Free (ext a) (y ++ r) → (o : Out B) → Says M y o → Says (tied_l L ext M) (x ++ y) (map_o (λ b. (a, b)) o)
  tied_says a x y r z g (ok b) n = (x, y, refl, z, free_front (ext a) y r g, n)
  tied_says a x [] r z g bad n = ([], (a, c), (x, [], ap (λ y. y ++ []) (append-nil x), z, tt, l))
  tied_says a x (b ∷ y) r z g bad n = (n.0, (a, n.1), (x, (b ∷ y) ++ n.0, append_assoc x (b ∷ y) n.0, z, g, n.2))
  tied_says a x [] r z g deep n = ([], (a, c), (x, [], ap (λ y. y ++ []) (append-nil x), z, tt, l))
  tied_says a x (b ∷ y) r z g deep n = (n.0, (a, n.1), (x, (b ∷ y) ++ n.0, append_assoc x (b ∷ y) n.0, z, g, n.2))

  tied_second : (s : List ℕ) (a : A) (t : List ℕ) → Free (ext a) t → Means L p s (res (ok a) t) → (y : Res B) → Means M q t y → Means (tied_l L ext M) (seq_p p q) s (map_r (λ b. (a, b)) y)
  tied_second s a t g m (res o r) n = (
    m.0 ++ n.0,
    m.1 ∙ ap (λ y. m.0 ++ y) n.1 ∙ sym (append_assoc m.0 n.0 r),
    tied_says a m.0 n.0 r m.2 (subst (Free (ext a)) n.1 g) o n.2,
    seq_again p q a m.0 n.0 t r o m.3 n.1 n.3,
    halts_map (λ b. (a, b)) o r n.4,
  )

  tied_early : (s : List ℕ) (o : Out A) (o2 : Out (A × B)) (t : List ℕ) → ((r : List ℕ) → bind q (res o r) ≡ res o2 r) → (m : Means L p s (res o t)) → Says (tied_l L ext M) m.0 o2 → Halts o2 t → Means (tied_l L ext M) (seq_p p q) s (res o2 t)
  tied_early s o o2 t f m y z = (m.0, m.1, y, seq_early p q m.0 o o2 t f m.3, z)

  tied_means : (s : List ℕ) (x : Res A) → p s ≡ x → Means L p s x → Means (tied_l L ext M) (seq_p p q) s (bind q x)
  tied_means s (res (ok a) t) e m = tied_second s a t (greedy s a t e) m (q t) (k.means t)
  tied_means s (res bad t) e m = tied_early s bad bad t (λ r. refl) m (m.2.0, (m.2.1, c), (m.0 ++ m.2.0, [], sym (append-nil (m.0 ++ m.2.0)), m.2.2, tt, l)) tt
  tied_means s (res deep t) e m = tied_early s deep deep t (λ r. refl) m (m.2.0, (m.2.1, c), (m.0 ++ m.2.0, [], sym (append-nil (m.0 ++ m.2.0)), m.2.2, tt, l)) m.4

  tied_free : (a : A) (d : B) (v t : List ℕ) → Free (ext a) v → M d v → Free (ext2 d ++ cond (null2 d) (ext a) []) t → Free (ext a) (v ++ t)
  tied_free a d [] t g z f = subst (λ y. Free (cond y (ext a) []) t) (k.null_ok d z) (free_right (ext2 d) (cond (null2 d) (ext a) []) t f)
  tied_free a d (b ∷ v) t g z f = g

  tied_first : (x : A × B) (b : ℕ) (w u v : List ℕ) → b ∷ w ≡ u ++ v → L x.0 u → M x.1 v → within (first ++ first2) b ≡ true
  tied_first x b w [] v e y m = in_right first first2 b (k.first_ok x.1 b w (subst (M x.1) (sym e) m))
  tied_first x b w (d ∷ u) v e y m = in_left first first2 b (subst (λ y. within first y ≡ true) (sym (head-eq_of_cons-eq e)) (h.first_ok x.0 d u y))

  pub tied_laws : Laws (tied_l L ext M) (seq_p p q) (first ++ first2) (λ x. null x.0 && null2 x.1) (λ x. ext2 x.1 ++ cond (null2 x.1) (ext x.0) [])
  tied_laws = record {
    first_ok = λ x b w z. tied_first x b w z.0 z.1 z.2 z.3 z.5;
    null_ok = λ x z. (let e = app_nil z.0 z.1 z.2 in
        and_from (null x.0) (null2 x.1) (h.null_ok x.0 (subst (L x.0) e.0 z.3)) (k.null_ok x.1 (subst (M x.1) e.1 z.5)));
    means = λ s. tied_means s (p s) refl (h.means s);
    complete = λ x w t z f.
        ap (λ y. bind q (p (y ++ t))) z.2
        ∙ ap (λ y. bind q (p y)) (append_assoc z.0 z.1 t)
        ∙ ap (bind q) (h.complete x.0 z.0 (z.1 ++ t) z.3 (tied_free x.0 x.1 z.1 t z.4 z.5 f))
        ∙ ap (map_r (λ b. (x.0, b))) (k.complete x.1 z.1 t z.5 (free_left (ext2 x.1) (cond (null2 x.1) (ext x.0) []) t f));
  }

-- one or the other where the result does not say which, with one class behind both
module _ {A : Type 0} (L M : Lang A) (p q : Parser A) (f g : Class) (n : A → Bool) (e : A → Class) (h : Laws L p f (λ _. false) e) (k : Laws M q g n e) where
  abbrev pub OrL : Lang A
  OrL a u = L a u ⊎ M a u

  or_to : (x : A ⊎ A) (u : List ℕ) → alt_l L M x u → OrL (either x) u
  or_to (inl a) u l = inl l
  or_to (inr b) u l = inr l

  or_back : (a : A) (u : List ℕ) → OrL a u → (x : A ⊎ A) × (either x ≡ a) × alt_l L M x u
  or_back a u (inl l) = (inl a, refl, l)
  or_back a u (inr l) = (inr a, refl, l)

  or_null : (x : A ⊎ A) → alt_null L p f (λ _. false) e h M q g n e k x ≡ true → n (either x) ≡ true
  or_null (inl a) z = absurd (false≢true z)
  or_null (inr b) z = z

  pub choice_laws : apart g f ≡ true → ((b : A) (u t : List ℕ) → M b u → n b ≡ true → Free (e b) t → Free f t) → Laws OrL (or_p f p q) (f ++ g) n e
  choice_laws d w = conv_laws either (alt_l L M) OrL (alt_p f p q) (f ++ g) _ _ (alt_laws L p f (λ _. false) e h M q g n e k (λ a. refl) d) or_to or_back n e or_null free
    where
      behind : (b : A) (u t : List ℕ) → M b u → Free (e b) t → (v : Bool) → n b ≡ v → Free (cond v f []) t
      behind b u t l y true z = w b u t l z y
      behind b u t l y false z = free_none t

      free : (x : A ⊎ A) (u t : List ℕ) → alt_l L M x u → Free (e (either x)) t → Free (alt_ext L p f (λ _. false) e h M q g n e k x) t
      free (inl a) u t l y = y
      free (inr b) u t l y = free_both (e b) (cond (n b) f []) t y (behind b u t l y (n b) refl)

-- what a parser leaves does not go on what it read
abbrev pub Fine : {A : Type 0} → (A → Class) → Res A → Type 0
Fine e (res (ok a) t) = Free (e a) t
Fine e (res bad t) = Unit {0}
Fine e (res deep t) = Unit {0}

pub fine_map : {A B : Type 0} (f : A → B) (e : B → Class) (x : Res A) → Fine (λ a. e (f a)) x → Fine e (map_r f x)
fine_map f e (res (ok a) t) h = h
fine_map f e (res bad t) h = tt
fine_map f e (res deep t) h = tt

pub fine_bind : {A B : Type 0} (q : Parser B) (e : A × B → Class) (x : Res A) → ((a : A) (t : List ℕ) → Fine (λ b. e (a, b)) (q t)) → Fine e (bind q x)
fine_bind q e (res (ok a) t) h = fine_map (λ b. (a, b)) e (q t) (h a t)
fine_bind q e (res bad t) h = tt
fine_bind q e (res deep t) h = tt

pub fine_next : {A B : Type 0} (q : Parser B) (d : A → Class) (e : A × B → Class) (x : Res A) → Fine d x → ((a : A) (t : List ℕ) → Free (d a) t → Fine (λ b. e (a, b)) (q t)) → Fine e (bind q x)
fine_next q d e (res (ok a) t) g h = fine_map (λ b. (a, b)) e (q t) (h a t g)
fine_next q d e (res bad t) g h = tt
fine_next q d e (res deep t) g h = tt

pub fine_pick : {A B : Type 0} (v : Bool) (p : Parser A) (q : Parser B) (s : List ℕ) (e : A ⊎ B → Class) → (v ≡ true → Fine (λ a. e (inl a)) (p s)) → (v ≡ false → Fine (λ b. e (inr b)) (q s)) → Fine e (pick v p q s)
fine_pick true p q s e h k = fine_map inl e (p s) (h refl)
fine_pick false p q s e h k = fine_map inr e (q s) (k refl)

pub fine_turn : {A B : Type 0} (k : Parser (List A × B)) (e : B → Class) (x : Res (A ⊎ B)) → Fine (λ y. elim y [ inl a ↦ [] | inr c ↦ e c ]) x → ((t : List ℕ) → Fine (λ y. e y.1) (k t)) → Fine (λ y. e y.1) (turn k x)
fine_turn k e (res (ok (inl a)) t) h z = fine_map (onto a) (λ y. e y.1) (k t) (z t)
fine_turn k e (res (ok (inr c)) t) h z = h
fine_turn k e (res bad t) h z = tt
fine_turn k e (res deep t) h z = tt

pub fine_loop : {A B : Type 0} (p : Parser (A ⊎ B)) (e : B → Class) → ((s : List ℕ) → Fine (λ y. elim y [ inl a ↦ [] | inr c ↦ e c ]) (p s)) → (n : ℕ) (s : List ℕ) → Fine (λ y. e y.1) (loop n p s)
fine_loop p e h zero s = tt
fine_loop p e h (suc n) s = fine_turn (loop n p) e (p s) (h s) (λ t. fine_loop p e h n t)

pub fine_any : {A : Type 0} (x : Res A) → Fine (λ _. []) x
fine_any (res (ok a) t) = free_none t
fine_any (res bad t) = tt
fine_any (res deep t) = tt

-- a loop whose turns that go on leave less than there was
module _ {A B : Type 0} (p : Parser (A ⊎ B)) (less : (s : List ℕ) (a : A) (t : List ℕ) → p s ≡ res (ok (inl a)) t → length t < length s) where
  turn_same : (j k : Parser (List A × B)) (s : List ℕ) (x : Res (A ⊎ B)) → p s ≡ x → ((t : List ℕ) → length t < length s → j t ≡ k t) → turn j x ≡ turn k x
  turn_same j k s (res (ok (inl a)) t) e f = ap (map_r (onto a)) (f t (less s a t e))
  turn_same j k s (res (ok (inr c)) t) e f = refl
  turn_same j k s (res bad t) e f = refl
  turn_same j k s (res deep t) e f = refl

  loop_same : (f g : ℕ) (s : List ℕ) → length s < f → length s < g → loop f p s ≡ loop g p s
  loop_same zero g s hf hg = absurd (omega arith)
  loop_same (suc f) zero s hf hg = absurd (omega arith)
  loop_same (suc f) (suc g) s hf hg = turn_same (loop f p) (loop g p) s (p s) refl (λ t lt. loop_same f g t (omega arith) (omega arith))

  -- the first turn, and then the rest
  pub iter_turn : (s : List ℕ) → iter_p p s ≡ turn (iter_p p) (p s)
  iter_turn s = turn_same (loop (length s) p) (iter_p p) s (p s) refl (λ t lt. loop_same (length s) (suc (length t)) t lt (omega arith))

-- again and again
module _ {A B : Type 0} (L : Lang (A ⊎ B)) (p : Parser (A ⊎ B)) (first : Class) (null : A ⊎ B → Bool) (ext : A ⊎ B → Class) (h : Laws L p first null ext) (go_on : (a : A) → null (inl a) ≡ false) where
  -- a turn that goes on has read something
  shorter : (a : A) (s u t : List ℕ) → s ≡ u ++ t → L (inl a) u → length t < length s
  shorter a s [] t e l = absurd (false≢true (sym (go_on a) ∙ h.null_ok (inl a) l))
  shorter a s (b ∷ u) t e l = rw e (simp length-append (omega arith))

  pub progress : (s : List ℕ) (a : A) (t : List ℕ) → p s ≡ res (ok (inl a)) t → length t < length s
  progress s a t e = (let m = subst (Means L p s) e (h.means s) in shorter a s m.0 t m.1 m.2)

  abbrev wide : A → Class
  wide a = ext (inl a)

  -- after a turn, what comes next does not make it longer
  abbrev pub Greedy : Type 0
  Greedy = (s : List ℕ) (a : A) (t : List ℕ) → p s ≡ res (ok (inl a)) t → Free (ext (inl a)) t

  more_says : (c : B) (v : List ℕ) → L (inr c) v → ((a : A) → Free (ext (inl a)) v) → (a : A) (x y r : List ℕ) → L (inl a) x → Free (ext (inl a)) (y ++ r) → (o : Out (List A × B)) → Says (iter_l L wide) y o → Says (iter_l L wide) (x ++ y) (map_o (onto a) o)
  more_says c v l f a x y r z g (ok b) k = (x, y, refl, z, free_front (ext (inl a)) y r g, k)
  more_says c v l f a x [] r z g bad k = (v, (a ∷ [], c), (x, v, ap (λ y. y ++ v) (append-nil x), z, f a, l))
  more_says c v l f a x (b ∷ y) r z g bad k = (k.0, onto a k.1, (x, (b ∷ y) ++ k.0, append_assoc x (b ∷ y) k.0, z, g, k.2))
  more_says c v l f a x [] r z g deep k = (v, (a ∷ [], c), (x, v, ap (λ y. y ++ v) (append-nil x), z, f a, l))
  more_says c v l f a x (b ∷ y) r z g deep k = (k.0, onto a k.1, (x, (b ∷ y) ++ k.0, append_assoc x (b ∷ y) k.0, z, g, k.2))

  iter_more : (c : B) (v : List ℕ) → L (inr c) v → ((a : A) → Free (ext (inl a)) v) → (s : List ℕ) (a : A) (t : List ℕ) → Free (ext (inl a)) t → Means L p s (res (ok (inl a)) t) → (y : Res (List A × B)) → Means (iter_l L wide) (iter_p p) t y → Means (iter_l L wide) (iter_p p) s (map_r (onto a) y)
  iter_more c v l f s a t g m (res o r) n = (
    m.0 ++ n.0,
    m.1 ∙ ap (λ y. m.0 ++ y) n.1 ∙ sym (append_assoc m.0 n.0 r),
    more_says c v l f a m.0 n.0 r m.2 (subst (Free (ext (inl a))) n.1 g) o n.2,
    ag r n.1 n.3,
    halts_map (onto a) o r n.4,
  )
    where
      ag : (r : List ℕ) → t ≡ n.0 ++ r → Again (iter_p p) n.0 o r → Again (iter_p p) (m.0 ++ n.0) (map_o (onto a) o) r
      ag [] e z = tt
      ag (b ∷ r) e z = λ w.
          ap (iter_p p) (append_assoc m.0 n.0 (b ∷ w))
          ∙ iter_turn p progress (m.0 ++ (n.0 ++ b ∷ w))
          ∙ ap (turn (iter_p p)) (carry p m.0 (ok (inl a)) t m.3 n.0 b r e w)
          ∙ ap (map_r (onto a)) (z w)

  iter_last : (s : List ℕ) (o : Out (A ⊎ B)) (o2 : Out (List A × B)) (t : List ℕ) → ((r : List ℕ) → turn (iter_p p) (res o r) ≡ res o2 r) → (m : Means L p s (res o t)) → Says (iter_l L wide) m.0 o2 → Halts o2 t → Means (iter_l L wide) (iter_p p) s (res o2 t)
  iter_last s o o2 t f m y k = (m.0, m.1, y, ag t m.3, k)
    where
      ag : (t : List ℕ) → Again p m.0 o t → Again (iter_p p) m.0 o2 t
      ag [] z = tt
      ag (b ∷ t) z = λ w. iter_turn p progress (m.0 ++ b ∷ w) ∙ ap (turn (iter_p p)) (z w) ∙ f (b ∷ w)

  iter_finish : (c : B) (v : List ℕ) → L (inr c) v → ((a : A) → Free (ext (inl a)) v) → (u w : List ℕ) (x : A ⊎ B) → L x (u ++ w) → Says (iter_l L wide) u bad
  iter_finish c v l f u w (inl a) z = (w ++ v, (a ∷ [], c), (u ++ w, v, sym (append_assoc u w v), z, f a, l))
  iter_finish c v l f u w (inr d) z = (w, ([], d), z)

  iter_step : (c : B) (v : List ℕ) → L (inr c) v → ((a : A) → Free (ext (inl a)) v) → (s : List ℕ) (x : Res (A ⊎ B)) → p s ≡ x → Greedy → Means L p s x → ((t : List ℕ) → length t < length s → Means (iter_l L wide) (iter_p p) t (iter_p p t)) → Means (iter_l L wide) (iter_p p) s (turn (iter_p p) x)
  iter_step c v l f s (res (ok (inl a)) t) e g m k = iter_more c v l f s a t (g s a t e) m (iter_p p t) (k t (shorter a s m.0 t m.1 m.2))
  iter_step c v l f s (res (ok (inr d)) t) e g m k = iter_last s (ok (inr d)) (ok ([], d)) t (λ r. refl) m m.2 tt
  iter_step c v l f s (res bad t) e g m k = iter_last s bad bad t (λ r. refl) m (iter_finish c v l f m.0 m.2.0 m.2.1 m.2.2) tt
  iter_step c v l f s (res deep t) e g m k = iter_last s deep deep t (λ r. refl) m (iter_finish c v l f m.0 m.2.0 m.2.1 m.2.2) m.4

  iter_means : (c : B) (v : List ℕ) → L (inr c) v → ((a : A) → Free (ext (inl a)) v) → Greedy → (n : ℕ) (s : List ℕ) → length s < n → Means (iter_l L wide) (iter_p p) s (iter_p p s)
  iter_means c v l f g zero s lt = absurd (omega arith)
  iter_means c v l f g (suc n) s lt =
      subst (Means (iter_l L wide) (iter_p p) s) (sym (iter_turn p progress s)) (iter_step c v l f s (p s) refl g (h.means s) (λ t lt2. iter_means c v l f g n t (omega arith)))

  abbrev pub iter_null : List A × B → Bool
  iter_null x = null (inr x.1)

  abbrev pub iter_ext : Class → List A × B → Class
  iter_ext E x = ext (inr x.1) ++ cond (null (inr x.1)) E []

  iter_first_ok : (more : List A) (c : B) (b : ℕ) (w : List ℕ) → iterate L wide more c (b ∷ w) → within first b ≡ true
  iter_first_ok [] c b w l = h.first_ok (inr c) b w l
  iter_first_ok (a ∷ more) c b w l = go l.0 l.2 l.3
    where
      go : (u : List ℕ) → b ∷ w ≡ u ++ l.1 → L (inl a) u → within first b ≡ true
      go [] e z = absurd (false≢true (sym (go_on a) ∙ h.null_ok (inl a) z))
      go (d ∷ u) e z = subst (λ y. within first y ≡ true) (sym (head-eq_of_cons-eq e)) (h.first_ok (inl a) d u z)

  iter_null_ok : (more : List A) (c : B) → iterate L wide more c [] → null (inr c) ≡ true
  iter_null_ok [] c l = h.null_ok (inr c) l
  iter_null_ok (a ∷ more) c l =
      let e = app_nil l.0 l.1 l.2 in
      absurd (false≢true (sym (go_on a) ∙ h.null_ok (inl a) (subst (L (inl a)) e.0 l.3)))

  module _ (E : Class) (all : (a : A) (t : List ℕ) → Free E t → Free (ext (inl a)) t) where
    -- what follows a turn, inside the loop and behind it
    behind : (a : A) (more : List A) (c : B) (v t : List ℕ) → Free (ext (inl a)) v → iterate L wide more c v → Free (iter_ext E (more, c)) t → Free (ext (inl a)) (v ++ t)
    behind a more c [] t g l f = all a t (subst (λ y. Free (cond y E []) t) (iter_null_ok more c l) (free_right (ext (inr c)) (cond (null (inr c)) E []) t f))
    behind a more c (b ∷ v) t g l f = g

    iter_complete : (more : List A) (c : B) (w t : List ℕ) → iterate L wide more c w → Free (iter_ext E (more, c)) t → iter_p p (w ++ t) ≡ res (ok (more, c)) t
    iter_complete [] c w t l f = iter_turn p progress (w ++ t) ∙ ap (turn (iter_p p)) (h.complete (inr c) w t l (free_left (ext (inr c)) (cond (null (inr c)) E []) t f))
    iter_complete (a ∷ more) c w t l f =
        ap (λ y. iter_p p (y ++ t)) l.2
        ∙ ap (iter_p p) (append_assoc l.0 l.1 t)
        ∙ iter_turn p progress (l.0 ++ (l.1 ++ t))
        ∙ ap (turn (iter_p p)) (h.complete (inl a) l.0 (l.1 ++ t) l.3 (behind a more c l.1 t l.4 l.5 f))
        ∙ ap (map_r (onto a)) (iter_complete more c l.1 t l.5 f)

    pub iter_laws : Greedy → (c : B) (v : List ℕ) → L (inr c) v → ((a : A) → Free (ext (inl a)) v) → Laws (iter_l L wide) (iter_p p) first iter_null (iter_ext E)
    iter_laws g c v l f = record {
      first_ok = λ x b w z. iter_first_ok x.0 x.1 b w z;
      null_ok = λ x z. iter_null_ok x.0 x.1 z;
      means = λ s. iter_means c v l f g (suc (length s)) s (omega arith);
      complete = λ x w t z f. iter_complete x.0 x.1 w t z f;
    }
