-- Block comments: the laws of the parser that goes through the first star and slash. Assumes nothing.
use Rattle.std.proofs.Common.{◌≡◌, ℕ, ◌≤◌, Bool, true, false, cond, ◌&&◌, eqb, leb, ◌⊎◌, List, [], ◌∷◌, ◌++◌, sym, refl, ap, ◌∙◌, subst, inl, inr, true≢false, append_assoc, arith}
use mathlib.Core.List.{nil≢cons, head-eq_of_cons-eq, tail-eq_of_cons-eq}
use mathlib.Core.Bool.{false≢true}
use Rattle.std.proofs.lemmas.Bool.{eqb-true, eqb-false, eq-eqb, and_parts, or_cases, leb-true, cases_lt}
use Rattle.grammar.specs.Parse.{ok, bad, deep, Res, res, map_r, Lang, Parser, Class, within, Free, one_l, one_p, eps_l, eps_p, seq_l, seq_p, bind, alt_l, alt_p, pick, iterate, iter_l, iter_p}
use Rattle.grammar.specs.Classes.{only, Ascii, InBlock, MultiFirst}
use Rattle.grammar.specs.Grammar.{All, Multi, two, three_E0, three_E1, three_ED, three_EE, four_F0, four_F1, four_F4, Char, one, several, Many, none, next, Shut}
use Rattle.grammar.specs.Reader.{concats, char_p, block_turn, block_turn_p, block_p}
use Rattle.grammar.proofs.Laws.{Laws, Says, Means, Again, apart, apart_ok, covers_ok, free_left, free_right, free_none, free_front, one_laws, eps_laws, seq_laws, alt_laws, alt_null, alt_ext, seq_null, seq_ext, conv_laws, iter_laws, in_left}
use Rattle.grammar.proofs.Bytes.{Of, ByteLaws, is_only}
use Rattle.grammar.proofs.Chars.{char_laws}

-- a star goes on if no slash follows
abbrev pub star_ext : List ℕ → Class
star_ext [] = []
star_ext (b ∷ t) = cond (eqb b 42) (only 47) []

abbrev pub TurnL : Lang (List ℕ ⊎ List ℕ)
TurnL (inl t) u = (t ≡ u) × Char Ascii u
TurnL (inr t) u = (t ≡ u) × (u ≡ 42 ∷ 47 ∷ [])

abbrev pub turn_null : List ℕ ⊎ List ℕ → Bool
turn_null x = false

abbrev pub turn_ext : List ℕ ⊎ List ℕ → Class
turn_ext (inl t) = star_ext t
turn_ext (inr t) = []

abbrev Raw : Type 0
Raw = (ℕ × (ℕ ⊎ Unit {0})) ⊎ List ℕ

-- a slash if one follows, and a star with that behind it
abbrev pub slash_p : Parser (ℕ ⊎ Unit {0})
slash_p = alt_p (only 47) (one_p (only 47)) eps_p

abbrev pub starred_p : Parser (ℕ × (ℕ ⊎ Unit {0}))
starred_p = seq_p (one_p (only 42)) slash_p

abbrev SlashL : Lang (ℕ ⊎ Unit {0})
SlashL = alt_l (one_l (only 47)) eps_l

abbrev slash_null : ℕ ⊎ Unit {0} → Bool
slash_null (inl b) = false
slash_null (inr e) = true

abbrev slash_ext : ℕ ⊎ Unit {0} → Class
slash_ext (inl b) = []
slash_ext (inr e) = only 47

slash_laws : Laws SlashL slash_p (only 47) slash_null slash_ext
slash_laws = Rattle.grammar.proofs.Laws.wide_laws SlashL slash_p (only 47) _ slash_null _ slash_ext
    (alt_laws (one_l (only 47)) (one_p (only 47)) (only 47) (λ _. false) (λ _. []) (one_laws (only 47) 47 refl) eps_l eps_p [] (λ _. true) (λ _. []) eps_laws (λ a. refl) refl) nul ext
  where
    nul : (x : ℕ ⊎ Unit {0}) → alt_null (one_l (only 47)) (one_p (only 47)) (only 47) (λ _. false) (λ _. []) (one_laws (only 47) 47 refl) eps_l eps_p [] (λ _. true) (λ _. []) eps_laws x ≡ true → slash_null x ≡ true
    nul (inl b) e = e
    nul (inr b) e = refl

    ext : (x : ℕ ⊎ Unit {0}) (u t : List ℕ) → SlashL x u → Free (slash_ext x) t → Free (alt_ext (one_l (only 47)) (one_p (only 47)) (only 47) (λ _. false) (λ _. []) (one_laws (only 47) 47 refl) eps_l eps_p [] (λ _. true) (λ _. []) eps_laws x) t
    ext (inl b) u t l f = f
    ext (inr b) u t l f = f

abbrev StarL : Lang (ℕ × (ℕ ⊎ Unit {0}))
StarL = seq_l (one_l (only 42)) SlashL

abbrev star_null : ℕ × (ℕ ⊎ Unit {0}) → Bool
star_null x = false

abbrev star_more : ℕ × (ℕ ⊎ Unit {0}) → Class
star_more x = slash_ext x.1

star_laws : Laws StarL starred_p (only 42) star_null star_more
star_laws = Rattle.grammar.proofs.Laws.wide_laws StarL starred_p (only 42) _ star_null _ star_more
    (seq_laws (one_l (only 42)) (one_p (only 42)) (only 42) (λ _. false) (λ _. []) (one_laws (only 42) 42 refl) SlashL slash_p (only 47) slash_null slash_ext slash_laws false (λ a h. h) (λ a. refl) (inr tt) [] refl)
    (λ x e. e) ext
  where
    ext : (x : ℕ × (ℕ ⊎ Unit {0})) (u t : List ℕ) → StarL x u → Free (star_more x) t → Free (slash_ext x.1 ++ cond (slash_null x.1) [] []) t
    ext (b, inl c) u t l f = f
    ext (b, inr c) u t l f = f

abbrev CharL : Lang (List ℕ)
CharL = Of (Char InBlock)

in_block : ByteLaws (Char InBlock) (char_p InBlock) (InBlock ++ MultiFirst) false []
in_block = char_laws InBlock 0 refl refl

star_or : (b : ℕ) → within Ascii b ≡ true → (b ≡ 42) ⊎ (within InBlock b ≡ true)
star_or b h = go (eqb b 42) refl (within InBlock b) refl
  where
    hi : b ≤ 127
    hi = elim (or_cases (leb 0 b && leb b 127) false h) [ inl e ↦ leb-true b 127 (and_parts (leb 0 b) (leb b 127) e).1 | inr e ↦ absurd (false≢true e) ]

    go : (v : Bool) → eqb b 42 ≡ v → (w : Bool) → within InBlock b ≡ w → (b ≡ 42) ⊎ (within InBlock b ≡ true)
    go true e w f = inl (eqb-true b 42 e)
    go false e true f = inr f
    go false e false f = absurd (none f)
      where
        ne : b ≡ 42 → ⊥
        ne = eqb-false b 42 e

        none : within InBlock b ≡ false → ⊥
        none z =
            elim (cases_lt b 42) [
              | inl lt ↦ true≢false (sym (Rattle.grammar.proofs.Laws.inside_ok (0, 41) InBlock refl b (omega arith) (omega arith)) ∙ z)
              | inr ge ↦ elim (cases_lt 42 b) [
                | inl lt ↦ true≢false (sym (Rattle.grammar.proofs.Laws.inside_ok (43, 127) InBlock refl b (omega arith) hi) ∙ z)
                | inr le ↦ ne (omega arith)
              ]
            ]

widen : {u : List ℕ} → Char InBlock u → Char Ascii u
widen (one b h) = one b (covers_ok Ascii InBlock refl b h)
widen (several m) = several m

turn_to : (a : Raw) (u : List ℕ) → alt_l StarL CharL a u → TurnL (block_turn a) u
turn_to (inl (b, inl c)) u l =
    let e : u ≡ b ∷ c ∷ [] = l.2 ∙ ap (λ y. y ++ l.1) l.3.0 ∙ ap (λ y. b ∷ y) l.4.0 in
    (sym e, e ∙ ap (λ y. y ∷ c ∷ []) (is_only 42 b l.3.1) ∙ ap (λ y. 42 ∷ y ∷ []) (is_only 47 c l.4.1))
turn_to (inl (b, inr c)) u l =
    let e : u ≡ b ∷ [] = l.2 ∙ ap (λ y. y ++ l.1) l.3.0 ∙ ap (λ y. b ∷ y) l.4 in
    (sym e, subst (Char Ascii) (sym e) (one b (covers_ok Ascii (only 42) refl b l.3.1)))
turn_to (inr t) u l = (l.0, widen l.1)

char_cases : {u : List ℕ} → Char Ascii u → (u ≡ 42 ∷ []) ⊎ Char InBlock u
char_cases (one b h) = elim (star_or b h) [ inl e ↦ inl (ap (λ y. y ∷ []) e) | inr k ↦ inr (one b k) ]
char_cases (several m) = inr (several m)

turn_from : (x : List ℕ ⊎ List ℕ) (u : List ℕ) → TurnL x u → (a : Raw) × (block_turn a ≡ x) × alt_l StarL CharL a u
turn_from (inl t) u l = elim (char_cases l.1) [
  | inl e ↦ (inl (42, inr tt), ap inl (sym (l.0 ∙ e)), (42 ∷ [], [], e, (refl, refl), refl))
  | inr k ↦ (inr t, refl, (l.0, k))
]
turn_from (inr t) u l = (inl (42, inl 47), ap inr (sym (l.0 ∙ l.1)), (42 ∷ [], 47 ∷ [], l.1, (refl, refl), (refl, refl)))

abbrev turn_p : Parser Raw
turn_p = alt_p (only 42) starred_p (char_p InBlock)

abbrev raw_null : Raw → Bool
raw_null x = alt_null StarL starred_p (only 42) star_null star_more star_laws CharL (char_p InBlock) (InBlock ++ MultiFirst) (λ _. false) (λ _. []) in_block x

abbrev raw_ext : Raw → Class
raw_ext x = alt_ext StarL starred_p (only 42) star_null star_more star_laws CharL (char_p InBlock) (InBlock ++ MultiFirst) (λ _. false) (λ _. []) in_block x

raw_laws : Laws (alt_l StarL CharL) turn_p (only 42 ++ (InBlock ++ MultiFirst)) raw_null raw_ext
raw_laws = alt_laws StarL starred_p (only 42) star_null star_more star_laws CharL (char_p InBlock) (InBlock ++ MultiFirst) (λ _. false) (λ _. []) in_block (λ a. refl) refl

turn_null_lem : (a : Raw) → raw_null a ≡ true → false ≡ true
turn_null_lem (inl x) e = e
turn_null_lem (inr x) e = e

turn_free : (a : Raw) (u t : List ℕ) → alt_l StarL CharL a u → Free (turn_ext (block_turn a)) t → Free (raw_ext a) t
turn_free (inl (b, inl c)) u t l f = f
turn_free (inl (b, inr c)) u t l f = subst (λ v. Free (cond v (only 47) []) t) (eq-eqb b 42 (is_only 42 b l.3.1)) f
turn_free (inr x) u t l f = free_none t

abbrev pub BlockFirst : Class
BlockFirst = only 42 ++ (InBlock ++ MultiFirst)

pub turn_laws : Laws TurnL block_turn_p BlockFirst turn_null turn_ext
turn_laws = conv_laws block_turn (alt_l StarL CharL) TurnL turn_p BlockFirst raw_null raw_ext raw_laws turn_to turn_from turn_null turn_ext turn_null_lem turn_free

-- after a turn that goes on, nothing follows that would have ended it
not_star : (t u : List ℕ) → CharL t u → (s : List ℕ) → Free (star_ext t) s
not_star [] u l s = free_none s
not_star (b ∷ t) u l s =
    let k : within (InBlock ++ MultiFirst) b ≡ true = in_block.first_ok (b ∷ t) b t (refl, subst (Char InBlock) (sym l.0) l.1) in
    go (eqb b 42) refl k
  where
    go : (v : Bool) → eqb b 42 ≡ v → within (InBlock ++ MultiFirst) b ≡ true → Free (cond v (only 47) []) s
    go true e k = absurd (false≢true (sym (ap (within (InBlock ++ MultiFirst)) (eqb-true b 42 e)) ∙ k))
    go false e k = free_none s

abbrev Fine : Res (List ℕ ⊎ List ℕ) → Type 0
Fine (res (ok (inl a)) t) = Free (star_ext a) t
Fine (res (ok (inr a)) t) = Unit {0}
Fine (res bad t) = Unit {0}
Fine (res deep t) = Unit {0}

fine_slash : (b : ℕ) (t : List ℕ) → Fine (map_r block_turn (map_r inl (map_r (λ x. (b, x)) (slash_p t))))
fine_slash b [] = free_none []
fine_slash b (c ∷ t) = go (within (only 47) c) refl
  where
    also : (v : Bool) → within (only 47) c ≡ false → within (cond v (only 47) []) c ≡ false
    also true e = e
    also false e = refl

    inner : (v : Bool) → Fine (map_r block_turn (map_r inl (map_r (λ x. (b, x)) (map_r inl (cond v (res (ok c) t) (res bad (c ∷ t)))))))
    inner true = tt
    inner false = tt

    go : (v : Bool) → within (only 47) c ≡ v → Fine (map_r block_turn (map_r inl (map_r (λ x. (b, x)) (pick v (one_p (only 47)) eps_p (c ∷ t)))))
    go true e = inner (within (only 47) c)
    go false e = also (eqb b 42) e

fine_char : (s : List ℕ) (x : Res (List ℕ)) → Means CharL (char_p InBlock) s x → Fine (map_r block_turn (map_r inr x))
fine_char s (res (ok a) t) m = not_star a m.0 m.2 t
fine_char s (res bad t) m = tt
fine_char s (res deep t) m = tt

fine : (s : List ℕ) → Fine (block_turn_p s)
fine [] = tt
fine (b ∷ t) = go (within (only 42) b) refl
  where
    star : (v : Bool) → Fine (map_r block_turn (map_r inl (bind slash_p (cond v (res (ok b) t) (res bad (b ∷ t))))))
    star true = fine_slash b t
    star false = tt

    go : (v : Bool) → within (only 42) b ≡ v → Fine (map_r block_turn (pick v starred_p (char_p InBlock) (b ∷ t)))
    go true e = star (within (only 42) b)
    go false e = fine_char (b ∷ t) (char_p InBlock (b ∷ t)) (in_block.means (b ∷ t))

greedy : (s : List ℕ) (a t : List ℕ) → block_turn_p s ≡ res (ok (inl a)) t → Free (star_ext a) t
greedy s a t e = subst Fine e (fine s)

-- no `*/` inside
pub shut_none : Shut []
shut_none [] y e = nil≢cons e
shut_none (b ∷ x) y e = nil≢cons e

shut_more : (b : ℕ) (a : List ℕ) → (b ≡ 42 → Free (only 47) a) → Shut a → Shut (b ∷ a)
shut_more b a h s [] y e =
    let f : a ≡ 47 ∷ y = tail-eq_of_cons-eq e in
    true≢false (subst (Free (only 47)) f (h (head-eq_of_cons-eq e)))
shut_more b a h s (d ∷ x) y e = s x y (tail-eq_of_cons-eq e)

shut_less : (b : ℕ) (a : List ℕ) → Shut (b ∷ a) → Shut a
shut_less b a s x y e = s (b ∷ x) y (ap (λ z. b ∷ z) e)

shut_behind : (u v : List ℕ) → Shut (u ++ v) → Shut v
shut_behind [] v s = s
shut_behind (b ∷ u) v s = shut_behind u v (shut_less b (u ++ v) s)

shut_star : (v : List ℕ) → Shut (42 ∷ v) → Free (only 47) v
shut_star [] s = tt
shut_star (b ∷ v) s = go (within (only 47) b) refl
  where
    go : (w : Bool) → within (only 47) b ≡ w → w ≡ false
    go true e = absurd (s [] v (ap (λ y. 42 ∷ y ∷ v) (is_only 47 b e)))
    go false e = refl

abbrev High : Class
High = (128, 255) ∷ []

shut_high : (u a : List ℕ) → All High u → Shut a → Shut (u ++ a)
shut_high [] a h s = s
shut_high (b ∷ u) a h s = shut_more b (u ++ a) (λ e. absurd (true≢false (sym h.0 ∙ ap (within High) e))) (shut_high u a h.1 s)

high : (c : Class) → Rattle.grammar.proofs.Laws.covers High c ≡ true → (b : ℕ) → within c b ≡ true → within High b ≡ true
high c h b = covers_ok High c h b

multi_high : {u : List ℕ} → Multi u → All High u
multi_high (two a b h k) = (high ((194, 223) ∷ []) refl a h, (high ((128, 191) ∷ []) refl b k, tt))
multi_high (three_E0 b c h k) = (refl, (high ((160, 191) ∷ []) refl b h, (high ((128, 191) ∷ []) refl c k, tt)))
multi_high (three_E1 a b c g h k) = (high ((225, 236) ∷ []) refl a g, (high ((128, 191) ∷ []) refl b h, (high ((128, 191) ∷ []) refl c k, tt)))
multi_high (three_ED b c h k) = (refl, (high ((128, 159) ∷ []) refl b h, (high ((128, 191) ∷ []) refl c k, tt)))
multi_high (three_EE a b c g h k) = (high ((238, 239) ∷ []) refl a g, (high ((128, 191) ∷ []) refl b h, (high ((128, 191) ∷ []) refl c k, tt)))
multi_high (four_F0 b c d h k m) = (refl, (high ((144, 191) ∷ []) refl b h, (high ((128, 191) ∷ []) refl c k, (high ((128, 191) ∷ []) refl d m, tt))))
multi_high (four_F1 a b c d g h k m) = (high ((241, 243) ∷ []) refl a g, (high ((128, 191) ∷ []) refl b h, (high ((128, 191) ∷ []) refl c k, (high ((128, 191) ∷ []) refl d m, tt))))
multi_high (four_F4 b c d h k m) = (refl, (high ((128, 143) ∷ []) refl b h, (high ((128, 191) ∷ []) refl c k, (high ((128, 191) ∷ []) refl d m, tt))))

shut_char : {u : List ℕ} → Char Ascii u → (a : List ℕ) → Free (star_ext u) a → Shut a → Shut (u ++ a)
shut_char (one b h) a f s = shut_more b a (λ e. subst (λ v. Free (cond v (only 47) []) a) (eq-eqb b 42 e) f) s
shut_char (several {u = u} m) a f s = shut_high u a (multi_high m) s

-- what follows `/*`: the text of the comment, and its end
pub record BodyL (t u : List ℕ) : Type 0 where
  pub inside : List ℕ
  pub same : t ≡ u
  pub bytes : u ≡ inside ++ 42 ∷ 47 ∷ []
  pub chars : Many (Char Ascii) inside
  pub shut : Shut inside

body_to : (a : List (List ℕ)) (e : List ℕ) (w : List ℕ) → iterate TurnL star_ext a e w → BodyL (concats a e) w
body_to [] e w l = record { inside = []; same = l.0; bytes = l.1; chars = none; shut = shut_none }
body_to (x ∷ a) e w l =
    let m = body_to a e l.1 l.5 in
    let k = l.3 in
    record {
      inside = l.0 ++ m.inside;
      same = ap (λ y. y ++ concats a e) k.0 ∙ ap (λ y. l.0 ++ y) m.same ∙ sym l.2;
      bytes = l.2 ∙ ap (λ y. l.0 ++ y) m.bytes ∙ sym (append_assoc l.0 m.inside (42 ∷ 47 ∷ []));
      chars = next k.1 m.chars;
      shut = shut_char k.1 m.inside (free_front (star_ext l.0) m.inside (42 ∷ 47 ∷ []) (subst (Free (star_ext l.0)) m.bytes (subst (λ y. Free (star_ext y) l.1) k.0 l.4))) m.shut;
    }

behind_char : {u : List ℕ} → Char Ascii u → (v : List ℕ) → Shut (u ++ v) → Free (star_ext u) (v ++ 42 ∷ 47 ∷ [])
behind_char (one b h) v s = go (eqb b 42) refl
  where
    more : (v : List ℕ) → Free (only 47) v → Free (only 47) (v ++ 42 ∷ 47 ∷ [])
    more [] f = refl
    more (c ∷ v) f = f

    go : (w : Bool) → eqb b 42 ≡ w → Free (cond w (only 47) []) (v ++ 42 ∷ 47 ∷ [])
    go true e = more v (shut_star v (subst (λ y. Shut (y ∷ v)) (eqb-true b 42 e) s))
    go false e = free_none (v ++ 42 ∷ 47 ∷ [])
behind_char (several {u = u} m) v s = go u (multi_high m)
  where
    go : (u : List ℕ) → All High u → Free (star_ext u) (v ++ 42 ∷ 47 ∷ [])
    go [] h = free_none (v ++ 42 ∷ 47 ∷ [])
    go (b ∷ u) h = at (eqb b 42) refl
      where
        at : (w : Bool) → eqb b 42 ≡ w → Free (cond w (only 47) []) (v ++ 42 ∷ 47 ∷ [])
        at true e = absurd (true≢false (sym h.0 ∙ ap (within High) (eqb-true b 42 e)))
        at false e = free_none (v ++ 42 ∷ 47 ∷ [])

body_from : {t : List ℕ} → Many (Char Ascii) t → Shut t → (a : List (List ℕ)) × (concats a (42 ∷ 47 ∷ []) ≡ t ++ 42 ∷ 47 ∷ []) × iterate TurnL star_ext a (42 ∷ 47 ∷ []) (t ++ 42 ∷ 47 ∷ [])
body_from none s = ([], refl, (refl, refl))
body_from (next {u = u} {v = v} x m) s =
    let k = body_from m (shut_behind u v s) in (
      u ∷ k.0,
      ap (λ y. u ++ y) k.1 ∙ sym (append_assoc u v (42 ∷ 47 ∷ [])),
      (u, v ++ 42 ∷ 47 ∷ [], append_assoc u v (42 ∷ 47 ∷ []), (refl, x), behind_char x v s, k.2),
    )

behind_stop : (a : List ℕ) → Free (star_ext a) (42 ∷ 47 ∷ [])
behind_stop [] = refl
behind_stop (b ∷ a) = go (eqb b 42)
  where
    go : (v : Bool) → within (cond v (only 47) []) 42 ≡ false
    go true = refl
    go false = refl

all_stars : (a t : List ℕ) → Free (only 47) t → Free (star_ext a) t
all_stars [] t f = free_none t
all_stars (b ∷ a) t f = go (eqb b 42)
  where
    go : (v : Bool) → Free (cond v (only 47) []) t
    go true = f
    go false = free_none t

loop_laws : Laws (iter_l TurnL star_ext) (iter_p block_turn_p) BlockFirst (λ _. false) (λ _. [])
loop_laws = iter_laws TurnL block_turn_p BlockFirst turn_null turn_ext turn_laws (λ a. refl) (only 47) all_stars greedy (42 ∷ 47 ∷ []) (42 ∷ 47 ∷ []) (refl, refl) behind_stop

pub block_laws : Laws BodyL block_p BlockFirst (λ _. false) (λ _. [])
block_laws = conv_laws (λ x. concats x.0 x.1) (iter_l TurnL star_ext) BodyL (iter_p block_turn_p) BlockFirst (λ _. false) (λ _. []) loop_laws
    (λ a u l. body_to a.0 a.1 u l)
    (λ t u l. (let k = body_from l.chars l.shut in ((k.0, 42 ∷ 47 ∷ []), k.1 ∙ sym l.bytes ∙ sym l.same, subst (iterate TurnL star_ext k.0 (42 ∷ 47 ∷ [])) (sym l.bytes) k.2)))
    (λ _. false) (λ _. []) (λ a e. e) (λ a u t l f. f)
