-- Trivia from one lexeme to the next: the laws of the loop over its pieces. Assumes nothing.
use Rattle.std.proofs.Common.{◌≡◌, ℕ, suc, Bool, true, false, cond, ◌⊎◌, List, [], ◌∷◌, ◌++◌, length, sym, refl, ap, ◌∙◌, subst, inl, inr}
use mathlib.Core.Bool.{false≢true}
use Rattle.grammar.specs.Parse.{ok, bad, deep, Res, res, map_r, Lang, Class, starts, Free, one_p, eps_l, eps_p, seq_p, alt_p, map_l, map_p, iterate, iter_l, iter_p}
use Rattle.grammar.specs.Classes.{only, InLine, Blank, LineEnd, MultiFirst, Gap}
use Rattle.grammar.specs.Layout.{Line, Block}
use Rattle.grammar.specs.Pieces.{Break, line_feed, carriage_return, both, Leaf, null, boolean, number, string, name, token, whitespace, newline, comment, Pieces, end, leaf, box, join}
use Rattle.grammar.specs.Reader.{either, char_p, chars_p, empty_p, concats, nothing_p, joins, space_p, newline_p, line_end_p, comment_of, comment_p, plain_p, piece_p, unit_p, trivia_p}
use Rattle.grammar.proofs.Laws.{Laws, Means, Says, apart, free_left, free_right, free_none, free_both, free_covers, one_laws, eps_laws, conv_laws, wide_laws, first_laws, choice_laws, OrL, Fine, fine_map, fine_bind, fine_next, fine_pick, fine_any, fine_loop, iter_laws, iter_ext}
use Rattle.grammar.proofs.Trivias.{wide, wide_at, leaf_wide, break_wide, SpaceL, space_laws, fine_space, NewlineL, newline_laws, fine_newline, OpenMore, ClosedL, a_block, a_line, CommentL, comment_laws, stop_wide, unit_ext, line_p, star_p}

-- a piece of trivia that goes on
abbrev pub PlainL : Lang Pieces
PlainL a u = SpaceL a u ⊎ NewlineL a u

plain_laws : Laws PlainL plain_p (Blank ++ LineEnd) (λ _. false) wide
plain_laws = choice_laws SpaceL NewlineL space_p newline_p Blank LineEnd (λ _. false) wide space_laws newline_laws refl (λ b u t l e f. absurd (false≢true e))

abbrev pub OnL : Lang (Pieces ⊎ Pieces)
OnL (inl a) u = PlainL a u
OnL (inr a) u = ⊥

on_laws : Laws OnL (map_p inl plain_p) (Blank ++ LineEnd) (λ _. false) unit_ext
on_laws = conv_laws inl PlainL OnL plain_p (Blank ++ LineEnd) (λ _. false) wide plain_laws (λ a u l. l) from (λ _. false) unit_ext (λ a e. e) (λ a u t l f. f)
  where
    from : (x : Pieces ⊎ Pieces) (u : List ℕ) → OnL x u → (a : Pieces) × (inl a ≡ x) × PlainL a u
    from (inl a) u l = (a, refl, l)
    from (inr a) u l = absurd l

abbrev pub PieceL : Bool → Lang (Pieces ⊎ Pieces)
PieceL last x u = CommentL last x u ⊎ OnL x u

piece_laws : (last : Bool) → Laws (PieceL last) (piece_p last) Gap (λ _. false) unit_ext
piece_laws last = choice_laws (CommentL last) OnL (comment_p last) (map_p inl plain_p) (only 47) (Blank ++ LineEnd) (λ _. false) unit_ext (comment_laws last) on_laws refl (λ b u t l e f. absurd (false≢true e))

-- or nothing more
abbrev pub HaltL : Lang (Pieces ⊎ Pieces)
HaltL (inl a) u = ⊥
HaltL (inr a) u = (a ≡ end) × (u ≡ [])

abbrev pub halt_null : Pieces → Bool
halt_null end = true
halt_null (leaf x r) = false
halt_null (box k c r) = false

abbrev pub unit_null : Pieces ⊎ Pieces → Bool
unit_null (inl a) = false
unit_null (inr a) = halt_null a

halt_free : (x : Pieces ⊎ Pieces) (u t : List ℕ) → HaltL x u → unit_null x ≡ true → Free (unit_ext x) t → Free Gap t
halt_free (inl a) u t l e f = absurd l
halt_free (inr a) u t l e f = subst (λ y. Free (stop_wide y) t) l.0 f

halt_from : (x : Pieces ⊎ Pieces) (u : List ℕ) → HaltL x u → (a : Unit {0}) × (◌≡◌ {A = Pieces ⊎ Pieces} (inr end) x) × eps_l a u
halt_from (inl a) u l = absurd l
halt_from (inr a) u l = (tt, ap inr (sym l.0), l.1)

halt_laws : Laws HaltL (map_p inr nothing_p) [] unit_null unit_ext
halt_laws = conv_laws (λ _. inr end) eps_l HaltL eps_p [] (λ _. true) (λ _. []) eps_laws (λ a u l. (refl, l)) halt_from unit_null unit_ext (λ a e. refl) (λ a u t l f. free_none t)

abbrev pub UnitL : Bool → Lang (Pieces ⊎ Pieces)
UnitL last x u = PieceL last x u ⊎ HaltL x u

pub unit_laws : (last : Bool) → Laws (UnitL last) (unit_p last) Gap unit_null unit_ext
unit_laws last = choice_laws (PieceL last) HaltL (piece_p last) (map_p inr nothing_p) Gap [] unit_null unit_ext (piece_laws last) halt_laws refl halt_free

-- nothing that is left goes on a piece
fine_char_run : (s : List ℕ) → Fine (λ _. InLine ++ MultiFirst) (chars_p InLine s)
fine_char_run s =
    fine_map (λ x. concats x.0 x.1) (λ _. InLine ++ MultiFirst) (iter_p (alt_p (InLine ++ MultiFirst) (char_p InLine) empty_p) s)
    (fine_loop (alt_p (InLine ++ MultiFirst) (char_p InLine) empty_p) (λ _. InLine ++ MultiFirst) turn (suc (length s)) s)
  where
    free : (s : List ℕ) → starts (InLine ++ MultiFirst) s ≡ false → Free (InLine ++ MultiFirst) s
    free [] e = tt
    free (b ∷ s) e = e

    turn : (s : List ℕ) → Fine (λ y. elim y [ inl a ↦ [] | inr c ↦ InLine ++ MultiFirst ]) (alt_p (InLine ++ MultiFirst) (char_p InLine) empty_p s)
    turn s = fine_pick (starts (InLine ++ MultiFirst) s) (char_p InLine) empty_p s (λ y. elim y [ inl a ↦ [] | inr c ↦ InLine ++ MultiFirst ]) (λ e. fine_any (char_p InLine s)) (λ e. free s e)

free_starts : (c : Class) (s : List ℕ) → starts c s ≡ false → Free c s
free_starts c [] e = tt
free_starts c (b ∷ s) e = e

-- behind what ends a line comment
abbrev end_behind : Pieces ⊎ Unit {0} → Class
end_behind (inl n) = wide n
end_behind (inr e) = OpenMore

fine_end : (last : Bool) (s : List ℕ) → Free (InLine ++ MultiFirst) s → Fine end_behind (line_end_p last s)
fine_end true s f = fine_pick (starts LineEnd s) newline_p eps_p s end_behind (λ e. fine_newline s) (λ e. free_both LineEnd (InLine ++ MultiFirst) s (free_starts LineEnd s e) f)
fine_end false s f = fine_map inl end_behind (newline_p s) (fine_newline s)

fine_comment : (last : Bool) (s : List ℕ) → Fine unit_ext (comment_p last s)
fine_comment last s =
    fine_map comment_of unit_ext (seq_p (one_p (only 47)) (alt_p (only 42) star_p (line_p last)) s)
    (fine_bind (alt_p (only 42) star_p (line_p last)) (λ x. unit_ext (comment_of x)) (one_p (only 47) s) rest)
  where
    same : (a b : ℕ) (t : List ℕ) (x : Res (Pieces ⊎ Unit {0})) → Fine end_behind x → Fine (λ y. unit_ext (comment_of (a, inr (b, (t, y))))) x
    same a b t (res (ok (inl n)) r) f = f
    same a b t (res (ok (inr e)) r) f = f
    same a b t (res bad r) f = tt
    same a b t (res deep r) f = tt

    rest : (a : ℕ) (t : List ℕ) → Fine (λ y. unit_ext (comment_of (a, y))) (alt_p (only 42) star_p (line_p last) t)
    rest a t = fine_pick (starts (only 42) t) star_p (line_p last) t (λ y. unit_ext (comment_of (a, y)))
        (λ e. star (star_p t))
        (λ e. fine_bind (seq_p (chars_p InLine) (line_end_p last)) (λ y. unit_ext (comment_of (a, inr y))) (one_p (only 47) t)
        (λ b r. fine_next (line_end_p last) (λ _. InLine ++ MultiFirst) (λ y. unit_ext (comment_of (a, inr (b, y)))) (chars_p InLine r) (fine_char_run r)
        (λ v z f. same a b v (line_end_p last z) (fine_end last z f))))
      where
        star : (x : Res (ℕ × List ℕ)) → Fine (λ y. unit_ext (comment_of (a, inl y))) x
        star (res (ok (b, v)) r) = free_none r
        star (res bad r) = tt
        star (res deep r) = tt

fine_plain : (s : List ℕ) → Fine wide (plain_p s)
fine_plain s = fine_map either wide (alt_p Blank space_p newline_p s) (fine_pick (starts Blank s) space_p newline_p s (λ x. wide (either x)) (λ e. fine_space s) (λ e. fine_newline s))

fine_piece : (last : Bool) (s : List ℕ) → Fine unit_ext (piece_p last s)
fine_piece last s = fine_map either unit_ext (alt_p (only 47) (comment_p last) (map_p inl plain_p) s)
    (fine_pick (starts (only 47) s) (comment_p last) (map_p inl plain_p) s (λ x. unit_ext (either x)) (λ e. fine_comment last s) (λ e. fine_map inl unit_ext (plain_p s) (fine_plain s)))

fine_unit : (last : Bool) (s : List ℕ) → Fine unit_ext (unit_p last s)
fine_unit last s = fine_map either unit_ext (alt_p Gap (piece_p last) (map_p inr nothing_p) s)
    (fine_pick (starts Gap s) (piece_p last) (map_p inr nothing_p) s (λ x. unit_ext (either x)) (λ e. fine_piece last s) (λ e. free_starts Gap s e))

greedy : (last : Bool) (s : List ℕ) (a : Pieces) (t : List ℕ) → unit_p last s ≡ res (ok (inl a)) t → Free (wide a) t
greedy last s a t e = subst (Fine unit_ext) e (fine_unit last s)

-- the pieces of trivia, and what stops it
abbrev pub RunL : Bool → List Pieces → Pieces → List ℕ → Type 0
RunL last xs c u = iterate (UnitL last) wide xs c u

-- what goes on trivia: anything that begins a piece; behind a line comment that is open, more of it
abbrev pub trail_leaf : Leaf → Class
trail_leaf null = Gap
trail_leaf (boolean b) = Gap
trail_leaf (number t) = Gap
trail_leaf (string t) = Gap
trail_leaf (name t) = Gap
trail_leaf (token m) = Gap
trail_leaf (whitespace t) = Gap
trail_leaf (newline k) = Gap
trail_leaf (comment (Line t)) = OpenMore
trail_leaf (comment (Block t)) = Gap

abbrev pub trail_at : Class → Pieces → Class
trail_at c end = c
trail_at c (leaf x r) = trail_at (trail_leaf x) r
trail_at c (box k i r) = trail_at Gap r

abbrev pub trail : Pieces → Class
trail a = trail_at Gap a

trail_join : (c : Class) (a b : Pieces) → trail_at c (join a b) ≡ trail_at (trail_at c a) b
trail_join c end b = refl
trail_join c (leaf x r) b = trail_join (trail_leaf x) r b
trail_join c (box k i r) b = trail_join Gap r b

-- every class that goes on a piece is in this one
abbrev Wides : Class
Wides = Blank ++ only 10

trail_closed : (c : Class) (a : Pieces) {u : List ℕ} → ClosedL a u → trail_at c a ≡ Gap
trail_closed c a (a_block e x) = ap (trail_at c) e
trail_closed c a (a_line t v n e f x z) = ap (trail_at c) (e ∙ ap (leaf (comment (Line t))) z.1)

trail_unit : (last : Bool) (c : Class) (a : Pieces) (u : List ℕ) → UnitL last (inl a) u → trail_at c a ≡ Gap
trail_unit last c a u (inl (inl l)) = trail_closed c a l
trail_unit last c a u (inl (inr (inl l))) = ap (trail_at c) l.0
trail_unit last c a u (inl (inr (inr l))) = ap (trail_at c) l.1
trail_unit last c a u (inr l) = absurd l

trail_stop : (last : Bool) (c : Pieces) (u : List ℕ) → UnitL last (inr c) u → trail_at Gap c ≡ stop_wide c
trail_stop last c u (inl (inl l)) = ap (trail_at Gap) l.1 ∙ sym (ap stop_wide l.1)
trail_stop last c u (inl (inr l)) = absurd l
trail_stop last c u (inr l) = ap (trail_at Gap) l.0 ∙ sym (ap stop_wide l.0)

pub trail_run : (last : Bool) (xs : List Pieces) (c : Pieces) (u : List ℕ) → RunL last xs c u → trail (joins xs c) ≡ stop_wide c
trail_run last [] c u l = trail_stop last c u l
trail_run last (x ∷ xs) c u l = trail_join Gap x (joins xs c) ∙ ap (λ y. trail_at y (joins xs c)) (trail_unit last Gap x l.0 l.3) ∙ trail_run last xs c l.1 l.5

wide_break : (k : Break) (t : List ℕ) → Free Wides t → Free (break_wide k) t
wide_break line_feed t f = free_none t
wide_break carriage_return t f = free_right Blank (only 10) t f
wide_break both t f = free_none t

wide_leaf : (x : Leaf) (t : List ℕ) → Free Wides t → Free (leaf_wide x) t
wide_leaf null t f = free_none t
wide_leaf (boolean b) t f = free_none t
wide_leaf (number s) t f = free_none t
wide_leaf (string s) t f = free_none t
wide_leaf (name s) t f = free_none t
wide_leaf (token m) t f = free_none t
wide_leaf (whitespace s) t f = free_left Blank (only 10) t f
wide_leaf (newline k) t f = wide_break k t f
wide_leaf (comment c) t f = free_none t

wides_at : (c : Class) (a : Pieces) (t : List ℕ) → Free c t → Free Wides t → Free (wide_at c a) t
wides_at c end t g f = g
wides_at c (leaf x r) t g f = wides_at (leaf_wide x) r t (wide_leaf x t f) f
wides_at c (box k i r) t g f = wides_at [] r t (free_none t) f

wides : (a : Pieces) (t : List ℕ) → Free Wides t → Free (wide a) t
wides a t f = wides_at [] a t (free_none t) f

run_null : List Pieces × Pieces → Bool
run_null x = halt_null x.1

loop_laws : (last : Bool) → Laws (iter_l (UnitL last) wide) (iter_p (unit_p last)) Gap (λ x. halt_null x.1) (λ x. stop_wide x.1 ++ cond (halt_null x.1) Wides [])
loop_laws last = iter_laws (UnitL last) (unit_p last) Gap unit_null unit_ext (unit_laws last) (λ a. refl) Wides wides (greedy last) end [] (inr (refl, refl)) (λ a. tt)

-- trivia, as pieces
abbrev pub TriviaL : Bool → Lang Pieces
TriviaL last = map_l (λ x. joins x.0 x.1) (iter_l (UnitL last) wide)

run_free : (last : Bool) (c : Pieces) (u t : List ℕ) → UnitL last (inr c) u → Free (stop_wide c) t → Free (stop_wide c ++ cond (halt_null c) Wides []) t
run_free last c u t l f = free_both (stop_wide c) (cond (halt_null c) Wides []) t f (go l)
  where
    go : UnitL last (inr c) u → Free (cond (halt_null c) Wides []) t
    go (inl (inl k)) = subst (λ y. Free (cond (halt_null y) Wides []) t) (sym k.1) (free_none t)
    go (inl (inr k)) = absurd k
    go (inr k) = subst (λ y. Free (cond (halt_null y) Wides []) t) (sym k.0) (free_covers Gap Wides refl t (subst (λ y. Free (stop_wide y) t) k.0 f))

stop_of : (last : Bool) (xs : List Pieces) (c : Pieces) (u : List ℕ) → RunL last xs c u → (v : List ℕ) × UnitL last (inr c) v
stop_of last [] c u l = (u, l)
stop_of last (x ∷ xs) c u l = stop_of last xs c l.1 l.5

pub trivia_laws : (last : Bool) → Laws (TriviaL last) (trivia_p last) Gap (λ _. true) trail
trivia_laws last = Rattle.grammar.proofs.Laws.map_laws (λ x. joins x.0 x.1) (iter_l (UnitL last) wide) (iter_p (unit_p last)) Gap (λ x. halt_null x.1) (λ x. stop_wide x.1 ++ cond (halt_null x.1) Wides []) (loop_laws last) (λ _. true) trail (λ a e. refl) free
  where
    free : (x : List Pieces × Pieces) (u t : List ℕ) → iter_l (UnitL last) wide x u → Free (trail (joins x.0 x.1)) t → Free (stop_wide x.1 ++ cond (halt_null x.1) Wides []) t
    free x u t l f = (let k = stop_of last x.0 x.1 u l in run_free last x.1 k.0 t k.1 (subst (λ y. Free y t) (trail_run last x.0 x.1 u l) f))

-- inside a container no line comment stays open
pub inner_trail : (xs : List Pieces) (c : Pieces) (u : List ℕ) → RunL false xs c u → stop_wide c ≡ Gap
inner_trail [] c u (inl (inl k)) = absurd (false≢true k.0)
inner_trail [] c u (inl (inr k)) = absurd k
inner_trail [] c u (inr k) = ap stop_wide k.0
inner_trail (x ∷ xs) c u l = inner_trail xs c l.1 l.5

pub inner_laws : Laws (TriviaL false) (trivia_p false) Gap (λ _. true) (λ _. Gap)
inner_laws = wide_laws (TriviaL false) (trivia_p false) Gap (λ _. true) (λ _. true) trail (λ _. Gap) (trivia_laws false) (λ a e. e)
    (λ a u t l f. subst (λ y. Free (trail y) t) l.1 (subst (λ y. Free y t) (sym (trail_run false l.0.0 l.0.1 u l.2 ∙ inner_trail l.0.0 l.0.1 u l.2)) f))

-- nothing that is left goes on trivia
fine_run : (last : Bool) (s : List ℕ) → Fine (λ x. stop_wide x.1) (iter_p (unit_p last) s)
fine_run last s = fine_loop (unit_p last) stop_wide turn (suc (length s)) s
  where
    only_stop : (x : Res (Pieces ⊎ Pieces)) → Fine unit_ext x → Fine (λ y. elim y [ inl a ↦ [] | inr c ↦ stop_wide c ]) x
    only_stop (res (ok (inl a)) t) f = free_none t
    only_stop (res (ok (inr a)) t) f = f
    only_stop (res bad t) f = tt
    only_stop (res deep t) f = tt

    turn : (s : List ℕ) → Fine (λ y. elim y [ inl a ↦ [] | inr c ↦ stop_wide c ]) (unit_p last s)
    turn s = only_stop (unit_p last s) (fine_unit last s)

fine_trivia : (last : Bool) (s : List ℕ) (x : Res (List Pieces × Pieces)) → Means (iter_l (UnitL last) wide) (iter_p (unit_p last)) s x → Fine (λ x. stop_wide x.1) x → Fine trail (map_r (λ x. joins x.0 x.1) x)
fine_trivia last s (res (ok x) t) m f = subst (λ y. Free y t) (sym (trail_run last x.0 x.1 m.0 m.2)) f
fine_trivia last s (res bad t) m f = tt
fine_trivia last s (res deep t) m f = tt

pub trivia_greedy : (last : Bool) (s : List ℕ) (a : Pieces) (t : List ℕ) → trivia_p last s ≡ res (ok a) t → Free (trail a) t
trivia_greedy last s a t e = subst (Fine trail) e (fine_trivia last s (iter_p (unit_p last) s) ((loop_laws last).means s) (fine_run last s))
