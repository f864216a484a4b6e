-- Trivia: the laws of its parsers. Assumes nothing.
use Rattle.std.proofs.Common.{◌≡◌, ℕ, Bool, true, false, cond, ◌&&◌, ◌⊎◌, List, [], ◌∷◌, ◌++◌, sym, refl, ap, ◌∙◌, subst, inl, inr, append-nil}
use mathlib.Core.Bool.{false≢true}
use Rattle.grammar.specs.Parse.{ok, res, map_r, Lang, Parser, Class, within, starts, Free, one_l, one_p, eps_l, eps_p, seq_l, seq_p, alt_l, alt_p, map_p}
use Rattle.grammar.specs.Classes.{only, InLine, Blank, LineEnd, MultiFirst, Gap}
use Rattle.grammar.specs.Layout.{Line, Block}
use Rattle.grammar.specs.Grammar.{All, Char, Many, none, BlockComment, block, LineComment, line}
use Rattle.grammar.specs.Pieces.{Break, line_feed, carriage_return, both, Leaf, null, boolean, number, string, name, token, whitespace, newline, comment, Pieces, end, leaf, box, break_bytes}
use Rattle.grammar.specs.Reader.{either, byte_p, cat_p, run_p, chars_p, block_p, only_leaf, space_p, returned, return_p, newline_p, line_end_p, comment_of, comment_p}
use Rattle.grammar.proofs.Laws.{Laws, Means, apart, free_left, free_right, free_none, free_both, free_covers, one_laws, eps_laws, conv_laws, wide_laws, first_laws, seq_laws, alt_laws, alt_null, alt_ext, seq_ext, choice_laws, OrL, Fine, fine_map, fine_bind, fine_pick, fine_any, fine_loop, iter_laws}
use Rattle.grammar.proofs.Bytes.{Of, ByteLaws, is_only, Is, byte_laws, Cat, cat_laws, run_laws}
use Rattle.grammar.proofs.Chars.{chars_laws}
use Rattle.grammar.proofs.Blocks.{BodyL, block_laws}

-- what would go on a piece of trivia, by its last leaf
abbrev pub break_wide : Break → Class
break_wide line_feed = []
break_wide carriage_return = only 10
break_wide both = []

abbrev pub leaf_wide : Leaf → Class
leaf_wide null = []
leaf_wide (boolean b) = []
leaf_wide (number t) = []
leaf_wide (string t) = []
leaf_wide (name t) = []
leaf_wide (token m) = []
leaf_wide (whitespace t) = Blank
leaf_wide (newline k) = break_wide k
leaf_wide (comment c) = []

abbrev pub wide_at : Class → Pieces → Class
wide_at c end = c
wide_at c (leaf x r) = wide_at (leaf_wide x) r
wide_at c (box k i r) = wide_at [] r

abbrev pub wide : Pieces → Class
wide a = wide_at [] a

-- spaces and tabs
abbrev pub Blanks : List ℕ → Type 0
Blanks = Cat (Is Blank) (All Blank)

abbrev pub SpaceL : Lang Pieces
SpaceL a u = (a ≡ only_leaf (whitespace u)) × Blanks u

space_free : (t : List ℕ) (u s : List ℕ) → Of Blanks t u → Free (wide (only_leaf (whitespace t))) s → Free Blank s
space_free t u s l f = f

pub space_laws : Laws SpaceL space_p Blank (λ _. false) wide
space_laws = conv_laws (λ t. only_leaf (whitespace t)) (Of Blanks) SpaceL (cat_p (byte_p Blank) (run_p Blank)) Blank (λ _. false) (λ _. Blank)
    (cat_laws (Is Blank) (All Blank) (byte_p Blank) (run_p Blank) Blank Blank false true [] Blank (byte_laws Blank 32 refl) (run_laws Blank) refl [] tt)
    (λ t u l. (ap (λ y. only_leaf (whitespace y)) l.0, l.1))
    (λ a u l. (u, sym l.0, (refl, l.1)))
    (λ _. false) wide (λ a e. e) space_free

pub fine_run : (c : Class) (s : List ℕ) → Fine (λ _. c) (run_p c s)
fine_run c [] = tt
fine_run c (b ∷ t) = go (within c b) refl (fine_run c t)
  where
    go : (v : Bool) → within c b ≡ v → Fine (λ _. c) (run_p c t) → Fine (λ _. c) (cond v (map_r (λ y. b ∷ y) (run_p c t)) (res (ok []) (b ∷ t)))
    go true e h = fine_map (λ y. b ∷ y) (λ _. c) (run_p c t) h
    go false e h = e

pub fine_space : (s : List ℕ) → Fine wide (space_p s)
fine_space s =
    fine_map (λ t. only_leaf (whitespace t)) wide (cat_p (byte_p Blank) (run_p Blank) s)
    (fine_map (λ x. x.0 ++ x.1) (λ _. Blank) (seq_p (byte_p Blank) (run_p Blank) s)
    (fine_bind (run_p Blank) (λ _. Blank) (byte_p Blank s) (λ a t. fine_run Blank t)))

-- line breaks
abbrev pub NewlineL : Lang Pieces
NewlineL a u = (k : Break) × (a ≡ only_leaf (newline k)) × (u ≡ break_bytes k)

abbrev FeedL : Lang Pieces
FeedL a u = (a ≡ only_leaf (newline line_feed)) × (u ≡ 10 ∷ [])

feed_laws : Laws FeedL (map_p (λ _. only_leaf (newline line_feed)) (one_p (only 10))) (only 10) (λ _. false) wide
feed_laws = conv_laws (λ _. only_leaf (newline line_feed)) (one_l (only 10)) FeedL (one_p (only 10)) (only 10) (λ _. false) (λ _. []) (one_laws (only 10) 10 refl)
    (λ b u l. (refl, l.0 ∙ ap (λ y. y ∷ []) (is_only 10 b l.1))) (λ a u l. (10, sym l.0, (l.1, refl))) (λ _. false) wide (λ a e. e) (λ b u t l f. free_none t)

abbrev ReturnL : Lang Pieces
ReturnL a u = ((a ≡ only_leaf (newline both)) × (u ≡ 13 ∷ 10 ∷ [])) ⊎ ((a ≡ only_leaf (newline carriage_return)) × (u ≡ 13 ∷ []))

abbrev pub feed_p : Parser (ℕ ⊎ Unit {0})
feed_p = alt_p (only 10) (one_p (only 10)) eps_p

abbrev MaybeL : Lang (ℕ ⊎ Unit {0})
MaybeL = alt_l (one_l (only 10)) eps_l

abbrev maybe_null : ℕ ⊎ Unit {0} → Bool
maybe_null x = alt_null (one_l (only 10)) (one_p (only 10)) (only 10) (λ _. false) (λ _. []) (one_laws (only 10) 10 refl) eps_l eps_p [] (λ _. true) (λ _. []) eps_laws x

abbrev maybe_ext : ℕ ⊎ Unit {0} → Class
maybe_ext x = alt_ext (one_l (only 10)) (one_p (only 10)) (only 10) (λ _. false) (λ _. []) (one_laws (only 10) 10 refl) eps_l eps_p [] (λ _. true) (λ _. []) eps_laws x

maybe_laws : Laws MaybeL feed_p (only 10) maybe_null maybe_ext
maybe_laws = alt_laws (one_l (only 10)) (one_p (only 10)) (only 10) (λ _. false) (λ _. []) (one_laws (only 10) 10 refl) eps_l eps_p [] (λ _. true) (λ _. []) eps_laws (λ a. refl) refl

maybe_apart : (a : ℕ) → apart (only 10) [] ≡ true
maybe_apart a = refl

return_to : (x : ℕ × (ℕ ⊎ Unit {0})) (u : List ℕ) → seq_l (one_l (only 13)) MaybeL x u → ReturnL (returned x) u
return_to (b, inl c) u l = inl (refl, l.2 ∙ ap (λ y. y ++ l.1) (l.3.0 ∙ ap (λ y. y ∷ []) (is_only 13 b l.3.1)) ∙ ap (λ y. 13 ∷ y) (l.4.0 ∙ ap (λ y. y ∷ []) (is_only 10 c l.4.1)))
return_to (b, inr c) u l = inr (refl, l.2 ∙ ap (λ y. y ++ l.1) (l.3.0 ∙ ap (λ y. y ∷ []) (is_only 13 b l.3.1)) ∙ ap (λ y. 13 ∷ y) l.4)

return_from : (a : Pieces) (u : List ℕ) → ReturnL a u → (x : ℕ × (ℕ ⊎ Unit {0})) × (returned x ≡ a) × seq_l (one_l (only 13)) MaybeL x u
return_from a u (inl l) = ((13, inl 10), sym l.0, (13 ∷ [], 10 ∷ [], l.1, (refl, refl), (refl, refl)))
return_from a u (inr l) = ((13, inr tt), sym l.0, (13 ∷ [], [], l.1, (refl, refl), refl))

return_free : (x : ℕ × (ℕ ⊎ Unit {0})) (u t : List ℕ) → seq_l (one_l (only 13)) MaybeL x u → Free (wide (returned x)) t → Free (maybe_ext x.1 ++ cond (maybe_null x.1) [] []) t
return_free (b, inl c) u t l f = f
return_free (b, inr c) u t l f = f

return_laws : Laws ReturnL return_p (only 13) (λ _. false) wide
return_laws = conv_laws returned (seq_l (one_l (only 13)) MaybeL) ReturnL (seq_p (one_p (only 13)) feed_p) (only 13) _ _
    (seq_laws (one_l (only 13)) (one_p (only 13)) (only 13) (λ _. false) (λ _. []) (one_laws (only 13) 13 refl) MaybeL feed_p (only 10) maybe_null maybe_ext maybe_laws false (λ a h. h) maybe_apart (inr tt) [] refl)
    return_to return_from (λ _. false) wide (λ x e. e) return_free

newline_to : (a : Pieces) (u : List ℕ) → FeedL a u ⊎ ReturnL a u → NewlineL a u
newline_to a u (inl l) = (line_feed, l.0, l.1)
newline_to a u (inr (inl l)) = (both, l.0, l.1)
newline_to a u (inr (inr l)) = (carriage_return, l.0, l.1)

newline_from : (a : Pieces) (u : List ℕ) (k : Break) → a ≡ only_leaf (newline k) → u ≡ break_bytes k → FeedL a u ⊎ ReturnL a u
newline_from a u line_feed e f = inl (e, f)
newline_from a u carriage_return e f = inr (inr (e, f))
newline_from a u both e f = inr (inl (e, f))

pub newline_laws : Laws NewlineL newline_p LineEnd (λ _. false) wide
newline_laws = Rattle.grammar.proofs.Laws.say_laws (λ a u. FeedL a u ⊎ ReturnL a u) NewlineL newline_p LineEnd (λ _. false) wide
    (choice_laws FeedL ReturnL (map_p (λ _. only_leaf (newline line_feed)) (one_p (only 10))) return_p (only 10) (only 13) (λ _. false) wide feed_laws return_laws refl (λ b u t l e f. absurd (false≢true e)))
    newline_to (λ a u l. newline_from a u l.0 l.1 l.2)

fine_maybe : (a : ℕ) (s : List ℕ) → Fine (λ x. wide (returned (a, x))) (feed_p s)
fine_maybe a s = fine_pick (starts (only 10) s) (one_p (only 10)) eps_p s (λ x. wide (returned (a, x))) (λ e. fine_any (one_p (only 10) s)) (free s)
  where
    free : (s : List ℕ) → starts (only 10) s ≡ false → Free (only 10) s
    free [] e = tt
    free (b ∷ s) e = e

pub fine_newline : (s : List ℕ) → Fine wide (newline_p s)
fine_newline s =
    fine_map either wide (alt_p (only 10) (map_p (λ _. only_leaf (newline line_feed)) (one_p (only 10))) return_p s)
    (fine_pick (starts (only 10) s) (map_p (λ _. only_leaf (newline line_feed)) (one_p (only 10))) return_p s (λ x. wide (either x))
    (λ e. fine_map (λ _. only_leaf (newline line_feed)) wide (one_p (only 10) s) (fine_any (one_p (only 10) s)))
    (λ e. fine_map returned wide (seq_p (one_p (only 13)) feed_p s) (fine_bind feed_p (λ x. wide (returned x)) (one_p (only 13) s) fine_maybe)))

-- what ends a line comment
abbrev LineEndL : Bool → Lang (Pieces ⊎ Unit {0})
LineEndL last (inl n) v = NewlineL n v
LineEndL last (inr e) v = (last ≡ true) × (v ≡ [])

abbrev end_null : Pieces ⊎ Unit {0} → Bool
end_null (inl n) = false
end_null (inr e) = true

abbrev end_ext : Pieces ⊎ Unit {0} → Class
end_ext (inl n) = wide n
end_ext (inr e) = LineEnd

line_end_last : Laws (LineEndL true) (line_end_p true) LineEnd end_null end_ext
line_end_last = Rattle.grammar.proofs.Laws.say_laws (alt_l NewlineL eps_l) (LineEndL true) (line_end_p true) LineEnd end_null end_ext
    (wide_laws (alt_l NewlineL eps_l) (line_end_p true) LineEnd _ end_null _ end_ext
    (alt_laws NewlineL newline_p LineEnd (λ _. false) wide newline_laws eps_l eps_p [] (λ _. true) (λ _. []) eps_laws (λ a. refl) refl) nul ext) to from
  where
    nul : (x : Pieces ⊎ Unit {0}) → alt_null NewlineL newline_p LineEnd (λ _. false) wide newline_laws eps_l eps_p [] (λ _. true) (λ _. []) eps_laws x ≡ true → end_null x ≡ true
    nul (inl a) e = e
    nul (inr b) e = refl

    ext : (x : Pieces ⊎ Unit {0}) (u t : List ℕ) → alt_l NewlineL eps_l x u → Free (end_ext x) t → Free (alt_ext NewlineL newline_p LineEnd (λ _. false) wide newline_laws eps_l eps_p [] (λ _. true) (λ _. []) eps_laws x) t
    ext (inl a) u t l f = f
    ext (inr b) u t l f = f

    to : (x : Pieces ⊎ Unit {0}) (u : List ℕ) → alt_l NewlineL eps_l x u → LineEndL true x u
    to (inl a) u l = l
    to (inr b) u l = (refl, l)

    from : (x : Pieces ⊎ Unit {0}) (u : List ℕ) → LineEndL true x u → alt_l NewlineL eps_l x u
    from (inl a) u l = l
    from (inr b) u l = l.1

line_end_inner : Laws (LineEndL false) (line_end_p false) LineEnd end_null end_ext
line_end_inner = conv_laws inl NewlineL (LineEndL false) newline_p LineEnd (λ _. false) wide newline_laws (λ a u l. l) from end_null end_ext (λ a e. e) (λ a u t l f. f)
  where
    from : (x : Pieces ⊎ Unit {0}) (u : List ℕ) → LineEndL false x u → (a : Pieces) × (inl a ≡ x) × NewlineL a u
    from (inl a) u l = (a, refl, l)
    from (inr b) u l = absurd (false≢true l.0)

line_end_laws : (last : Bool) → Laws (LineEndL last) (line_end_p last) LineEnd end_null end_ext
line_end_laws true = line_end_last
line_end_laws false = line_end_inner

-- comments: closed ones go on, one that the end of the text closes stops
abbrev pub OpenMore : Class
OpenMore = LineEnd ++ (InLine ++ MultiFirst)

pub data ClosedL (a : Pieces) (u : List ℕ) : Type 0 where
  a_block : a ≡ only_leaf (comment (Block u)) → BlockComment u → ClosedL a u
  a_line : (t v : List ℕ) (n : Pieces) → a ≡ leaf (comment (Line t)) n → u ≡ t ++ v → LineComment t → NewlineL n v → ClosedL a u

abbrev pub OpenL : Bool → Pieces → List ℕ → Type 0
OpenL last a u = (last ≡ true) × (a ≡ only_leaf (comment (Line u))) × LineComment u

abbrev pub CommentL : Bool → Lang (Pieces ⊎ Pieces)
CommentL last (inl a) u = ClosedL a u
CommentL last (inr a) u = OpenL last a u

abbrev pub stop_wide : Pieces → Class
stop_wide end = Gap
stop_wide (leaf x r) = OpenMore
stop_wide (box k i r) = OpenMore

abbrev pub unit_ext : Pieces ⊎ Pieces → Class
unit_ext (inl a) = wide a
unit_ext (inr a) = stop_wide a

abbrev RawL : Bool → Lang (ℕ × ((ℕ × List ℕ) ⊎ (ℕ × (List ℕ × (Pieces ⊎ Unit {0})))))
RawL last = seq_l (one_l (only 47)) (alt_l (seq_l (one_l (only 42)) BodyL) (seq_l (one_l (only 47)) (seq_l (Of (Many (Char InLine))) (LineEndL last))))

abbrev pub line_p : Bool → Parser (ℕ × (List ℕ × (Pieces ⊎ Unit {0})))
line_p last = seq_p (one_p (only 47)) (seq_p (chars_p InLine) (line_end_p last))

abbrev LineL : Bool → Lang (ℕ × (List ℕ × (Pieces ⊎ Unit {0})))
LineL last = seq_l (one_l (only 47)) (seq_l (Of (Many (Char InLine))) (LineEndL last))

abbrev line_ext : ℕ × (List ℕ × (Pieces ⊎ Unit {0})) → Class
line_ext (b, (t, inl n)) = wide n
line_ext (b, (t, inr e)) = OpenMore

in_line : ByteLaws (Many (Char InLine)) (chars_p InLine) (InLine ++ MultiFirst) true (InLine ++ MultiFirst)
in_line = chars_laws InLine 0 refl refl

some_end : (last : Bool) → LineEndL last (inl (only_leaf (newline line_feed))) (10 ∷ [])
some_end last = (line_feed, refl, refl)

line_laws : (last : Bool) → Laws (LineL last) (line_p last) (only 47) (λ _. false) line_ext
line_laws last = wide_laws (LineL last) (line_p last) (only 47) _ (λ _. false) _ line_ext
    (seq_laws (one_l (only 47)) (one_p (only 47)) (only 47) (λ _. false) (λ _. []) (one_laws (only 47) 47 refl) (seq_l (Of (Many (Char InLine))) (LineEndL last)) (seq_p (chars_p InLine) (line_end_p last)) ((InLine ++ MultiFirst) ++ LineEnd) _ _
    (seq_laws (Of (Many (Char InLine))) (chars_p InLine) (InLine ++ MultiFirst) (λ _. true) (λ _. InLine ++ MultiFirst) in_line (LineEndL last) (line_end_p last) LineEnd end_null end_ext (line_end_laws last) true (λ a h. refl) (λ a. refl) (inl (only_leaf (newline line_feed))) (10 ∷ []) (some_end last))
    false (λ a h. h) (λ a. refl) ([], inl (only_leaf (newline line_feed))) (10 ∷ []) ([], 10 ∷ [], refl, (refl, none), some_end last))
    (λ x e. e) ext
  where
    ext : (x : ℕ × (List ℕ × (Pieces ⊎ Unit {0}))) (u t : List ℕ) → LineL last x u → Free (line_ext x) t → Free ((end_ext x.1.1 ++ cond (end_null x.1.1) (InLine ++ MultiFirst) []) ++ cond (true && end_null x.1.1) [] []) t
    ext (b, (s, inl n)) u t l f = free_both (wide n ++ []) [] t (free_both (wide n) [] t f (free_none t)) (free_none t)
    ext (b, (s, inr e)) u t l f = f

abbrev pub star_p : Parser (ℕ × List ℕ)
star_p = seq_p (one_p (only 42)) block_p

abbrev StarL : Lang (ℕ × List ℕ)
StarL = seq_l (one_l (only 42)) BodyL

some_body : BodyL (42 ∷ 47 ∷ []) (42 ∷ 47 ∷ [])
some_body = record { inside = []; same = refl; bytes = refl; chars = none; shut = Rattle.grammar.proofs.Blocks.shut_none }

star_laws : Laws StarL star_p (only 42) (λ _. false) (λ _. [])
star_laws = seq_laws (one_l (only 42)) (one_p (only 42)) (only 42) (λ _. false) (λ _. []) (one_laws (only 42) 42 refl) BodyL block_p Rattle.grammar.proofs.Blocks.BlockFirst (λ _. false) (λ _. []) block_laws false (λ a h. h) (λ a. refl) (42 ∷ 47 ∷ []) (42 ∷ 47 ∷ []) some_body

abbrev rest_ext : (ℕ × List ℕ) ⊎ (ℕ × (List ℕ × (Pieces ⊎ Unit {0}))) → Class
rest_ext (inl x) = []
rest_ext (inr x) = line_ext x

rest_laws : (last : Bool) → Laws (alt_l StarL (LineL last)) (alt_p (only 42) star_p (line_p last)) (only 42 ++ only 47) (λ _. false) rest_ext
rest_laws last = wide_laws (alt_l StarL (LineL last)) (alt_p (only 42) star_p (line_p last)) (only 42 ++ only 47) _ (λ _. false) _ rest_ext
    (alt_laws StarL star_p (only 42) (λ _. false) (λ _. []) star_laws (LineL last) (line_p last) (only 47) (λ _. false) line_ext (line_laws last) (λ a. refl) refl) nul ext
  where
    nul : (x : (ℕ × List ℕ) ⊎ (ℕ × (List ℕ × (Pieces ⊎ Unit {0})))) → alt_null StarL star_p (only 42) (λ _. false) (λ _. []) star_laws (LineL last) (line_p last) (only 47) (λ _. false) line_ext (line_laws last) x ≡ true → false ≡ true
    nul (inl a) e = e
    nul (inr b) e = e

    ext : (x : (ℕ × List ℕ) ⊎ (ℕ × (List ℕ × (Pieces ⊎ Unit {0})))) (u t : List ℕ) → alt_l StarL (LineL last) x u → Free (rest_ext x) t → Free (alt_ext StarL star_p (only 42) (λ _. false) (λ _. []) star_laws (LineL last) (line_p last) (only 47) (λ _. false) line_ext (line_laws last) x) t
    ext (inl a) u t l f = f
    ext (inr b) u t l f = free_both (line_ext b) [] t f (free_none t)

slash_of : (b : ℕ) (u v w : List ℕ) (c : ℕ) → w ≡ u ++ v → one_l (only c) b u → w ≡ c ∷ v
slash_of b u v w c e l = e ∙ ap (λ y. y ++ v) (l.0 ∙ ap (λ y. y ∷ []) (is_only c b l.1))

comment_to : (last : Bool) (x : ℕ × ((ℕ × List ℕ) ⊎ (ℕ × (List ℕ × (Pieces ⊎ Unit {0}))))) (u : List ℕ) → RawL last x u → CommentL last (comment_of x) u
comment_to last (b, inl (c, t)) u l =
    let m = l.4 in
    let k = m.4 in
    let e : u ≡ 47 ∷ 42 ∷ m.1 = slash_of b l.0 l.1 u 47 l.2 l.3 ∙ ap (λ y. 47 ∷ y) (slash_of c m.0 m.1 l.1 42 m.2 m.3) in
    let f : b ∷ c ∷ t ≡ u = ap (λ y. y ∷ c ∷ t) (is_only 47 b l.3.1) ∙ ap (λ y. 47 ∷ y ∷ t) (is_only 42 c m.3.1) ∙ ap (λ y. 47 ∷ 42 ∷ y) k.same ∙ sym e in
    a_block (ap (λ y. only_leaf (comment (Block y))) f) (subst BlockComment (sym (e ∙ ap (λ y. 47 ∷ 42 ∷ y) k.bytes)) (block k.chars k.shut))
comment_to last (b, inr (c, (t, inl n))) u l =
    let m = l.4 in
    let k = m.4 in
    let f : b ∷ c ∷ t ≡ 47 ∷ 47 ∷ k.0 = ap (λ y. y ∷ c ∷ t) (is_only 47 b l.3.1) ∙ ap (λ y. 47 ∷ y ∷ t) (is_only 47 c m.3.1) ∙ ap (λ y. 47 ∷ 47 ∷ y) k.3.0 in
    a_line (47 ∷ 47 ∷ k.0) k.1 n (ap (λ y. leaf (comment (Line y)) n) f)
    (slash_of b l.0 l.1 u 47 l.2 l.3 ∙ ap (λ y. 47 ∷ y) (slash_of c m.0 m.1 l.1 47 m.2 m.3 ∙ ap (λ y. 47 ∷ y) k.2))
    (line k.3.1) k.4
comment_to last (b, inr (c, (t, inr z))) u l =
    let m = l.4 in
    let k = m.4 in
    let e : u ≡ 47 ∷ 47 ∷ k.0 = slash_of b l.0 l.1 u 47 l.2 l.3 ∙ ap (λ y. 47 ∷ y) (slash_of c m.0 m.1 l.1 47 m.2 m.3 ∙ ap (λ y. 47 ∷ y) (k.2 ∙ ap (λ y. k.0 ++ y) k.4.1 ∙ append-nil k.0)) in
    let f : b ∷ c ∷ t ≡ u = ap (λ y. y ∷ c ∷ t) (is_only 47 b l.3.1) ∙ ap (λ y. 47 ∷ y ∷ t) (is_only 47 c m.3.1) ∙ ap (λ y. 47 ∷ 47 ∷ y) k.3.0 ∙ sym e in
    (k.4.0, ap (λ y. only_leaf (comment (Line y))) f, subst LineComment (sym e) (line k.3.1))

abbrev RawOf : Bool → Pieces ⊎ Pieces → List ℕ → Type 0
RawOf last a u = (x : ℕ × ((ℕ × List ℕ) ⊎ (ℕ × (List ℕ × (Pieces ⊎ Unit {0}))))) × (comment_of x ≡ a) × RawL last x u

block_from : (last : Bool) (a : Pieces) {u : List ℕ} → a ≡ only_leaf (comment (Block u)) → BlockComment u → RawOf last (inl a) u
block_from last a e (block {t = t} x y) = (
  (47, inl (42, t ++ 42 ∷ 47 ∷ [])),
  ap inl (sym e),
  (47 ∷ [], 42 ∷ (t ++ 42 ∷ 47 ∷ []), refl, (refl, refl), (42 ∷ [], t ++ 42 ∷ 47 ∷ [], refl, (refl, refl), record { inside = t; same = refl; bytes = refl; chars = x; shut = y })),
)

line_from : (last : Bool) (a n : Pieces) (u v : List ℕ) {t : List ℕ} → a ≡ leaf (comment (Line t)) n → u ≡ t ++ v → LineComment t → NewlineL n v → RawOf last (inl a) u
line_from last a n u v e f (line {t = t} x) z = (
  (47, inr (47, (t, inl n))),
  ap inl (sym e),
  (47 ∷ [], 47 ∷ (t ++ v), f, (refl, refl), (47 ∷ [], t ++ v, refl, (refl, refl), (t, v, refl, (refl, x), z))),
)

open_from : (last : Bool) (a : Pieces) {u : List ℕ} → last ≡ true → a ≡ only_leaf (comment (Line u)) → LineComment u → RawOf last (inr a) u
open_from last a i e (line {t = t} x) = (
  (47, inr (47, (t, inr tt))),
  ap inr (sym e),
  (47 ∷ [], 47 ∷ t, refl, (refl, refl), (47 ∷ [], t, refl, (refl, refl), (t, [], sym (append-nil t), (refl, x), (i, refl)))),
)

closed_from : (last : Bool) (a : Pieces) {u : List ℕ} → ClosedL a u → RawOf last (inl a) u
closed_from last a (a_block e x) = block_from last a e x
closed_from last a {u = u} (a_line t v n e f x z) = line_from last a n u v e f x z

comment_from : (last : Bool) (a : Pieces ⊎ Pieces) (u : List ℕ) → CommentL last a u → RawOf last a u
comment_from last (inl a) u l = closed_from last a l
comment_from last (inr a) u l = open_from last a l.0 l.1 l.2

-- a line break's class does not depend on what stands before it
wide_newline : (t : List ℕ) (n : Pieces) (v : List ℕ) → NewlineL n v → wide (leaf (comment (Line t)) n) ≡ wide n
wide_newline t n v l = ap (λ y. wide (leaf (comment (Line t)) y)) l.1 ∙ sym (ap wide l.1)

comment_free : (last : Bool) (x : ℕ × ((ℕ × List ℕ) ⊎ (ℕ × (List ℕ × (Pieces ⊎ Unit {0}))))) (u t : List ℕ) → RawL last x u → Free (unit_ext (comment_of x)) t → Free (rest_ext x.1 ++ cond false [] []) t
comment_free last (b, inl (c, s)) u t l f = f
comment_free last (b, inr (c, (s, inl n))) u t l f = free_both (wide n) [] t (subst (λ y. Free y t) (wide_newline (b ∷ c ∷ s) n l.4.4.1 l.4.4.4) f) (free_none t)
comment_free last (b, inr (c, (s, inr e))) u t l f = f

pub comment_laws : (last : Bool) → Laws (CommentL last) (comment_p last) (only 47) (λ _. false) unit_ext
comment_laws last = conv_laws comment_of (RawL last) (CommentL last) (seq_p (one_p (only 47)) (alt_p (only 42) star_p (line_p last))) (only 47) _ _
    (seq_laws (one_l (only 47)) (one_p (only 47)) (only 47) (λ _. false) (λ _. []) (one_laws (only 47) 47 refl) (alt_l StarL (LineL last)) (alt_p (only 42) star_p (line_p last)) (only 42 ++ only 47) (λ _. false) rest_ext (rest_laws last) false (λ a h. h) (λ a. refl)
    (inl (42, 42 ∷ 47 ∷ [])) (42 ∷ 42 ∷ 47 ∷ []) (42 ∷ [], 42 ∷ 47 ∷ [], refl, (refl, refl), some_body))
    (comment_to last) (comment_from last) (λ _. false) unit_ext (λ x e. e) (comment_free last)
