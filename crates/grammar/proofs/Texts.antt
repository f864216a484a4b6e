-- Every value and text of the grammar has pieces, and whole texts: the laws of their parser. Assumes nothing.
use Rattle.std.proofs.Common.{◌≡◌, ℕ, zero, suc, ◌≤◌, max, Bool, true, false, ◌⊎◌, List, [], ◌∷◌, ◌++◌, sym, refl, ap, ◌∙◌, subst, inl, inr, true≢false, append_assoc, append-nil, arith}
use mathlib.Core.Bool.{false≢true}
use Rattle.grammar.specs.Parse.{Lang, Class, within, Free, eps_l, eps_p, seq_l, seq_p, map_l, iterate}
use Rattle.grammar.specs.Classes.{Gap}
use Rattle.grammar.specs.Layout.{Label, Null, Boolean, Numeral, Text, Array, Object, Member, Mark, Open, Close, Comma, Colon, Name, Layout, stop, note, mark, item, raised, levels}
use Rattle.grammar.specs.Grammar.{Between, after, Trivia, Frame, brackets, braces, closer, quoted, shut, Value, null, truth, falsity, numeral, text, array, object, Item, element, member, Items, close, last, more, Sentence, nothing, something}
use Rattle.grammar.specs.Pieces.{Token, comma, colon, open_array, open_object, null as null_leaf, boolean, number, string, name, token, Box, property, array as array_box, object as object_box, Pieces, end, leaf, box, join, token_byte, print, lay, inner}
use Rattle.grammar.specs.Reader.{or_p, then_p, nothing_p, trivia_p, joins, only_leaf, close_token, ValueFirst, value_p, text_p}
use Rattle.grammar.proofs.Laws.{Laws, free_none, free_left, free_right, free_both, covers_ok, apart_ok, eps_laws, conv_laws, map_laws, seq_laws, choice_laws, tied_l, tied_laws}
use Rattle.grammar.proofs.Chars.{NumberMore}
use Rattle.grammar.proofs.Trivias.{OpenMore, stop_wide}
use Rattle.grammar.proofs.Gaps.{TriviaL, trail, trail_at, trail_leaf, trail_run, inner_trail, UnitL, RunL, trivia_laws, trivia_greedy}
use Rattle.grammar.proofs.Values.{JoinL, ItemL, TurnL, ValueL, value_laws}
use Rattle.grammar.proofs.Laid.{join_assoc, join_end, print_join, after_same, after_levels, trivia_to, Cut, cut}
use Rattle.grammar.proofs.Sentences.{inner_quoted, closing, close_byte, value_to}

-- pieces for a part of the grammar
pub record Back (L : Lang Pieces) (l : Label) (k : Layout) (u : List ℕ) : Type 0 where
  pub pieces : Pieces
  pub is : L pieces u
  pub laid : (r : Pieces) (b : Bool) → lay (join pieces r) b ≡ item b l k (lay r false)

pub record BackItems (V : Lang Pieces) (f : Frame) (y : Layout) (u : List ℕ) : Type 0 where
  pub turns : List Pieces
  pub stop : Pieces
  pub is : iterate (TurnL V f) (λ _. []) turns stop u
  pub laid : lay (joins turns stop) false ≡ y

cut_is : (z : Bool) {g : Between} {u : List ℕ} (m : Cut z g u) → TriviaL z (joins m.turns m.stop) u
cut_is z m = ((m.turns, m.stop), refl, m.run)

module _ (n : ℕ) (V : Lang Pieces) (from : (l : Label) (k : Layout) (u : List ℕ) → Value l k u → raised l (levels k) ≤ n → Back V l k u) where
  member_from : (t : List ℕ) {g h : Between} {s r : List ℕ} {l : Label} {k : Layout} {u : List ℕ} → Rattle.grammar.specs.Grammar.Many Rattle.grammar.specs.Grammar.StringChar t → Cut false g s → Cut false h r → Back V l k u → Back (ItemL V braces) (Member t) (mark false Name (after g (λ b. mark b Colon (after h (λ d. item d l k (stop false)))))) (quoted t ++ (s ++ 58 ∷ (r ++ u)))
  member_from t {g = g} {h = h} {s = s} {r = r} {l = l} {k = k} {u = u} ms G H L =
      let y0 : Pieces = joins G.turns G.stop in
      let r0 : Pieces = joins H.turns H.stop in
      let r1 : Pieces = L.pieces in
      let body : Pieces = leaf (name (quoted t)) (join y0 (leaf (token colon) (join r0 r1))) in
      let ins : Layout = mark false Name (after g (λ b. mark b Colon (after h (λ d. item d l k (stop false))))) in
      let le : lay body false ≡ ins =
      ap (mark false Name) (G.laid (leaf (token colon) (join r0 r1)) false
      ∙ after_same g (lay (leaf (token colon) (join r0 r1))) (λ b. mark b Colon (after h (λ d. item d l k (stop false))))
      (λ b. ap (mark b Colon) (H.laid r1 false ∙ after_same h (lay r1) (λ d. item d l k (stop false)) (λ d. ap (λ y. lay y d) (sym (join_end r1)) ∙ L.laid end d)))) in
      record {
        pieces = box property body end;
        is = (
          body,
          refl,
          (
            (only_leaf (name (quoted t)), join y0 (leaf (token colon) (join r0 r1))),
            refl,
            (
              quoted t,
              s ++ 58 ∷ (r ++ u),
              refl,
              (refl, (t, refl, ms)),
              (
                (y0, leaf (token colon) (join r0 r1)),
                refl,
                (
                  s,
                  58 ∷ (r ++ u),
                  refl,
                  cut_is false G,
                  (
                    (only_leaf (token colon), join r0 r1),
                    refl,
                    (
                      58 ∷ [],
                      r ++ u,
                      refl,
                      (refl, refl),
                      ((r0, r1), refl, (r, u, refl, cut_is false H, L.is)),
                    ),
                  ),
                ),
              ),
            ),
          ),
        );
        laid = λ z b. ap (λ y. item b (Member y) (lay body false) (lay z false)) (inner_quoted t) ∙ ap (λ y. item b (Member t) y (lay z false)) le;
      }

  member_levels : (g h : Between) (l : Label) (k : Layout) → levels (mark false Name (after g (λ b. mark b Colon (after h (λ d. item d l k (stop false)))))) ≡ max (raised l (levels k)) 0
  member_levels g h l k =
      after_levels g (λ b. mark b Colon (after h (λ d. item d l k (stop false)))) (max (raised l (levels k)) 0) (λ b. after_levels h (λ d. item d l k (stop false)) (max (raised l (levels k)) 0) (λ d. refl))

  item_from : {f : Frame} {l : Label} {k : Layout} {u : List ℕ} → Item f l k u → raised l (levels k) ≤ n → Back (ItemL V f) l k u
  item_from (element {l = l} {k = k} {t = t} v) d = from l k t v d
  item_from (member {n = t} {g = g} {h = h} {l = l} {k = k} {t = u} ms tg th v) d =
      let e = member_levels g h l k in
      member_from t ms (cut false tg) (cut false th) (from l k u v (omega arith))

  end_bytes : (f : Frame) → closer f ∷ [] ≡ token_byte (close_token f) ∷ []
  end_bytes f = ap (λ y. y ∷ []) (sym (close_byte f))

  close_from : {f : Frame} {g : Between} {s : List ℕ} → Cut false g s → BackItems V f (after g shut) (s ++ closer f ∷ [])
  close_from {f = f} {g = g} {s = s} G =
      let k : Pieces = only_leaf (token (close_token f)) in
      record {
        turns = [];
        stop = join (joins G.turns G.stop) k;
        is = ((joins G.turns G.stop, inr k), refl, (s, closer f ∷ [], refl, cut_is false G, inl (k, refl, (refl, end_bytes f))));
        laid = G.laid k false ∙ after_same g (lay k) shut (closing f);
      }

  last_from : {f : Frame} {g h : Between} {l : Label} {k : Layout} {s t r : List ℕ} → Cut false g s → Back (ItemL V f) l k t → Cut false h r → BackItems V f (after g (λ b. item b l k (after h shut))) (s ++ (t ++ (r ++ closer f ∷ [])))
  last_from {f = f} {g = g} {h = h} {l = l} {k = k} {s = s} {t = t} {r = r} G I H =
      let g0 : Pieces = joins G.turns G.stop in
      let h0 : Pieces = joins H.turns H.stop in
      let i0 : Pieces = I.pieces in
      let c : Pieces = only_leaf (token (close_token f)) in
      record {
        turns = [];
        stop = join g0 (join i0 (join h0 c));
        is = (
          (g0, inr (join i0 (join h0 c))),
          refl,
          (
            s,
            t ++ (r ++ closer f ∷ []),
            refl,
            cut_is false G,
            inr ((i0, inr (join h0 c)), refl, (t, r ++ closer f ∷ [], refl, I.is, ((h0, inr c), refl, (r, closer f ∷ [], refl, cut_is false H, (refl, end_bytes f))))),
          ),
        );
        laid = G.laid (join i0 (join h0 c)) false ∙ after_same g (lay (join i0 (join h0 c))) (λ b. item b l k (after h shut))
            (λ b. I.laid (join h0 c) b ∙ ap (item b l k) (H.laid c false ∙ after_same h (lay c) shut (closing f)));
      }

  more_from : {f : Frame} {g h : Between} {l : Label} {k y : Layout} {s t r u : List ℕ} → Cut false g s → Back (ItemL V f) l k t → Cut false h r → BackItems V f y u → BackItems V f (after g (λ b. item b l k (after h (λ d. mark d Comma y)))) (s ++ (t ++ (r ++ 44 ∷ u)))
  more_from {f = f} {g = g} {h = h} {l = l} {k = k} {y = y} {s = s} {t = t} {r = r} {u = u} G I H R =
      let g0 : Pieces = joins G.turns G.stop in
      let h0 : Pieces = joins H.turns H.stop in
      let i0 : Pieces = I.pieces in
      let c : Pieces = only_leaf (token comma) in
      let q : Pieces = joins R.turns R.stop in
      let J : join (join g0 (join i0 (join h0 c))) q ≡ join g0 (join i0 (join h0 (leaf (token comma) q))) = join_assoc g0 (join i0 (join h0 c)) q ∙ ap (join g0) (join_assoc i0 (join h0 c) q ∙ ap (join i0) (join_assoc h0 c q)) in
      record {
        turns = join g0 (join i0 (join h0 c)) ∷ R.turns;
        stop = R.stop;
        is = (
          s ++ (t ++ (r ++ 44 ∷ [])),
          u,
          sym (append_assoc s (t ++ (r ++ 44 ∷ [])) u ∙ ap (λ z. s ++ z) (append_assoc t (r ++ 44 ∷ []) u ∙ ap (λ z. t ++ z) (append_assoc r (44 ∷ []) u))),
          (
            (g0, inl (join i0 (join h0 c))),
            refl,
            (
              s,
              t ++ (r ++ 44 ∷ []),
              refl,
              cut_is false G,
              inr ((i0, inl (join h0 c)), refl, (t, r ++ 44 ∷ [], refl, I.is, ((h0, inl c), refl, (r, 44 ∷ [], refl, cut_is false H, (refl, refl))))),
            ),
          ),
          free_none u,
          R.is,
        );
        laid = ap (λ z. lay z false) J ∙ G.laid (join i0 (join h0 (leaf (token comma) q))) false ∙ after_same g (lay (join i0 (join h0 (leaf (token comma) q)))) (λ b. item b l k (after h (λ d. mark d Comma y)))
            (λ b. I.laid (join h0 (leaf (token comma) q)) b ∙ ap (item b l k) (H.laid (leaf (token comma) q) false ∙ after_same h (lay (leaf (token comma) q)) (λ d. mark d Comma y) (λ d. ap (mark d Comma) R.laid)));
      }

  items_from : {f : Frame} {y : Layout} {u : List ℕ} → Items f y u → levels y ≤ n → BackItems V f y u
  items_from (close t) d = close_from (cut false t)
  items_from (last {g = g} {h = h} {l = l} {k = k} tg i th) d =
      let e : levels (after g (λ b. item b l k (after h shut))) ≡ max (raised l (levels k)) (levels (after h shut)) = after_levels g (λ b. item b l k (after h shut)) (max (raised l (levels k)) (levels (after h shut))) (λ b. refl) in
      last_from (cut false tg) (item_from i (omega arith)) (cut false th)
  items_from (more {g = g} {h = h} {l = l} {k = k} {y = y} tg i th z) d =
      let e0 : levels (after h (λ d. mark d Comma y)) ≡ levels y = after_levels h (λ d. mark d Comma y) (levels y) (λ b. refl) in
      let e : levels (after g (λ b. item b l k (after h (λ d. mark d Comma y)))) ≡ max (raised l (levels k)) (levels (after h (λ d. mark d Comma y))) = after_levels g (λ b. item b l k (after h (λ d. mark d Comma y))) (max (raised l (levels k)) (levels (after h (λ d. mark d Comma y)))) (λ b. refl) in
      more_from (cut false tg) (item_from i (omega arith)) (cut false th) (items_from z (omega arith))

pub value_from_lem : (n : ℕ) (l : Label) (k : Layout) (u : List ℕ) → Value l k u → raised l (levels k) ≤ n → Back (ValueL n) l k u
value_from_lem n _ _ _ null d = record { pieces = only_leaf null_leaf; is = inr (inr (inl (refl, refl))); laid = λ r b. refl }
value_from_lem n _ _ _ truth d = record { pieces = only_leaf (boolean true); is = inr (inr (inr (inl (refl, refl)))); laid = λ r b. refl }
value_from_lem n _ _ _ falsity d = record { pieces = only_leaf (boolean false); is = inr (inr (inr (inr (inl (refl, refl))))); laid = λ r b. refl }
value_from_lem n _ _ _ (numeral {t = t} m) d = record { pieces = only_leaf (number t); is = inr (inr (inr (inr (inr (refl, m))))); laid = λ r b. refl }
value_from_lem n _ _ _ (text {t = t} m) d = record { pieces = only_leaf (string (quoted t)); is = inr (inl (refl, (t, refl, m))); laid = λ r b. ap (λ y. item b (Text y) (stop false) (lay r false)) (inner_quoted t) }
value_from_lem zero _ _ _ (array x) d = absurd (omega arith)
value_from_lem zero _ _ _ (object x) d = absurd (omega arith)
value_from_lem (suc n) _ _ _ (array {u = u} x) d =
    let m = items_from n (ValueL n) (value_from_lem n) x (omega arith) in
    let q : Pieces = joins m.turns m.stop in
    record {
      pieces = box array_box (leaf (token open_array) q) end;
      is = inl (inl (leaf (token open_array) q, refl, ((only_leaf (token open_array), q), refl, (91 ∷ [], u, refl, (refl, refl), ((m.turns, m.stop), refl, m.is)))));
      laid = λ r b. ap (λ y. item b Array (mark false Open y) (lay r false)) m.laid;
    }
value_from_lem (suc n) _ _ _ (object {u = u} x) d =
    let m = items_from n (ValueL n) (value_from_lem n) x (omega arith) in
    let q : Pieces = joins m.turns m.stop in
    record {
      pieces = box object_box (leaf (token open_object) q) end;
      is = inl (inr (leaf (token open_object) q, refl, ((only_leaf (token open_object), q), refl, (123 ∷ [], u, refl, (refl, refl), ((m.turns, m.stop), refl, m.is)))));
      laid = λ r b. ap (λ y. item b Object (mark false Open y) (lay r false)) m.laid;
    }

-- whole texts, as pieces
abbrev pub BodyL : ℕ → Lang Pieces
BodyL n a u = JoinL (ValueL n) (TriviaL true) a u ⊎ ((a ≡ end) × (u ≡ []))

abbrev pub TextL : ℕ → Lang Pieces
TextL n = map_l (λ x. join x.0 x.1) (tied_l (TriviaL true) trail (BodyL n))

-- everything that may go on a text
abbrev pub TextMore : Class
TextMore = OpenMore ++ (Gap ++ (NumberMore ++ ValueFirst))

trail_leaf_lem : (x : Rattle.grammar.specs.Pieces.Leaf) (t : List ℕ) → Free OpenMore t → Free Gap t → Free (trail_leaf x) t
trail_leaf_lem null_leaf t f g = g
trail_leaf_lem (boolean b) t f g = g
trail_leaf_lem (number s) t f g = g
trail_leaf_lem (string s) t f g = g
trail_leaf_lem (name s) t f g = g
trail_leaf_lem (token m) t f g = g
trail_leaf_lem (Rattle.grammar.specs.Pieces.whitespace s) t f g = g
trail_leaf_lem (Rattle.grammar.specs.Pieces.newline k) t f g = g
trail_leaf_lem (Rattle.grammar.specs.Pieces.comment (Rattle.grammar.specs.Layout.Line s)) t f g = f
trail_leaf_lem (Rattle.grammar.specs.Pieces.comment (Rattle.grammar.specs.Layout.Block s)) t f g = g

trail_in : (c : Class) (a : Pieces) (t : List ℕ) → Free c t → Free OpenMore t → Free Gap t → Free (trail_at c a) t
trail_in c end t e f g = e
trail_in c (leaf x r) t e f g = trail_in (trail_leaf x) r t (trail_leaf_lem x t f g) f g
trail_in c (box k i r) t e f g = trail_in Gap r t g f g

more_gap : (t : List ℕ) → Free TextMore t → Free Gap t
more_gap t f = free_left Gap (NumberMore ++ ValueFirst) t (free_right OpenMore (Gap ++ (NumberMore ++ ValueFirst)) t f)

more_trail : (a : Pieces) (t : List ℕ) → Free TextMore t → Free (trail a) t
more_trail a t f = trail_in Gap a t (more_gap t f) (free_left OpenMore (Gap ++ (NumberMore ++ ValueFirst)) t f) (more_gap t f)

more_number : (t : List ℕ) → Free TextMore t → Free NumberMore t
more_number t f = free_left NumberMore ValueFirst t (free_right Gap (NumberMore ++ ValueFirst) t (free_right OpenMore (Gap ++ (NumberMore ++ ValueFirst)) t f))

more_value : (t : List ℕ) → Free TextMore t → Free ValueFirst t
more_value t f = free_right NumberMore ValueFirst t (free_right Gap (NumberMore ++ ValueFirst) t (free_right OpenMore (Gap ++ (NumberMore ++ ValueFirst)) t f))

no_trivia : (z : Bool) → TriviaL z end []
no_trivia z = (([], end), refl, inr (refl, refl))

some_laws : (n : ℕ) → Laws (JoinL (ValueL n) (TriviaL true)) (then_p (value_p n) (trivia_p true)) ValueFirst (λ _. false) (λ _. TextMore)
some_laws n = map_laws (λ x. join x.0 x.1) (seq_l (ValueL n) (TriviaL true)) (seq_p (value_p n) (trivia_p true)) ValueFirst (λ _. false) (λ x. trail x.1 ++ NumberMore)
    (seq_laws (ValueL n) (value_p n) ValueFirst (λ _. false) (λ _. NumberMore) (value_laws n) (TriviaL true) (trivia_p true) Gap (λ _. true) trail (trivia_laws true) false (λ a e. e) (λ a. refl) end [] (no_trivia true))
    (λ _. false) (λ _. TextMore) (λ a e. e) (λ x u t l f. free_both (trail x.1) NumberMore t (more_trail x.1 t f) (more_number t f))

abbrev NothingL : Lang Pieces
NothingL a u = (a ≡ end) × (u ≡ [])

nothing_laws : Laws NothingL nothing_p [] (λ _. true) (λ _. TextMore)
nothing_laws = conv_laws (λ _. end) eps_l NothingL eps_p [] (λ _. true) (λ _. []) eps_laws (λ a u l. (refl, l)) (λ a u l. (tt, sym l.0, l.1)) (λ _. true) (λ _. TextMore) (λ a e. refl) (λ a u t l f. free_none t)

body_laws : (n : ℕ) → Laws (BodyL n) (or_p ValueFirst (then_p (value_p n) (trivia_p true)) nothing_p) (ValueFirst ++ []) (λ _. true) (λ _. TextMore)
body_laws n = choice_laws (JoinL (ValueL n) (TriviaL true)) NothingL (then_p (value_p n) (trivia_p true)) nothing_p ValueFirst [] (λ _. true) (λ _. TextMore) (some_laws n) nothing_laws refl (λ b u t l e f. more_value t f)

pub text_laws : (n : ℕ) → Laws (TextL n) (text_p n) (Gap ++ (ValueFirst ++ [])) (λ _. true) (λ _. TextMore)
text_laws n = map_laws (λ x. join x.0 x.1) (tied_l (TriviaL true) trail (BodyL n)) (seq_p (trivia_p true) (or_p ValueFirst (then_p (value_p n) (trivia_p true)) nothing_p)) (Gap ++ (ValueFirst ++ [])) (λ _. true) (λ x. TextMore ++ trail x.0)
    (tied_laws (TriviaL true) (trivia_p true) Gap (λ _. true) trail (trivia_laws true) (BodyL n) (or_p ValueFirst (then_p (value_p n) (trivia_p true)) nothing_p) (ValueFirst ++ []) (λ _. true) (λ _. TextMore) (body_laws n) (trivia_greedy true) end (inr (refl, refl)))
    (λ _. true) (λ _. TextMore) (λ a e. refl) (λ x u t l f. free_both TextMore (trail x.0) t f (more_trail x.0 t f))

-- trivia in front of a value has no open line
close_unit : (x : Pieces) (v : List ℕ) → UnitL true (inl x) v → UnitL false (inl x) v
close_unit x v (inl (inl l)) = inl (inl l)
close_unit x v (inl (inr l)) = inl (inr l)
close_unit x v (inr l) = absurd l

open_unit : (x : Pieces) (v : List ℕ) → UnitL false (inl x) v → UnitL true (inl x) v
open_unit x v (inl (inl l)) = inl (inl l)
open_unit x v (inl (inr l)) = inl (inr l)
open_unit x v (inr l) = absurd l

close_run : (xs : List Pieces) (c : Pieces) (u : List ℕ) → RunL true xs c u → RunL false xs c u ⊎ (stop_wide c ≡ OpenMore)
close_run [] c u (inl (inl l)) = inr (ap stop_wide l.1)
close_run [] c u (inl (inr l)) = absurd l
close_run [] c u (inr l) = inl (inr l)
close_run (x ∷ xs) c u l = elim (close_run xs c l.1 l.5)
    [ inl k ↦ inl (l.0, l.1, l.2, close_unit x l.0 l.3, l.4, k) | inr e ↦ inr e ]

open_run : (xs : List Pieces) (c : Pieces) (u : List ℕ) → RunL false xs c u → RunL true xs c u
open_run [] c u (inl (inl l)) = absurd (false≢true l.0)
open_run [] c u (inl (inr l)) = absurd l
open_run [] c u (inr l) = inr l
open_run (x ∷ xs) c u l = (l.0, l.1, l.2, open_unit x l.0 l.3, l.4, open_run xs c l.1 l.5)

value_first : (n : ℕ) (c : Class) → ((b : ℕ) → within ValueFirst b ≡ true → within c b ≡ false) → (a : Pieces) (u v : List ℕ) → ValueL n a u → Free c (u ++ v)
value_first n c h a [] v l = absurd (false≢true ((value_laws n).null_ok a l))
value_first n c h a (b ∷ u) v l = h b ((value_laws n).first_ok a b u l)

value_open : (n : ℕ) (a : Pieces) (u v : List ℕ) → ValueL n a u → Free OpenMore (u ++ v) → ⊥
value_open n a [] v l f = false≢true ((value_laws n).null_ok a l)
value_open n a (b ∷ u) v l f = true≢false (sym (covers_ok OpenMore ValueFirst refl b ((value_laws n).first_ok a b u l)) ∙ f)

pub front_trivia : (n : ℕ) (x a : Pieces) (u w v : List ℕ) → TriviaL true x u → Free (trail x) (w ++ v) → ValueL n a w → TriviaL false x u
front_trivia n x a u w v ((xs, c), e, l) f k = elim (close_run xs c u l) [
  | inl r ↦ ((xs, c), e, r)
  | inr z ↦ absurd (value_open n a w v k (subst (λ y. Free y (w ++ v)) (ap trail (sym e) ∙ trail_run true xs c u l ∙ z) f))
]

pub record TextTo (n : ℕ) (a : Pieces) (u : List ℕ) : Type 0 where
  pub sentence : Sentence (lay a false) u
  pub depth : levels (lay a false) ≤ n
  pub printed : print a ≡ u

stop_levels : (h : Between) → levels (after h stop) ≡ 0
stop_levels h = after_levels h stop 0 (λ b. refl)

nothing_to : (n : ℕ) (x : Pieces) (u : List ℕ) → TriviaL true x u → TextTo n (join x end) (u ++ [])
nothing_to n x u t =
    let G = trivia_to true x u t in
    let E : lay (join x end) false ≡ after G.gap stop = G.laid end false in
    let lv = stop_levels G.gap in
    subst (TextTo n (join x end)) (sym (append-nil u)) (record {
      sentence = subst (λ y. Sentence y u) (sym E) (nothing G.trivia);
      depth = subst (λ y. levels y ≤ n) (sym E) (omega arith);
      printed = ap print (join_end x) ∙ G.printed;
    })

something_to : (n : ℕ) (x a z : Pieces) (s t r : List ℕ) → TriviaL false x s → ValueL n a t → TriviaL true z r → TextTo n (join x (join a z)) (s ++ (t ++ r))
something_to n x a z s t r tg v th =
    let G = trivia_to false x s tg in
    let H = trivia_to true z r th in
    let I = value_to n a t v in
    let Y : Layout = after G.gap (λ b. item b I.label I.inside (after H.gap stop)) in
    let E : lay (join x (join a z)) false ≡ Y =
    G.laid (join a z) false ∙ after_same G.gap (lay (join a z)) (λ b. item b I.label I.inside (after H.gap stop))
    (λ b. I.laid z b ∙ ap (item b I.label I.inside) (ap (λ y. lay y false) (sym (join_end z)) ∙ H.laid end false)) in
    let l0 = stop_levels H.gap in
    let lv : levels Y ≡ max (raised I.label (levels I.inside)) (levels (after H.gap stop)) = after_levels G.gap (λ b. item b I.label I.inside (after H.gap stop)) (max (raised I.label (levels I.inside)) (levels (after H.gap stop))) (λ b. refl) in
    let dp = I.depth in
    record {
      sentence = subst (λ y. Sentence y (s ++ (t ++ r))) (sym E) (something G.trivia I.is H.trivia);
      depth = subst (λ y. levels y ≤ n) (sym E) (omega arith);
      printed = print_join x (join a z) ∙ ap (λ y. y ++ print (join a z)) G.printed ∙ ap (λ y. s ++ y) (print_join a z ∙ ap (λ y. y ++ print z) I.printed ∙ ap (λ y. t ++ y) H.printed);
    }

pub text_to : (n : ℕ) (a : Pieces) (u : List ℕ) → TextL n a u → TextTo n a u
text_to n a u ((x0, x1), j, (u0, u1, e, t, f, inl ((v, z), k, (w0, w1, d, l, m)))) =
    subst (λ y. TextTo n y u) (ap (join x0) k ∙ j) (subst (TextTo n (join x0 (join v z))) (sym (e ∙ ap (λ y. u0 ++ y) d)) (something_to n x0 v z u0 w0 w1 (front_trivia n x0 v u0 w0 w1 t (subst (Free (trail x0)) d f) l) l m))
text_to n a u ((x0, x1), j, (u0, u1, e, t, f, inr (k, q))) =
    subst (λ y. TextTo n y u) (ap (join x0) (sym k) ∙ j) (subst (TextTo n (join x0 end)) (sym (e ∙ ap (λ y. u0 ++ y) q)) (nothing_to n x0 u0 t))

pub text_from : (n : ℕ) {y : Layout} {u : List ℕ} → Sentence y u → levels y ≤ n → (a : Pieces) × TextL n a u × (lay a false ≡ y)
text_from n (nothing {g = g} {s = s} t) d =
    let m = cut true t in
    let x : Pieces = joins m.turns m.stop in
    (join x end, ((x, end), refl, (s, [], sym (append-nil s), cut_is true m, tt, inr (refl, refl))), m.laid end false)
text_from n (something {g = g} {h = h} {l = l} {k = k} {s = s} {t = t} {r = r} tg v th) d =
    let e : levels (after g (λ b. item b l k (after h stop))) ≡ max (raised l (levels k)) (levels (after h stop)) = after_levels g (λ b. item b l k (after h stop)) (max (raised l (levels k)) (levels (after h stop))) (λ b. refl) in
    let G = cut false tg in
    let H = cut true th in
    let I = value_from_lem n l k t v (omega arith) in
    let x : Pieces = joins G.turns G.stop in
    let z : Pieces = joins H.turns H.stop in
    let f : Free (trail x) (t ++ r) = subst (λ y. Free y (t ++ r)) (sym (trail_run false G.turns G.stop s G.run ∙ inner_trail G.turns G.stop s G.run)) (value_first n Gap (apart_ok ValueFirst Gap refl) I.pieces t r I.is) in (
      join x (join I.pieces z),
      ((x, join I.pieces z), refl, (s, t ++ r, refl, ((G.turns, G.stop), refl, open_run G.turns G.stop s G.run), f, inl ((I.pieces, z), refl, (t, r, refl, I.is, cut_is true H)))),
      G.laid (join I.pieces z) false ∙ after_same g (lay (join I.pieces z)) (λ b. item b l k (after h stop))
          (λ b. I.laid z b ∙ ap (item b l k) (ap (λ y. lay y false) (sym (join_end z)) ∙ H.laid end false)),
    )
