-- Trivia as the grammar has it, and as pieces: the same bytes with the same layout. Assumes nothing.
use Rattle.std.proofs.Common.{◌≡◌, ℕ, Bool, true, false, List, [], ◌∷◌, ◌++◌, sym, refl, ap, ◌∙◌, subst, inl, inr, append_assoc, append-nil}
use Rattle.std.proofs.lemmas.Bool.{or_cases}
use Rattle.grammar.specs.Parse.{Class, within, Free}
use Rattle.grammar.specs.Classes.{only, Blank, LineEnd}
use Rattle.grammar.specs.Layout.{Comment, Line, Block, Layout, note, levels}
use Rattle.grammar.specs.Grammar.{All, BlockComment, block, LineComment, line, Between, quiet, remark, broken, after, Trivia, empty, blank, newline, block_comment, line_comment, open_line}
use Rattle.grammar.specs.Pieces.{Break, line_feed, carriage_return, both, whitespace, comment, newline as break, Pieces, end, leaf, box, join, break_bytes, print, own, lay}
use Rattle.grammar.specs.Reader.{joins, only_leaf}
use Rattle.grammar.proofs.Laws.{free_none, within_app, apart_ok}
use Rattle.grammar.proofs.Bytes.{is_only}
use Rattle.grammar.proofs.Trivias.{wide, break_wide, Blanks, ClosedL, a_block, a_line}
use Rattle.grammar.proofs.Gaps.{UnitL, RunL, TriviaL}

pub join_assoc : (a b c : Pieces) → join (join a b) c ≡ join a (join b c)
join_assoc end b c = refl
join_assoc (leaf x r) b c = ap (leaf x) (join_assoc r b c)
join_assoc (box k i r) b c = ap (box k i) (join_assoc r b c)

pub join_end : (a : Pieces) → join a end ≡ a
join_end end = refl
join_end (leaf x r) = ap (leaf x) (join_end r)
join_end (box k i r) = ap (box k i) (join_end r)

pub print_join : (a b : Pieces) → print (join a b) ≡ print a ++ print b
print_join end b = refl
print_join (leaf x r) b = ap (λ y. own x ++ y) (print_join r b) ∙ sym (append_assoc (own x) (print r) (print b))
print_join (box k i r) b = ap (λ y. print i ++ y) (print_join r b) ∙ sym (append_assoc (print i) (print r) (print b))

-- a Newline may have stood in front
abbrev pub flag : Bool → Between → Between
flag true g = broken g
flag false g = g

pub broken_twice : (g : Between) → broken (broken g) ≡ broken g
broken_twice (quiet b) = refl
broken_twice (remark b c g) = refl

pub flag_broken : (b : Bool) (g : Between) → flag b (broken g) ≡ broken g
flag_broken true g = broken_twice g
flag_broken false g = refl

pub after_quiet : (b : Bool) (k : Bool → Layout) → after (flag b (quiet false)) k ≡ k b
after_quiet true k = refl
after_quiet false k = refl

pub after_remark : (b : Bool) (c : Comment) (g : Between) (k : Bool → Layout) → after (flag b (remark false c g)) k ≡ note b c (after g k)
after_remark true c g k = refl
after_remark false c g k = refl

pub after_same : (g : Between) (k j : Bool → Layout) → ((b : Bool) → k b ≡ j b) → after g k ≡ after g j
after_same (quiet b) k j h = h b
after_same (remark b c g) k j h = ap (note b c) (after_same g k j h)

pub after_levels : (g : Between) (k : Bool → Layout) (m : ℕ) → ((b : Bool) → levels (k b) ≡ m) → levels (after g k) ≡ m
after_levels (quiet b) k m h = h b
after_levels (remark b c g) k m h = after_levels g k m h

-- pieces of trivia, read as the grammar has it
pub record Laid (last : Bool) (a : Pieces) (u : List ℕ) : Type 0 where
  pub gap : Between
  pub trivia : Trivia last gap u
  pub laid : (r : Pieces) (b : Bool) → lay (join a r) b ≡ after (flag b gap) (lay r)
  pub printed : print a ≡ u

pub blanks_on : (last : Bool) (g : Between) (u v : List ℕ) → All Blank u → Trivia last g v → Trivia last g (u ++ v)
blanks_on last g [] v h t = t
blanks_on last g (b ∷ u) v h t = blank b h.0 (blanks_on last g u v h.1 t)

pub blanks_all : (u : List ℕ) → Blanks u → All Blank u
blanks_all u l = subst (All Blank) (sym (l.2 ∙ ap (λ y. y ++ l.1) l.3.1)) (l.3.2, l.4)

-- a line break, and a line comment with one, in front of trivia
module _ {last : Bool} {g : Between} {s : List ℕ} (i : Trivia last g s) where
  pub break_trivia : (k : Break) → Trivia last (broken g) (break_bytes k ++ s)
  break_trivia line_feed = newline 10 refl i
  break_trivia carriage_return = newline 13 refl i
  break_trivia both = subst (λ y. Trivia last y (13 ∷ 10 ∷ s)) (broken_twice g) (newline 13 refl (newline 10 refl i))

  pub line_trivia : (t : List ℕ) (k : Break) → LineComment t → Trivia last (remark false (Line t) (broken g)) (t ++ (break_bytes k ++ s))
  line_trivia t line_feed h = line_comment 10 h refl i
  line_trivia t carriage_return h = line_comment 13 h refl i
  line_trivia t both h = subst (λ y. Trivia last (remark false (Line t) y) (t ++ 13 ∷ 10 ∷ s)) (broken_twice g) (line_comment 13 h refl (newline 10 refl i))

module _ (last : Bool) (r : Pieces) (w : List ℕ) (m : Laid last r w) where
  space_on : (v : List ℕ) → Blanks v → Laid last (leaf (whitespace v) r) (v ++ w)
  space_on v h = record {
    gap = m.gap;
    trivia = blanks_on last m.gap v w (blanks_all v h) m.trivia;
    laid = λ z b. m.laid z b;
    printed = ap (λ y. v ++ y) m.printed;
  }

  newline_on : (k : Break) → Laid last (leaf (break k) r) (break_bytes k ++ w)
  newline_on k = record {
    gap = broken m.gap;
    trivia = break_trivia m.trivia k;
    laid = λ z b. m.laid z true ∙ ap (λ y. after y (lay z)) (sym (flag_broken b m.gap));
    printed = ap (λ y. break_bytes k ++ y) m.printed;
  }

  block_on : (t : List ℕ) → BlockComment t → Laid last (leaf (comment (Block t)) r) (t ++ w)
  block_on t h = record {
    gap = remark false (Block t) m.gap;
    trivia = block_comment h m.trivia;
    laid = λ z b. ap (note b (Block t)) (m.laid z false) ∙ sym (after_remark b (Block t) m.gap (lay z));
    printed = ap (λ y. t ++ y) m.printed;
  }

  line_on : (t : List ℕ) (k : Break) → LineComment t → Laid last (leaf (comment (Line t)) (leaf (break k) r)) (t ++ (break_bytes k ++ w))
  line_on t k h = record {
    gap = remark false (Line t) (broken m.gap);
    trivia = line_trivia m.trivia t k h;
    laid = λ z b. ap (note b (Line t)) (m.laid z true) ∙ sym (after_remark b (Line t) (broken m.gap) (lay z));
    printed = ap (λ y. t ++ (break_bytes k ++ y)) m.printed;
  }

stop_open : (last : Bool) (u : List ℕ) → last ≡ true → LineComment u → Laid last (only_leaf (comment (Line u))) u
stop_open last u i h = record {
  gap = remark false (Line u) (quiet false);
  trivia = open_line i h;
  laid = λ z b. sym (after_remark b (Line u) (quiet false) (lay z));
  printed = append-nil u;
}

stop_end : (last : Bool) → Laid last end []
stop_end last = record { gap = quiet false; trivia = empty; laid = λ z b. sym (after_quiet b (lay z)); printed = refl }

closed_to : (last : Bool) (x r : Pieces) {v : List ℕ} (w : List ℕ) → ClosedL x v → Laid last r w → Laid last (join x r) (v ++ w)
closed_to last x r {v = v} w (a_block e h) m = subst (λ y. Laid last (join y r) (v ++ w)) (sym e) (block_on last r w m v h)
closed_to last x r {v = v} w (a_line t z n e f h l) m =
    subst (λ y. Laid last (join y r) (v ++ w)) (sym (e ∙ ap (leaf (comment (Line t))) l.1))
    (subst (Laid last (leaf (comment (Line t)) (leaf (break l.0) r))) (sym (ap (λ y. y ++ w) (f ∙ ap (λ y. t ++ y) l.2) ∙ append_assoc t (break_bytes l.0) w)) (line_on last r w m t l.0 h))

unit_to : (last : Bool) (x r : Pieces) (v w : List ℕ) → UnitL last (inl x) v → Laid last r w → Laid last (join x r) (v ++ w)
unit_to last x r v w (inl (inl l)) m = closed_to last x r w l m
unit_to last x r v w (inl (inr (inl l))) m = subst (λ y. Laid last (join y r) (v ++ w)) (sym l.0) (space_on last r w m v l.1)
unit_to last x r v w (inl (inr (inr l))) m = subst (λ y. Laid last (join y r) (v ++ w)) (sym l.1) (subst (λ y. Laid last (leaf (break l.0) r) (y ++ w)) (sym l.2) (newline_on last r w m l.0))
unit_to last x r v w (inr l) m = absurd l

stop_to : (last : Bool) (c : Pieces) (u : List ℕ) → UnitL last (inr c) u → Laid last c u
stop_to last c u (inl (inl l)) = subst (λ y. Laid last y u) (sym l.1) (stop_open last u l.0 l.2)
stop_to last c u (inl (inr l)) = absurd l
stop_to last c u (inr l) = subst (λ y. Laid last y u) (sym l.0) (subst (Laid last end) (sym l.1) (stop_end last))

run_to : (last : Bool) (xs : List Pieces) (c : Pieces) (u : List ℕ) → RunL last xs c u → Laid last (joins xs c) u
run_to last [] c u l = stop_to last c u l
run_to last (x ∷ xs) c u l = subst (Laid last (join x (joins xs c))) (sym l.2) (unit_to last x (joins xs c) l.0 l.1 l.3 (run_to last xs c l.1 l.5))

pub trivia_to : (last : Bool) (a : Pieces) (u : List ℕ) → TriviaL last a u → Laid last a u
trivia_to last a u l = subst (λ y. Laid last y u) l.1 (run_to last l.0.0 l.0.1 u l.2)

-- trivia as the grammar has it, cut into the longest pieces
pub record Cut (last : Bool) (g : Between) (u : List ℕ) : Type 0 where
  pub turns : List Pieces
  pub stop : Pieces
  pub run : RunL last turns stop u
  pub laid : (r : Pieces) (b : Bool) → lay (join (joins turns stop) r) b ≡ after (flag b g) (lay r)

-- what the next piece begins with
block_first : {u : List ℕ} (c : Class) → within c 47 ≡ false → (v : List ℕ) → BlockComment u → Free c (u ++ v)
block_first c h v (block x y) = h

line_first : {u : List ℕ} (c : Class) → within c 47 ≡ false → (v : List ℕ) → LineComment u → Free c (u ++ v)
line_first c h v (line x) = h

closed_first : (a : Pieces) {u : List ℕ} (c : Class) → within c 47 ≡ false → (v : List ℕ) → ClosedL a u → Free c (u ++ v)
closed_first a c h v (a_block e x) = block_first c h v x
closed_first a {u = u} c h v (a_line t z n e f x l) = subst (λ y. Free c (y ++ v)) (sym f) (subst (Free c) (sym (append_assoc t z v)) (line_first c h (z ++ v) x))

stop_first : (last : Bool) (a : Pieces) (u : List ℕ) (c : Class) → within c 47 ≡ false → UnitL last (inr a) u → Free c u
stop_first last a u c h (inl (inl l)) = subst (Free c) (append-nil u) (line_first c h [] l.2)
stop_first last a u c h (inl (inr l)) = absurd l
stop_first last a u c h (inr l) = subst (Free c) (sym l.1) tt

break_first : (k : Break) (v : List ℕ) → Free Blank (break_bytes k ++ v)
break_first line_feed v = refl
break_first carriage_return v = refl
break_first both v = refl

blank_first : (u v : List ℕ) → Blanks u → Free (only 10) (u ++ v)
blank_first u v l = subst (λ y. Free (only 10) (y ++ v)) (sym (l.2 ∙ ap (λ y. y ++ l.1) l.3.1)) (apart_ok Blank (only 10) refl l.3.0 l.3.2)

one_blank : (x : ℕ) → within Blank x ≡ true → Blanks (x ∷ [])
one_blank x h = (x ∷ [], [], refl, (x, refl, h), tt)

more_blank : (x : ℕ) (v : List ℕ) → within Blank x ≡ true → Blanks v → Blanks (x ∷ v)
more_blank x v h l = (x ∷ [], v, refl, (x, refl, h), blanks_all v l)

-- a space of its own
new_space : (last : Bool) (g : Between) (s : List ℕ) (x : ℕ) → within Blank x ≡ true → (m : Cut last g s) → Free Blank s → Cut last g (x ∷ s)
new_space last g s x h m f = record {
  turns = only_leaf (whitespace (x ∷ [])) ∷ m.turns;
  stop = m.stop;
  run = (x ∷ [], s, refl, inl (inr (inl (refl, one_blank x h))), f, m.run);
  laid = λ r b. m.laid r b;
}

add_blank : (last : Bool) (g : Between) (s : List ℕ) (x : ℕ) → within Blank x ≡ true → (ts : List Pieces) (c : Pieces) → RunL last ts c s → ((r : Pieces) (b : Bool) → lay (join (joins ts c) r) b ≡ after (flag b g) (lay r)) → Cut last g (x ∷ s)
add_blank last g s x h [] c l z = new_space last g s x h (record { turns = []; stop = c; run = l; laid = z }) (stop_first last c s Blank refl l)
add_blank last g s x h (y ∷ ts) c (u, v, e, inl (inl k), f, l) z =
    new_space last g s x h (record { turns = y ∷ ts; stop = c; run = (u, v, e, inl (inl k), f, l); laid = z }) (subst (Free Blank) (sym e) (closed_first y Blank refl v k))
add_blank last g s x h (y ∷ ts) c (u, v, e, inl (inr (inl k)), f, l) z = record {
  turns = only_leaf (whitespace (x ∷ u)) ∷ ts;
  stop = c;
  run = (x ∷ u, v, ap (λ t. x ∷ t) e, inl (inr (inl (refl, more_blank x u h k.1))), subst (λ t. Free (wide t) v) k.0 f, l);
  laid = λ r b. subst (λ t. lay (join (join t (joins ts c)) r) b ≡ after (flag b g) (lay r)) k.0 (z r b);
}
add_blank last g s x h (y ∷ ts) c (u, v, e, inl (inr (inr k)), f, l) z =
    new_space last g s x h (record { turns = y ∷ ts; stop = c; run = (u, v, e, inl (inr (inr k)), f, l); laid = z }) (subst (Free Blank) (sym (e ∙ ap (λ t. t ++ v) k.2)) (break_first k.0 v))
add_blank last g s x h (y ∷ ts) c (u, v, e, inr k, f, l) z = absurd k

-- a line break, with the line feed that follows a carriage return
record Broken (last : Bool) (g : Between) (u : List ℕ) : Type 0 where
  kind : Break
  turns : List Pieces
  stop : Pieces
  v : List ℕ
  bytes : u ≡ break_bytes kind ++ v
  free : Free (break_wide kind) v
  run : RunL last turns stop v
  laid : (r : Pieces) → lay (join (joins turns stop) r) true ≡ after (broken g) (lay r)

lone : (last : Bool) (g : Between) (s : List ℕ) (m : Cut last g s) → Free (only 10) s → Broken last g (13 ∷ s)
lone last g s m f = record { kind = carriage_return; turns = m.turns; stop = m.stop; v = s; bytes = refl; free = f; run = m.run; laid = λ r. m.laid r true }

add_return : (last : Bool) (g : Between) (s : List ℕ) (ts : List Pieces) (c : Pieces) → RunL last ts c s → ((r : Pieces) (b : Bool) → lay (join (joins ts c) r) b ≡ after (flag b g) (lay r)) → Broken last g (13 ∷ s)
add_return last g s [] c l z = lone last g s (record { turns = []; stop = c; run = l; laid = z }) (stop_first last c s (only 10) refl l)
add_return last g s (y ∷ ts) c (u, v, e, inl (inl k), f, l) z =
    lone last g s (record { turns = y ∷ ts; stop = c; run = (u, v, e, inl (inl k), f, l); laid = z }) (subst (Free (only 10)) (sym e) (closed_first y (only 10) refl v k))
add_return last g s (y ∷ ts) c (u, v, e, inl (inr (inl k)), f, l) z =
    lone last g s (record { turns = y ∷ ts; stop = c; run = (u, v, e, inl (inr (inl k)), f, l); laid = z }) (subst (Free (only 10)) (sym e) (blank_first u v k.1))
add_return last g s (y ∷ ts) c (u, v, e, inl (inr (inr (line_feed, k, i))), f, l) z = record {
  kind = both;
  turns = ts;
  stop = c;
  v = v;
  bytes = ap (λ t. 13 ∷ t) (e ∙ ap (λ t. t ++ v) i);
  free = free_none v;
  run = l;
  laid = λ r. subst (λ t. lay (join (join t (joins ts c)) r) true ≡ after (broken g) (lay r)) k (z r true);
}
add_return last g s (y ∷ ts) c (u, v, e, inl (inr (inr (carriage_return, k, i))), f, l) z =
    lone last g s (record { turns = y ∷ ts; stop = c; run = (u, v, e, inl (inr (inr (carriage_return, k, i))), f, l); laid = z }) (subst (Free (only 10)) (sym (e ∙ ap (λ t. t ++ v) i)) refl)
add_return last g s (y ∷ ts) c (u, v, e, inl (inr (inr (both, k, i))), f, l) z =
    lone last g s (record { turns = y ∷ ts; stop = c; run = (u, v, e, inl (inr (inr (both, k, i))), f, l); laid = z }) (subst (Free (only 10)) (sym (e ∙ ap (λ t. t ++ v) i)) refl)
add_return last g s (y ∷ ts) c (u, v, e, inr k, f, l) z = absurd k

add_break : (last : Bool) (g : Between) (s : List ℕ) (x : ℕ) → within LineEnd x ≡ true → Cut last g s → Broken last g (x ∷ s)
add_break last g s x h m =
    elim (or_cases (within (only 10) x) (within (only 13) x) (sym (within_app (only 10) (only 13) x) ∙ h)) [
      | inl e ↦ subst (λ y. Broken last g (y ∷ s)) (sym (is_only 10 x e)) (record { kind = line_feed; turns = m.turns; stop = m.stop; v = s; bytes = refl; free = free_none s; run = m.run; laid = λ r. m.laid r true })
      | inr e ↦ subst (λ y. Broken last g (y ∷ s)) (sym (is_only 13 x e)) (add_return last g s m.turns m.stop m.run m.laid)
    ]

newline_cut : (last : Bool) (g : Between) (u : List ℕ) → Broken last g u → Cut last (broken g) u
newline_cut last g u m = record {
  turns = only_leaf (break m.kind) ∷ m.turns;
  stop = m.stop;
  run = (break_bytes m.kind, m.v, m.bytes, inl (inr (inr (m.kind, refl, refl))), m.free, m.run);
  laid = λ r b. m.laid r ∙ ap (λ y. after y (lay r)) (sym (flag_broken b g));
}

line_cut : (last : Bool) (g : Between) (t u : List ℕ) → LineComment t → Broken last g u → Cut last (remark false (Line t) (broken g)) (t ++ u)
line_cut last g t u h m = record {
  turns = leaf (comment (Line t)) (only_leaf (break m.kind)) ∷ m.turns;
  stop = m.stop;
  run = (
    t ++ break_bytes m.kind,
    m.v,
    ap (λ y. t ++ y) m.bytes ∙ sym (append_assoc t (break_bytes m.kind) m.v),
    inl (inl (a_line t (break_bytes m.kind) (only_leaf (break m.kind)) refl refl h (m.kind, refl, refl))),
    m.free,
    m.run,
  );
  laid = λ r b. ap (note b (Line t)) (m.laid r) ∙ sym (after_remark b (Line t) (broken g) (lay r));
}

pub cut : (last : Bool) {g : Between} {u : List ℕ} → Trivia last g u → Cut last g u
cut last empty = record { turns = []; stop = end; run = inr (refl, refl); laid = λ r b. sym (after_quiet b (lay r)) }
cut last (blank {g = g} {s = s} x h t) = (let m = cut last t in add_blank last g s x h m.turns m.stop m.run m.laid)
cut last (newline {g = g} {s = s} x h t) = newline_cut last g (x ∷ s) (add_break last g s x h (cut last t))
cut last (block_comment {g = g} {t = t} {s = s} h k) =
    let m = cut last k in
    record {
      turns = only_leaf (comment (Block t)) ∷ m.turns;
      stop = m.stop;
      run = (t, s, refl, inl (inl (a_block refl h)), free_none s, m.run);
      laid = λ r b. ap (note b (Block t)) (m.laid r false) ∙ sym (after_remark b (Block t) g (lay r));
    }
cut last (line_comment {g = g} {t = t} {s = s} x h e k) = line_cut last g t (x ∷ s) h (add_break last g s x e (cut last k))
cut last (open_line {t = t} i h) = record
    { turns = []; stop = only_leaf (comment (Line t)); run = inl (inl (i, refl, h)); laid = λ r b. sym (after_remark b (Line t) (quiet false) (lay r)) }
