-- The tree of a text that the reader takes is a document. Assumes nothing.
use Rattle.std.proofs.Common.{◌≡◌, ℕ, zero, suc, ◌+◌, Bool, true, false, ◌⊎◌, List, [], ◌∷◌, sym, refl, ap, ◌∙◌, subst, inl, inr, arith}
use mathlib.Core.Bool.{false≢true}
use Rattle.grammar.specs.Parse.{ok, bad, deep, Res, res, Lang, Free, iterate}
use Rattle.grammar.specs.Layout.{Line, Block}
use Rattle.grammar.specs.Grammar.{Frame, brackets, braces}
use Rattle.grammar.specs.Pieces.{Token, comma, colon, Leaf, null, boolean, number, string, name, token, whitespace, newline, comment, Box, array, object, property, Pieces, end as no_pieces, leaf, box, join, nodes, mark_of}
use Rattle.grammar.specs.Reader.{joins, only_leaf, open_token, close_token, box_of, text_p}
use Rattle.grammar.specs.Answer.{Read, read, whole}
use Rattle.grammar.proofs.Laws.{Means}
use Rattle.grammar.proofs.Trivias.{Blanks, NewlineL, ClosedL, a_block, a_line}
use Rattle.grammar.proofs.Gaps.{UnitL, RunL, TriviaL, trail}
use Rattle.grammar.proofs.Values.{AheadL, TokenL, ScalarL, CloseL, EndL, AfterItemL, FromItemL, MemberL, ItemL, TurnL, ContainerL, NestedL, ValueL, value_laws}
use Rattle.grammar.proofs.Laid.{blanks_all}
use Rattle.grammar.proofs.Sentences.{stops, goes as goes_on, never_on, shut_of}
use Rattle.grammar.proofs.Texts.{TextL, text_laws, front_trivia}
use Rattle.model.specs.Nodes.{Gap, blank, break, remark, mark, value, leaf_class, numbered, loaded}
use Rattle.model.specs.Fits.{Owner, top, of, Pos, start, items, next, named, only, shut, State, here, loose, spaced, gapped, step, run, begin, Ends, element, leaf_role, box_role, takes, Taken, Fits, Spelled, Whole, Document}

-- the machine over pieces
abbrev pub runs : State → Pieces → State
runs q no_pieces = q
runs q (leaf x r) = runs (step q (leaf_class x)) r
runs q (box b c r) = runs (step q value) r

abbrev pub TakenP : Owner → Pieces → Type 0
TakenP f no_pieces = Unit {0}
TakenP f (leaf x r) = (takes f (leaf_role x) ≡ true) × TakenP f r
TakenP f (box b c r) = (takes f (box_role b) ≡ true) × TakenP f r

pub record FitsP (f : Owner) (a : Pieces) : Type 0 where
  pub ends : Ends f (runs (begin f) a)
  pub taken : TakenP f a

abbrev pub WholeP : Pieces → Type 0
WholeP no_pieces = Unit {0}
WholeP (leaf x r) = Spelled x × WholeP r
WholeP (box b c r) = FitsP (of b) c × WholeP c × WholeP r

-- of the nodes what holds of the pieces
run_numbered : (q : State) (p n : ℕ) (a : Pieces) → run q (numbered p n a) ≡ runs q a
run_numbered q p n no_pieces = refl
run_numbered q p n (leaf x r) = run_numbered (step q (leaf_class x)) (suc p) (suc n) r
run_numbered q p n (box b c r) = run_numbered (step q value) (suc (p + nodes c)) (suc (n + nodes c)) r

taken_numbered : (f : Owner) (p n : ℕ) (a : Pieces) → TakenP f a → Taken f (numbered p n a)
taken_numbered f p n no_pieces h = tt
taken_numbered f p n (leaf x r) h = (h.0, taken_numbered f (suc p) (suc n) r h.1)
taken_numbered f p n (box b c r) h = (h.0, taken_numbered f (suc (p + nodes c)) (suc (n + nodes c)) r h.1)

fits_numbered : (f : Owner) (p n : ℕ) (a : Pieces) → FitsP f a → Fits f (numbered p n a)
fits_numbered f p n a h = record { ends = subst (Ends f) (sym (run_numbered (begin f) p n a)) h.ends; taken = taken_numbered f p n a h.taken }

whole_numbered : (p n : ℕ) (a : Pieces) → WholeP a → Whole (numbered p n a)
whole_numbered p n no_pieces h = tt
whole_numbered p n (leaf x r) h = ((h.0, tt), tt, whole_numbered (suc p) (suc n) r h.1)
whole_numbered p n (box b c r) h = (fits_numbered (of b) (suc p) (suc n) c h.0, whole_numbered (suc p) (suc n) c h.1, whole_numbered (suc (p + nodes c)) (suc (n + nodes c)) r h.2)

-- pieces that lead the machine from one state to another
pub record Goes (f : Owner) (q r : State) (a : Pieces) : Type 0 where
  pub moves : runs q a ≡ r
  pub taken : TakenP f a
  pub whole : WholeP a

runs_join : (q : State) (a b : Pieces) → runs q (join a b) ≡ runs (runs q a) b
runs_join q no_pieces b = refl
runs_join q (leaf x r) b = runs_join (step q (leaf_class x)) r b
runs_join q (box k c r) b = runs_join (step q value) r b

taken_join : (f : Owner) (a b : Pieces) → TakenP f a → TakenP f b → TakenP f (join a b)
taken_join f no_pieces b h k = k
taken_join f (leaf x r) b h k = (h.0, taken_join f r b h.1 k)
taken_join f (box x c r) b h k = (h.0, taken_join f r b h.1 k)

whole_join : (a b : Pieces) → WholeP a → WholeP b → WholeP (join a b)
whole_join no_pieces b h k = k
whole_join (leaf x r) b h k = (h.0, whole_join r b h.1 k)
whole_join (box x c r) b h k = (h.0, h.1, whole_join r b h.2 k)

pub on : (f : Owner) (q r s : State) (a b : Pieces) → Goes f q r a → Goes f r s b → Goes f q s (join a b)
on f q r s a b h k = record {
  moves = runs_join q a b ∙ (ap (λ y. runs y b) h.moves ∙ k.moves);
  taken = taken_join f a b h.taken k.taken;
  whole = whole_join a b h.whole k.whole;
}

pub stay : (f : Owner) (q : State) → Goes f q q no_pieces
stay f q = record { moves = refl; taken = tt; whole = tt }

pub one_leaf : (f : Owner) (q r : State) (x : Leaf) → step q (leaf_class x) ≡ r → takes f (leaf_role x) ≡ true → Spelled x → Goes f q r (only_leaf x)
one_leaf f q r x e t h = record { moves = e; taken = (t, tt); whole = (h, tt) }

-- a line break ends a line comment
pub break_shuts : (q : Pos) (l : Bool) → spaced true q l break ≡ here q false
break_shuts q true = refl
break_shuts q false = refl

-- trivia, where it may stand
module _ (f : Owner) (q : Pos) (z : loose q ≡ true) where
  gap_goes : (l : Bool) (g : Gap) → gapped q l g ≡ spaced true q l g
  gap_goes l g = ap (λ v. spaced v q l g) z

  space_goes : (x : Pieces) (u : List ℕ) → x ≡ only_leaf (whitespace u) → Blanks u → Goes f (here q false) (here q false) x
  space_goes x u e h = subst (Goes f (here q false) (here q false)) (sym e) (one_leaf f (here q false) (here q false) (whitespace u) (gap_goes false blank) refl (blanks_all u h))

  break_goes : (l : Bool) (x : Pieces) (u : List ℕ) → NewlineL x u → Goes f (here q l) (here q false) x
  break_goes l x u (k, e, d) = subst (Goes f (here q l) (here q false)) (sym e) (one_leaf f (here q l) (here q false) (newline k) (gap_goes l break ∙ break_shuts q l) refl tt)

  closed_goes : (x : Pieces) {u : List ℕ} → ClosedL x u → Goes f (here q false) (here q false) x
  closed_goes x {u = u} (a_block e h) = subst (Goes f (here q false) (here q false)) (sym e) (one_leaf f (here q false) (here q false) (comment (Block u)) (gap_goes false (remark (Block u))) refl h)
  closed_goes x (a_line t v n e d h l) =
      subst (Goes f (here q false) (here q false)) (sym e)
      (on f (here q false) (here q true) (here q false) (only_leaf (comment (Line t))) n
      (one_leaf f (here q false) (here q true) (comment (Line t)) (gap_goes false (remark (Line t))) refl h) (break_goes true n v l))

  unit_goes : (last : Bool) (x : Pieces) (u : List ℕ) → UnitL last (inl x) u → Goes f (here q false) (here q false) x
  unit_goes last x u (inl (inl l)) = closed_goes x l
  unit_goes last x u (inl (inr (inl l))) = space_goes x u l.0 l.1
  unit_goes last x u (inl (inr (inr l))) = break_goes false x u l
  unit_goes last x u (inr l) = absurd l

  -- trivia that ends in no open line comment
  run_goes : (xs : List Pieces) (c : Pieces) (u : List ℕ) → RunL false xs c u → Goes f (here q false) (here q false) (joins xs c)
  run_goes [] c u (inl (inl l)) = absurd (false≢true l.0)
  run_goes [] c u (inl (inr l)) = absurd l
  run_goes [] c u (inr l) = subst (Goes f (here q false) (here q false)) (sym l.0) (stay f (here q false))
  run_goes (x ∷ xs) c u l = on f (here q false) (here q false) (here q false) x (joins xs c) (unit_goes false x l.0 l.3) (run_goes xs c l.1 l.5)

  trivia_goes : (a : Pieces) (u : List ℕ) → TriviaL false a u → Goes f (here q false) (here q false) a
  trivia_goes a u l = subst (Goes f (here q false) (here q false)) l.1 (run_goes l.0.0 l.0.1 u l.2)

  -- trivia at the end of the text
  run_last : (xs : List Pieces) (c : Pieces) (u : List ℕ) → RunL true xs c u → (b : Bool) × Goes f (here q false) (here q b) (joins xs c)
  run_last [] c u (inl (inl l)) = (true, subst (Goes f (here q false) (here q true)) (sym l.1) (one_leaf f (here q false) (here q true) (comment (Line u)) (gap_goes false (remark (Line u))) refl l.2))
  run_last [] c u (inl (inr l)) = absurd l
  run_last [] c u (inr l) = (false, subst (Goes f (here q false) (here q false)) (sym l.0) (stay f (here q false)))
  run_last (x ∷ xs) c u l = (let r = run_last xs c l.1 l.5 in (r.0, on f (here q false) (here q false) (here q r.0) x (joins xs c) (unit_goes true x l.0 l.3) r.1))

  trivia_last : (a : Pieces) (u : List ℕ) → TriviaL true a u → (b : Bool) × Goes f (here q false) (here q b) a
  trivia_last a u l = (let r = run_last l.0.0 l.0.1 u l.2 in (r.0, subst (Goes f (here q false) (here q r.0)) l.1 r.1))

-- a value, wherever one may stand
abbrev pub Stands : Pieces → Type 0
Stands a = (f : Owner) (q r : State) → takes f element ≡ true → step q value ≡ r → Goes f q r a

scalar_goes : (a : Pieces) (u : List ℕ) → ScalarL a u → Stands a
scalar_goes a u (inl (e, h)) f q r t m = subst (Goes f q r) (sym e) (one_leaf f q r (string u) m t h)
scalar_goes a u (inr (inl (e, h))) f q r t m = subst (Goes f q r) (sym e) (one_leaf f q r null m t tt)
scalar_goes a u (inr (inr (inl (e, h)))) f q r t m = subst (Goes f q r) (sym e) (one_leaf f q r (boolean true) m t tt)
scalar_goes a u (inr (inr (inr (inl (e, h))))) f q r t m = subst (Goes f q r) (sym e) (one_leaf f q r (boolean false) m t tt)
scalar_goes a u (inr (inr (inr (inr (e, h))))) f q r t m = subst (Goes f q r) (sym e) (one_leaf f q r (number u) m t h)

token_goes : (f : Owner) (q r : State) (m : Token) (a : Pieces) (u : List ℕ) → TokenL m a u → step q (mark (mark_of m)) ≡ r → takes f (leaf_role (token m)) ≡ true → Goes f q r a
token_goes f q r m a u l e t = subst (Goes f q r) (sym l.0) (one_leaf f q r (token m) e t tt)

-- a container's brackets and commas
open_takes : (F : Frame) → takes (of (box_of F)) (leaf_role (token (open_token F))) ≡ true
open_takes brackets = refl
open_takes braces = refl

open_moves : (F : Frame) → step (here start false) (mark (mark_of (open_token F))) ≡ here items false
open_moves brackets = refl
open_moves braces = refl

close_takes : (F : Frame) → takes (of (box_of F)) (leaf_role (token (close_token F))) ≡ true
close_takes brackets = refl
close_takes braces = refl

close_moves : (F : Frame) → (step (here items false) (mark (mark_of (close_token F))) ≡ here shut false) × (step (here next false) (mark (mark_of (close_token F))) ≡ here shut false)
close_moves brackets = (refl, refl)
close_moves braces = (refl, refl)

comma_takes : (F : Frame) → takes (of (box_of F)) (leaf_role (token comma)) ≡ true
comma_takes brackets = refl
comma_takes braces = refl

-- a container, by its children
pub boxed : (b : Box) (f : Owner) (q r : State) (c : Pieces) → step q value ≡ r → takes f (box_role b) ≡ true → Goes (of b) (here start false) (here shut false) c → Goes f q r (box b c no_pieces)
boxed b f q r c e t h = record { moves = e; taken = (t, tt); whole = (record { ends = subst (Ends (of b)) (sym h.moves) tt; taken = h.taken }, h.whole, tt) }

module _ (V : Lang Pieces) (inside : (a : Pieces) (u : List ℕ) → V a u → Stands a) where
  -- a property's children
  body_goes : (c : Pieces) → (u : List ℕ) → Rattle.grammar.proofs.Values.InsideL V c u → Goes (of property) (here start false) (here shut false) c
  body_goes c u ((x0, x1), j1, (u0, u1, b1, (n0, h), ((y0, y1), j2, (v0, v1, b2, g, ((z0, z1), j3, (w0, w1, b3, k, ((r0, r1), j4, (s0, s1, b4, h2, l)))))))) =
      let P : Owner = of property in
      let N : Goes P (here start false) (here named false) x0 = subst (Goes P (here start false) (here named false)) (sym n0) (one_leaf P (here start false) (here named false) (name u0) refl refl h) in
      let T : Goes P (here named false) (here named false) y0 = trivia_goes P named refl y0 v0 g in
      let C : Goes P (here named false) (here only false) z0 = token_goes P (here named false) (here only false) colon z0 w0 k refl refl in
      let S : Goes P (here only false) (here only false) r0 = trivia_goes P only refl r0 s0 h2 in
      let W : Goes P (here only false) (here shut false) r1 = inside r1 s1 l P (here only false) (here shut false) refl refl in
      let A : Goes P (here only false) (here shut false) z1 = subst (Goes P (here only false) (here shut false)) j4 (on P (here only false) (here only false) (here shut false) r0 r1 S W) in
      let B : Goes P (here named false) (here shut false) y1 = subst (Goes P (here named false) (here shut false)) j3 (on P (here named false) (here only false) (here shut false) z0 z1 C A) in
      let D : Goes P (here named false) (here shut false) x1 = subst (Goes P (here named false) (here shut false)) j2 (on P (here named false) (here named false) (here shut false) y0 y1 T B) in
      subst (Goes P (here start false) (here shut false)) j1 (on P (here start false) (here named false) (here shut false) x0 x1 N D)

  item_goes : (F : Frame) (a : Pieces) (u : List ℕ) → ItemL V F a u → Goes (of (box_of F)) (here items false) (here next false) a
  item_goes brackets a u l = inside a u l (of array) (here items false) (here next false) refl refl
  item_goes braces a u (c, e, l) = subst (Goes (of object) (here items false) (here next false)) e (boxed property (of object) (here items false) (here next false) c refl refl (body_goes c u l))

  final_goes : (F : Frame) (c : Pieces) (u : List ℕ) → TurnL V F (inr c) u → Goes (of (box_of F)) (here items false) (here shut false) c
  final_goes F c u l = (let m = stops (TriviaL false) (λ x u. CloseL F x u ⊎ FromItemL V F x u) c u l in
      subst (Goes O (here items false) (here shut false)) m.joined (on O (here items false) (here items false) (here shut false) m.a m.d (trivia_goes O items refl m.a m.v m.fst) (go m.d m.w m.snd)))
    where
      O : Owner
      O = of (box_of F)

      go : (d : Pieces) (w : List ℕ) → CloseL F (inr d) w ⊎ FromItemL V F (inr d) w → Goes (of (box_of F)) (here items false) (here shut false) d
      go d w (inl k) = token_goes (of (box_of F)) (here items false) (here shut false) (close_token F) d w (shut_of F d w k) (close_moves F).0 (close_takes F)
      go d w (inr k) =
          let p = stops (ItemL V F) (AfterItemL F) d w k in
          let q = stops (TriviaL false) (EndL F) p.d p.w p.snd in
          subst (Goes (of (box_of F)) (here items false) (here shut false)) p.joined (on (of (box_of F)) (here items false) (here next false) (here shut false) p.a p.d (item_goes F p.a p.v p.fst)
          (subst (Goes (of (box_of F)) (here next false) (here shut false)) q.joined (on (of (box_of F)) (here next false) (here next false) (here shut false) q.a q.d (trivia_goes (of (box_of F)) next refl q.a q.v q.fst)
          (token_goes (of (box_of F)) (here next false) (here shut false) (close_token F) q.d q.w q.snd (close_moves F).1 (close_takes F)))))

  turn_goes : (F : Frame) (c : Pieces) (u : List ℕ) → TurnL V F (inl c) u → Goes (of (box_of F)) (here items false) (here items false) c
  turn_goes F c u l = (let m = goes_on (TriviaL false) (λ x u. CloseL F x u ⊎ FromItemL V F x u) c u l in
      subst (Goes (of (box_of F)) (here items false) (here items false)) m.joined (on (of (box_of F)) (here items false) (here items false) (here items false) m.a m.d (trivia_goes (of (box_of F)) items refl m.a m.v m.fst) (go m.d m.w m.snd)))
    where
      go : (d : Pieces) (w : List ℕ) → CloseL F (inl d) w ⊎ FromItemL V F (inl d) w → Goes (of (box_of F)) (here items false) (here items false) d
      go d w (inl k) = absurd (never_on F d w k)
      go d w (inr k) =
          let p = goes_on (ItemL V F) (AfterItemL F) d w k in
          let q = goes_on (TriviaL false) (EndL F) p.d p.w p.snd in
          subst (Goes (of (box_of F)) (here items false) (here items false)) p.joined (on (of (box_of F)) (here items false) (here next false) (here items false) p.a p.d (item_goes F p.a p.v p.fst)
          (subst (Goes (of (box_of F)) (here next false) (here items false)) q.joined (on (of (box_of F)) (here next false) (here next false) (here items false) q.a q.d (trivia_goes (of (box_of F)) next refl q.a q.v q.fst)
          (token_goes (of (box_of F)) (here next false) (here items false) comma q.d q.w q.snd refl (comma_takes F)))))

  items_goes : (F : Frame) (xs : List Pieces) (c : Pieces) (u : List ℕ) → iterate (TurnL V F) (λ _. []) xs c u → Goes (of (box_of F)) (here items false) (here shut false) (joins xs c)
  items_goes F [] c u l = final_goes F c u l
  items_goes F (x ∷ xs) c u l = on (of (box_of F)) (here items false) (here items false) (here shut false) x (joins xs c) (turn_goes F x l.0 l.3) (items_goes F xs c l.1 l.5)

  box_element : (F : Frame) (f : Owner) → takes f element ≡ true → takes f (box_role (box_of F)) ≡ true
  box_element brackets f t = t
  box_element braces f t = t

  container_goes : (F : Frame) (a : Pieces) (u : List ℕ) → ContainerL V F a u → Stands a
  container_goes F a u (c, e, ((x0, x1), j, (u0, u1, b, k, ((xs, x), i, l)))) f q r t m =
      let O : Owner = of (box_of F) in
      let A : Goes O (here start false) (here items false) x0 = token_goes O (here start false) (here items false) (open_token F) x0 u0 k (open_moves F) (open_takes F) in
      let B : Goes O (here items false) (here shut false) x1 = subst (Goes O (here items false) (here shut false)) i (items_goes F xs x u1 l) in
      subst (Goes f q r) e (boxed (box_of F) f q r c m (box_element F f t) (subst (Goes O (here start false) (here shut false)) j (on O (here start false) (here items false) (here shut false) x0 x1 A B)))

value_goes : (n : ℕ) (a : Pieces) (u : List ℕ) → ValueL n a u → Stands a
value_goes zero a u (inl l) = absurd l
value_goes zero a u (inr l) = scalar_goes a u l
value_goes (suc n) a u (inl (inl l)) = container_goes (ValueL n) (value_goes n) brackets a u l
value_goes (suc n) a u (inl (inr l)) = container_goes (ValueL n) (value_goes n) braces a u l
value_goes (suc n) a u (inr l) = scalar_goes a u l

-- a whole text
record Texted (a : Pieces) : Type 0 where
  fits : FitsP top a
  whole : WholeP a

ended_items : (a : Pieces) (b : Bool) → Goes top (here items false) (here items b) a → Texted a
ended_items a b h = record { fits = record { ends = subst (Ends top) (sym h.moves) tt; taken = h.taken }; whole = h.whole }

ended_next : (a : Pieces) (b : Bool) → Goes top (here items false) (here next b) a → Texted a
ended_next a b h = record { fits = record { ends = subst (Ends top) (sym h.moves) tt; taken = h.taken }; whole = h.whole }

text_goes : (n : ℕ) (a : Pieces) (u : List ℕ) → TextL n a u → Texted a
text_goes n a u ((x0, x1), j, (u0, u1, e, t, f, inl ((v, z), k, (w0, w1, d, l, m)))) =
    let A : Goes top (here items false) (here items false) x0 = trivia_goes top items refl x0 u0 (front_trivia n x0 v u0 w0 w1 t (subst (Free (trail x0)) d f) l) in
    let B : Goes top (here items false) (here next false) v = value_goes n v w0 l top (here items false) (here next false) refl refl in
    let C = trivia_last top next refl z w1 m in
    ended_next a C.0 (subst (Goes top (here items false) (here next C.0)) (ap (join x0) k ∙ j) (on top (here items false) (here items false) (here next C.0) x0 (join v z) A (on top (here items false) (here next false) (here next C.0) v z B C.1)))
text_goes n a u ((x0, x1), j, (u0, u1, e, t, f, inr (k, q))) =
    let A = trivia_last top items refl x0 u0 t in
    ended_items a A.0 (subst (Goes top (here items false) (here items A.0)) (ap (join x0) (sym k) ∙ j) (on top (here items false) (here items A.0) (here items A.0) x0 no_pieces A.1 (stay top (here items A.0))))

read_text : (n : ℕ) (s : List ℕ) (a : Pieces) (x : Res Pieces) → whole s x ≡ Read a → Means (TextL n) (text_p n) s x → (u : List ℕ) × TextL n a u
read_text n s a (res (ok b) []) e m = (let i : b ≡ a = cc in (m.0, subst (λ y. TextL n y m.0) i m.2))
read_text n s a (res (ok b) (c ∷ t)) e m = (let z : ◌≡◌ {A = ℕ} 0 1 = cc in absurd (omega arith))
read_text n s a (res bad t) e m = (let z : ◌≡◌ {A = ℕ} 0 1 = cc in absurd (omega arith))
read_text n s a (res deep t) e m = (let z : ◌≡◌ {A = ℕ} 0 1 = cc in absurd (omega arith))

-- The tree of every text that the reader takes is a document.
pub loads : (n : ℕ) (s : List ℕ) (a : Pieces) → read n s ≡ Read a → Document (loaded a)
loads n s a e =
    let r = read_text n s a (text_p n s) e ((text_laws n).means s) in
    let t = text_goes n a r.0 r.1 in
    record { fits = fits_numbered top 1 2 a t.fits; whole = whole_numbered 1 2 a t.whole }
