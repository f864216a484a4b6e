-- What a function of the reader has told the sink, by the way that its parser is joined. Assumes nothing.
use Rattle.std.proofs.Common.{◌≡◌, ℕ, ◌<◌, true, false, ◌⊎◌, List, [], ◌∷◌, ◌++◌, length, Ok, Err, sym, refl, ap, ◌∙◌, subst, inl, inr, Continue, Break, append_assoc, arith}
use Rattle.std.specs.Borrow.{Bor}
use Rattle.grammar.specs.Parse.{ok, bad, deep, Res, res, map_r, Parser, Class, starts, bind, map_p, onto, turn, iter_p}
use Rattle.grammar.specs.Pieces.{Pieces, end, leaf, box, join, print}
use Rattle.grammar.specs.Reader.{or_p, then_p, ahead, after_p, nothing_p, joins, loop_p, only_leaf}
use Rattle.lexemes.specs.Scan.{Left, Passes}
use Rattle.grammar.proofs.Laws.{iter_turn}
use Rattle.lexemes.proofs.Laws.{turn_less, law_moves}
use Rattle.lexemes.proofs.Ties.{left_all, left_on, or_left, or_right}
use Rattle.lexemes.proofs.Lexed.{Bytes, bytes_part}
use Rattle.text.specs.declared.fault.Fault.{Fault}
use Rattle.text.specs.declared.fault.Fault.TheVariants.{Bad, Deep}
use Rattle.text.specs.declared.sink.LeafKind.{LeafKind}
use Rattle.text.specs.Events.{Event, Put, Enter, Leave, events, leaf_for}
use Rattle.text.specs.Reports.{Rest, Step, Stops, Makes, Turns, OneLeaf}
use Rattle.text.proofs.Spells.{Steps, prints, goes}

pub events_join : (x y : Pieces) → events (join x y) ≡ events x ++ events y
events_join end y = refl
events_join (leaf a r) y = ap (λ z. Put a ∷ z) (events_join r y)
events_join (box k c r) y = ap (λ z. Enter k ∷ (events c ++ Leave k ∷ z)) (events_join r y) ∙ ap (λ z. Enter k ∷ z) (sym (append_assoc (events c) (Leave k ∷ events r) (events y)))

-- a parser that stops where another does: behind what it has read
pub stops_by : {A B : Type 0} (H : Res A → Res B) (p : Parser A) (q : Parser B) (s t : List ℕ) → Left t s → ((u : List ℕ) → H (res bad u) ≡ res bad u) → ((u : List ℕ) → H (res deep u) ≡ res deep u)
    → q s ≡ H (p t) → (f : Fault) → Stops p t f → Stops q s f
stops_by H p q s t l hb hd e (Bad u) x = record { left = left_on s t u.now l x.left; fails = e ∙ ap H x.fails ∙ hb u.now }
stops_by H p q s t l hb hd e Deep x = (x.0, e ∙ ap H x.1 ∙ hd x.0)

pub stops_here : {A B : Type 0} (H : Res A → Res B) (p : Parser A) (q : Parser B) (s : List ℕ) → ((u : List ℕ) → H (res bad u) ≡ res bad u) → ((u : List ℕ) → H (res deep u) ≡ res deep u)
    → q s ≡ H (p s) → (f : Fault) → Stops p s f → Stops q s f
stops_here H p q s hb hd e f x = stops_by H p q s s (left_all s) hb hd e f x

abbrev J : Pieces × Pieces → Pieces
J w = join w.0 w.1

abbrev H : Pieces × (Pieces ⊎ Pieces) → Pieces ⊎ Pieces
H w = ahead w.0 w.1

abbrev G : List Pieces × Pieces → Pieces
G w = joins w.0 w.1

module _ {S : Type 0} (after : S → List Event → S → Type 0) (idle : (a : S) → after a [] a) (joined : (a b c : S) (x y : List Event) → after a x b → after b y c → after a (x ++ y) c) where
  told_join : (a b c : S) (x y : Pieces) → after a (events x) b → after b (events y) c → after a (events (join x y)) c
  told_join a b c x y h k = subst (λ z. after a z c) (sym (events_join x y)) (joined a b c (events x) (events y) h k)

  -- a parser that answers the same
  pub makes_same : (p q : Parser Pieces) (s : List ℕ) (a : S) (r : Rest) (b : S) → q s ≡ p s → Makes after p s a r b → Makes after q s a r b
  makes_same p q s a (Ok t) b e m = (m.0, record { left = m.1.left; reads = e ∙ m.1.reads }, m.2)
  makes_same p q s a (Err f) b e m = stops_here (λ x. x) p q s (λ u. refl) (λ u. refl) e f m

  pub turns_same : (p q : Parser (Pieces ⊎ Pieces)) (s : List ℕ) (a : S) (r : Step) (b : S) → q s ≡ p s → Turns after p s a r b → Turns after q s a r b
  turns_same p q s a (Ok (Continue t)) b e m = (m.0, record { left = m.1.left; reads = e ∙ m.1.reads }, m.2)
  turns_same p q s a (Ok (Break t)) b e m = (m.0, record { left = m.1.left; reads = e ∙ m.1.reads }, m.2)
  turns_same p q s a (Err f) b e m = stops_here (λ x. x) p q s (λ u. refl) (λ u. refl) e f m

  -- one or the other
  pub makes_left : (c : Class) (p q : Parser Pieces) (s : List ℕ) → starts c s ≡ true → (a : S) (r : Rest) (b : S) → Makes after p s a r b → Makes after (or_p c p q) s a r b
  makes_left c p q s e a r b m = makes_same p (or_p c p q) s a r b (or_left c p q s e) m

  pub makes_right : (c : Class) (p q : Parser Pieces) (s : List ℕ) → starts c s ≡ false → (a : S) (r : Rest) (b : S) → Makes after q s a r b → Makes after (or_p c p q) s a r b
  makes_right c p q s e a r b m = makes_same q (or_p c p q) s a r b (or_right c p q s e) m

  pub turns_left : (c : Class) (p q : Parser (Pieces ⊎ Pieces)) (s : List ℕ) → starts c s ≡ true → (a : S) (r : Step) (b : S) → Turns after p s a r b → Turns after (or_p c p q) s a r b
  turns_left c p q s e a r b m = turns_same p (or_p c p q) s a r b (or_left c p q s e) m

  pub turns_right : (c : Class) (p q : Parser (Pieces ⊎ Pieces)) (s : List ℕ) → starts c s ≡ false → (a : S) (r : Step) (b : S) → Turns after q s a r b → Turns after (or_p c p q) s a r b
  turns_right c p q s e a r b m = turns_same q (or_p c p q) s a r b (or_right c p q s e) m

  -- a leaf of the kind that was found, which the sink is told by what stands in front of the rest
  pub found : (p : Parser Pieces) (s : List ℕ) (k : LeafKind) (t : Bor (List ℕ)) → OneLeaf p s k t.now → (a b : S) → ((x : List ℕ) → s ≡ x ++ t.now → after a (Put (leaf_for k x) ∷ []) b) → Makes after p s a (Ok t) b
  found p s k t l a b h = (only_leaf (leaf_for k l.0), record { left = (l.0, l.1); reads = l.2 }, h l.0 l.1)

  -- nothing
  pub makes_nothing : (s : Bor (List ℕ)) (a : S) → Makes after nothing_p s.now a (Ok s) a
  makes_nothing s a = (end, record { left = left_all s.now; reads = refl }, idle a)

  -- going on, and stopping
  pub turns_on : (p : Parser Pieces) (s : List ℕ) (t : Bor (List ℕ)) (a b : S) → Makes after p s a (Ok t) b → Turns after (map_p inl p) s a (Ok (Continue t)) b
  turns_on p s t a b m = (m.0, record { left = m.1.left; reads = ap (map_r inl) m.1.reads }, m.2)

  pub turns_off : (p : Parser Pieces) (s : List ℕ) (t : Bor (List ℕ)) (a b : S) → Makes after p s a (Ok t) b → Turns after (map_p inr p) s a (Ok (Break t)) b
  turns_off p s t a b m = (m.0, record { left = m.1.left; reads = ap (map_r inr) m.1.reads }, m.2)

  -- one after the other
  module _ (p : Parser Pieces) (s : List ℕ) (a : S) where
    pub makes_then : (q : Parser Pieces) (t : Bor (List ℕ)) (b : S) → Makes after p s a (Ok t) b → (r : Rest) (c : S) → Makes after q t.now b r c → Makes after (then_p p q) s a r c
    makes_then q t b x (Ok u) c y = (
      join x.0 y.0,
      record { left = left_on s t.now u.now x.1.left y.1.left; reads = ap (λ z. map_r J (bind q z)) x.1.reads ∙ ap (λ z. map_r J (map_r (λ w. (x.0, w)) z)) y.1.reads },
      told_join a b c x.0 y.0 x.2 y.2,
    )
    makes_then q t b x (Err f) c y =
        stops_by (λ z. map_r J (map_r (λ w. (x.0, w)) z)) q (then_p p q) s t.now x.1.left (λ u. refl) (λ u. refl) (ap (λ z. map_r J (bind q z)) x.1.reads) f y

    pub turns_after : (q : Parser (Pieces ⊎ Pieces)) (t : Bor (List ℕ)) (b : S) → Makes after p s a (Ok t) b → (r : Step) (c : S) → Turns after q t.now b r c → Turns after (after_p p q) s a r c
    turns_after q t b x (Ok (Continue u)) c y = (
      join x.0 y.0,
      record { left = left_on s t.now u.now x.1.left y.1.left; reads = ap (λ z. map_r H (bind q z)) x.1.reads ∙ ap (λ z. map_r H (map_r (λ w. (x.0, w)) z)) y.1.reads },
      told_join a b c x.0 y.0 x.2 y.2,
    )
    turns_after q t b x (Ok (Break u)) c y = (
      join x.0 y.0,
      record { left = left_on s t.now u.now x.1.left y.1.left; reads = ap (λ z. map_r H (bind q z)) x.1.reads ∙ ap (λ z. map_r H (map_r (λ w. (x.0, w)) z)) y.1.reads },
      told_join a b c x.0 y.0 x.2 y.2,
    )
    turns_after q t b x (Err f) c y =
        stops_by (λ z. map_r H (map_r (λ w. (x.0, w)) z)) q (after_p p q) s t.now x.1.left (λ u. refl) (λ u. refl) (ap (λ z. map_r H (bind q z)) x.1.reads) f y

  -- a loop
  module _ (p : Parser (Pieces ⊎ Pieces)) (h : Steps p) (s : List ℕ) where
    unrolled : loop_p p s ≡ map_r G (turn (iter_p p) (p s))
    unrolled = ap (map_r G) (iter_turn p (turn_less print print p h) s)

    onto_joins : (x : Pieces) (y : Res (List Pieces × Pieces)) → map_r G (map_r (onto x) y) ≡ map_r (join x) (map_r G y)
    onto_joins x (res (ok y) t) = refl
    onto_joins x (res bad t) = refl
    onto_joins x (res deep t) = refl

    turned : (x : Pieces) (t : List ℕ) → p s ≡ res (ok (inl x)) t → loop_p p s ≡ map_r (join x) (loop_p p t)
    turned x t e = unrolled ∙ ap (λ z. map_r G (turn (iter_p p) z)) e ∙ onto_joins x (iter_p p t)

    pub loop_more : (a : S) (t : Bor (List ℕ)) (b : S) → Turns after p s a (Ok (Continue t)) b → (r : Rest) (c : S) → Makes after (loop_p p) t.now b r c → Makes after (loop_p p) s a r c
    loop_more a t b x (Ok u) c y = (
      join x.0 y.0,
      record { left = left_on s t.now u.now x.1.left y.1.left; reads = turned x.0 t.now x.1.reads ∙ ap (map_r (join x.0)) y.1.reads },
      told_join a b c x.0 y.0 x.2 y.2,
    )
    loop_more a t b x (Err f) c y = stops_by (map_r (join x.0)) (loop_p p) (loop_p p) s t.now x.1.left (λ u. refl) (λ u. refl) (turned x.0 t.now x.1.reads) f y

    pub loop_done : (a : S) (t : Bor (List ℕ)) (b : S) → Turns after p s a (Ok (Break t)) b → Makes after (loop_p p) s a (Ok t) b
    loop_done a t b x = (x.0, record { left = x.1.left; reads = unrolled ∙ ap (λ z. map_r G (turn (iter_p p) z)) x.1.reads }, x.2)

    pub loop_stops : (f : Fault) → Stops p s f → Stops (loop_p p) s f
    loop_stops f x = stops_here (λ z. map_r G (turn (iter_p p) z)) p (loop_p p) s (λ u. refl) (λ u. refl) unrolled f x

    -- a turn that goes on takes a byte at least
    pub loop_moves : (a : S) (t : Bor (List ℕ)) (b : S) → Turns after p s a (Ok (Continue t)) b → length t.now < length s
    loop_moves a t b x = let m = law_moves prints goes p h s t.now (inl x.0) x.1 in omega arith

-- one after the other, where the first stops
pub stops_then : (p q : Parser Pieces) (s : List ℕ) (f : Fault) → Stops p s f → Stops (then_p p q) s f
stops_then p q s f x = stops_here (λ z. map_r J (bind q z)) p (then_p p q) s (λ u. refl) (λ u. refl) refl f x

pub stops_after : (p : Parser Pieces) (q : Parser (Pieces ⊎ Pieces)) (s : List ℕ) (f : Fault) → Stops p s f → Stops (after_p p q) s f
stops_after p q s f x = stops_here (λ z. map_r H (bind q z)) p (after_p p q) s (λ u. refl) (λ u. refl) refl f x

pub stops_map : {A B : Type 0} (g : A → B) (p : Parser A) (s : List ℕ) (f : Fault) → Stops p s f → Stops (map_p g p) s f
stops_map g p s f x = stops_here (map_r g) p (map_p g p) s (λ u. refl) (λ u. refl) refl f x

-- a lexeme that was read is a leaf of a kind
pub leaf_found : (l : ℕ) (k : LeafKind) (p : Parser (List ℕ)) → Bytes l p → (s t : List ℕ) → Passes p s t → OneLeaf (map_p (λ y. only_leaf (leaf_for k y)) p) s k t
leaf_found l k p h s t x = (x.0, bytes_part l p h s t x.0 x.1, ap (map_r (λ y. only_leaf (leaf_for k y))) x.1.reads)
