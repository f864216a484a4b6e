-- Pieces of trivia. Assumes nothing.
use Rattle.std.proofs.Common.{◌≡◌, ℕ, Bool, true, false, ◌||◌, ◌⊎◌, List, [], ◌∷◌, ◌++◌, drop, Ok, sym, refl, ap, ◌∙◌, subst, inl, inr, Continue, Break, arith}
use mathlib.Core.Bool.{false≢true}
use Rattle.std.specs.Borrow.{Bor}
use Rattle.std.proofs.lemmas.Bool.Decides.{nat_tests}
use Rattle.std.proofs.lemmas.Bool.{not-true, not-false, or_from, or_left, or_right}
use Rattle.grammar.specs.Parse.{ok, res, map_r, Parser, Class, within, starts, one_p, eps_p, bind, seq_p, pick, alt_p, map_p}
use Rattle.grammar.specs.Classes.{only, Blank, LineEnd, Gap, InLine}
use Rattle.grammar.specs.Layout.{Line, Block}
use Rattle.grammar.specs.Pieces.{newline, line_feed, comment, Pieces, leaf}
use Rattle.grammar.specs.Reader.{byte_p, cat_p, run_p, chars_p, block_p, nothing_p, only_leaf, space_p, returned, return_p, newline_p, line_end_p, comment_of, comment_p, plain_p, piece_p, unit_p}
use Rattle.grammar.proofs.Laws.{apart, apart_ok}
use Rattle.grammar.proofs.Trivias.{feed_p, star_p, line_p}
use Rattle.lexemes.specs.Scan.{Left, Fails, Passes}
use Rattle.lexemes.proofs.Ties.{left_on, starts_app, byte_split, byte_passes, byte_starts, byte_none, one_is, cat_goes}
use Rattle.lexemes.proofs.Ties.{or_left as choose_left, or_right as choose_right}
use Rattle.lexemes.proofs.Lexed.{bytes_part, bytes_block, bytes_chars}
use Rattle.text.specs.declared.fault.Fault.{Fault}
use Rattle.text.specs.declared.fault.Fault.TheVariants.{Bad}
use Rattle.text.specs.declared.sink.LeafKind.TheVariants as kind
use Rattle.line_break.specs.declared.NewlineKind.TheVariants.{LineFeed, CarriageReturn, CarriageReturnLineFeed}
use Rattle.text.specs.Events.{Event, Put, events, leaf_for}
use Rattle.text.specs.Reports.{Step, Stops, Makes, Turns, OneLeaf, crlf, open_line}
use Rattle.text.proofs.Spells.{space_bytes}
use Rattle.text.proofs.Telling as telling
use Rattle.text.proofs.Telling.{stops_by, leaf_found}

-- classes with no byte in common
pub starts_apart : (c d : Class) → apart c d ≡ true → (t : List ℕ) → starts c t ≡ true → starts d t ≡ false
starts_apart c d h [] e = refl
starts_apart c d h (b ∷ t) e = apart_ok c d h b e

abbrev body_p : Bool → Parser ((ℕ × List ℕ) ⊎ (ℕ × (List ℕ × (Pieces ⊎ Unit {0}))))
body_p last = alt_p (only 42) star_p (line_p last)

-- what ends a line comment, where it does not end the text
line_goes : (last : Bool) (t : List ℕ) → open_line last (starts LineEnd t) ≡ false → line_end_p last t ≡ map_r inl (newline_p t)
line_goes true t e = ap (λ v. pick v newline_p eps_p t) (not-false (starts LineEnd t) e)
line_goes false t e = refl

line_stops : (last : Bool) (t : List ℕ) → open_line last (starts LineEnd t) ≡ true → line_end_p last t ≡ res (ok (inr tt)) t
line_stops true t e = ap (λ v. pick v newline_p eps_p t) (not-true (starts LineEnd t) e)
line_stops false t e = absurd (false≢true e)

-- a comment of the text s, behind whose slash m is left
module _ (last : Bool) (s m : List ℕ) (x : Passes (byte_p (only 47)) s m) where
  abbrev first : ℕ
  first = (byte_split (only 47) s m x).0

  slashed : comment_p last s ≡ map_r comment_of (map_r (λ w. (first, w)) (body_p last m))
  slashed = ap (λ z. map_r comment_of (bind (body_p last) z)) (one_is (only 47) s m x)

  -- the first two bytes, and what stands behind them
  two_part : (c : Class) (b : List ℕ) (y : Passes (byte_p c) m b) (u t : List ℕ) → b ≡ u ++ t → s ≡ (first ∷ (byte_split c m b y).0 ∷ u) ++ t
  two_part c b y u t e =
      (byte_split (only 47) s m x).1 ∙ ap (λ z. first ∷ z) ((byte_split c m b y).1 ∙ ap (λ z. (byte_split c m b y).0 ∷ z) e)

  -- a star behind the slash
  module _ (b : List ℕ) (y : Passes (byte_p (only 42)) m b) where
    abbrev star : ℕ
    star = (byte_split (only 42) m b y).0

    starred : comment_p last s ≡ map_r comment_of (map_r (λ w. (first, w)) (map_r inl (map_r (λ w. (star, w)) (block_p b))))
    starred =
        slashed
        ∙ ap (λ v. map_r comment_of (map_r (λ w. (first, w)) (pick v star_p (line_p last) m))) (byte_starts (only 42) m b y)
        ∙ ap (λ z. map_r comment_of (map_r (λ w. (first, w)) (map_r inl (bind block_p z)))) (one_is (only 42) m b y)

    pub block_left : (t : List ℕ) → Passes block_p b t → Left t s
    block_left t z = left_on s m t x.1.left (left_on m b t y.1.left z.1.left)

    pub block_made : {S : Type 0} (after : S → List Event → S → Type 0) (a d : S) (t : Bor (List ℕ)) → Passes block_p b t.now
        → ((u : List ℕ) → s ≡ u ++ t.now → after a (Put (leaf_for kind.BlockComment u) ∷ []) d) → Turns after (comment_p last) s a (Ok (Continue t)) d
    block_made after a d t z h =
        let u = first ∷ star ∷ z.0 in
        let e = two_part (only 42) b y z.0 t.now (bytes_part 0 block_p bytes_block b t.now z.0 z.1) in
        (only_leaf (comment (Block u)), record { left = (u, e); reads = starred ∙ ap (λ r. map_r comment_of (map_r (λ w. (first, w)) (map_r inl (map_r (λ w. (star, w)) r)))) z.1.reads }, h u e)

    pub block_open : (t : Bor (List ℕ)) → Fails block_p b t.now → Stops (comment_p last) s (Bad t)
    block_open t z = record {
      left = left_on s m t.now x.1.left (left_on m b t.now y.1.left z.left);
      fails = starred ∙ ap (λ r. map_r comment_of (map_r (λ w. (first, w)) (map_r inl (map_r (λ w. (star, w)) r)))) z.fails;
    }

  -- no star behind the slash
  module _ (n : List ℕ) (no : Fails (byte_p (only 42)) m n) where
    unstarred : comment_p last s ≡ map_r comment_of (map_r (λ w. (first, w)) (map_r inr (line_p last m)))
    unstarred = slashed ∙ ap (λ v. map_r comment_of (map_r (λ w. (first, w)) (pick v star_p (line_p last) m))) (byte_none (only 42) m n no)

    -- a second slash
    module _ (b : List ℕ) (y : Passes (byte_p (only 47)) m b) where
      abbrev second : ℕ
      second = (byte_split (only 47) m b y).0

      lined : comment_p last s ≡ map_r comment_of (map_r (λ w. (first, w)) (map_r inr (map_r (λ w. (second, w)) (seq_p (chars_p InLine) (line_end_p last) b))))
      lined = unstarred ∙ ap (λ z. map_r comment_of (map_r (λ w. (first, w)) (map_r inr (bind (seq_p (chars_p InLine) (line_end_p last)) z)))) (one_is (only 47) m b y)

      -- a character of the comment is broken
      pub line_broken : (t : Bor (List ℕ)) → Fails (chars_p InLine) b t.now → Stops (comment_p last) s (Bad t)
      line_broken t z = record {
        left = left_on s m t.now x.1.left (left_on m b t.now y.1.left z.left);
        fails = lined ∙ ap (λ r. map_r comment_of (map_r (λ w. (first, w)) (map_r inr (map_r (λ w. (second, w)) (bind (line_end_p last) r))))) z.fails;
      }

      module _ (t : Bor (List ℕ)) (z : Passes (chars_p InLine) b t.now) where
        read : comment_p last s ≡ map_r comment_of (map_r (λ w. (first, w)) (map_r inr (map_r (λ w. (second, w)) (map_r (λ w. (z.0, w)) (line_end_p last t.now)))))
        read = lined ∙ ap (λ r. map_r comment_of (map_r (λ w. (first, w)) (map_r inr (map_r (λ w. (second, w)) (bind (line_end_p last) r))))) z.1.reads

        abbrev whole : List ℕ
        whole = first ∷ second ∷ z.0

        front : s ≡ whole ++ t.now
        front = two_part (only 47) b y z.0 t.now (bytes_part 0 (chars_p InLine) (bytes_chars InLine) b t.now z.0 z.1)

        pub line_left : Left t.now s
        line_left = (whole, front)

        -- a Newline behind it is broken
        pub line_late : open_line last (starts LineEnd t.now) ≡ false → (f : Fault) → Stops newline_p t.now f → Stops (comment_p last) s f
        line_late g f k =
            stops_by (λ r. map_r comment_of (map_r (λ w. (first, w)) (map_r inr (map_r (λ w. (second, w)) (map_r (λ w. (z.0, w)) (map_r inl r)))))) newline_p (comment_p last) s t.now line_left (λ u. refl) (λ u. refl)
            (read ∙ ap (λ r. map_r comment_of (map_r (λ w. (first, w)) (map_r inr (map_r (λ w. (second, w)) (map_r (λ w. (z.0, w)) r))))) (line_goes last t.now g)) f k

        module _ {S : Type 0} (after : S → List Event → S → Type 0) (joined : (a b c : S) (x y : List Event) → after a x b → after b y c → after a (x ++ y) c) (a d : S) (h : (u : List ℕ) → s ≡ u ++ t.now → after a (Put (leaf_for kind.LineComment u) ∷ []) d) where
          pub line_made : open_line last (starts LineEnd t.now) ≡ false → (v : Bor (List ℕ)) (c : S) → Makes after newline_p t.now d (Ok v) c → Turns after (comment_p last) s a (Ok (Continue v)) c
          line_made g v c k = (
            leaf (comment (Line whole)) k.0,
            record { left = left_on s t.now v.now line_left k.1.left; reads = read ∙ ap (λ r. map_r comment_of (map_r (λ w. (first, w)) (map_r inr (map_r (λ w. (second, w)) (map_r (λ w. (z.0, w)) r))))) (line_goes last t.now g ∙ ap (map_r inl) k.1.reads) },
            joined a d c (Put (comment (Line whole)) ∷ []) (events k.0) (h whole front) k.2,
          )

          pub line_last : open_line last (starts LineEnd t.now) ≡ true → Turns after (comment_p last) s a (Ok (Break t)) d
          line_last g = (
            only_leaf (comment (Line whole)),
            record { left = line_left; reads = read ∙ ap (λ r. map_r comment_of (map_r (λ w. (first, w)) (map_r inr (map_r (λ w. (second, w)) (map_r (λ w. (z.0, w)) r))))) (line_stops last t.now g) },
            h whole front,
          )

-- one unit of trivia
module _ (s : List ℕ) where
  gap_is : starts Gap s ≡ (starts (only 47) s || (starts Blank s || starts LineEnd s))
  gap_is = starts_app (only 47) (Blank ++ LineEnd) s ∙ ap (λ z. starts (only 47) s || z) (starts_app Blank LineEnd s)

module _ {S : Type 0} (after : S → List Event → S → Type 0) (idle : (a : S) → after a [] a) (joined : (a b c : S) (x y : List Event) → after a x b → after b y c → after a (x ++ y) c) (last : Bool) (s : List ℕ) (a b : S) where
  in_gap : starts Gap s ≡ true → (r : Step) → Turns after (piece_p last) s a r b → Turns after (unit_p last) s a r b
  in_gap e r m = telling.turns_left after idle joined Gap (piece_p last) (map_p inr nothing_p) s e a r b m

  pub unit_comment : starts (only 47) s ≡ true → (r : Step) → Turns after (comment_p last) s a r b → Turns after (unit_p last) s a r b
  unit_comment e r m =
      in_gap (gap_is s ∙ or_left (starts (only 47) s) _ e) r (telling.turns_left after idle joined (only 47) (comment_p last) (map_p inl plain_p) s e a r b m)

  unit_plain : starts (only 47) s ≡ false → (starts Blank s || starts LineEnd s) ≡ true → (t : Bor (List ℕ)) → Makes after plain_p s a (Ok t) b → Turns after (unit_p last) s a (Ok (Continue t)) b
  unit_plain n e t m =
      in_gap (gap_is s ∙ or_right (starts (only 47) s) _ e) (Ok (Continue t))
      (telling.turns_right after idle joined (only 47) (comment_p last) (map_p inl plain_p) s n a (Ok (Continue t)) b (telling.turns_on after idle joined plain_p s t a b m))

  module _ (blanks : List ℕ) (x : Passes (byte_p Blank) s blanks) (t : Bor (List ℕ)) (r : Passes (run_p Blank) blanks t.now) where
    pub space_left : Left t.now s
    space_left = left_on s blanks t.now x.1.left r.1.left

    pub unit_space : starts (only 47) s ≡ false → ((u : List ℕ) → s ≡ u ++ t.now → after a (Put (leaf_for kind.Whitespace u) ∷ []) b) → Turns after (unit_p last) s a (Ok (Continue t)) b
    unit_space n h =
        unit_plain n (or_left (starts Blank s) _ (byte_starts Blank s blanks x)) t
        (telling.makes_left after idle joined Blank space_p newline_p s (byte_starts Blank s blanks x) a (Ok t) b
        (telling.found after idle joined space_p s kind.Whitespace t
        (leaf_found 1 kind.Whitespace (cat_p (byte_p Blank) (run_p Blank)) space_bytes s t.now (cat_goes (byte_p Blank) (run_p Blank) s blanks x (Ok t) r)) a b h))

pub unit_none : {S : Type 0} (after : S → List Event → S → Type 0) (idle : (a : S) → after a [] a) (joined : (a b c : S) (x y : List Event) → after a x b → after b y c → after a (x ++ y) c) (last : Bool) (s : Bor (List ℕ)) (a : S)
    → starts (only 47) s.now ≡ false → (z : List ℕ) → Fails (byte_p Blank) s.now z → starts LineEnd s.now ≡ false → Turns after (unit_p last) s.now a (Ok (Break s)) a
unit_none after idle joined last s a n z k e =
    telling.turns_right after idle joined Gap (piece_p last) (map_p inr nothing_p) s.now
    (gap_is s.now ∙ or_from (starts (only 47) s.now) _ n (or_from (starts Blank s.now) _ (byte_none Blank s.now z k) e)) a (Ok (Break s)) a
    (telling.turns_off after idle joined nothing_p s.now s a a (telling.makes_nothing after idle joined s a))

-- a Newline
abbrev lf_p : Parser Pieces
lf_p = map_p (λ _. only_leaf (newline line_feed)) (one_p (only 10))

pub feed_found : (s t : List ℕ) → Passes (byte_p (only 10)) s t → OneLeaf newline_p s (kind.Newline LineFeed) t
feed_found s t x =
    let b = byte_split (only 10) s t x in
    (b.0 ∷ [], b.1, choose_left (only 10) lf_p return_p s (byte_starts (only 10) s t x) ∙ ap (map_r (λ _. only_leaf (newline line_feed))) (one_is (only 10) s t x))

-- behind the CR of a text that does not begin with CR LF there is no LF
no_feed : (b : ℕ) (t : List ℕ) → crlf (b ∷ t) ≡ false → within (only 13) b ≡ true → starts (only 10) t ≡ false
no_feed b [] e f = refl
no_feed b (y ∷ t) e f = grind (arith, nat_tests)

module _ (s t : List ℕ) (x : Passes (byte_p (only 13)) s t) where
  abbrev return : ℕ
  return = (byte_split (only 13) s t x).0

  returns : newline_p s ≡ map_r returned (map_r (λ w. (return, w)) (feed_p t))
  returns =
      choose_right (only 10) lf_p return_p s (starts_apart (only 13) (only 10) refl s (byte_starts (only 13) s t x))
      ∙ ap (λ z. map_r returned (bind feed_p z)) (one_is (only 13) s t x)

  both_found : (u : List ℕ) → Passes (byte_p (only 10)) t u → OneLeaf newline_p s (kind.Newline CarriageReturnLineFeed) u
  both_found u y =
      let b = byte_split (only 10) t u y in (
        return ∷ b.0 ∷ [],
        (byte_split (only 13) s t x).1 ∙ ap (λ z. return ∷ z) b.1,
        returns
            ∙ ap (λ v. map_r returned (map_r (λ w. (return, w)) (pick v (one_p (only 10)) eps_p t))) (byte_starts (only 10) t u y)
            ∙ ap (λ z. map_r returned (map_r (λ w. (return, w)) (map_r inl z))) (one_is (only 10) t u y),
      )

  lone : starts (only 10) t ≡ false → OneLeaf newline_p s (kind.Newline CarriageReturn) t
  lone e = (return ∷ [], (byte_split (only 13) s t x).1, returns ∙ ap (λ v. map_r returned (map_r (λ w. (return, w)) (pick v (one_p (only 10)) eps_p t))) e)

  pub return_found : crlf s ≡ false → OneLeaf newline_p s (kind.Newline CarriageReturn) t
  return_found e = let b = byte_split (only 13) s t x in lone (no_feed b.0 t (ap crlf (sym b.1) ∙ e) b.2)

-- what begins with CR LF
pub crlf_found : (s t : List ℕ) → crlf s ≡ true → t ≡ drop 2 s → OneLeaf newline_p s (kind.Newline CarriageReturnLineFeed) t
crlf_found [] t e f = absurd (false≢true e)
crlf_found (x ∷ []) t e f = absurd (false≢true e)
crlf_found (x ∷ y ∷ r) t e f =
    let p : within (only 13) x ≡ true = grind (arith, nat_tests) in
    let q : within (only 10) y ≡ true = grind (arith, nat_tests) in
    both_found (x ∷ y ∷ r) (y ∷ r) (byte_passes (only 13) x (y ∷ r) p) t (subst (Passes (byte_p (only 10)) (y ∷ r)) (sym f) (byte_passes (only 10) y r q))
