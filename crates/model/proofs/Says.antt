-- What a written value says, and what becomes of comments where it takes another's place. Assumes nothing.
use Rattle.std.proofs.Common.{◌≡◌, ℕ, suc, Bool, true, false, ◌⊎◌, List, [], ◌++◌, sym, refl, ap, ◌∙◌, subst, inl, inr, append_assoc}
use Rattle.std.proofs.lemmas.Bool.{cond_both}
use Rattle.grammar.specs.Layout.{Comment, Label, Null, Boolean, Numeral, Text, Array, Object, Member, Parts, nil, part}
use Rattle.grammar.specs.Pieces.{close_array, close_object, comma, token, Pieces, end as no_pieces, leaf, box, join, nodes}
use Rattle.grammar.proofs.Sentences.{inner_quoted}
use Rattle.forest.specs.Forest.{end, node, append}
use Rattle.model.specs.Nodes.{Handle, Own, Nodes, Class, gap, mark, value, class, leaf_class, leaf_label, box_label, pieces, parts, parts_at}
use Rattle.model.specs.Edits.{Supply, skip, sown, onto, local, exchanged}
use Rattle.model.specs.Fits.{comments, remarks_of, bare}
use Rattle.model.specs.Written.{Value, spelled, Style, is_nil, spread, inner_indent, ahead, behind, shut as shutting, framed, members, written}
use Rattle.model.specs.Sources.{IsNil, Inside, free, keyed, LabelFits, Shaped}
use Rattle.model.specs.Changes.{At, Around, notes_before}
use Rattle.model.proofs.Removes.{local_ways, at_here}
use Rattle.model.proofs.Writes.{shaped_spelled}

-- the value of pieces
abbrev said_at : Class → Label → Value → Value → Value
said_at (gap g) l ks v = v
said_at (mark m) l ks v = v
said_at value l ks v = part tt l ks v

abbrev said : Pieces → Value
said no_pieces = nil
said (leaf x r) = said_at (leaf_class x) (leaf_label x) nil (said r)
said (box b c r) = part tt (box_label b c) (said c) (said r)

pub pieces_sown : (s : Supply) (a : Pieces) → pieces (sown s a) ≡ a
pieces_sown s no_pieces = refl
pieces_sown s (leaf x r) = ap (leaf x) (pieces_sown (skip 1 s) r)
pieces_sown s (box b c r) = ap (λ y. box b y (pieces (sown (skip (suc (nodes c)) s) r))) (pieces_sown (skip 1 s) c) ∙ ap (box b c) (pieces_sown (skip (suc (nodes c)) s) r)

bare_at_lem : (c : Class) (h : Handle) (l : Label) (v : Parts Handle) (w : Value) → bare v ≡ w → bare (parts_at c h l nil v) ≡ said_at c l nil w
bare_at_lem (gap g) h l v w e = e
bare_at_lem (mark m) h l v w e = e
bare_at_lem value h l v w e = ap (part tt l nil) e

said_sown : (s : Supply) (a : Pieces) → bare (parts (sown s a)) ≡ said a
said_sown s no_pieces = refl
said_sown s (leaf x r) = bare_at_lem (leaf_class x) (record { place = _; number = s.number }) (leaf_label x) (parts (sown (skip 1 s) r)) (said r) (said_sown (skip 1 s) r)
said_sown s (box b c r) =
    ap (λ y. part tt (box_label b y) (bare (parts (sown (skip 1 s) c))) (bare (parts (sown (skip (suc (nodes c)) s) r)))) (pieces_sown (skip 1 s) c)
    ∙ (ap (λ y. part tt (box_label b c) y (bare (parts (sown (skip (suc (nodes c)) s) r)))) (said_sown (skip 1 s) c) ∙ ap (part tt (box_label b c) (said c)) (said_sown (skip (suc (nodes c)) s) r))

-- what says nothing adds nothing
said_quiet : (c r : Pieces) → said r ≡ nil → said (join c r) ≡ said c
said_quiet no_pieces r e = e
said_quiet (leaf x c) r e = ap (said_at (leaf_class x) (leaf_label x) nil) (said_quiet c r e)
said_quiet (box b i c) r e = ap (part tt (box_label b i) (said i)) (said_quiet c r e)

said_ahead : (st : Style) (b : Bool) (t : List ℕ) (a : Pieces) → said (ahead st b t a) ≡ said a
said_ahead st true t a = refl
said_ahead st false t a = refl

said_behind : (st : Style) (b l : Bool) (a : Pieces) → said (behind st b l a) ≡ said a
said_behind st true true a = cond_both st.trailing (leaf (token comma) a) a (λ y. said y ≡ said a) (λ e. refl) (λ e. refl)
said_behind st true false a = refl
said_behind st false true a = refl
said_behind st false false a = refl

is_nil_lem : (ks : Value) → IsNil ks → nil ≡ ks
is_nil_lem nil h = refl
is_nil_lem (part u l ks ts) h = absurd h

said_framed : (st : Style) (w : Inside) (l : Label) (b : Bool) (t : List ℕ) (ks : Value) (c r : Pieces) → LabelFits w l ks (Shaped ks) → ((x : Inside) → Shaped ks x → said c ≡ ks) → said (framed st l b t c r) ≡ part tt l ks (said r)
said_framed st free Null b t ks c r h k = ap (λ y. part tt Null y (said r)) (is_nil_lem ks h)
said_framed st free (Boolean v) b t ks c r h k = ap (λ y. part tt (Boolean v) y (said r)) (is_nil_lem ks h)
said_framed st free (Numeral u) b t ks c r h k = ap (λ y. part tt (Numeral u) y (said r)) (is_nil_lem ks h)
said_framed st free (Text u) b t ks c r h k = ap (λ y. part tt (Text y) nil (said r)) (inner_quoted u) ∙ ap (λ y. part tt (Text u) y (said r)) (is_nil_lem ks h)
said_framed st free Array b t ks c r h k = ap (λ y. part tt Array y (said r)) (said_quiet c (shutting st b t close_array) (said_ahead st b t (leaf (token close_array) no_pieces)) ∙ k free h)
said_framed st free Object b t ks c r h k = ap (λ y. part tt Object y (said r)) (said_quiet c (shutting st b t close_object) (said_ahead st b t (leaf (token close_object) no_pieces)) ∙ k keyed h)
said_framed st free (Member u) b t ks c r h k = absurd h
said_framed st keyed Null b t ks c r h k = absurd h
said_framed st keyed (Boolean v) b t ks c r h k = absurd h
said_framed st keyed (Numeral u) b t ks c r h k = absurd h
said_framed st keyed (Text u) b t ks c r h k = absurd h
said_framed st keyed Array b t ks c r h k = absurd h
said_framed st keyed Object b t ks c r h k = absurd h
said_framed st keyed (Member u) b t ks c r h k = ap (λ y. part tt (Member y) (said c) (said r)) (inner_quoted u) ∙ ap (λ y. part tt (Member u) y (said r)) (k free h.1)

said_members : (st : Style) (v : Value) (w : Inside) (b : Bool) (t : List ℕ) → Shaped v w → said (members st b t v) ≡ v
said_members st nil w b t h = refl
said_members st (part u l ks ts) w b t h =
    let c : Pieces = members st (spread l ks) (inner_indent l st.step t) ks in
    let r : Pieces = behind st b (is_nil ts) (members st b t ts) in
    said_ahead st b t (framed st l (spread l ks) t c r) ∙ (said_framed st w l (spread l ks) t ks c r h.0 (λ x s. said_members st ks x (spread l ks) (inner_indent l st.step t) s)
    ∙ ap (part tt l ks) (said_behind st b (is_nil ts) (members st b t ts) ∙ said_members st ts w b t h.1))

-- A written value says the source's value, its strings and names escaped.
pub written_says : (st : Style) (t : List ℕ) (v : Value) (s : Supply) → Shaped v free → bare (parts (sown s (written st t v))) ≡ spelled v
written_says st t v s h = said_sown s (written st t v) ∙ said_members st (spelled v) free false t (shaped_spelled v free h)

-- the comments of pieces
abbrev noted : Pieces → List Comment
noted no_pieces = []
noted (leaf x r) = remarks_of (leaf_class x) [] ++ noted r
noted (box b c r) = noted c ++ noted r

noted_sown : (s : Supply) (a : Pieces) → comments (sown s a) ≡ noted a
noted_sown s no_pieces = refl
noted_sown s (leaf x r) = ap (λ y. remarks_of (leaf_class x) [] ++ y) (noted_sown (skip 1 s) r)
noted_sown s (box b c r) = ap (λ y. y ++ comments (sown (skip (suc (nodes c)) s) r)) (noted_sown (skip 1 s) c) ∙ ap (λ y. noted c ++ y) (noted_sown (skip (suc (nodes c)) s) r)

noted_join : (c r : Pieces) → noted c ≡ [] → noted r ≡ [] → noted (join c r) ≡ []
noted_join c r h k = go c ∙ (ap (λ y. y ++ noted r) h ∙ k)
  where
    go : (c : Pieces) → noted (join c r) ≡ noted c ++ noted r
    go no_pieces = refl
    go (leaf x c) = ap (λ y. remarks_of (leaf_class x) [] ++ y) (go c) ∙ sym (append_assoc (remarks_of (leaf_class x) []) (noted c) (noted r))
    go (box b i c) = ap (λ y. noted i ++ y) (go c) ∙ sym (append_assoc (noted i) (noted c) (noted r))

noted_ahead : (st : Style) (b : Bool) (t : List ℕ) (a : Pieces) → noted (ahead st b t a) ≡ noted a
noted_ahead st true t a = refl
noted_ahead st false t a = refl

noted_behind : (st : Style) (b l : Bool) (a : Pieces) → noted (behind st b l a) ≡ noted a
noted_behind st true true a = cond_both st.trailing (leaf (token comma) a) a (λ y. noted y ≡ noted a) (λ e. refl) (λ e. refl)
noted_behind st true false a = refl
noted_behind st false true a = refl
noted_behind st false false a = refl

noted_framed : (st : Style) (l : Label) (b : Bool) (t : List ℕ) (c r : Pieces) → noted c ≡ [] → noted r ≡ [] → noted (framed st l b t c r) ≡ []
noted_framed st Null b t c r h k = k
noted_framed st (Boolean v) b t c r h k = k
noted_framed st (Numeral u) b t c r h k = k
noted_framed st (Text u) b t c r h k = k
noted_framed st Array b t c r h k = ap (λ y. y ++ noted r) (noted_join c (shutting st b t close_array) h (noted_ahead st b t (leaf (token close_array) no_pieces))) ∙ k
noted_framed st Object b t c r h k = ap (λ y. y ++ noted r) (noted_join c (shutting st b t close_object) h (noted_ahead st b t (leaf (token close_object) no_pieces))) ∙ k
noted_framed st (Member u) b t c r h k = ap (λ y. y ++ noted r) h ∙ k

noted_members : (st : Style) (v : Value) (b : Bool) (t : List ℕ) → noted (members st b t v) ≡ []
noted_members st nil b t = refl
noted_members st (part u l ks ts) b t =
    let c : Pieces = members st (spread l ks) (inner_indent l st.step t) ks in
    let r : Pieces = behind st b (is_nil ts) (members st b t ts) in
    noted_ahead st b t (framed st l (spread l ks) t c r) ∙ noted_framed st l (spread l ks) t c r (noted_members st ks (spread l ks) (inner_indent l st.step t)) (noted_behind st b (is_nil ts) (members st b t ts) ∙ noted_members st ts b t)

-- A written value has no comments.
pub written_quiet : (st : Style) (t : List ℕ) (v : Value) (s : Supply) → comments (sown s (written st t v)) ≡ []
written_quiet st t v s = noted_sown s (written st t v) ∙ noted_members st (spelled v) false t

pub comments_onto : (bs ts : Nodes) → comments (onto bs ts) ≡ notes_before bs ++ comments ts
comments_onto end ts = refl
comments_onto (node p i ks bs) ts = comments_onto bs (node p i ks ts) ∙ sym (append_assoc (notes_before bs) (remarks_of (class i.sort) (comments ks)) (comments ts))

pub comments_append : (us ts : Nodes) → comments (append us ts) ≡ comments us ++ comments ts
comments_append end ts = refl
comments_append (node p i ks us) ts = ap (λ y. remarks_of (class i.sort) (comments ks) ++ y) (comments_append us ts) ∙ sym (append_assoc (remarks_of (class i.sort) (comments ks)) (comments us) (comments ts))

-- Where new siblings take a value's place, the comments inside it make room for theirs; where there is no such value, all stay.
pub exchange_comments : (k : ℕ) (us ts : Nodes) → ((i : Own) (ks : Nodes) → At k i ks ts → class i.sort ≡ value)
    → (comments (local (exchanged us) k ts) ≡ comments ts) ⊎ ((i : Own) × (ks : Nodes) × At k i ks ts × Around (comments ts) (comments ks) (comments (local (exchanged us) k ts)) (comments us))
exchange_comments k us ts v = local_ways (λ y. (comments y ≡ comments ts) ⊎ ((i : Own) × (ks : Nodes) × At k i ks ts × Around (comments ts) (comments ks) (comments y) (comments us))) (exchanged us) k end ts (inl refl)
    (λ cs p i ks vs e z. (let a : At k i ks ts = subst (λ y. At y i ks ts) z (at_here cs p i ks vs ts e) in inr (
      i,
      ks,
      a,
      record {
        before = notes_before cs;
        behind = comments vs;
        was = ap comments (sym e) ∙ (comments_onto cs (node p i ks vs) ∙ ap (λ c. notes_before cs ++ (remarks_of c (comments ks) ++ comments vs)) (v i ks a));
        is = comments_onto cs (append us vs) ∙ ap (λ y. notes_before cs ++ y) (comments_append us vs);
      },
    )))
