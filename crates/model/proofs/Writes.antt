-- A written value stands wherever a value may. Assumes nothing.
use Rattle.std.proofs.Common.{◌≡◌, ℕ, Bool, true, false, not, List, [], ◌∷◌, ◌++◌, sym, refl, subst}
use Rattle.std.proofs.lemmas.Bool.{cond_both}
use Rattle.grammar.specs.Classes.{Blank}
use Rattle.grammar.specs.Grammar.{All, Many, StringChar, Number}
use Rattle.grammar.specs.Layout.{Label, Null, Boolean, Numeral, Text, Array, Object, Member, nil, part}
use Rattle.grammar.specs.Pieces.{Token, open_array, close_array, open_object, close_object, comma, colon, Break, Leaf, null, boolean, number, string, name, token, whitespace, newline, array, object, property, Pieces, end as no_pieces, leaf, join}
use Rattle.model.specs.Fits.{Owner, of, Pos, start, items, next, named, only, shut, State, here, Role, takes}
use Rattle.model.specs.Written.{Value, escaped_label, spelled, Style, is_nil, any_full, spread, inner_indent, one_space, ahead, behind, shut as shutting, framed, members, written}
use Rattle.model.specs.Sources.{LabelShows, Shows, IsNil, IsOne, Inside, free, keyed, LabelFits, Shaped}
use Rattle.model.proofs.Loaded.{Goes, Stands, on, stay, one_leaf, boxed}
use Rattle.model.proofs.Escaping.{escaped_string}

-- numbers, strings and names as the grammar has them
abbrev LabelSpelt : Label → Type 0
LabelSpelt Null = Unit {0}
LabelSpelt (Boolean b) = Unit {0}
LabelSpelt (Numeral t) = Number t
LabelSpelt (Text t) = Many StringChar t
LabelSpelt Array = Unit {0}
LabelSpelt Object = Unit {0}
LabelSpelt (Member t) = Many StringChar t

abbrev Spelt : Value → Type 0
Spelt nil = Unit {0}
Spelt (part u l ks ts) = LabelSpelt l × Spelt ks × Spelt ts

label_spelt : (l : Label) → LabelShows l → LabelSpelt (escaped_label l)
label_spelt Null h = tt
label_spelt (Boolean b) h = tt
label_spelt (Numeral t) h = h
label_spelt (Text t) h = escaped_string h
label_spelt Array h = tt
label_spelt Object h = tt
label_spelt (Member t) h = escaped_string h

spelt : (v : Value) → Shows v → Spelt (spelled v)
spelt nil h = tt
spelt (part u l ks ts) h = (label_spelt l h.0, spelt ks h.1, spelt ts h.2)

nil_spelled : (v : Value) → IsNil v → IsNil (spelled v)
nil_spelled nil h = tt
nil_spelled (part u l ks ts) h = absurd h

-- one value escaped is one
pub one_spelled : (v : Value) → IsOne v → IsOne (spelled v)
one_spelled nil h = absurd h
one_spelled (part u l ks ts) h = nil_spelled ts h

label_fits : (w : Inside) (l : Label) (ks : Value) → ((x : Inside) → Shaped ks x → Shaped (spelled ks) x) → LabelFits w l ks (Shaped ks) → LabelFits w (escaped_label l) (spelled ks) (Shaped (spelled ks))
label_fits free Null ks r h = nil_spelled ks h
label_fits free (Boolean b) ks r h = nil_spelled ks h
label_fits free (Numeral t) ks r h = nil_spelled ks h
label_fits free (Text t) ks r h = nil_spelled ks h
label_fits free Array ks r h = r free h
label_fits free Object ks r h = r keyed h
label_fits free (Member t) ks r h = absurd h
label_fits keyed Null ks r h = absurd h
label_fits keyed (Boolean b) ks r h = absurd h
label_fits keyed (Numeral t) ks r h = absurd h
label_fits keyed (Text t) ks r h = absurd h
label_fits keyed Array ks r h = absurd h
label_fits keyed Object ks r h = absurd h
label_fits keyed (Member t) ks r h = (one_spelled ks h.0, r free h.1)

pub shaped_spelled : (v : Value) (w : Inside) → Shaped v w → Shaped (spelled v) w
shaped_spelled nil w h = tt
shaped_spelled (part u l ks ts) w h = (label_fits w l ks (shaped_spelled ks) h.0, shaped_spelled ts w h.1)

pub all_append : (s t : List ℕ) → All Blank s → All Blank t → All Blank (s ++ t)
all_append [] t h k = k
all_append (b ∷ s) t h k = (h.0, all_append s t h.1 k)

-- where a list of members may end
data Last : Pos → Type 0 where
  at_items : Last items
  at_next : Last next

abbrev owner : Inside → Owner
owner free = of array
owner keyed = of object

-- members from one state on
abbrev Listed : Inside → Pos → Pieces → Type 0
Listed w q a = (z : Pos) × Last z × Goes (owner w) (here q false) (here z false) a

comma_taken : (w : Inside) → takes (owner w) (Role.sign comma) ≡ true
comma_taken free = refl
comma_taken keyed = refl

-- one more leaf in front
front : (f : Owner) (q r s : State) (x : Leaf) (a : Pieces) → Goes f q r (leaf x no_pieces) → Goes f r s a → Goes f q s (leaf x a)
front f q r s x a h k = on f q r s (leaf x no_pieces) a h k

-- a Newline and an indent
lined : (f : Owner) (z : Pos) (r : State) (k : Break) (t : List ℕ) (a : Pieces) → Last z → All Blank t → Goes f (here z false) r a → Goes f (here z false) r (leaf (newline k) (leaf (whitespace t) a))
lined f _ r k t a at_items h m = front f (here items false) (here items false) r (newline k) (leaf (whitespace t) a) (one_leaf f (here items false) (here items false) (newline k) refl refl tt)
    (front f (here items false) (here items false) r (whitespace t) a (one_leaf f (here items false) (here items false) (whitespace t) refl refl h) m)
lined f _ r k t a at_next h m = front f (here next false) (here next false) r (newline k) (leaf (whitespace t) a) (one_leaf f (here next false) (here next false) (newline k) refl refl tt)
    (front f (here next false) (here next false) r (whitespace t) a (one_leaf f (here next false) (here next false) (whitespace t) refl refl h) m)

module _ (st : Style) (blank : All Blank st.step) where
  ahead_goes : (f : Owner) (b : Bool) (z : Pos) (r : State) (t : List ℕ) (a : Pieces) → Last z → All Blank t → Goes f (here z false) r a → Goes f (here z false) r (ahead st b t a)
  ahead_goes f true z r t a p h m = lined f z r st.newline t a p h m
  ahead_goes f false z r t a p h m = m

  close_goes : (f : Owner) (m : Token) (b : Bool) (z : Pos) (t : List ℕ) → Last z → All Blank t → takes f (Role.sign m) ≡ true → ((y : Pos) → Last y → Goes f (here y false) (here shut false) (leaf (token m) no_pieces)) → Goes f (here z false) (here shut false) (shutting st b t m)
  close_goes f m b z t p h k c = ahead_goes f b z (here shut false) t (leaf (token m) no_pieces) p h (c z p)

  -- an item of a list: a value, or a property
  abbrev Itemed : Inside → Pieces → Type 0
  Itemed free a = Stands a
  Itemed keyed a = Goes (of object) (here items false) (here next false) a

  item_list : (w : Inside) (a : Pieces) → Itemed w a → Goes (owner w) (here items false) (here next false) a
  item_list free a h = h (of array) (here items false) (here next false) refl refl
  item_list keyed a h = h

  framed_join : (l : Label) (b : Bool) (t : List ℕ) (c r : Pieces) → framed st l b t c r ≡ join (framed st l b t c no_pieces) r
  framed_join Null b t c r = refl
  framed_join (Boolean v) b t c r = refl
  framed_join (Numeral u) b t c r = refl
  framed_join (Text u) b t c r = refl
  framed_join Array b t c r = refl
  framed_join Object b t c r = refl
  framed_join (Member u) b t c r = refl

  -- what is known of the members of a value
  record Known (ks : Value) : Type 0 where
    list : (w : Inside) (b : Bool) (t : List ℕ) → All Blank t → Shaped ks w → Spelt ks → Listed w items (members st b t ks)
    single : (t : List ℕ) → All Blank t → IsOne ks → Shaped ks free → Spelt ks → Stands (members st false t ks)

  array_closes : (y : Pos) → Last y → Goes (of array) (here y false) (here shut false) (leaf (token close_array) no_pieces)
  array_closes _ at_items = one_leaf (of array) (here items false) (here shut false) (token close_array) refl refl tt
  array_closes _ at_next = one_leaf (of array) (here next false) (here shut false) (token close_array) refl refl tt

  object_closes : (y : Pos) → Last y → Goes (of object) (here y false) (here shut false) (leaf (token close_object) no_pieces)
  object_closes _ at_items = one_leaf (of object) (here items false) (here shut false) (token close_object) refl refl tt
  object_closes _ at_next = one_leaf (of object) (here next false) (here shut false) (token close_object) refl refl tt

  array_item : (b : Bool) (t : List ℕ) (c : Pieces) → All Blank t → Listed free items c → Stands (framed st Array b t c no_pieces)
  array_item b t c h (z, p, m) f q r k e = boxed array f q r (leaf (token open_array) (join c (shutting st b t close_array))) e k
      (front (of array) (here start false) (here items false) (here shut false) (token open_array) (join c (shutting st b t close_array)) (one_leaf (of array) (here start false) (here items false) (token open_array) refl refl tt)
      (on (of array) (here items false) (here z false) (here shut false) c (shutting st b t close_array) m (close_goes (of array) close_array b z t p h refl array_closes)))

  object_item : (b : Bool) (t : List ℕ) (c : Pieces) → All Blank t → Listed keyed items c → Stands (framed st Object b t c no_pieces)
  object_item b t c h (z, p, m) f q r k e = boxed object f q r (leaf (token open_object) (join c (shutting st b t close_object))) e k
      (front (of object) (here start false) (here items false) (here shut false) (token open_object) (join c (shutting st b t close_object)) (one_leaf (of object) (here start false) (here items false) (token open_object) refl refl tt)
      (on (of object) (here items false) (here z false) (here shut false) c (shutting st b t close_object) m (close_goes (of object) close_object b z t p h refl object_closes)))

  member_item : (u : List ℕ) (b : Bool) (t : List ℕ) (c : Pieces) → Many StringChar u → Stands c → Itemed keyed (framed st (Member u) b t c no_pieces)
  member_item u b t c h m =
      let P : Owner = of property in
      boxed property (of object) (here items false) (here next false) (leaf (name (Rattle.model.specs.Written.quoted u)) (leaf (token colon) (leaf (whitespace one_space) c))) refl refl
      (front P (here start false) (here named false) (here shut false) (name (Rattle.model.specs.Written.quoted u)) (leaf (token colon) (leaf (whitespace one_space) c)) (one_leaf P (here start false) (here named false) (name (Rattle.model.specs.Written.quoted u)) refl refl (u, refl, h))
      (front P (here named false) (here only false) (here shut false) (token colon) (leaf (whitespace one_space) c) (one_leaf P (here named false) (here only false) (token colon) refl refl tt)
      (front P (here only false) (here only false) (here shut false) (whitespace one_space) c (one_leaf P (here only false) (here only false) (whitespace one_space) refl refl (refl, tt))
      (m P (here only false) (here shut false) refl refl))))

  item : (l : Label) (ks : Value) (w : Inside) (t : List ℕ) → All Blank t → LabelFits w l ks (Shaped ks) → LabelSpelt l → Spelt ks → Known ks
      → Itemed w (framed st l (spread l ks) t (members st (spread l ks) (inner_indent l st.step t) ks) no_pieces)
  item Null ks free t h a b c k = λ f q r x e. one_leaf f q r null e x tt
  item (Boolean v) ks free t h a b c k = λ f q r x e. one_leaf f q r (boolean v) e x tt
  item (Numeral u) ks free t h a b c k = λ f q r x e. one_leaf f q r (number u) e x b
  item (Text u) ks free t h a b c k = λ f q r x e. one_leaf f q r (string (Rattle.model.specs.Written.quoted u)) e x (u, refl, b)
  item Array ks free t h a b c k = array_item (any_full ks) t (members st (any_full ks) (t ++ st.step) ks) h (k.list free (any_full ks) (t ++ st.step) (all_append t st.step h blank) a c)
  item Object ks free t h a b c k = object_item (not (is_nil ks)) t (members st (not (is_nil ks)) (t ++ st.step) ks) h (k.list keyed (not (is_nil ks)) (t ++ st.step) (all_append t st.step h blank) a c)
  item (Member u) ks free t h a b c k = absurd a
  item Null ks keyed t h a b c k = absurd a
  item (Boolean v) ks keyed t h a b c k = absurd a
  item (Numeral u) ks keyed t h a b c k = absurd a
  item (Text u) ks keyed t h a b c k = absurd a
  item Array ks keyed t h a b c k = absurd a
  item Object ks keyed t h a b c k = absurd a
  item (Member u) ks keyed t h a b c k = member_item u false t (members st false t ks) b (k.single t h a.0 a.1 c)

  -- behind a member
  comma_leaf : (w : Inside) → Goes (owner w) (here next false) (here items false) (leaf (token comma) no_pieces)
  comma_leaf w = one_leaf (owner w) (here next false) (here items false) (token comma) refl (comma_taken w) tt

  behind_goes : (w : Inside) (b : Bool) (t : List ℕ) (ts : Value) → Listed w items (members st b t ts) → Listed w next (behind st b (is_nil ts) (members st b t ts))
  behind_goes w true t nil m = cond_both st.trailing (leaf (token comma) no_pieces) no_pieces (Listed w next)
      (λ e. (items, at_items, comma_leaf w)) (λ e. (next, at_next, stay (owner w) (here next false)))
  behind_goes w false t nil m = (next, at_next, stay (owner w) (here next false))
  behind_goes w true t (part u l ks ts) (z, p, m) = (z, p, front (owner w) (here next false) (here items false) (here z false) (token comma) (members st true t (part u l ks ts)) (comma_leaf w) m)
  behind_goes w false t (part u l ks ts) (z, p, m) = (
    z,
    p,
    front (owner w) (here next false) (here items false) (here z false) (token comma) (leaf (whitespace one_space) (members st false t (part u l ks ts))) (comma_leaf w)
        (front (owner w) (here items false) (here items false) (here z false) (whitespace one_space) (members st false t (part u l ks ts)) (one_leaf (owner w) (here items false) (here items false) (whitespace one_space) refl refl (refl, tt)) m),
  )

  list_on : (w : Inside) (b : Bool) (t : List ℕ) (l : Label) (ks : Value) (a : Pieces) → All Blank t → Itemed w (framed st l (spread l ks) t (members st (spread l ks) (inner_indent l st.step t) ks) no_pieces) → Listed w next a
      → Listed w items (ahead st b t (framed st l (spread l ks) t (members st (spread l ks) (inner_indent l st.step t) ks) a))
  list_on w b t l ks a h i (z, p, m) =
      let c : Pieces = members st (spread l ks) (inner_indent l st.step t) ks in (
        z,
        p,
        ahead_goes (owner w) b items (here z false) t (framed st l (spread l ks) t c a) at_items h
            (subst (Goes (owner w) (here items false) (here z false)) (sym (framed_join l (spread l ks) t c a))
            (on (owner w) (here items false) (here next false) (here z false) (framed st l (spread l ks) t c no_pieces) a (item_list w (framed st l (spread l ks) t c no_pieces) i) m)),
      )

  known : (v : Value) → Known v
  known nil = record { list = λ w b t h s p. (items, at_items, stay (owner w) (here items false)); single = λ t h o s p. absurd o }
  known (part u l ks ts) = record {
    list = λ w b t h s p. list_on w b t l ks (behind st b (is_nil ts) (members st b t ts)) h (item l ks w t h s.0 p.0 p.1 (known ks)) (behind_goes w b t ts ((known ts).list w b t h s.1 p.2));
    single = λ t h o s p. alone t ts o (item l ks free t h s.0 p.0 p.1 (known ks));
  }
    where
      alone : (t : List ℕ) (ts : Value) → IsNil ts → Stands (framed st l (spread l ks) t (members st (spread l ks) (inner_indent l st.step t) ks) no_pieces)
          → Stands (framed st l (spread l ks) t (members st (spread l ks) (inner_indent l st.step t) ks) (behind st false (is_nil ts) (members st false t ts)))
      alone t nil o i = i
      alone t (part x y us vs) o i = absurd o

-- A source's value, written with blank indents, stands wherever a value may.
pub written_stands : (st : Style) (t : List ℕ) (v : Value) → All Blank st.step → All Blank t → IsOne v → Shaped v free → Shows v → Stands (written st t v)
written_stands st t v b h o s p = (known st b (spelled v)).single t h (one_spelled v o) (shaped_spelled v free s) (spelt v p)
