-- Values: the laws of their parsers, by depth. Assumes nothing.
use Rattle.std.proofs.Common.{◌≡◌, ℕ, zero, suc, Bool, true, false, cond, ◌&&◌, leb, ◌⊎◌, List, [], ◌∷◌, ◌++◌, sym, refl, ap, ◌∙◌, subst, inl, inr, arith}
use mathlib.Core.Bool.{false≢true}
use Rattle.std.proofs.lemmas.Bool.{le-leb, and_from, or_left}
use Rattle.grammar.specs.Parse.{Out, ok, bad, deep, Res, res, map_o, map_r, Lang, Parser, Class, within, starts, Free, Opening, one_l, one_p, seq_l, seq_p, alt_l, pick, map_l, map_p, iter_l, iter_p}
use Rattle.grammar.specs.Classes.{only, Gap, ScalarFirst}
use Rattle.grammar.specs.Grammar.{Number, Frame, brackets, braces, opener, closer, number, plus, whole, plain, zero as zero_int}
use Rattle.grammar.specs.Pieces.{Token, comma, colon, Leaf, null, boolean, string, name, token, number as numeral, property, Pieces, end, leaf, box, join, token_byte}
use Rattle.grammar.specs.Reader.{either, or_p, word_p, string_p, number_p, then_p, ahead, after_p, joins, only_leaf, token_p, trivia_p, string_leaf_p, number_leaf_p, literal_p, null_p, true_p, false_p, scalar_p, open_token, close_token, box_of, end_p, name_p, member_p, item_p, turn_p, items_p, container_p, nested_p, value_p, ValueFirst}
use Rattle.grammar.proofs.Laws.{Laws, Means, Says, Again, Halts, halts_map, says_map, apart, free_left, free_right, free_none, free_both, one_laws, conv_laws, map_laws, wide_laws, first_laws, seq_laws, choice_laws, alt_laws, iter_laws, starts_same, covers_ok}
use Rattle.grammar.proofs.Bytes.{Of, ByteLaws, is_only, word_laws}
use Rattle.grammar.proofs.Chars.{NumberFirst, NumberMore, number_laws, Quoted, string_laws}
use Rattle.grammar.proofs.Gaps.{TriviaL, inner_laws}

pub within_only : (b : ℕ) → within (only b) b ≡ true
within_only b = or_left (leb b b && leb b b) false (and_from (leb b b) (leb b b) (le-leb b b (omega arith)) (le-leb b b (omega arith)))

-- one behind the other, with one class behind each
pub pair_laws : {A B C : Type 0} (op : A × B → C) (L : Lang A) (M : Lang B) (p : Parser A) (q : Parser B) (f g : Class) (nl ml : Bool) (E F : Class) → Laws L p f (λ _. nl) (λ _. E) → Laws M q g (λ _. ml) (λ _. F) → apart g E ≡ true → (c : B) (v : List ℕ) → M c v → Laws (map_l op (seq_l L M)) (map_p op (seq_p p q)) (f ++ cond nl g []) (λ _. nl && ml) (λ _. F ++ cond ml E [])
pair_laws op L M p q f g nl ml E F h k d c v z =
    map_laws op (seq_l L M) (seq_p p q) (f ++ cond nl g []) (λ _. nl && ml) (λ _. F ++ cond ml E [])
    (seq_laws L p f (λ _. nl) (λ _. E) h M q g (λ _. ml) (λ _. F) k nl (λ a e. e) (λ a. d) c v z)
    (λ _. nl && ml) (λ _. F ++ cond ml E []) (λ a e. e) (λ a u t l y. y)

abbrev pub JoinL : Lang Pieces → Lang Pieces → Lang Pieces
JoinL L M = map_l (λ x. join x.0 x.1) (seq_l L M)

abbrev pub AheadL : Lang Pieces → Lang (Pieces ⊎ Pieces) → Lang (Pieces ⊎ Pieces)
AheadL L M = map_l (λ x. ahead x.0 x.1) (seq_l L M)

-- a larger constant class behind
pub const_laws : {A : Type 0} (L : Lang A) (p : Parser A) (f : Class) (nl : Bool) (E F : Class) → Laws L p f (λ _. nl) (λ _. E) → ((t : List ℕ) → Free F t → Free E t) → Laws L p f (λ _. nl) (λ _. F)
const_laws L p f nl E F h z = wide_laws L p f (λ _. nl) (λ _. nl) (λ _. E) (λ _. F) h (λ a e. e) (λ a u t l. z t)

-- tokens
abbrev pub TokenL : Token → Lang Pieces
TokenL m a u = (a ≡ only_leaf (token m)) × (u ≡ token_byte m ∷ [])

pub token_laws : (m : Token) → Laws (TokenL m) (token_p m) (only (token_byte m)) (λ _. false) (λ _. [])
token_laws m = conv_laws (λ _. only_leaf (token m)) (one_l (only (token_byte m))) (TokenL m) (one_p (only (token_byte m))) (only (token_byte m)) (λ _. false) (λ _. []) (one_laws (only (token_byte m)) (token_byte m) (within_only (token_byte m)))
    (λ b u l. (refl, l.0 ∙ ap (λ y. y ∷ []) (is_only (token_byte m) b l.1))) (λ a u l. (token_byte m, sym l.0, (l.1, within_only (token_byte m)))) (λ _. false) (λ _. []) (λ a e. e) (λ b u t l f. f)

-- leaves with bytes
abbrev pub LeafL : (List ℕ → Leaf) → (List ℕ → Type 0) → Lang Pieces
LeafL k P a u = (a ≡ only_leaf (k u)) × P u

leaf_laws : (k : List ℕ → Leaf) (P : List ℕ → Type 0) (p : Parser (List ℕ)) (f E : Class) → ByteLaws P p f false E → Laws (LeafL k P) (map_p (λ t. only_leaf (k t)) p) f (λ _. false) (λ _. E)
leaf_laws k P p f E h = conv_laws (λ t. only_leaf (k t)) (Of P) (LeafL k P) p f (λ _. false) (λ _. E) h
    (λ t u l. (ap (λ y. only_leaf (k y)) l.0, l.1)) (λ a u l. (u, sym l.0, (refl, l.1))) (λ _. false) (λ _. E) (λ a e. e) (λ a u t l f. f)

abbrev pub WordL : Leaf → List ℕ → Lang Pieces
WordL x w a u = (a ≡ only_leaf x) × (u ≡ w)

literal_laws : (x : Leaf) (b : ℕ) (w : List ℕ) → Laws (WordL x (b ∷ w)) (literal_p x (b ∷ w)) (only b) (λ _. false) (λ _. [])
literal_laws x b w = conv_laws (λ _. only_leaf x) (Of (λ u. u ≡ b ∷ w)) (WordL x (b ∷ w)) (word_p (b ∷ w)) (only b) (λ _. false) (λ _. []) (word_laws b w (within_only b) within_only)
    (λ t u l. (refl, l.1)) (λ a u l. (u, sym l.0, (refl, l.1))) (λ _. false) (λ _. []) (λ a e. e) (λ a u t l f. f)

-- values that are no containers
abbrev pub StringL : Lang Pieces
StringL = LeafL string Quoted

abbrev pub NumberL : Lang Pieces
NumberL = LeafL numeral Number

abbrev pub NullL : Lang Pieces
NullL = WordL null (110 ∷ 117 ∷ 108 ∷ 108 ∷ [])

abbrev pub TrueL : Lang Pieces
TrueL = WordL (boolean true) (116 ∷ 114 ∷ 117 ∷ 101 ∷ [])

abbrev pub FalseL : Lang Pieces
FalseL = WordL (boolean false) (102 ∷ 97 ∷ 108 ∷ 115 ∷ 101 ∷ [])

abbrev pub ScalarL : Lang Pieces
ScalarL a u = StringL a u ⊎ (NullL a u ⊎ (TrueL a u ⊎ (FalseL a u ⊎ NumberL a u)))

never : (M : Lang Pieces) (f : Class) (b : Pieces) (u t : List ℕ) → M b u → false ≡ true → Free NumberMore t → Free f t
never M f b u t l e x = absurd (false≢true e)

more : (L : Lang Pieces) (p : Parser Pieces) (f : Class) → Laws L p f (λ _. false) (λ _. []) → Laws L p f (λ _. false) (λ _. NumberMore)
more L p f h = const_laws L p f false [] NumberMore h (λ t x. free_none t)

scalar_laws : Laws ScalarL scalar_p ScalarFirst (λ _. false) (λ _. NumberMore)
scalar_laws =
    let L4 : Lang Pieces = λ a u. FalseL a u ⊎ NumberL a u in
    let L3 : Lang Pieces = λ a u. TrueL a u ⊎ L4 a u in
    let L2 : Lang Pieces = λ a u. NullL a u ⊎ L3 a u in
    let p4 : Parser Pieces = or_p (only 102) false_p number_leaf_p in
    let p3 : Parser Pieces = or_p (only 116) true_p p4 in
    let p2 : Parser Pieces = or_p (only 110) null_p p3 in
    let h4 : Laws L4 p4 (only 102 ++ NumberFirst) (λ _. false) (λ _. NumberMore) = choice_laws FalseL NumberL false_p number_leaf_p (only 102) NumberFirst (λ _. false) (λ _. NumberMore) (more FalseL false_p (only 102) (literal_laws (boolean false) 102 (97 ∷ 108 ∷ 115 ∷ 101 ∷ []))) (leaf_laws numeral Number number_p NumberFirst NumberMore number_laws) refl (never NumberL (only 102)) in
    let h3 : Laws L3 p3 (only 116 ++ (only 102 ++ NumberFirst)) (λ _. false) (λ _. NumberMore) = choice_laws TrueL L4 true_p p4 (only 116) (only 102 ++ NumberFirst) (λ _. false) (λ _. NumberMore) (more TrueL true_p (only 116) (literal_laws (boolean true) 116 (114 ∷ 117 ∷ 101 ∷ []))) h4 refl (never L4 (only 116)) in
    let h2 : Laws L2 p2 (only 110 ++ (only 116 ++ (only 102 ++ NumberFirst))) (λ _. false) (λ _. NumberMore) = choice_laws NullL L3 null_p p3 (only 110) (only 116 ++ (only 102 ++ NumberFirst)) (λ _. false) (λ _. NumberMore) (more NullL null_p (only 110) (literal_laws null 110 (117 ∷ 108 ∷ 108 ∷ []))) h3 refl (never L3 (only 110)) in
    first_laws ScalarL scalar_p (only 34 ++ (only 110 ++ (only 116 ++ (only 102 ++ NumberFirst)))) ScalarFirst (λ _. false) (λ _. NumberMore)
    (choice_laws StringL L2 string_leaf_p p2 (only 34) (only 110 ++ (only 116 ++ (only 102 ++ NumberFirst))) (λ _. false) (λ _. NumberMore) (more StringL string_leaf_p (only 34) (leaf_laws string Quoted string_p (only 34) [] string_laws)) h2 refl (never L2 (only 34)))
    refl

-- a value, given those inside it
abbrev pub ValueOf : Lang Pieces → Lang Pieces
ValueOf N a u = N a u ⊎ ScalarL a u

abbrev pub ValueLaws : Lang Pieces → Parser Pieces → Type 0
ValueLaws V v = Laws V v ValueFirst (λ _. false) (λ _. NumberMore)

-- the languages of a container's parts, given the values inside it
abbrev pub NameL : Lang Pieces
NameL = LeafL name Quoted

-- what ends an item
abbrev pub EndL : Frame → Lang (Pieces ⊎ Pieces)
EndL f = alt_l (TokenL comma) (TokenL (close_token f))

abbrev pub AfterItemL : Frame → Lang (Pieces ⊎ Pieces)
AfterItemL f = AheadL (TriviaL false) (EndL f)

abbrev pub CloseL : Frame → Lang (Pieces ⊎ Pieces)
CloseL f = map_l inr (TokenL (close_token f))

-- a property
abbrev pub InsideL : Lang Pieces → Lang Pieces
InsideL V = JoinL NameL (JoinL (TriviaL false) (JoinL (TokenL colon) (JoinL (TriviaL false) V)))

abbrev pub MemberL : Lang Pieces → Lang Pieces
MemberL V = map_l (λ c. box property c end) (InsideL V)

-- an item of a container
abbrev pub ItemL : Lang Pieces → Frame → Lang Pieces
ItemL V brackets = V
ItemL V braces = MemberL V

abbrev pub FromItemL : Lang Pieces → Frame → Lang (Pieces ⊎ Pieces)
FromItemL V f = AheadL (ItemL V f) (AfterItemL f)

abbrev pub TurnL : Lang Pieces → Frame → Lang (Pieces ⊎ Pieces)
TurnL V f = AheadL (TriviaL false) (λ x u. CloseL f x u ⊎ FromItemL V f x u)

abbrev pub ItemsL : Lang Pieces → Frame → Lang Pieces
ItemsL V f = map_l (λ x. joins x.0 x.1) (iter_l (TurnL V f) (λ _. []))

-- an array or an object
abbrev pub ContainerL : Lang Pieces → Frame → Lang Pieces
ContainerL V f = map_l (λ c. box (box_of f) c end) (JoinL (TokenL (open_token f)) (ItemsL V f))

abbrev pub BothL : Lang Pieces → Lang Pieces
BothL V a u = ContainerL V brackets a u ⊎ ContainerL V braces a u

module _ (V : Lang Pieces) (v : Parser Pieces) (h : ValueLaws V v) (c : Pieces) (w : List ℕ) (z : V c w) where
  no_trivia : TriviaL false end []
  no_trivia = (([], end), refl, inr (refl, refl))

  after_colon : Laws (JoinL (TriviaL false) V) (then_p (trivia_p false) v) (Gap ++ ValueFirst) (λ _. false) (λ _. NumberMore)
  after_colon = pair_laws (λ x. join x.0 x.1) (TriviaL false) V (trivia_p false) v Gap ValueFirst true false Gap NumberMore inner_laws h refl c w z

  from_colon : Laws (JoinL (TokenL colon) (JoinL (TriviaL false) V)) (then_p (token_p colon) (then_p (trivia_p false) v)) (only 58) (λ _. false) (λ _. NumberMore)
  from_colon = pair_laws (λ x. join x.0 x.1) (TokenL colon) (JoinL (TriviaL false) V) (token_p colon) (then_p (trivia_p false) v) (only 58) (Gap ++ ValueFirst) false false [] NumberMore (token_laws colon) after_colon refl
      c w ((end, c), refl, ([], w, refl, no_trivia, z))

  after_name : Laws (JoinL (TriviaL false) (JoinL (TokenL colon) (JoinL (TriviaL false) V))) (then_p (trivia_p false) (then_p (token_p colon) (then_p (trivia_p false) v))) (Gap ++ only 58) (λ _. false) (λ _. NumberMore)
  after_name = pair_laws (λ x. join x.0 x.1) (TriviaL false) (JoinL (TokenL colon) (JoinL (TriviaL false) V)) (trivia_p false) (then_p (token_p colon) (then_p (trivia_p false) v)) Gap (only 58) true false Gap NumberMore inner_laws from_colon refl
      (leaf (token colon) c) (58 ∷ w) ((only_leaf (token colon), c), refl, (58 ∷ [], w, refl, (refl, refl), ((end, c), refl, ([], w, refl, no_trivia, z))))

  pub member_laws : Laws (MemberL V) (member_p v) (only 34) (λ _. false) (λ _. NumberMore)
  member_laws = map_laws (λ c. box property c end) (InsideL V) (then_p name_p (then_p (trivia_p false) (then_p (token_p colon) (then_p (trivia_p false) v)))) (only 34) (λ _. false) (λ _. NumberMore)
      (pair_laws (λ x. join x.0 x.1) NameL (JoinL (TriviaL false) (JoinL (TokenL colon) (JoinL (TriviaL false) V))) name_p (then_p (trivia_p false) (then_p (token_p colon) (then_p (trivia_p false) v))) (only 34) (Gap ++ only 58) false false [] NumberMore (leaf_laws name Quoted string_p (only 34) [] string_laws) after_name refl
      (leaf (token colon) c) (58 ∷ w) ((end, leaf (token colon) c), refl, ([], 58 ∷ w, refl, no_trivia, ((only_leaf (token colon), c), refl, (58 ∷ [], w, refl, (refl, refl), ((end, c), refl, ([], w, refl, no_trivia, z)))))))
      (λ _. false) (λ _. NumberMore) (λ a e. e) (λ a u t l f. f)

  abbrev pub item_first : Frame → Class
  item_first brackets = ValueFirst
  item_first braces = only 34

  item_laws : (f : Frame) → Laws (ItemL V f) (item_p f v) (item_first f) (λ _. false) (λ _. NumberMore)
  item_laws brackets = h
  item_laws braces = member_laws

  closes : (f : Frame) → only (token_byte (close_token f)) ≡ only (closer f)
  closes brackets = refl
  closes braces = refl

  close_laws : (f : Frame) → Laws (TokenL (close_token f)) (token_p (close_token f)) (only (closer f)) (λ _. false) (λ _. [])
  close_laws f = subst (λ y. Laws (TokenL (close_token f)) (token_p (close_token f)) y (λ _. false) (λ _. [])) (closes f) (token_laws (close_token f))

  close_apart : (f : Frame) → apart (only (closer f)) (only 44) ≡ true
  close_apart brackets = refl
  close_apart braces = refl

  end_laws : (f : Frame) → Laws (EndL f) (end_p f) (only 44 ++ only (closer f)) (λ _. false) (λ _. [])
  end_laws f = wide_laws (EndL f) (end_p f) (only 44 ++ only (closer f)) _ (λ _. false) _ (λ _. [])
      (alt_laws (TokenL comma) (token_p comma) (only 44) (λ _. false) (λ _. []) (token_laws comma) (TokenL (close_token f)) (token_p (close_token f)) (only (closer f)) (λ _. false) (λ _. []) (close_laws f) (λ a. refl) (close_apart f)) nul (λ a u t l x. free a t)
    where
      nul : (x : Pieces ⊎ Pieces) → Rattle.grammar.proofs.Laws.alt_null (TokenL comma) (token_p comma) (only 44) (λ _. false) (λ _. []) (token_laws comma) (TokenL (close_token f)) (token_p (close_token f)) (only (closer f)) (λ _. false) (λ _. []) (close_laws f) x ≡ true → false ≡ true
      nul (inl a) e = e
      nul (inr a) e = e

      free : (x : Pieces ⊎ Pieces) (t : List ℕ) → Free (Rattle.grammar.proofs.Laws.alt_ext (TokenL comma) (token_p comma) (only 44) (λ _. false) (λ _. []) (token_laws comma) (TokenL (close_token f)) (token_p (close_token f)) (only (closer f)) (λ _. false) (λ _. []) (close_laws f) x) t
      free (inl a) t = free_none t
      free (inr a) t = free_none t

  some_end : (f : Frame) → EndL f (inr (only_leaf (token (close_token f)))) (token_byte (close_token f) ∷ [])
  some_end f = (refl, refl)

  -- the classes of brackets and items do not meet
  end_apart : (f : Frame) → apart (only 44 ++ only (closer f)) Gap ≡ true
  end_apart brackets = refl
  end_apart braces = refl

  item_apart : (f : Frame) → apart (Gap ++ (only 44 ++ only (closer f))) NumberMore ≡ true
  item_apart brackets = refl
  item_apart braces = refl

  first_apart : (f : Frame) → apart (item_first f ++ []) (only (closer f)) ≡ true
  first_apart brackets = refl
  first_apart braces = refl

  turn_apart : (f : Frame) → apart (only (closer f) ++ (item_first f ++ [])) Gap ≡ true
  turn_apart brackets = refl
  turn_apart braces = refl

  after_item : (f : Frame) → Laws (AfterItemL f) (after_p (trivia_p false) (end_p f)) (Gap ++ (only 44 ++ only (closer f))) (λ _. false) (λ _. [])
  after_item f = pair_laws (λ x. ahead x.0 x.1) (TriviaL false) (EndL f) (trivia_p false) (end_p f) Gap (only 44 ++ only (closer f)) true false Gap [] inner_laws (end_laws f) (end_apart f)
      (inr (only_leaf (token (close_token f)))) (token_byte (close_token f) ∷ []) (some_end f)

  some_after : (f : Frame) → AfterItemL f (inr (only_leaf (token (close_token f)))) (token_byte (close_token f) ∷ [])
  some_after f = ((end, inr (only_leaf (token (close_token f)))), refl, ([], token_byte (close_token f) ∷ [], refl, no_trivia, some_end f))

  from_item : (f : Frame) → Laws (FromItemL V f) (after_p (item_p f v) (after_p (trivia_p false) (end_p f))) (item_first f ++ []) (λ _. false) (λ _. [])
  from_item f = pair_laws (λ x. ahead x.0 x.1) (ItemL V f) (AfterItemL f) (item_p f v) (after_p (trivia_p false) (end_p f)) (item_first f) (Gap ++ (only 44 ++ only (closer f))) false false NumberMore [] (item_laws f) (after_item f) (item_apart f)
      (inr (only_leaf (token (close_token f)))) (token_byte (close_token f) ∷ []) (some_after f)

  shut_laws : (f : Frame) → Laws (CloseL f) (map_p inr (token_p (close_token f))) (only (closer f)) (λ _. false) (λ _. [])
  shut_laws f = map_laws inr (TokenL (close_token f)) (token_p (close_token f)) (only (closer f)) (λ _. false) (λ _. []) (close_laws f) (λ _. false) (λ _. []) (λ a e. e) (λ a u t l x. x)

  pub turn_laws : (f : Frame) → Laws (TurnL V f) (turn_p f v) (Gap ++ (only (closer f) ++ (item_first f ++ []))) (λ _. false) (λ _. [])
  turn_laws f = pair_laws (λ x. ahead x.0 x.1) (TriviaL false) (λ x u. CloseL f x u ⊎ FromItemL V f x u) (trivia_p false) (or_p (only (closer f)) (map_p inr (token_p (close_token f))) (after_p (item_p f v) (after_p (trivia_p false) (end_p f)))) Gap (only (closer f) ++ (item_first f ++ [])) true false Gap [] inner_laws
      (choice_laws (CloseL f) (FromItemL V f) (map_p inr (token_p (close_token f))) (after_p (item_p f v) (after_p (trivia_p false) (end_p f))) (only (closer f)) (item_first f ++ []) (λ _. false) (λ _. []) (shut_laws f) (from_item f) (first_apart f) (λ b u t l e x. absurd (false≢true e)))
      (turn_apart f) (inr (only_leaf (token (close_token f)))) (token_byte (close_token f) ∷ []) (inl (only_leaf (token (close_token f)), refl, (refl, refl)))

  some_items : (f : Frame) → TurnL V f (inr (only_leaf (token (close_token f)))) (token_byte (close_token f) ∷ [])
  some_items f = ((end, inr (only_leaf (token (close_token f)))), refl, ([], token_byte (close_token f) ∷ [], refl, no_trivia, inl (only_leaf (token (close_token f)), refl, (refl, refl))))

  items_laws : (f : Frame) → Laws (ItemsL V f) (items_p f v) (Gap ++ (only (closer f) ++ (item_first f ++ []))) (λ _. false) (λ _. [])
  items_laws f = map_laws (λ x. joins x.0 x.1) (iter_l (TurnL V f) (λ _. [])) (iter_p (turn_p f v)) (Gap ++ (only (closer f) ++ (item_first f ++ []))) (λ _. false) (λ _. [])
      (iter_laws (TurnL V f) (turn_p f v) (Gap ++ (only (closer f) ++ (item_first f ++ []))) (λ _. false) (λ _. []) (turn_laws f) (λ a. refl) [] (λ a t x. x) (λ s a t e. free_none t) (only_leaf (token (close_token f))) (token_byte (close_token f) ∷ []) (some_items f) (λ a. free_none (token_byte (close_token f) ∷ [])))
      (λ _. false) (λ _. []) (λ a e. e) (λ a u t l x. x)

  open_none : (f : Frame) → apart (Gap ++ (only (closer f) ++ (item_first f ++ []))) [] ≡ true
  open_none brackets = refl
  open_none braces = refl

  opens : (f : Frame) → only (token_byte (open_token f)) ++ [] ≡ only (opener f)
  opens brackets = refl
  opens braces = refl

  container_laws : (f : Frame) → Laws (ContainerL V f) (container_p f v) (only (opener f)) (λ _. false) (λ _. [])
  container_laws f = subst (λ y. Laws (ContainerL V f) (container_p f v) y (λ _. false) (λ _. [])) (opens f)
      (map_laws (λ c. box (box_of f) c end) (JoinL (TokenL (open_token f)) (ItemsL V f)) (then_p (token_p (open_token f)) (items_p f v)) (only (token_byte (open_token f)) ++ []) (λ _. false) (λ _. [])
      (pair_laws (λ x. join x.0 x.1) (TokenL (open_token f)) (ItemsL V f) (token_p (open_token f)) (items_p f v) (only (token_byte (open_token f))) (Gap ++ (only (closer f) ++ (item_first f ++ []))) false false [] [] (token_laws (open_token f)) (items_laws f) (open_none f)
      (only_leaf (token (close_token f))) (token_byte (close_token f) ∷ []) (([], only_leaf (token (close_token f))), refl, some_items f))
      (λ _. false) (λ _. []) (λ a e. e) (λ a u t l x. x))

  pub both_laws : Laws (BothL V) (or_p (only 91) (container_p brackets v) (container_p braces v)) Opening (λ _. false) (λ _. NumberMore)
  both_laws = more (BothL V) (or_p (only 91) (container_p brackets v) (container_p braces v)) Opening
      (choice_laws (ContainerL V brackets) (ContainerL V braces) (container_p brackets v) (container_p braces v) (only 91) (only 123) (λ _. false) (λ _. []) (container_laws brackets) (container_laws braces) refl (λ b u t l e x. absurd (false≢true e)))

-- a value at which no level is left: a bracket is too deep
abbrev pub NestedL : ℕ → Lang Pieces
NestedL zero a u = ⊥
NestedL (suc n) a u = BothL (ValueOf (NestedL n)) a u

-- a value that nests at most n deep, as pieces
abbrev pub ValueL : ℕ → Lang Pieces
ValueL n = ValueOf (NestedL n)

nought : ScalarL (only_leaf (numeral (48 ∷ []))) (48 ∷ [])
nought = inr (inr (inr (inr (refl, number {m = []} {i = 48 ∷ []} {f = []} {e = []} plus zero_int whole plain))))

flat_deep : (s : List ℕ) → starts Opening s ≡ true → Means (ValueL 0) (value_p 0) s (res deep s)
flat_deep s e = ([], refl, (48 ∷ [], only_leaf (numeral (48 ∷ [])), inr nought), ag s e, e)
  where
    ag : (s : List ℕ) → starts Opening s ≡ true → Again (value_p 0) [] deep s
    ag [] e = tt
    ag (b ∷ t) e = λ w. ap (λ v. map_r either (pick v (nested_p 0) scalar_p (b ∷ w))) e

flat_scalar : (s : List ℕ) → starts Opening s ≡ false → (x : Res Pieces) → Means ScalarL scalar_p s x → Means (ValueL 0) (value_p 0) s (map_r either (map_r inr x))
flat_scalar s e (res o t) m = (m.0, m.1, says o m.2, ag t m.1 m.3, halts o m.4)
  where
    says : (o : Out Pieces) → Says ScalarL m.0 o → Says (ValueL 0) m.0 (map_o either (map_o inr o))
    says (ok a) l = inr l
    says bad l = (l.0, l.1, inr l.2)
    says deep l = (l.0, l.1, inr l.2)

    halts : (o : Out Pieces) → Halts o t → Halts (map_o either (map_o inr o)) t
    halts (ok a) l = tt
    halts bad l = tt
    halts deep l = l

    ag : (t : List ℕ) → s ≡ m.0 ++ t → Again scalar_p m.0 o t → Again (value_p 0) m.0 (map_o either (map_o inr o)) t
    ag [] f z = tt
    ag (b ∷ t) f z = λ w.
        ap (λ y. map_r either (pick y (nested_p 0) scalar_p (m.0 ++ b ∷ w))) (starts_same Opening m.0 b w t ∙ ap (starts Opening) (sym f) ∙ e) ∙ ap (λ y. map_r either (map_r inr y)) (z w)

flat_means : (s : List ℕ) (v : Bool) → starts Opening s ≡ v → Means (ValueL 0) (value_p 0) s (map_r either (pick v (nested_p 0) scalar_p s))
flat_means s true e = flat_deep s e
flat_means s false e = flat_scalar s e (scalar_p s) (scalar_laws.means s)

flat_complete : (a : Pieces) (u t : List ℕ) → ScalarL a u → Free NumberMore t → value_p 0 (u ++ t) ≡ res (ok a) t
flat_complete a [] t l f = absurd (false≢true (scalar_laws.null_ok a l))
flat_complete a (b ∷ u) t l f =
    ap (λ y. map_r either (pick y (nested_p 0) scalar_p (b ∷ (u ++ t)))) (Rattle.grammar.proofs.Laws.apart_ok ScalarFirst Opening refl b (scalar_laws.first_ok a b u l))
    ∙ ap (λ y. map_r either (map_r inr y)) (scalar_laws.complete a (b ∷ u) t l f)

flat_laws : Laws (ValueL 0) (value_p 0) ValueFirst (λ _. false) (λ _. NumberMore)
flat_laws = record { first_ok = first; null_ok = nul; means = λ s. flat_means s (starts Opening s) refl; complete = comp }
  where
    first : (a : Pieces) (b : ℕ) (u : List ℕ) → ValueL 0 a (b ∷ u) → within ValueFirst b ≡ true
    first a b u (inl l) = absurd l
    first a b u (inr l) = covers_ok ValueFirst ScalarFirst refl b (scalar_laws.first_ok a b u l)

    nul : (a : Pieces) → ValueL 0 a [] → false ≡ true
    nul a (inl l) = absurd l
    nul a (inr l) = scalar_laws.null_ok a l

    comp : (a : Pieces) (u t : List ℕ) → ValueL 0 a u → Free NumberMore t → value_p 0 (u ++ t) ≡ res (ok a) t
    comp a u t (inl l) f = absurd l
    comp a u t (inr l) f = flat_complete a u t l f

pub some_value : (n : ℕ) → ValueL n (only_leaf (numeral (48 ∷ []))) (48 ∷ [])
some_value n = inr nought

nested_laws : (n : ℕ) → ValueLaws (ValueL n) (value_p n) → Laws (NestedL (suc n)) (nested_p (suc n)) Opening (λ _. false) (λ _. NumberMore)
nested_laws n h = both_laws (ValueL n) (value_p n) h (only_leaf (numeral (48 ∷ []))) (48 ∷ []) (some_value n)

pub value_laws : (n : ℕ) → Laws (ValueL n) (value_p n) ValueFirst (λ _. false) (λ _. NumberMore)
value_laws zero = flat_laws
value_laws (suc n) = choice_laws (NestedL (suc n)) ScalarL (nested_p (suc n)) scalar_p Opening ScalarFirst (λ _. false) (λ _. NumberMore) (nested_laws n (value_laws n)) scalar_laws refl (never ScalarL Opening)
