-- A parser that allows one level more answers the same where less depth suffices, and gets further where it does not. Assumes nothing.
use Rattle.std.proofs.Common.{◌≡◌, ℕ, zero, suc, ◌<◌, ◌≤◌, Bool, true, false, cond, ◌⊎◌, List, [], ◌∷◌, length, sym, refl, ap, ◌∙◌, subst, inl, inr, arith}
use mathlib.Core.Bool.{false≢true}
use Rattle.std.proofs.lemmas.Bool.{cases_lt}
use Rattle.grammar.specs.Parse.{ok, bad, deep, Res, res, map_r, Parser, Class, within, starts, Opening, one_p, bind, seq_p, pick, alt_p, map_p, onto, turn, loop, iter_p}
use Rattle.grammar.specs.Classes.{only, Gap}
use Rattle.grammar.specs.Grammar.{Frame, brackets, braces, closer}
use Rattle.grammar.specs.Pieces.{Pieces, end, box, join, property, Token, comma, colon, name, token, token_byte}
use Rattle.grammar.specs.Reader.{either, or_p, nothing_p, then_p, ahead, after_p, joins, only_leaf, string_p, token_p, trivia_p, scalar_p, open_token, close_token, box_of, end_p, name_p, member_p, item_p, turn_p, items_p, container_p, nested_p, value_p, ValueFirst, text_p}
use Rattle.grammar.proofs.Laws.{Laws, progress}
use Rattle.grammar.proofs.Calm.{rest, Shrinks, shrinks, Progress, NoDeep, Calm, calm_map, calm_alt, calm_string, calm_token, calm_nothing, calm_trivia, calm_scalar}
use Rattle.grammar.proofs.Chars.{NumberMore}
use Rattle.grammar.proofs.Gaps.{TriviaL, trivia_laws, trail}
use Rattle.grammar.proofs.Values.{ValueL, value_laws, some_value, TurnL, turn_laws}

abbrev pub Below : {A : Type 0} → Res A → Res A → Type 0
Below (res (ok a) t) y = y ≡ res (ok a) t
Below (res bad t) y = y ≡ res bad t
Below (res deep t) y = length (rest y) < length t

abbrev pub Under : {A : Type 0} → Parser A → Parser A → Type 0
Under p q = (s : List ℕ) → Below (p s) (q s)

below_same : {A : Type 0} (x : Res A) → NoDeep x → Below x x
below_same (res (ok a) t) h = refl
below_same (res bad t) h = refl
below_same (res deep t) h = absurd h

pub same : {A : Type 0} (p : Parser A) → Calm p → Under p p
same p h s = below_same (p s) (h s)

map_le : {A B : Type 0} (f : A → B) (x : Res A) (n : ℕ) → length (rest x) ≤ n → length (rest (map_r f x)) ≤ n
map_le f (res o t) n h = h

map_lt : {A B : Type 0} (f : A → B) (x : Res A) (n : ℕ) → length (rest x) < n → length (rest (map_r f x)) < n
map_lt f (res o t) n h = h

below_map : {A B : Type 0} (f : A → B) (x y : Res A) → Below x y → Below (map_r f x) (map_r f y)
below_map f (res (ok a) t) y e = ap (map_r f) e
below_map f (res bad t) y e = ap (map_r f) e
below_map f (res deep t) y e = map_lt f y (length t) e

pub under_map : {A B : Type 0} (f : A → B) (p q : Parser A) → Under p q → Under (map_p f p) (map_p f q)
under_map f p q h s = below_map f (p s) (q s) (h s)

rest_bind : {A B : Type 0} (k : Parser B) → Shrinks k → (y : Res A) → length (rest (bind k y)) ≤ length (rest y)
rest_bind k h (res (ok a) t) = map_le (λ b. (a, b)) (k t) (length t) (h t)
rest_bind k h (res bad t) = omega arith
rest_bind k h (res deep t) = omega arith

below_bind : {A B : Type 0} (j k : Parser B) → Under j k → Shrinks k → (x y : Res A) → Below x y → Below (bind j x) (bind k y)
below_bind j k h z (res (ok a) t) y e = subst (λ v. Below (bind j (res (ok a) t)) (bind k v)) (sym e) (below_map (λ b. (a, b)) (j t) (k t) (h t))
below_bind j k h z (res bad t) y e = ap (bind k) e
below_bind j k h z (res deep t) y e = (let m = rest_bind k z y in omega arith)

pub under_seq : {A B : Type 0} (p q : Parser A) (j k : Parser B) → Under p q → Under j k → Shrinks k → Under (seq_p p j) (seq_p q k)
under_seq p q j k h i z s = below_bind j k i z (p s) (q s) (h s)

below_pick : {A B : Type 0} (p q : Parser A) (j k : Parser B) → Under p q → Under j k → (v : Bool) (s : List ℕ) → Below (pick v p j s) (pick v q k s)
below_pick p q j k h i true s = below_map inl (p s) (q s) (h s)
below_pick p q j k h i false s = below_map inr (j s) (k s) (i s)

pub under_alt : {A B : Type 0} (c : Class) (p q : Parser A) (j k : Parser B) → Under p q → Under j k → Under (alt_p c p j) (alt_p c q k)
under_alt c p q j k h i s = below_pick p q j k h i (starts c s) s

pub under_or : {A : Type 0} (c : Class) (p q j k : Parser A) → Under p q → Under j k → Under (or_p c p j) (or_p c q k)
under_or c p q j k h i = under_map either (alt_p c p j) (alt_p c q k) (under_alt c p q j k h i)

-- loops
rest_turn : {A B : Type 0} (k : Parser (List A × B)) → Shrinks k → (y : Res (A ⊎ B)) → length (rest (turn k y)) ≤ length (rest y)
rest_turn k h (res (ok (inl a)) t) = map_le (onto a) (k t) (length t) (h t)
rest_turn k h (res (ok (inr c)) t) = omega arith
rest_turn k h (res bad t) = omega arith
rest_turn k h (res deep t) = omega arith

loop_shrinks : {A B : Type 0} (q : Parser (A ⊎ B)) → Shrinks q → (n : ℕ) → Shrinks (loop n q)
loop_shrinks q h zero s = omega arith
loop_shrinks q h (suc n) s = (let m = rest_turn (loop n q) (loop_shrinks q h n) (q s) in let k = h s in omega arith)

below_turn : {A B : Type 0} (j k : Parser (List A × B)) → Shrinks k → (x y : Res (A ⊎ B)) → ((a : A) (t : List ℕ) → x ≡ res (ok (inl a)) t → Below (j t) (k t)) → Below x y → Below (turn j x) (turn k y)
below_turn j k z (res (ok (inl a)) t) y h e = subst (λ v. Below (turn j (res (ok (inl a)) t)) (turn k v)) (sym e) (below_map (onto a) (j t) (k t) (h a t refl))
below_turn j k z (res (ok (inr c)) t) y h e = ap (turn k) e
below_turn j k z (res bad t) y h e = ap (turn k) e
below_turn j k z (res deep t) y h e = (let m = rest_turn k z y in omega arith)

under_loop : {A B : Type 0} (p q : Parser (A ⊎ B)) → Under p q → Shrinks q → Progress p → (n : ℕ) (s : List ℕ) → length s < n → Below (loop n p s) (loop n q s)
under_loop p q h z g zero s lt = absurd (omega arith)
under_loop p q h z g (suc n) s lt = below_turn (loop n p) (loop n q) (loop_shrinks q z n) (p s) (q s) (λ a t e. (let m = g s a t e in under_loop p q h z g n t (omega arith))) (h s)

pub under_iter : {A B : Type 0} (p q : Parser (A ⊎ B)) → Under p q → Shrinks q → Progress p → Under (iter_p p) (iter_p q)
under_iter p q h z g s = under_loop p q h z g (suc (length s)) s (omega arith)

-- how much the parts of a value leave
shrinks_map : {A B : Type 0} (f : A → B) (p : Parser A) → Shrinks p → Shrinks (map_p f p)
shrinks_map f p h s = map_le f (p s) (length s) (h s)

shrinks_seq : {A B : Type 0} (p : Parser A) (q : Parser B) → Shrinks p → Shrinks q → Shrinks (seq_p p q)
shrinks_seq p q h k s = (let m = rest_bind q k (p s) in let n = h s in omega arith)

shrinks_alt : {A B : Type 0} (c : Class) (p : Parser A) (q : Parser B) → Shrinks p → Shrinks q → Shrinks (alt_p c p q)
shrinks_alt c p q h k s = go (starts c s)
  where
    go : (v : Bool) → length (rest (pick v p q s)) ≤ length s
    go true = shrinks_map inl p h s
    go false = shrinks_map inr q k s

shrinks_one : (c : Class) → Shrinks (one_p c)
shrinks_one c [] = omega arith
shrinks_one c (b ∷ t) = go (within c b)
  where
    go : (v : Bool) → length (rest (cond v (res (ok b) t) (res bad (b ∷ t)))) ≤ length (b ∷ t)
    go true = omega arith
    go false = omega arith

shrinks_trivia : (last : Bool) → Shrinks (trivia_p last)
shrinks_trivia last = shrinks (TriviaL last) (trivia_p last) Gap (λ _. true) trail (trivia_laws last)

shrinks_value : (n : ℕ) → Shrinks (value_p n)
shrinks_value n = shrinks (ValueL n) (value_p n) ValueFirst (λ _. false) (λ _. NumberMore) (value_laws n)

shrinks_token : (m : Token) → Shrinks (token_p m)
shrinks_token m = shrinks_map (λ _. only_leaf (token m)) (one_p (only (token_byte m))) (shrinks_one (only (token_byte m)))

shrinks_then : (p q : Parser Pieces) → Shrinks p → Shrinks q → Shrinks (then_p p q)
shrinks_then p q h k = shrinks_map (λ x. join x.0 x.1) (seq_p p q) (shrinks_seq p q h k)

shrinks_after : (p : Parser Pieces) (q : Parser (Pieces ⊎ Pieces)) → Shrinks p → Shrinks q → Shrinks (after_p p q)
shrinks_after p q h k = shrinks_map (λ x. ahead x.0 x.1) (seq_p p q) (shrinks_seq p q h k)

shrinks_end : (f : Frame) → Shrinks (end_p f)
shrinks_end f = shrinks_alt (only 44) (token_p comma) (token_p (close_token f)) (shrinks_token comma) (shrinks_token (close_token f))

shrinks_turn : (f : Frame) (n : ℕ) → Shrinks (turn_p f (value_p n))
shrinks_turn f n = shrinks (TurnL (ValueL n) f) (turn_p f (value_p n)) _ (λ _. false) (λ _. []) (turn_laws (ValueL n) (value_p n) (value_laws n) _ _ (some_value n) f)

progress_turn : (f : Frame) (n : ℕ) → Progress (turn_p f (value_p n))
progress_turn f n = progress (TurnL (ValueL n) f) (turn_p f (value_p n)) _ (λ _. false) (λ _. []) (turn_laws (ValueL n) (value_p n) (value_laws n) _ _ (some_value n) f) (λ a. refl)

shrinks_items : (f : Frame) (n : ℕ) → Shrinks (items_p f (value_p n))
shrinks_items f n s = shrinks_map (λ x. joins x.0 x.1) (iter_p (turn_p f (value_p n))) (λ t. loop_shrinks (turn_p f (value_p n)) (shrinks_turn f n) (suc (length t)) t) s

-- one level more, from the values inside to the container
under_then : (p q j k : Parser Pieces) → Under p q → Under j k → Shrinks k → Under (then_p p j) (then_p q k)
under_then p q j k h i z = under_map (λ x. join x.0 x.1) (seq_p p j) (seq_p q k) (under_seq p q j k h i z)

under_after : (p q : Parser Pieces) (j k : Parser (Pieces ⊎ Pieces)) → Under p q → Under j k → Shrinks k → Under (after_p p j) (after_p q k)
under_after p q j k h i z = under_map (λ x. ahead x.0 x.1) (seq_p p j) (seq_p q k) (under_seq p q j k h i z)

calm_end : (f : Frame) → Calm (end_p f)
calm_end f = calm_alt (only 44) (token_p comma) (token_p (close_token f)) (calm_token comma) (calm_token (close_token f))

module _ (n : ℕ) (h : Under (value_p n) (value_p (suc n))) where
  under_member : Under (member_p (value_p n)) (member_p (value_p (suc n)))
  under_member =
      let v = value_p n in
      let w = value_p (suc n) in
      let gw : Shrinks (then_p (trivia_p false) w) = shrinks_then (trivia_p false) w (shrinks_trivia false) (shrinks_value (suc n)) in
      let cw : Shrinks (then_p (token_p colon) (then_p (trivia_p false) w)) = shrinks_then (token_p colon) (then_p (trivia_p false) w) (shrinks_token colon) gw in
      let tw : Shrinks (then_p (trivia_p false) (then_p (token_p colon) (then_p (trivia_p false) w))) = shrinks_then (trivia_p false) (then_p (token_p colon) (then_p (trivia_p false) w)) (shrinks_trivia false) cw in
      under_map (λ c. box property c end) (then_p name_p (then_p (trivia_p false) (then_p (token_p colon) (then_p (trivia_p false) v)))) (then_p name_p (then_p (trivia_p false) (then_p (token_p colon) (then_p (trivia_p false) w))))
      (under_then name_p name_p (then_p (trivia_p false) (then_p (token_p colon) (then_p (trivia_p false) v))) (then_p (trivia_p false) (then_p (token_p colon) (then_p (trivia_p false) w))) (same name_p (calm_map (λ t. only_leaf (name t)) string_p calm_string))
      (under_then (trivia_p false) (trivia_p false) (then_p (token_p colon) (then_p (trivia_p false) v)) (then_p (token_p colon) (then_p (trivia_p false) w)) (same (trivia_p false) (calm_trivia false))
      (under_then (token_p colon) (token_p colon) (then_p (trivia_p false) v) (then_p (trivia_p false) w) (same (token_p colon) (calm_token colon))
      (under_then (trivia_p false) (trivia_p false) v w (same (trivia_p false) (calm_trivia false)) h (shrinks_value (suc n))) gw) cw) tw)

  under_item : (f : Frame) → Under (item_p f (value_p n)) (item_p f (value_p (suc n)))
  under_item brackets = h
  under_item braces = under_member

  shrinks_item : (f : Frame) → Shrinks (after_p (item_p f (value_p (suc n))) (after_p (trivia_p false) (end_p f)))
  shrinks_item brackets = shrinks_after (value_p (suc n)) (after_p (trivia_p false) (end_p brackets)) (shrinks_value (suc n)) (shrinks_after (trivia_p false) (end_p brackets) (shrinks_trivia false) (shrinks_end brackets))
  shrinks_item braces = shrinks_after (member_p (value_p (suc n))) (after_p (trivia_p false) (end_p braces))
      (shrinks_map (λ c. box property c end) (then_p name_p (then_p (trivia_p false) (then_p (token_p colon) (then_p (trivia_p false) (value_p (suc n))))))
      (shrinks_then name_p (then_p (trivia_p false) (then_p (token_p colon) (then_p (trivia_p false) (value_p (suc n))))) name_shrinks
      (shrinks_then (trivia_p false) (then_p (token_p colon) (then_p (trivia_p false) (value_p (suc n)))) (shrinks_trivia false)
      (shrinks_then (token_p colon) (then_p (trivia_p false) (value_p (suc n))) (shrinks_token colon) (shrinks_then (trivia_p false) (value_p (suc n)) (shrinks_trivia false) (shrinks_value (suc n)))))))
      (shrinks_after (trivia_p false) (end_p braces) (shrinks_trivia false) (shrinks_end braces))
    where
      name_shrinks : Shrinks name_p
      name_shrinks = shrinks_map (λ t. only_leaf (name t)) string_p (shrinks _ string_p (only 34) (λ _. false) (λ _. []) Rattle.grammar.proofs.Chars.string_laws)

  under_turn : (f : Frame) → Under (turn_p f (value_p n)) (turn_p f (value_p (suc n)))
  under_turn f =
      let close : Parser (Pieces ⊎ Pieces) = map_p inr (token_p (close_token f)) in
      let from : Parser (Pieces ⊎ Pieces) = after_p (item_p f (value_p n)) (after_p (trivia_p false) (end_p f)) in
      let to : Parser (Pieces ⊎ Pieces) = after_p (item_p f (value_p (suc n))) (after_p (trivia_p false) (end_p f)) in
      under_after (trivia_p false) (trivia_p false) (or_p (only (closer f)) close from) (or_p (only (closer f)) close to) (same (trivia_p false) (calm_trivia false))
      (under_or (only (closer f)) close close from to (same close (calm_map inr (token_p (close_token f)) (calm_token (close_token f))))
      (under_after (item_p f (value_p n)) (item_p f (value_p (suc n))) (after_p (trivia_p false) (end_p f)) (after_p (trivia_p false) (end_p f)) (under_item f)
      (under_after (trivia_p false) (trivia_p false) (end_p f) (end_p f) (same (trivia_p false) (calm_trivia false)) (same (end_p f) (calm_end f)) (shrinks_end f))
      (shrinks_after (trivia_p false) (end_p f) (shrinks_trivia false) (shrinks_end f))))
      (shrinks_map either (alt_p (only (closer f)) close to) (shrinks_alt (only (closer f)) close to (shrinks_map inr (token_p (close_token f)) (shrinks_token (close_token f))) (shrinks_item f)))

  under_container : (f : Frame) → Under (container_p f (value_p n)) (container_p f (value_p (suc n)))
  under_container f =
      under_map (λ c. box (box_of f) c end) (then_p (token_p (open_token f)) (items_p f (value_p n))) (then_p (token_p (open_token f)) (items_p f (value_p (suc n))))
      (under_then (token_p (open_token f)) (token_p (open_token f)) (items_p f (value_p n)) (items_p f (value_p (suc n))) (same (token_p (open_token f)) (calm_token (open_token f)))
      (under_map (λ x. joins x.0 x.1) (iter_p (turn_p f (value_p n))) (iter_p (turn_p f (value_p (suc n)))) (under_iter (turn_p f (value_p n)) (turn_p f (value_p (suc n))) (under_turn f) (shrinks_turn f (suc n)) (progress_turn f n)))
      (shrinks_items f (suc n)))

  under_nested : Under (nested_p (suc n)) (nested_p (suc (suc n)))
  under_nested s = under_or (only 91) (container_p brackets (value_p n)) (container_p brackets (value_p (suc n))) (container_p braces (value_p n)) (container_p braces (value_p (suc n))) (under_container brackets) (under_container braces) s

-- a bracket that was too deep is read with one level more
token_at : (m : Token) (b : ℕ) (t : List ℕ) → within (only (token_byte m)) b ≡ true → token_p m (b ∷ t) ≡ res (ok (only_leaf (token m))) t
token_at m b t e = ap (λ v. map_r (λ _. only_leaf (token m)) (cond v (res (ok b) t) (res bad (b ∷ t)))) e

below_suc : (a b : ℕ) → a ≤ b → a < suc b
below_suc a b h = omega arith

open_one : (f : Frame) (n b : ℕ) (t : List ℕ) → within (only (token_byte (open_token f))) b ≡ true → length (rest (container_p f (value_p n) (b ∷ t))) < length (b ∷ t)
open_one f n b t e =
    map_lt (λ c. box (box_of f) c end) (then_p (token_p (open_token f)) (items_p f (value_p n)) (b ∷ t)) (length (b ∷ t))
    (map_lt (λ x. join x.0 x.1) (seq_p (token_p (open_token f)) (items_p f (value_p n)) (b ∷ t)) (length (b ∷ t))
    (subst (λ y. length (rest (bind (items_p f (value_p n)) y)) < length (b ∷ t)) (sym (token_at (open_token f) b t e))
    (map_lt (λ y. (only_leaf (token (open_token f)), y)) (items_p f (value_p n) t) (length (b ∷ t)) (below_suc (length (rest (items_p f (value_p n) t))) (length t) (shrinks_items f n t)))))

open_more : (b : ℕ) (t : List ℕ) → within Opening b ≡ true → length (rest (nested_p 1 (b ∷ t))) < length (b ∷ t)
open_more b t e = go (within (only 91) b) refl
  where
    brace : within (only 91) b ≡ false → within (only 123) b ≡ true
    brace z = elim (Rattle.std.proofs.lemmas.Bool.or_cases (within (only 91) b) (within (only 123) b) (sym (Rattle.grammar.proofs.Laws.within_app (only 91) (only 123) b) ∙ e))
        [ inl y ↦ absurd (false≢true (sym z ∙ y)) | inr y ↦ y ]

    go : (v : Bool) → within (only 91) b ≡ v → length (rest (map_r either (pick v (container_p brackets (value_p 0)) (container_p braces (value_p 0)) (b ∷ t)))) < length (b ∷ t)
    go true z = map_lt either (map_r inl (container_p brackets (value_p 0) (b ∷ t))) (length (b ∷ t)) (map_lt inl (container_p brackets (value_p 0) (b ∷ t)) (length (b ∷ t)) (open_one brackets 0 b t z))
    go false z = map_lt either (map_r inr (container_p braces (value_p 0) (b ∷ t))) (length (b ∷ t)) (map_lt inr (container_p braces (value_p 0) (b ∷ t)) (length (b ∷ t)) (open_one braces 0 b t (brace z)))

flat_up : (s : List ℕ) (v : Bool) → starts Opening s ≡ v → Below (map_r either (pick v (nested_p 0) scalar_p s)) (map_r either (pick v (nested_p 1) scalar_p s))
flat_up [] true e = absurd (false≢true e)
flat_up (b ∷ t) true e = map_lt either (map_r inl (nested_p 1 (b ∷ t))) (length (b ∷ t)) (map_lt inl (nested_p 1 (b ∷ t)) (length (b ∷ t)) (open_more b t e))
flat_up s false e = below_map either (map_r inr (scalar_p s)) (map_r inr (scalar_p s)) (below_map inr (scalar_p s) (scalar_p s) (same scalar_p calm_scalar s))

pub value_up : (n : ℕ) → Under (value_p n) (value_p (suc n))
value_up zero s = flat_up s (starts Opening s) refl
value_up (suc n) s = under_or Opening (nested_p (suc n)) (nested_p (suc (suc n))) scalar_p scalar_p (under_nested n (value_up n)) (same scalar_p calm_scalar) s

pub text_up : (n : ℕ) → Under (text_p n) (text_p (suc n))
text_up n =
    let p = then_p (value_p n) (trivia_p true) in
    let q = then_p (value_p (suc n)) (trivia_p true) in
    under_then (trivia_p true) (trivia_p true) (or_p ValueFirst p nothing_p) (or_p ValueFirst q nothing_p) (same (trivia_p true) (calm_trivia true))
    (under_or ValueFirst p q nothing_p nothing_p (under_then (value_p n) (value_p (suc n)) (trivia_p true) (trivia_p true) (value_up n) (same (trivia_p true) (calm_trivia true)) (shrinks_trivia true)) (same nothing_p calm_nothing))
    (shrinks_map either (alt_p ValueFirst q nothing_p) (shrinks_alt ValueFirst q nothing_p (shrinks_then (value_p (suc n)) (trivia_p true) (shrinks_value (suc n)) (shrinks_trivia true)) (λ s. omega arith)))

below_trans : {A : Type 0} (x y z : Res A) → Below x y → Below y z → Below x z
below_trans (res (ok a) t) y z e f = subst (λ v. Below v z) e f
below_trans (res bad t) y z e f = subst (λ v. Below v z) e f
below_trans (res deep t) (res (ok a) r) z e f = subst (λ v. length (rest v) < length t) (sym f) e
below_trans (res deep t) (res bad r) z e f = subst (λ v. length (rest v) < length t) (sym f) e
below_trans (res deep t) (res deep r) z e f = omega arith

-- along a family
pub under_far : {A : Type 0} (p : ℕ → Parser A) → ((n : ℕ) → Under (p n) (p (suc n))) → (n m : ℕ) → n < m → Under (p n) (p m)
under_far p h n zero lt s = absurd (omega arith)
under_far p h n (suc m) lt s =
    elim (cases_lt n m) [
      | inl l ↦ below_trans (p n s) (p m s) (p (suc m) s) (under_far p h n m l s) (h m s)
      | inr ge ↦ (let e : n ≡ m = omega arith in subst (λ k. Below (p n s) (p (suc k) s)) e (h n s))
    ]
