-- Containers, values and whole texts. Assumes nothing.
use Rattle.std.proofs.Common.{◌≡◌, ℕ, zero, suc, ◌-◌, Bool, true, false, ◌⊎◌, List, [], ◌∷◌, ◌++◌, Ok, Err, Break, sym, refl, ap, ◌∙◌, subst, inr, arith}
use Rattle.std.specs.Borrow.{Bor}
use Rattle.grammar.specs.Parse.{map_r, Parser, starts, map_p}
use Rattle.grammar.specs.Classes.{only}
use Rattle.grammar.specs.Grammar.{Frame, brackets, braces, closer}
use Rattle.grammar.specs.Pieces.{Token, Box, property, Pieces, end, box, token_byte}
use Rattle.grammar.specs.Reader.{or_p, then_p, after_p, nothing_p, token_p, trivia_p, open_token, close_token, box_of, end_p, member_p, item_p, turn_p, items_p, container_p, nested_p, value_p, ValueFirst, text_p}
use Rattle.grammar.proofs.Sentences.{close_byte}
use Rattle.text.specs.declared.fault.Fault.{Fault}
use Rattle.text.specs.declared.fault.Fault.TheVariants.{Deep}
use Rattle.text.specs.Events.{Event, Enter, Leave, events}
use Rattle.text.specs.Reports.{Rest, Step, Stops, Makes, Turns, Leads, labelled}
use Rattle.text.proofs.Telling as telling
use Rattle.text.proofs.Telling.{stops_map, stops_then, stops_after}

pub nested_deep : (s : List ℕ) (n : ℕ) → n ≡ 0 → Stops (nested_p n) s Deep
nested_deep s zero z = (s, refl)
nested_deep s (suc n) z = absurd (omega arith)

module _ {S : Type 0} (after : S → List Event → S → Type 0) (idle : (a : S) → after a [] a) (joined : (a b c : S) (x y : List Event) → after a x b → after b y c → after a (x ++ y) c) (s : List ℕ) (a : S) where
  -- what is told between the beginning of a container and its end
  box_made : (k : Box) (p : Parser Pieces) (b : S) → after a (Enter k ∷ []) b → (t : Bor (List ℕ)) (c : S) → Makes after p s b (Ok t) c → (d : S) → after c (Leave k ∷ []) d → Makes after (map_p (λ x. box k x end) p) s a (Ok t) d
  box_made k p b h t c m d l = (
    box k m.0 end,
    record { left = m.1.left; reads = ap (map_r (λ x. box k x end)) m.1.reads },
    joined a b d (Enter k ∷ []) (events m.0 ++ Leave k ∷ []) h (joined b c d (events m.0) (Leave k ∷ []) m.2 l),
  )

  module _ (f : Frame) (v : Parser Pieces) (k : Box) (kis : k ≡ box_of f) (o : Token) (ois : o ≡ open_token f) (b : S) where
    opened : (r : Rest) (c : S) → Makes after (token_p o) s b r c → Makes after (token_p (open_token f)) s b r c
    opened r c m = subst (λ x. Makes after (token_p x) s b r c) ois m

    pub container_made : after a (Enter k ∷ []) b → (t : Bor (List ℕ)) (c : S) → Makes after (token_p o) s b (Ok t) c
        → (u : Bor (List ℕ)) (d : S) → Makes after (items_p f v) t.now c (Ok u) d → (e : S) → after d (Leave k ∷ []) e → Makes after (container_p f v) s a (Ok u) e
    container_made h t c m u d n e z =
        box_made (box_of f) (then_p (token_p (open_token f)) (items_p f v)) b (subst (λ x. after a (Enter x ∷ []) b) kis h) u d
        (telling.makes_then after idle joined (token_p (open_token f)) s b (items_p f v) t c (opened (Ok t) c m) (Ok u) d n) e (subst (λ x. after d (Leave x ∷ []) e) kis z)

    pub container_late : (t : Bor (List ℕ)) (c : S) → Makes after (token_p o) s b (Ok t) c → (q : Fault) (d : S) → Stops (items_p f v) t.now q → Stops (container_p f v) s q
    container_late t c m q d x =
        stops_map (λ y. box (box_of f) y end) (then_p (token_p (open_token f)) (items_p f v)) s q
        (telling.makes_then after idle joined (token_p (open_token f)) s b (items_p f v) t c (opened (Ok t) c m) (Err q) d x)

  module _ (b : S) (h : after a (Enter property ∷ []) b) (v : Parser Pieces) where
    pub member_made : (t : Bor (List ℕ)) (c : S) → Leads after labelled s b (Ok t) c → (u : Bor (List ℕ)) (d : S) → Makes after v t.now c (Ok u) d → (e : S) → after d (Leave property ∷ []) e → Makes after (member_p v) s a (Ok u) e
    member_made t c x u d m e z = box_made property (labelled v) b h u d (x.1 v (Ok u) d m) e z

    pub member_late : (t : Bor (List ℕ)) (c : S) → Leads after labelled s b (Ok t) c → (f : Fault) → Stops v t.now f → Stops (member_p v) s f
    member_late t c x f m = stops_map (λ y. box property y end) (labelled v) s f (x.1 v (Err f) c m)

    pub member_early : (f : Fault) (c : S) → Leads after labelled s b (Err f) c → Stops (member_p v) s f
    member_early f c x = stops_map (λ y. box property y end) (labelled v) s f (x v)

  pub nested_array : (n : ℕ) → (n ≡ 0 → ⊥) → starts (only 91) s ≡ true → (r : Rest) (b : S) → Makes after (container_p brackets (value_p (n - 1))) s a r b → Makes after (nested_p n) s a r b
  nested_array zero z e r b m = absurd (z refl)
  nested_array (suc n) z e r b m =
      let same : suc n - 1 ≡ n = omega arith in
      let p = container_p brackets (value_p n) in
      let q = container_p braces (value_p n) in
      telling.makes_same after idle joined (or_p (only 91) p q) (nested_p (suc n)) s a r b refl
      (telling.makes_left after idle joined (only 91) p q s e a r b (subst (λ k. Makes after (container_p brackets (value_p k)) s a r b) same m))

  pub nested_object : (n : ℕ) → (n ≡ 0 → ⊥) → starts (only 91) s ≡ false → (r : Rest) (b : S) → Makes after (container_p braces (value_p (n - 1))) s a r b → Makes after (nested_p n) s a r b
  nested_object zero z e r b m = absurd (z refl)
  nested_object (suc n) z e r b m =
      let same : suc n - 1 ≡ n = omega arith in
      let p = container_p brackets (value_p n) in
      let q = container_p braces (value_p n) in
      telling.makes_same after idle joined (or_p (only 91) p q) (nested_p (suc n)) s a r b refl
      (telling.makes_right after idle joined (only 91) p q s e a r b (subst (λ k. Makes after (container_p braces (value_p k)) s a r b) same m))

  -- one turn of a container's items, behind its trivia
  module _ (f : Frame) (v : Parser Pieces) (t : Bor (List ℕ)) (b : S) (m : Makes after (trivia_p false) s a (Ok t) b) (k : Token) (kis : k ≡ close_token f) where
    abbrev close_p : Parser (Pieces ⊎ Pieces)
    close_p = map_p inr (token_p (close_token f))

    abbrev rest_p : Parser (Pieces ⊎ Pieces)
    rest_p = after_p (item_p f v) (after_p (trivia_p false) (end_p f))

    at_close : (w : Bool) → starts (only (token_byte k)) t.now ≡ w → starts (only (closer f)) t.now ≡ w
    at_close w e = ap (λ z. starts (only z) t.now) (sym (ap token_byte kis ∙ close_byte f)) ∙ e

    module _ (e : true ≡ starts (only (token_byte k)) t.now) where
      closing : (r : Step) (c : S) → Turns after close_p t.now b r c → Turns after (turn_p f v) s a r c
      closing r c n =
          telling.turns_after after idle joined (trivia_p false) s a (or_p (only (closer f)) close_p rest_p) t b m r c
          (telling.turns_left after idle joined (only (closer f)) close_p rest_p t.now (at_close true (sym e)) b r c n)

      pub turn_close : (u : Bor (List ℕ)) (c : S) → Makes after (token_p k) t.now b (Ok u) c → Turns after (turn_p f v) s a (Ok (Break u)) c
      turn_close u c n =
          closing (Ok (Break u)) c (telling.turns_off after idle joined (token_p (close_token f)) t.now u b c (subst (λ x. Makes after (token_p x) t.now b (Ok u) c) kis n))

    module _ (g : false ≡ starts (only (token_byte k)) t.now) where
      going : (r : Step) (e : S) → Turns after rest_p t.now b r e → Turns after (turn_p f v) s a r e
      going r e n =
          telling.turns_after after idle joined (trivia_p false) s a (or_p (only (closer f)) close_p rest_p) t b m r e
          (telling.turns_right after idle joined (only (closer f)) close_p rest_p t.now (at_close false (sym g)) b r e n)

      pub turn_early : (q : Fault) → Stops (item_p f v) t.now q → Stops (turn_p f v) s q
      turn_early q x = going (Err q) b (stops_after (item_p f v) (after_p (trivia_p false) (end_p f)) t.now q x)

      module _ (u : Bor (List ℕ)) (c : S) (x : Makes after (item_p f v) t.now b (Ok u) c) where
        ending : (r : Step) (e : S) → Turns after (after_p (trivia_p false) (end_p f)) u.now c r e → Turns after (turn_p f v) s a r e
        ending r e n = going r e (telling.turns_after after idle joined (item_p f v) t.now b (after_p (trivia_p false) (end_p f)) u c x r e n)

        pub turn_late : (q : Fault) → Stops (trivia_p false) u.now q → Stops (turn_p f v) s q
        turn_late q y = ending (Err q) c (stops_after (trivia_p false) (end_p f) u.now q y)

        pub turn_item : (w : Bor (List ℕ)) (d : S) → Makes after (trivia_p false) u.now c (Ok w) d → (r : Step) (e : S) → Turns after (end_p f) w.now d r e → Turns after (turn_p f v) s a r e
        turn_item w d y r e z = ending r e (telling.turns_after after idle joined (trivia_p false) u.now c (end_p f) w d y r e z)

module _ {S : Type 0} (after : S → List Event → S → Type 0) (idle : (a : S) → after a [] a) (joined : (a b c : S) (x y : List Event) → after a x b → after b y c → after a (x ++ y) c) (n : ℕ) (s : List ℕ) (a : S) (t : Bor (List ℕ)) (b : S) (m : Makes after (trivia_p true) s a (Ok t) b) where
  abbrev behind_p : Parser Pieces
  behind_p = or_p ValueFirst (then_p (value_p n) (trivia_p true)) nothing_p

  pub text_nothing : starts ValueFirst t.now ≡ false → Makes after (text_p n) s a (Ok t) b
  text_nothing e =
      telling.makes_then after idle joined (trivia_p true) s a behind_p t b m (Ok t) b
      (telling.makes_right after idle joined ValueFirst (then_p (value_p n) (trivia_p true)) nothing_p t.now e b (Ok t) b (telling.makes_nothing after idle joined t b))

  module _ (e : starts ValueFirst t.now ≡ true) where
    valued : (r : Rest) (d : S) → Makes after (then_p (value_p n) (trivia_p true)) t.now b r d → Makes after (text_p n) s a r d
    valued r d x =
        telling.makes_then after idle joined (trivia_p true) s a behind_p t b m r d
        (telling.makes_left after idle joined ValueFirst (then_p (value_p n) (trivia_p true)) nothing_p t.now e b r d x)

    pub text_stops : (q : Fault) → Stops (value_p n) t.now q → Stops (text_p n) s q
    text_stops q x = valued (Err q) b (stops_then (value_p n) (trivia_p true) t.now q x)

    pub text_value_lem : (u : Bor (List ℕ)) (c : S) → Makes after (value_p n) t.now b (Ok u) c → (r : Rest) (d : S) → Makes after (trivia_p true) u.now c r d → Makes after (text_p n) s a r d
    text_value_lem u c x r d y = valued r d (telling.makes_then after idle joined (value_p n) t.now b (trivia_p true) u c x r d y)
