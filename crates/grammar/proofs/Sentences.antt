-- Values and texts as the grammar has them, and as pieces: the same bytes with the same layout. Assumes nothing.
use Rattle.std.proofs.Common.{◌≡◌, ℕ, zero, suc, ◌≤◌, max, Bool, true, false, ◌⊎◌, List, [], ◌∷◌, ◌++◌, sym, refl, ap, ◌∙◌, subst, inl, inr, append_assoc, append-nil, arith}
use Rattle.grammar.specs.Parse.{Lang, iterate}
use Rattle.grammar.specs.Layout.{Label, Null, Boolean, Numeral, Text, Array, Object, Member, Open, Comma, Colon, Name, Layout, stop, mark, item, raised, levels}
use Rattle.grammar.specs.Grammar.{quoted, Between, after, Frame, brackets, braces, closer, shut, Value, null, truth, falsity, numeral, text, array, object, Item, element, member, Items, close, last, more}
use Rattle.grammar.specs.Pieces.{comma, colon, name, token, property, Pieces, end, leaf, box, join, token_byte, print, lay, front, inner}
use Rattle.grammar.specs.Reader.{joins, only_leaf, open_token, close_token, box_of}
use Rattle.grammar.proofs.Gaps.{TriviaL}
use Rattle.grammar.proofs.Laid.{join_assoc, join_end, print_join, after_same, after_levels, trivia_to}
use Rattle.grammar.proofs.Values.{AheadL, TokenL, ScalarL, EndL, AfterItemL, CloseL, MemberL, ItemL, FromItemL, TurnL, ContainerL, ValueL}

-- what stands between the quotes
pub front_last : (t : List ℕ) (b : ℕ) → front (t ++ b ∷ []) ≡ t
front_last [] b = refl
front_last (x ∷ []) b = refl
front_last (x ∷ y ∷ t) b = ap (λ z. x ∷ z) (front_last (y ∷ t) b)

pub inner_quoted : (t : List ℕ) → inner (quoted t) ≡ t
inner_quoted t = front_last t 34

-- what a turn that stops, and one that goes on, is made of
pub record Ahead (L : Lang Pieces) (M : Lang (Pieces ⊎ Pieces)) (go : Pieces → Pieces ⊎ Pieces) (c : Pieces) (u : List ℕ) : Type 0 where
  pub a : Pieces
  pub d : Pieces
  pub v : List ℕ
  pub w : List ℕ
  pub joined : join a d ≡ c
  pub bytes : u ≡ v ++ w
  pub fst : L a v
  pub snd : M (go d) w

pub stops : (L : Lang Pieces) (M : Lang (Pieces ⊎ Pieces)) (c : Pieces) (u : List ℕ) → AheadL L M (inr c) u → Ahead L M inr c u
stops L M c u ((a, inl d), e, l) = (let z : ◌≡◌ {A = ℕ} 0 1 = cc in absurd (omega arith))
stops L M c u ((a, inr d), e, l) = record { a = a; d = d; v = l.0; w = l.1; joined = cc; bytes = l.2; fst = l.3; snd = l.4 }

pub goes : (L : Lang Pieces) (M : Lang (Pieces ⊎ Pieces)) (c : Pieces) (u : List ℕ) → AheadL L M (inl c) u → Ahead L M inl c u
goes L M c u ((a, inl d), e, l) = record { a = a; d = d; v = l.0; w = l.1; joined = cc; bytes = l.2; fst = l.3; snd = l.4 }
goes L M c u ((a, inr d), e, l) = (let z : ◌≡◌ {A = ℕ} 0 1 = cc in absurd (omega arith))

pub never_on : (f : Frame) (c : Pieces) (u : List ℕ) → CloseL f (inl c) u → ⊥
never_on f c u l = (let e = l.1 in let z : ◌≡◌ {A = ℕ} 0 1 = cc in omega arith)

pub shut_of : (f : Frame) (c : Pieces) (u : List ℕ) → CloseL f (inr c) u → TokenL (close_token f) c u
shut_of f c u l = (let e = l.1 in let i : l.0 ≡ c = cc in subst (λ y. TokenL (close_token f) y u) i l.2)

pub closing : (f : Frame) (b : Bool) → lay (only_leaf (token (close_token f))) b ≡ shut b
closing brackets b = refl
closing braces b = refl

pub close_byte : (f : Frame) → token_byte (close_token f) ≡ closer f
close_byte brackets = refl
close_byte braces = refl

-- a value or member, as pieces, read as the grammar has it
pub record Reading (P : Label → Layout → List ℕ → Type 0) (n : ℕ) (a : Pieces) (u : List ℕ) : Type 0 where
  pub label : Label
  pub inside : Layout
  pub is : P label inside u
  pub laid : (r : Pieces) (b : Bool) → lay (join a r) b ≡ item b label inside (lay r false)
  pub depth : raised label (levels inside) ≤ n
  pub printed : print a ≡ u

pub record ItemsTo (f : Frame) (n : ℕ) (a : Pieces) (u : List ℕ) : Type 0 where
  pub items : Items f (lay a false) u
  pub depth : levels (lay a false) ≤ n
  pub printed : print a ≡ u

scalar_to : (n : ℕ) (a : Pieces) (u : List ℕ) → ScalarL a u → Reading Value n a u
scalar_to n a u (inl (e, (t, q, m))) = subst (λ y. Reading Value n y u) (sym e) (record {
  label = Text t;
  inside = stop false;
  is = subst (Value (Text t) (stop false)) (sym q) (text m);
  laid = λ r b. ap (λ y. item b (Text y) (stop false) (lay r false)) (ap inner q ∙ inner_quoted t);
  depth = omega arith;
  printed = append-nil u;
})
scalar_to n a u (inr (inl (e, q))) = subst (λ y. Reading Value n y u) (sym e) (record
    { label = Null; inside = stop false; is = subst (Value Null (stop false)) (sym q) null; laid = λ r b. refl; depth = omega arith; printed = sym q })
scalar_to n a u (inr (inr (inl (e, q)))) = subst (λ y. Reading Value n y u) (sym e) (record
    { label = Boolean true; inside = stop false; is = subst (Value (Boolean true) (stop false)) (sym q) truth; laid = λ r b. refl; depth = omega arith; printed = sym q })
scalar_to n a u (inr (inr (inr (inl (e, q))))) = subst (λ y. Reading Value n y u) (sym e) (record
    { label = Boolean false; inside = stop false; is = subst (Value (Boolean false) (stop false)) (sym q) falsity; laid = λ r b. refl; depth = omega arith; printed = sym q })
scalar_to n a u (inr (inr (inr (inr (e, m))))) = subst (λ y. Reading Value n y u) (sym e) (record
    { label = Numeral u; inside = stop false; is = numeral m; laid = λ r b. refl; depth = omega arith; printed = append-nil u })

pub shut_levels : (h : Between) → levels (after h shut) ≡ 0
shut_levels h = after_levels h shut 0 (λ b. refl)

module _ (n : ℕ) (V : Lang Pieces) (read : (a : Pieces) (u : List ℕ) → V a u → Reading Value n a u) where
  -- a property
  member_to : (a : Pieces) (u : List ℕ) → MemberL V a u → Reading (Item braces) n a u
  member_to a u (c, e, ((x0, x1), j1, (u0, u1, b1, (n0, (t, q, ms)), ((y0, y1), j2, (v0, v1, b2, g, ((z0, z1), j3, (w0, w1, b3, (k, kb), ((r0, r1), j4, (s0, s1, b4, h, l))))))))) =
      let G = trivia_to false y0 v0 g in
      let H = trivia_to false r0 s0 h in
      let L = read r1 s1 l in
      let body : Pieces = leaf (name (quoted t)) (join y0 (leaf (token colon) (join r0 r1))) in
      let ce : c ≡ body = sym j1 ∙ ap (λ y. join y x1) (n0 ∙ ap (λ y. only_leaf (name y)) q) ∙ ap (leaf (name (quoted t))) (sym j2 ∙ ap (join y0) (sym j3 ∙ ap (λ y. join y z1) k ∙ ap (leaf (token colon)) (sym j4))) in
      let ins : Layout = mark false Name (after G.gap (λ b. mark b Colon (after H.gap (λ d. item d L.label L.inside (stop false))))) in
      let le : lay body false ≡ ins =
      ap (mark false Name) (G.laid (leaf (token colon) (join r0 r1)) false
      ∙ after_same G.gap (lay (leaf (token colon) (join r0 r1))) (λ b. mark b Colon (after H.gap (λ d. item d L.label L.inside (stop false))))
      (λ b. ap (mark b Colon) (H.laid r1 false ∙ after_same H.gap (lay r1) (λ d. item d L.label L.inside (stop false)) (λ d. ap (λ y. lay y d) (sym (join_end r1)) ∙ L.laid end d)))) in
      let by : u ≡ quoted t ++ (v0 ++ 58 ∷ (s0 ++ s1)) = b1 ∙ ap (λ y. y ++ u1) q ∙ ap (λ y. quoted t ++ y) (b2 ∙ ap (λ y. v0 ++ y) (b3 ∙ ap (λ y. y ++ w1) kb ∙ ap (λ y. 58 ∷ y) b4)) in
      let lv : levels ins ≡ max (raised L.label (levels L.inside)) 0 =
      after_levels G.gap (λ b. mark b Colon (after H.gap (λ d. item d L.label L.inside (stop false)))) (max (raised L.label (levels L.inside)) 0)
      (λ b. after_levels H.gap (λ d. item d L.label L.inside (stop false)) (max (raised L.label (levels L.inside)) 0) (λ d. refl)) in
      let dp = L.depth in
      subst (λ y. Reading (Item braces) n y u) e (subst (λ y. Reading (Item braces) n (box property y end) u) (sym ce) (record {
        label = Member t;
        inside = ins;
        is = subst (Item braces (Member t) ins) (sym by) (member ms G.trivia H.trivia L.is);
        laid = λ r b. ap (λ y. item b (Member y) (lay body false) (lay r false)) (inner_quoted t) ∙ ap (λ y. item b (Member t) y (lay r false)) le;
        depth = omega arith;
        printed = append-nil (print body) ∙ ap (λ y. quoted t ++ y) (print_join y0 (leaf (token colon) (join r0 r1)) ∙ ap (λ y. y ++ 58 ∷ print (join r0 r1)) G.printed ∙ ap (λ y. v0 ++ 58 ∷ y) (print_join r0 r1 ∙ ap (λ y. y ++ print r1) H.printed ∙ ap (λ y. s0 ++ y) L.printed)) ∙ sym by;
      }))

  element_to : (a : Pieces) (u : List ℕ) → V a u → Reading (Item brackets) n a u
  element_to a u l = (let m = read a u l in record { label = m.label; inside = m.inside; is = element m.is; laid = m.laid; depth = m.depth; printed = m.printed })

  item_to : (f : Frame) (a : Pieces) (u : List ℕ) → ItemL V f a u → Reading (Item f) n a u
  item_to brackets a u l = element_to a u l
  item_to braces a u l = member_to a u l

  -- the closing bracket alone
  close_to : (f : Frame) (g c : Pieces) (v w : List ℕ) → TriviaL false g v → TokenL (close_token f) c w → ItemsTo f n (join g c) (v ++ w)
  close_to f g c v w t (e, q) =
      let G = trivia_to false g v t in
      let E : lay (join g (only_leaf (token (close_token f)))) false ≡ after G.gap shut = G.laid (only_leaf (token (close_token f))) false ∙ after_same G.gap (lay (only_leaf (token (close_token f)))) shut (closing f) in
      let lv = shut_levels G.gap in
      subst (λ y. ItemsTo f n (join g y) (v ++ w)) (sym e) (subst (λ y. ItemsTo f n (join g (only_leaf (token (close_token f)))) (v ++ y)) (sym (q ∙ ap (λ y. y ∷ []) (close_byte f))) (record {
        items = subst (λ y. Items f y (v ++ closer f ∷ [])) (sym E) (close G.trivia);
        depth = subst (λ y. levels y ≤ n) (sym E) (omega arith);
        printed = print_join g (only_leaf (token (close_token f))) ∙ ap (λ y. y ++ token_byte (close_token f) ∷ []) G.printed ∙ ap (λ y. v ++ y ∷ []) (close_byte f);
      }))

  -- an item, and the closing bracket
  last_to : (f : Frame) (g i h c : Pieces) (s t r w : List ℕ) → TriviaL false g s → ItemL V f i t → TriviaL false h r → TokenL (close_token f) c w → ItemsTo f n (join g (join i (join h c))) (s ++ (t ++ (r ++ w)))
  last_to f g i h c s t r w tg ti th (e, q) =
      let G = trivia_to false g s tg in
      let H = trivia_to false h r th in
      let I = item_to f i t ti in
      let k : Pieces = only_leaf (token (close_token f)) in
      let Y : Layout = after G.gap (λ b. item b I.label I.inside (after H.gap shut)) in
      let E : lay (join g (join i (join h k))) false ≡ Y =
      G.laid (join i (join h k)) false ∙ after_same G.gap (lay (join i (join h k))) (λ b. item b I.label I.inside (after H.gap shut))
      (λ b. I.laid (join h k) b ∙ ap (item b I.label I.inside) (H.laid k false ∙ after_same H.gap (lay k) shut (closing f))) in
      let l0 = shut_levels H.gap in
      let lv : levels Y ≡ max (raised I.label (levels I.inside)) (levels (after H.gap shut)) = after_levels G.gap (λ b. item b I.label I.inside (after H.gap shut)) (max (raised I.label (levels I.inside)) (levels (after H.gap shut))) (λ b. refl) in
      let dp = I.depth in
      subst (λ y. ItemsTo f n (join g (join i (join h y))) (s ++ (t ++ (r ++ w)))) (sym e) (subst (λ y. ItemsTo f n (join g (join i (join h k))) (s ++ (t ++ (r ++ y)))) (sym (q ∙ ap (λ y. y ∷ []) (close_byte f))) (record {
        items = subst (λ y. Items f y (s ++ (t ++ (r ++ closer f ∷ [])))) (sym E) (last G.trivia I.is H.trivia);
        depth = subst (λ y. levels y ≤ n) (sym E) (omega arith);
        printed = print_join g (join i (join h k)) ∙ ap (λ y. y ++ print (join i (join h k))) G.printed
            ∙ ap (λ y. s ++ y) (print_join i (join h k) ∙ ap (λ y. y ++ print (join h k)) I.printed
            ∙ ap (λ y. t ++ y) (print_join h k ∙ ap (λ y. y ++ token_byte (close_token f) ∷ []) H.printed ∙ ap (λ y. r ++ y ∷ []) (close_byte f)));
      }))

  -- an item, a comma and more
  more_to : (f : Frame) (g i h c R : Pieces) (s t r w v : List ℕ) → TriviaL false g s → ItemL V f i t → TriviaL false h r → TokenL comma c w → ItemsTo f n R v → ItemsTo f n (join (join g (join i (join h c))) R) ((s ++ (t ++ (r ++ w))) ++ v)
  more_to f g i h c R s t r w v tg ti th (e, q) m =
      let G = trivia_to false g s tg in
      let H = trivia_to false h r th in
      let I = item_to f i t ti in
      let k : Pieces = leaf (token comma) R in
      let y0 : Layout = lay R false in
      let Y : Layout = after G.gap (λ b. item b I.label I.inside (after H.gap (λ d. mark d Comma y0))) in
      let J : join (join g (join i (join h (only_leaf (token comma))))) R ≡ join g (join i (join h k)) = join_assoc g (join i (join h (only_leaf (token comma)))) R ∙ ap (join g) (join_assoc i (join h (only_leaf (token comma))) R ∙ ap (join i) (join_assoc h (only_leaf (token comma)) R)) in
      let E : lay (join g (join i (join h k))) false ≡ Y =
      G.laid (join i (join h k)) false ∙ after_same G.gap (lay (join i (join h k))) (λ b. item b I.label I.inside (after H.gap (λ d. mark d Comma y0)))
      (λ b. I.laid (join h k) b ∙ ap (item b I.label I.inside) (H.laid k false)) in
      let l0 : levels (after H.gap (λ d. mark d Comma y0)) ≡ levels y0 = after_levels H.gap (λ d. mark d Comma y0) (levels y0) (λ b. refl) in
      let lv : levels Y ≡ max (raised I.label (levels I.inside)) (levels (after H.gap (λ d. mark d Comma y0))) = after_levels G.gap (λ b. item b I.label I.inside (after H.gap (λ d. mark d Comma y0))) (max (raised I.label (levels I.inside)) (levels (after H.gap (λ d. mark d Comma y0)))) (λ b. refl) in
      let dp = I.depth in
      let dm = m.depth in
      let B : (s ++ (t ++ (r ++ 44 ∷ []))) ++ v ≡ s ++ (t ++ (r ++ 44 ∷ v)) = append_assoc s (t ++ (r ++ 44 ∷ [])) v ∙ ap (λ y. s ++ y) (append_assoc t (r ++ 44 ∷ []) v ∙ ap (λ y. t ++ y) (append_assoc r (44 ∷ []) v)) in
      subst (λ y. ItemsTo f n (join (join g (join i (join h y))) R) ((s ++ (t ++ (r ++ w))) ++ v)) (sym e) (subst (λ y. ItemsTo f n (join (join g (join i (join h (only_leaf (token comma))))) R) ((s ++ (t ++ (r ++ y))) ++ v)) (sym q) (subst (λ y. ItemsTo f n (join (join g (join i (join h (only_leaf (token comma))))) R) y) (sym B) (subst (λ y. ItemsTo f n y (s ++ (t ++ (r ++ 44 ∷ v)))) (sym J) (record {
        items = subst (λ y. Items f y (s ++ (t ++ (r ++ 44 ∷ v)))) (sym E) (more G.trivia I.is H.trivia m.items);
        depth = subst (λ y. levels y ≤ n) (sym E) (omega arith);
        printed = print_join g (join i (join h k)) ∙ ap (λ y. y ++ print (join i (join h k))) G.printed
            ∙ ap (λ y. s ++ y) (print_join i (join h k) ∙ ap (λ y. y ++ print (join h k)) I.printed
            ∙ ap (λ y. t ++ y) (print_join h k ∙ ap (λ y. y ++ 44 ∷ print R) H.printed ∙ ap (λ y. r ++ 44 ∷ y) m.printed));
      }))))

  final_to : (f : Frame) (c : Pieces) (u : List ℕ) → TurnL V f (inr c) u → ItemsTo f n c u
  final_to f c u l = (let m = stops (TriviaL false) (λ x u. CloseL f x u ⊎ FromItemL V f x u) c u l in
      subst (λ y. ItemsTo f n y u) m.joined (subst (ItemsTo f n (join m.a m.d)) (sym m.bytes) (go m.a m.d m.v m.w m.fst m.snd)))
    where
      go : (a d : Pieces) (v w : List ℕ) → TriviaL false a v → CloseL f (inr d) w ⊎ FromItemL V f (inr d) w → ItemsTo f n (join a d) (v ++ w)
      go a d v w t (inl k) = close_to f a d v w t (shut_of f d w k)
      go a d v w t (inr k) =
          let p = stops (ItemL V f) (AfterItemL f) d w k in
          let q = stops (TriviaL false) (EndL f) p.d p.w p.snd in
          subst (λ y. ItemsTo f n (join a y) (v ++ w)) (ap (join p.a) q.joined ∙ p.joined)
          (subst (λ y. ItemsTo f n (join a (join p.a (join q.a q.d))) (v ++ y)) (sym (p.bytes ∙ ap (λ y. p.v ++ y) q.bytes))
          (last_to f a p.a q.a q.d v p.v q.v q.w t p.fst q.fst q.snd))

  turn_to : (f : Frame) (c R : Pieces) (u v : List ℕ) → TurnL V f (inl c) u → ItemsTo f n R v → ItemsTo f n (join c R) (u ++ v)
  turn_to f c R u v l m = (let p = goes (TriviaL false) (λ x u. CloseL f x u ⊎ FromItemL V f x u) c u l in
      subst (λ y. ItemsTo f n (join y R) (u ++ v)) p.joined (subst (λ y. ItemsTo f n (join (join p.a p.d) R) (y ++ v)) (sym p.bytes) (go p.a p.d p.v p.w p.fst p.snd)))
    where
      go : (a d : Pieces) (x w : List ℕ) → TriviaL false a x → CloseL f (inl d) w ⊎ FromItemL V f (inl d) w → ItemsTo f n (join (join a d) R) ((x ++ w) ++ v)
      go a d x w t (inl k) = absurd (never_on f d w k)
      go a d x w t (inr k) =
          let p = goes (ItemL V f) (AfterItemL f) d w k in
          let q = goes (TriviaL false) (EndL f) p.d p.w p.snd in
          subst (λ y. ItemsTo f n (join (join a y) R) ((x ++ w) ++ v)) (ap (join p.a) q.joined ∙ p.joined)
          (subst (λ y. ItemsTo f n (join (join a (join p.a (join q.a q.d))) R) ((x ++ y) ++ v)) (sym (p.bytes ∙ ap (λ y. p.v ++ y) q.bytes))
          (more_to f a p.a q.a q.d R x p.v q.v q.w v t p.fst q.fst q.snd m))

  items_to : (f : Frame) (xs : List Pieces) (c : Pieces) (u : List ℕ) → iterate (TurnL V f) (λ _. []) xs c u → ItemsTo f n (joins xs c) u
  items_to f [] c u l = final_to f c u l
  items_to f (x ∷ xs) c u l = subst (ItemsTo f n (join x (joins xs c))) (sym l.2) (turn_to f x (joins xs c) l.0 l.1 l.3 (items_to f xs c l.1 l.5))

  container_to : (f : Frame) (a : Pieces) (u : List ℕ) → ContainerL V f a u → Reading Value (suc n) a u
  container_to f a u (c, e, ((x0, x1), j, (u0, u1, b, (k, kb), ((xs, x), i, l)))) =
      subst (λ y. Reading Value (suc n) y u) e (subst (λ y. Reading Value (suc n) (box (box_of f) y end) u) (sym (sym j ∙ ap (λ y. join y x1) k)) (subst (Reading Value (suc n) (box (box_of f) (leaf (token (open_token f)) x1) end)) (sym (b ∙ ap (λ y. y ++ u1) kb)) (go f (subst (λ y. ItemsTo f n y u1) i (items_to f xs x u1 l)))))
    where
      go : (f : Frame) → ItemsTo f n x1 u1 → Reading Value (suc n) (box (box_of f) (leaf (token (open_token f)) x1) end) (token_byte (open_token f) ∷ u1)
      go brackets m = (let d = m.depth in record
          { label = Array; inside = mark false Open (lay x1 false); is = array m.items; laid = λ r b. refl; depth = omega arith; printed = append-nil (91 ∷ print x1) ∙ ap (λ y. 91 ∷ y) m.printed })
      go braces m = (let d = m.depth in record
          { label = Object; inside = mark false Open (lay x1 false); is = object m.items; laid = λ r b. refl; depth = omega arith; printed = append-nil (123 ∷ print x1) ∙ ap (λ y. 123 ∷ y) m.printed })

pub value_to : (n : ℕ) (a : Pieces) (u : List ℕ) → ValueL n a u → Reading Value n a u
value_to zero a u (inl l) = absurd l
value_to zero a u (inr l) = scalar_to zero a u l
value_to (suc n) a u (inl (inl l)) = container_to n (ValueL n) (value_to n) brackets a u l
value_to (suc n) a u (inl (inr l)) = container_to n (ValueL n) (value_to n) braces a u l
value_to (suc n) a u (inr l) = scalar_to (suc n) a u l
