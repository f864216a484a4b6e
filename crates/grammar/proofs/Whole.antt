-- The reader is right. Assumes nothing.
use Rattle.std.proofs.Common.{◌≡◌, ℕ, zero, suc, ◌+◌, ◌-◌, ◌<◌, ◌≤◌, max, true, false, List, [], ◌∷◌, ◌++◌, length, get_or, take, sym, refl, ap, ◌∙◌, subst, inl, inr, append_assoc, append-nil, arith, length-append}
use mathlib.Core.List.{cons≢nil}
use mathlib.Core.Bool.{false≢true}
use Rattle.std.proofs.lemmas.Bool.{cases_lt}
use Rattle.grammar.specs.Parse.{Out, ok, bad, deep, Res, res, within, Opening}
use Rattle.grammar.specs.Layout.{Layout, levels}
use Rattle.grammar.specs.Grammar.{Sentence}
use Rattle.grammar.specs.Pieces.{Pieces, lay, layout}
use Rattle.grammar.specs.Reader.{text_p}
use Rattle.grammar.specs.Answer.{Answer, Read, BadText, TooDeep, whole, read, Opens, OpensWithin, Stops, Deepens, Judged, good, bad_text, too_deep, Right}
use Rattle.grammar.proofs.Laws.{Means, Again, Says}
use Rattle.grammar.proofs.Calm.{rest}
use Rattle.grammar.proofs.Depth.{Below, text_up, under_far}
use Rattle.grammar.proofs.Texts.{TextL, text_laws, text_to, text_from}

-- starts of a list
take_all : (u t : List ℕ) → take (length u) (u ++ t) ≡ u
take_all [] t = refl
take_all (b ∷ u) t = ap (λ y. b ∷ y) (take_all u t)

take_one : (u : List ℕ) (b : ℕ) (t : List ℕ) → take (suc (length u)) (u ++ b ∷ t) ≡ u ++ b ∷ []
take_one [] b t = refl
take_one (c ∷ u) b t = ap (λ y. c ∷ y) (take_one u b t)

take_past : (u : List ℕ) (b : ℕ) (t : List ℕ) (j : ℕ) → length u < j → (r : List ℕ) × (take j (u ++ b ∷ t) ≡ u ++ b ∷ r)
take_past [] b t zero h = absurd (omega arith)
take_past [] b t (suc j) h = (take j t, refl)
take_past (c ∷ u) b t zero h = absurd (omega arith)
take_past (c ∷ u) b t (suc j) h = (let k = take_past u b t j (omega arith) in (k.0, ap (λ y. c ∷ y) k.1))

take_more : (i j : ℕ) (s : List ℕ) → i ≤ j → (r : List ℕ) × (take j s ≡ take i s ++ r)
take_more zero j s h = (take j s, refl)
take_more (suc i) zero s h = absurd (omega arith)
take_more (suc i) (suc j) [] h = ([], refl)
take_more (suc i) (suc j) (b ∷ s) h = (let k = take_more i j s (omega arith) in (k.0, ap (λ y. b ∷ y) k.1))

take_rest : (i : ℕ) (s : List ℕ) → (r : List ℕ) × (s ≡ take i s ++ r)
take_rest zero s = (s, refl)
take_rest (suc i) [] = ([], refl)
take_rest (suc i) (b ∷ s) = (let k = take_rest i s in (k.0, ap (λ y. b ∷ y) k.1))

get_d_at : (u : List ℕ) (b : ℕ) (t : List ℕ) → get_or (u ++ b ∷ t) (length u) 0 ≡ b
get_d_at [] b t = refl
get_d_at (c ∷ u) b t = get_d_at u b t

-- what begins a sentence has starts that do
shorter_opens : (u r : List ℕ) → Opens (u ++ r) → Opens u
shorter_opens u r o = (r ++ o.0, o.1, subst (Sentence o.1) (append_assoc u r o.0) o.2)

shorter_within : (n : ℕ) (u r : List ℕ) → OpensWithin n (u ++ r) → OpensWithin n u
shorter_within n u r o = (r ++ o.0, o.1, subst (Sentence o.1) (append_assoc u r o.0) o.2, o.3)

within_less : (n i j : ℕ) (s : List ℕ) → i ≤ j → OpensWithin n (take j s) → OpensWithin n (take i s)
within_less n i j s h o = (let k = take_more i j s h in shorter_within n (take i s) k.0 (subst (OpensWithin n) k.1 o))

-- the reader's answers at two depths agree where neither is too deep
abbrev Live : Out Pieces → Type 0
Live (ok a) = Unit {0}
Live bad = Unit {0}
Live deep = ⊥

below_live : (o : Out Pieces) (t : List ℕ) (y : Res Pieces) → Live o → Below (res o t) y → y ≡ res o t
below_live (ok a) t y lo b = b
below_live bad t y lo b = b
below_live deep t y lo b = absurd lo

agree : (n m : ℕ) (s : List ℕ) (o r : Out Pieces) (t v : List ℕ) → Live o → Live r → text_p n s ≡ res o t → text_p m s ≡ res r v → res o t ≡ res r v
agree n m s o r t v lo lr e f =
    elim (cases_lt n m) [
      | inl lt ↦ sym (below_live o t (text_p m s) lo (subst (λ y. Below y (text_p m s)) e (under_far text_p text_up n m lt s))) ∙ f
      | inr ge ↦ elim (cases_lt m n) [
        | inl lt ↦ sym e ∙ below_live r v (text_p n s) lr (subst (λ y. Below y (text_p n s)) f (under_far text_p text_up m n lt s))
        | inr le ↦ (let i : n ≡ m = omega arith in sym e ∙ ap (λ k. text_p k s) i ∙ f)
      ]
    ]

parse : (n : ℕ) (a : Pieces) (s : List ℕ) → TextL n a s → text_p n s ≡ res (ok a) []
parse n a s l = ap (text_p n) (sym (append-nil s)) ∙ (text_laws n).complete a s [] l tt

-- no sentence goes on where the reader stopped
dead : (n : ℕ) (u : List ℕ) (o : Out Pieces) (b : ℕ) (t : List ℕ) → Live o → Again (text_p n) u o (b ∷ t) → (w : List ℕ) (y : Layout) → Sentence y (u ++ b ∷ w) → ⊥
dead n u o b t lo z w y l =
    let a = text_from (levels y) l (omega arith) in
    cons≢nil (ap rest (agree n (levels y) (u ++ b ∷ w) o (ok a.0) (b ∷ w) [] lo tt (z w) (parse (levels y) a.0 (u ++ b ∷ w) a.1)))

opens_of : (n : ℕ) (u w : List ℕ) (a : Pieces) → TextL n a (u ++ w) → OpensWithin n u
opens_of n u w a l = (let m = text_to n a (u ++ w) l in (w, lay a false, m.sentence, m.depth))

opens_only : (n : ℕ) (u : List ℕ) → OpensWithin n u → Opens u
opens_only n u o = (o.0, o.1, o.2)

-- the text stops at a byte
stops_at : (n : ℕ) (s u : List ℕ) (o : Out Pieces) (b : ℕ) (t : List ℕ) → s ≡ u ++ b ∷ t → Live o → OpensWithin n u → Again (text_p n) u o (b ∷ t) → Judged n s (BadText (length s - length (b ∷ t)))
stops_at n s u o b t e lo w z =
    let len : length s ≡ length u + suc (length t) = ap length e ∙ length-append u (b ∷ t) in
    let k : length s - suc (length t) ≡ length u = omega arith in
    let tk : take (length u) s ≡ u = ap (take (length u)) e ∙ take_all u (b ∷ t) in
    subst (λ y. Judged n s (BadText y)) (sym k) (bad_text (length u)
    (record {
      fits = omega arith;
      opens = subst Opens (sym tk) (opens_only n u w);
      longest = λ j lt le q. (let p = take_past u b t j lt in
          dead n u o b t lo z (p.0 ++ q.0) q.1 (subst (Sentence q.1) (ap (λ y. take j y ++ q.0) e ∙ ap (λ y. y ++ q.0) p.1 ∙ append_assoc u (b ∷ p.0) q.0) q.2));
    })
    (subst (OpensWithin n) (sym tk) w)
    (λ y l. dead n u o b t lo z t y (subst (Sentence y) e l)))

-- the text stops at its end
stops_end : (n : ℕ) (s : List ℕ) → text_p n s ≡ res bad [] → OpensWithin n s → Judged n s (BadText (length s - 0))
stops_end n s e w =
    let k : length s - 0 ≡ length s = omega arith in
    let tk : take (length s) s ≡ s = ap (take (length s)) (sym (append-nil s)) ∙ take_all s [] in
    subst (λ y. Judged n s (BadText y)) (sym k) (bad_text (length s)
    (record { fits = omega arith; opens = subst Opens (sym tk) (opens_only n s w); longest = λ j lt le q. absurd (omega arith) })
    (subst (OpensWithin n) (sym tk) w)
    (λ y l. (let a = text_from (levels y) l (omega arith) in
    let q = agree n (levels y) s bad (ok a.0) [] [] tt tt e (parse (levels y) a.0 s a.1) in
    let z : ◌≡◌ {A = ℕ} 0 1 = cc in omega arith)))

-- one level more gets past the bracket
past_bracket : (n : ℕ) (s : List ℕ) (k : ℕ) (y : Res Pieces) → Means (TextL (suc n)) (text_p (suc n)) s y → length (rest y) + k < length s → Opens (take (suc k) s)
past_bracket n s k (res o r) m lt =
    let u = m.0 in
    let len : length s ≡ length u + length r = ap length m.1 ∙ length-append u r in
    let tk : take (length u) s ≡ u = ap (take (length u)) m.1 ∙ take_all u r in
    let p = take_more (suc k) (length u) s (omega arith) in
    shorter_opens (take (suc k) s) p.0 (subst Opens (sym tk ∙ p.1) (go o m.2))
  where
    go : (o : Out Pieces) → Says (TextL (suc n)) m.0 o → Opens m.0
    go (ok a) l = opens_only (suc n) m.0 (opens_of (suc n) m.0 [] a (subst (TextL (suc n) a) (sym (append-nil m.0)) l))
    go bad l = opens_only (suc n) m.0 (opens_of (suc n) m.0 l.0 l.1 l.2)
    go deep l = opens_only (suc n) m.0 (opens_of (suc n) m.0 l.0 l.1 l.2)

deepens_at : (n : ℕ) (s u : List ℕ) (b : ℕ) (t : List ℕ) → text_p n s ≡ res deep (b ∷ t) → s ≡ u ++ b ∷ t → OpensWithin n u → Again (text_p n) u deep (b ∷ t) → within Opening b ≡ true → Deepens n s (length u)
deepens_at n s u b t f e w z h =
    let len : length s ≡ length u + suc (length t) = ap length e ∙ length-append u (b ∷ t) in
    let tk : take (length u) s ≡ u = ap (take (length u)) e ∙ take_all u (b ∷ t) in
    let t1 : take (suc (length u)) s ≡ u ++ b ∷ [] = ap (take (suc (length u))) e ∙ take_one u b t in
    let bl : length (rest (text_p (suc n) s)) < suc (length t) = subst (λ y. Below y (text_p (suc n) s)) f (text_up n s) in
    record {
      fits = omega arith;
      bracket = ap (within Opening) (ap (λ y. get_or y (length u) 0) e ∙ get_d_at u b t) ∙ h;
      before = subst (OpensWithin n) (sym tk) w;
      opens = past_bracket n s (length u) (text_p (suc n) s) ((text_laws (suc n)).means s) (omega arith);
      deeper = λ o. (let q : OpensWithin n (u ++ b ∷ []) = subst (OpensWithin n) t1 o in
          let l : Sentence q.1 (u ++ b ∷ q.0) = subst (Sentence q.1) (append_assoc u (b ∷ []) q.0) q.2 in
          let a = text_from n l q.3 in
          let y : res deep (b ∷ q.0) ≡ res (ok a.0) [] = sym (z q.0) ∙ parse n a.0 (u ++ b ∷ q.0) a.1 in
          cons≢nil (ap rest y));
    }

judge : (n : ℕ) (s : List ℕ) (x : Res Pieces) → text_p n s ≡ x → Means (TextL n) (text_p n) s x → Judged n s (whole s x)
judge n s (res (ok a) []) e m =
    let q = text_to n a s (subst (TextL n a) (sym (m.1 ∙ append-nil m.0)) m.2) in
    good a q.sentence q.depth q.printed
judge n s (res (ok a) (b ∷ t)) e m = stops_at n s m.0 (ok a) b t m.1 tt (opens_of n m.0 [] a (subst (TextL n a) (sym (append-nil m.0)) m.2)) m.3
judge n s (res bad []) e m =
    let i : s ≡ m.0 = m.1 ∙ append-nil m.0 in
    stops_end n s e (subst (OpensWithin n) (sym i) (opens_of n m.0 m.2.0 m.2.1 m.2.2))
judge n s (res bad (b ∷ t)) e m = stops_at n s m.0 bad b t m.1 tt (opens_of n m.0 m.2.0 m.2.1 m.2.2) m.3
judge n s (res deep []) e m = absurd (false≢true m.4)
judge n s (res deep (b ∷ t)) e m = too_deep (length m.0) (deepens_at n s m.0 b t e m.1 (opens_of n m.0 m.2.0 m.2.1 m.2.2) m.3 m.4)

judges : (n : ℕ) (s : List ℕ) → Judged n s (read n s)
judges n s = judge n s (text_p n s) refl ((text_laws n).means s)

accepts : (n : ℕ) (s : List ℕ) (y : Layout) → Sentence y s → levels y ≤ n → (a : Pieces) × (read n s ≡ Read a) × (layout a ≡ y)
accepts n s y l d = (let a = text_from n l d in (a.0, ap (whole s) (parse n a.0 s a.1), a.2))

one_layout : (s : List ℕ) (y z : Layout) → Sentence y s → Sentence z s → y ≡ z
one_layout s y z l k =
    let m = max (levels y) (levels z) in
    let a = text_from m l (omega arith) in
    let b = text_from m k (omega arith) in
    let e = sym (parse m a.0 s a.1) ∙ parse m b.0 s b.1 in
    let i : a.0 ≡ b.0 = cc in
    sym a.2 ∙ ap layout i ∙ b.2

-- the three answers exclude one another
stops_once : (s : List ℕ) (j k : ℕ) → Stops s j → Stops s k → j ≡ k
stops_once s j k a b =
    elim (cases_lt j k) [
      | inl lt ↦ absurd (a.longest k lt b.fits b.opens)
      | inr ge ↦ elim (cases_lt k j) [ inl lt ↦ absurd (b.longest j lt a.fits a.opens) | inr le ↦ omega arith ]
    ]

deep_or_stops : (n : ℕ) (s : List ℕ) (j k : ℕ) → Stops s j → OpensWithin n (take j s) → Deepens n s k → ⊥
deep_or_stops n s j k a o d =
    elim (cases_lt j (suc k)) [
      | inl lt ↦ (let f = d.fits in a.longest (suc k) lt (omega arith) d.opens)
      | inr ge ↦ d.deeper (within_less n (suc k) j s ge o)
    ]

refuse : (n : ℕ) (s : List ℕ) (k : ℕ) → Stops s k → OpensWithin n (take k s) → ((y : Layout) → Sentence y s → ⊥) → {x : Answer} → Judged n s x → x ≡ BadText k
refuse n s k a o f (good p l d e) = absurd (f (layout p) l)
refuse n s k a o f (bad_text j b w g) = ap BadText (stops_once s j k b a)
refuse n s k a o f (too_deep j d) = absurd (deep_or_stops n s k j a o d)

deepen : (n : ℕ) (s : List ℕ) (k : ℕ) → Deepens n s k → {x : Answer} → Judged n s x → x ≡ TooDeep
deepen n s k d (good p l h e) =
    let t = take_rest (suc k) s in
    absurd (d.deeper (t.0, layout p, subst (Sentence (layout p)) t.1 l, h))
deepen n s k d (bad_text j b w g) = absurd (deep_or_stops n s j k b w d)
deepen n s k d (too_deep j q) = refl

pub right : (n : ℕ) → Right n
right n = record {
  judges = judges n;
  accepts = accepts n;
  refuses = λ s k a o f. refuse n s k a o f (judges n s);
  deepens = λ s k d. deepen n s k d (judges n s);
  one_layout = one_layout;
}
