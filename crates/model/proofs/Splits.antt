-- A walk along a path splits a text's comments in three, and none is forgotten. Assumes nothing.
use Rattle.std.proofs.Common.{◌≡◌, ℕ, zero, suc, Bool, true, false, cond, List, [], ◌∷◌, ◌++◌, length, take, drop, Some, None, Option, sym, refl, ap, ◌∙◌, append_assoc, append-nil, arith}
use Rattle.grammar.specs.Layout.{Comment, Open, Close, Comma, Colon, Name, Layout, stop, note, mark, item, notes}
use Rattle.model.specs.Account.{breaks, after_comma, gap_notes, line_notes, past_line, Split, followed, Rule, walk, remove_here, replace_here, less}

-- the front of a list, and what is behind it
take_front : (a b : List Comment) → take (length a) (a ++ b) ≡ a
take_front [] b = refl
take_front (x ∷ a) b = ap (λ y. x ∷ y) (take_front a b)

-- what is behind the front of a list
drop_front : (a b : List Comment) → drop (length a) (a ++ b) ≡ b
drop_front [] b = refl
drop_front (x ∷ a) b = drop_front a b

-- all three parts of a split, and the two that stay
abbrev pub whole : Split → List Comment
whole s = s.before ++ (s.lost ++ s.behind)

abbrev pub stays : Split → List Comment
stays s = s.before ++ s.behind

-- the comments less those lost are those that stay
pub less_split : (s : Split) (cs : List Comment) → whole s ≡ cs → less s cs ≡ stays s
less_split s cs e =
    ap (λ y. take (length s.before) y ++ drop (length (s.before ++ s.lost)) y) (sym e)
    ∙ (ap (λ y. y ++ drop (length (s.before ++ s.lost)) (s.before ++ (s.lost ++ s.behind))) (take_front s.before (s.lost ++ s.behind))
    ∙ ap (λ y. s.before ++ y) (ap (drop (length (s.before ++ s.lost))) (sym (append_assoc s.before s.lost s.behind)) ∙ drop_front (s.before ++ s.lost) s.behind))

-- a line's comments and those past it are all
line_all : (y : Layout) → line_notes y ++ past_line y ≡ notes y
line_all (stop b) = refl
line_all (note true c r) = refl
line_all (note false c r) = ap (λ x. c ∷ x) (line_all r)
line_all (mark b m r) = refl
line_all (item b l ks r) = refl

-- the comments up to the trailing comma and those past it are all
gap_all : (y q : Layout) → after_comma y ≡ Some q → gap_notes y ++ notes q ≡ notes y
gap_all (stop b) q e = (let z : ◌≡◌ {A = ℕ} 0 1 = cc in absurd (omega arith))
gap_all (note b c r) q e = ap (λ x. c ∷ x) (gap_all r q e)
gap_all (mark b Open r) q e = (let z : ◌≡◌ {A = ℕ} 0 1 = cc in absurd (omega arith))
gap_all (mark b Close r) q e = (let z : ◌≡◌ {A = ℕ} 0 1 = cc in absurd (omega arith))
gap_all (mark b Comma r) q e = (let z : r ≡ q = cc in ap notes (sym z))
gap_all (mark b Colon r) q e = (let z : ◌≡◌ {A = ℕ} 0 1 = cc in absurd (omega arith))
gap_all (mark b Name r) q e = (let z : ◌≡◌ {A = ℕ} 0 1 = cc in absurd (omega arith))
gap_all (item b l ks r) q e = (let z : ◌≡◌ {A = ℕ} 0 1 = cc in absurd (omega arith))

-- what follows a removed node is lost or stays
followed_all : (y : Layout) (o : Option Layout) → after_comma y ≡ o → (followed y o).lost ++ (followed y o).behind ≡ notes y
followed_all y None e = line_all y
followed_all y (Some q) e = go (breaks y) (breaks q)
  where
    go : (a b : Bool) → (let s : Split = cond a (record { before = []; lost = gap_notes y; behind = notes q })
        (cond b (record { before = []; lost = gap_notes y ++ line_notes q; behind = past_line q }) (record { before = []; lost = gap_notes y; behind = notes q })) in s.lost ++ s.behind ≡ notes y)
    go true b = gap_all y q e
    go false true = append_assoc (gap_notes y) (line_notes q) (past_line q) ∙ (ap (λ x. gap_notes y ++ x) (line_all q) ∙ gap_all y q e)
    go false false = gap_all y q e

-- a rule that forgets no comment
abbrev pub Total : Rule → Type 0
Total hit = (b : Bool) (kept line : List Comment) (ks r : Layout) → whole (hit b kept line ks r) ≡ (kept ++ line) ++ (notes ks ++ notes r)

-- the rule of remove is such a rule
pub remove_total : Total remove_here
remove_total true kept line ks r =
    ap (λ x. (kept ++ line) ++ x) (append_assoc (notes ks) (followed r (after_comma r)).lost (followed r (after_comma r)).behind ∙ ap (λ x. notes ks ++ x) (followed_all r (after_comma r) refl))
remove_total false kept line ks r =
    ap (λ x. kept ++ x) (append_assoc line (notes ks ++ (followed r (after_comma r)).lost) (followed r (after_comma r)).behind
    ∙ ap (λ x. line ++ x) (append_assoc (notes ks) (followed r (after_comma r)).lost (followed r (after_comma r)).behind ∙ ap (λ x. notes ks ++ x) (followed_all r (after_comma r) refl)))
    ∙ sym (append_assoc kept line (notes ks ++ notes r))

-- so is that of replace
pub replace_total : Total replace_here
replace_total b kept line ks r = refl

-- a walk forgets none
pub walk_all : (hit : Rule) → Total hit → (y : Layout) (kept line : List Comment) (k : ℕ) (p : List ℕ) → whole (walk hit y kept line k p) ≡ (kept ++ line) ++ notes y
walk_all hit t (stop b) kept line k p = refl
walk_all hit t (note true c r) kept line k p = walk_all hit t r (kept ++ line) (c ∷ []) k p ∙ append_assoc (kept ++ line) (c ∷ []) (notes r)
walk_all hit t (note false c r) kept line k p =
    walk_all hit t r kept (line ++ c ∷ []) k p ∙ (ap (λ x. x ++ notes r) (sym (append_assoc kept line (c ∷ []))) ∙ append_assoc (kept ++ line) (c ∷ []) (notes r))
walk_all hit t (mark b m r) kept line k p = walk_all hit t r (kept ++ line) [] k p ∙ ap (λ x. x ++ notes r) (append-nil (kept ++ line))
walk_all hit t (item b l ks r) kept line zero [] = t b kept line ks r
walk_all hit t (item b l ks r) kept line zero (j ∷ p) = deep (walk hit ks (kept ++ line) [] j p) (walk_all hit t ks (kept ++ line) [] j p)
  where
    deep : (s : Split) → whole s ≡ ((kept ++ line) ++ []) ++ notes ks → s.before ++ (s.lost ++ (s.behind ++ notes r)) ≡ (kept ++ line) ++ (notes ks ++ notes r)
    deep s e =
        ap (λ x. s.before ++ x) (sym (append_assoc s.lost s.behind (notes r)))
        ∙ (sym (append_assoc s.before (s.lost ++ s.behind) (notes r))
        ∙ (ap (λ x. x ++ notes r) (e ∙ ap (λ x. x ++ notes ks) (append-nil (kept ++ line))) ∙ append_assoc (kept ++ line) (notes ks) (notes r)))
walk_all hit t (item b l ks r) kept line (suc k) p =
    walk_all hit t r ((kept ++ line) ++ notes ks) [] k p ∙ (ap (λ x. x ++ notes r) (append-nil ((kept ++ line) ++ notes ks)) ∙ append_assoc (kept ++ line) (notes ks) (notes r))
