-- set_trailing_commas keeps the document, its comments and its value. Assumes nothing.
use Rattle.std.proofs.Common.{◌≡◌, ◌+◌, Bool, true, false, ◌&&◌, ◌++◌, sym, refl, ap, ◌∙◌, subst, true≢false}
use mathlib.Core.Bool.{false≢true}
use Rattle.std.proofs.lemmas.Bool.{cond_both, and_parts}
use Rattle.grammar.specs.Layout.{Line, Block, Open, Close, Comma, Colon, Name, Label}
use Rattle.grammar.specs.Pieces.{comma, Box, array, object, property, Pieces, name_of}
use Rattle.forest.specs.Forest.{end, node, append}
use Rattle.model.specs.Nodes.{handle, Sort, root, within, single, Nodes, Gap, blank, break, remark, Class, gap, mark, value, class, piece, pieces, label_of, parts, parts_at}
use Rattle.model.specs.Asks.{is_comma, is_value}
use Rattle.model.specs.Edits.{Supply, skip, sown, end_at, ends, untrailed, lined, due, dues, commas, trailed}
use Rattle.model.specs.Fits.{Owner, of, Pos, start, items, next, named, only, shut, State, here, dead, spaced, step, run, begin, Ends, sign, title, takes, Taken, Fits, IsEnd, Holds, Whole, comments, remarks_of}
use Rattle.model.proofs.Prints.{no_dead}

is_comma_lem : (c : Class) → is_comma c ≡ true → c ≡ mark Comma
is_comma_lem (gap g) e = absurd (false≢true e)
is_comma_lem (mark Open) e = absurd (false≢true e)
is_comma_lem (mark Close) e = absurd (false≢true e)
is_comma_lem (mark Comma) e = refl
is_comma_lem (mark Colon) e = absurd (false≢true e)
is_comma_lem (mark Name) e = absurd (false≢true e)
is_comma_lem value e = absurd (false≢true e)

-- a comma stands behind an item
pub comma_behind : (f : Owner) (q : State) (ts : Nodes) → Ends f (run (step q (mark Comma)) ts) → (q ≡ here next false) × Ends f (run (here items false) ts)
comma_behind f dead ts e = absurd (no_dead f ts e)
comma_behind f (here q true) ts e = absurd (no_dead f ts e)
comma_behind f (here start false) ts e = absurd (no_dead f ts e)
comma_behind f (here items false) ts e = absurd (no_dead f ts e)
comma_behind f (here next false) ts e = (refl, e)
comma_behind f (here named false) ts e = absurd (no_dead f ts e)
comma_behind f (here only false) ts e = absurd (no_dead f ts e)
comma_behind f (here shut false) ts e = absurd (no_dead f ts e)

-- trivia leads on alike from two places where it may stand
pub gap_alike : (f : Owner) (q r : Pos) (l : Bool) (g : Gap) (ts us : Nodes) → ((k : Bool) → Ends f (run (here q k) ts) → Ends f (run (here r k) us))
    → Ends f (run (spaced true q l g) ts) → Ends f (run (spaced true r l g) us)
gap_alike f q r true blank ts us h e = absurd (no_dead f ts e)
gap_alike f q r true break ts us h e = h false e
gap_alike f q r true (remark c) ts us h e = absurd (no_dead f ts e)
gap_alike f q r false blank ts us h e = h false e
gap_alike f q r false break ts us h e = h false e
gap_alike f q r false (remark (Line t)) ts us h e = h true e
gap_alike f q r false (remark (Block t)) ts us h e = h false e

-- only trivia up to the bracket: as well where an item has come
pub bracket_next : (f : Owner) (l : Bool) (ts : Nodes) → ends ts ≡ true → Ends f (run (here items l) ts) → Ends f (run (here next l) ts)
bracket_next f l end z e = absurd (false≢true z)
bracket_next f l (node p i ks ts) z e = go (class i.sort) l z e (λ w k. bracket_next f k ts w)
  where
    go : (c : Class) (l : Bool) → end_at c (ends ts) ≡ true → Ends f (run (step (here items l) c) ts) → (ends ts ≡ true → (k : Bool) → Ends f (run (here items k) ts) → Ends f (run (here next k) ts)) → Ends f (run (step (here next l) c) ts)
    go (gap g) l z e r = gap_alike f items next l g ts ts (r z) e
    go (mark Open) l z e r = absurd (false≢true z)
    go (mark Close) true z e r = e
    go (mark Close) false z e r = e
    go (mark Comma) l z e r = absurd (false≢true z)
    go (mark Colon) l z e r = absurd (false≢true z)
    go (mark Name) l z e r = absurd (false≢true z)
    go value l z e r = absurd (false≢true z)

-- and where none has come
pub bracket_items : (f : Owner) (l : Bool) (ts : Nodes) → ends ts ≡ true → Ends f (run (here next l) ts) → Ends f (run (here items l) ts)
bracket_items f l end z e = absurd (false≢true z)
bracket_items f l (node p i ks ts) z e = go (class i.sort) l z e (λ w k. bracket_items f k ts w)
  where
    go : (c : Class) (l : Bool) → end_at c (ends ts) ≡ true → Ends f (run (step (here next l) c) ts) → (ends ts ≡ true → (k : Bool) → Ends f (run (here next k) ts) → Ends f (run (here items k) ts)) → Ends f (run (step (here items l) c) ts)
    go (gap g) l z e r = gap_alike f next items l g ts ts (r z) e
    go (mark Open) l z e r = absurd (false≢true z)
    go (mark Close) true z e r = e
    go (mark Close) false z e r = e
    go (mark Comma) l z e r = absurd (false≢true z)
    go (mark Colon) l z e r = absurd (false≢true z)
    go (mark Name) l z e r = absurd (false≢true z)
    go value l z e r = absurd (false≢true z)

-- NEVER

untrailed_ends : (f : Owner) (q : State) (ts : Nodes) → Ends f (run q ts) → Ends f (run q (untrailed ts))
untrailed_ends f q end e = e
untrailed_ends f q (node p i ks ts) e = cond_both (is_comma (class i.sort) && ends ts) (untrailed ts) (node p i (untrailed ks) (untrailed ts)) (λ y. Ends f (run q y))
    (λ z. (let a = and_parts (is_comma (class i.sort)) (ends ts) z in
    let b = comma_behind f q ts (subst (λ c. Ends f (run (step q c) ts)) (is_comma_lem (class i.sort) a.0) e) in
    untrailed_ends f q ts (subst (λ s. Ends f (run s ts)) (sym b.0) (bracket_next f false ts a.1 b.1))))
    (λ z. untrailed_ends f (step q (class i.sort)) ts e)

untrailed_taken : (f : Owner) (ts : Nodes) → Taken f ts → Taken f (untrailed ts)
untrailed_taken f end h = tt
untrailed_taken f (node p i ks ts) h = cond_both (is_comma (class i.sort) && ends ts) (untrailed ts) (node p i (untrailed ks) (untrailed ts)) (Taken f)
    (λ z. untrailed_taken f ts h.1) (λ z. (h.0, untrailed_taken f ts h.1))

pub untrailed_fits : (f : Owner) (ts : Nodes) → Fits f ts → Fits f (untrailed ts)
untrailed_fits f ts h = record { ends = untrailed_ends f (begin f) ts h.ends; taken = untrailed_taken f ts h.taken }

untrailed_end : (ks : Nodes) → IsEnd ks → IsEnd (untrailed ks)
untrailed_end end h = tt
untrailed_end (node p i ks ts) h = absurd h

untrailed_holds : (s : Sort) (ks : Nodes) → Holds s ks → Holds s (untrailed ks)
untrailed_holds root ks h = h
untrailed_holds (within b) ks h = untrailed_fits (of b) ks h
untrailed_holds (single x) ks h = (h.0, untrailed_end ks h.1)

pub untrailed_whole : (ts : Nodes) → Whole ts → Whole (untrailed ts)
untrailed_whole end h = tt
untrailed_whole (node p i ks ts) h = cond_both (is_comma (class i.sort) && ends ts) (untrailed ts) (node p i (untrailed ks) (untrailed ts)) Whole
    (λ z. untrailed_whole ts h.2) (λ z. (untrailed_holds i.sort ks h.0, untrailed_whole ks h.1, untrailed_whole ts h.2))

pub untrailed_comments : (ts : Nodes) → comments (untrailed ts) ≡ comments ts
untrailed_comments end = refl
untrailed_comments (node p i ks ts) = cond_both (is_comma (class i.sort) && ends ts) (untrailed ts) (node p i (untrailed ks) (untrailed ts)) (λ y. comments y ≡ comments (node p i ks ts))
    (λ z. (let a = is_comma_lem (class i.sort) (and_parts (is_comma (class i.sort)) (ends ts) z).0 in untrailed_comments ts ∙ sym (ap (λ c. remarks_of c (comments ks) ++ comments ts) a)))
    (λ z. ap (λ y. remarks_of (class i.sort) y ++ comments (untrailed ts)) (untrailed_comments ks) ∙ ap (λ y. remarks_of (class i.sort) (comments ks) ++ y) (untrailed_comments ts))

-- a container's first child is no comma, so that a property's name stays
name_at : (s : Sort) (us vs : Nodes) (a b : Pieces) → Holds s us → name_of (piece s (pieces us) a) ≡ name_of (piece s (pieces vs) b)
name_at root us vs a b h = absurd h
name_at (within x) us vs a b h = refl
name_at (single x) us vs a b h = refl

untrailed_name : (b : Box) (ks : Nodes) → Fits (of b) ks → Whole ks → name_of (pieces (untrailed ks)) ≡ name_of (pieces ks)
untrailed_name b end h w = refl
untrailed_name b (node p i us ts) h w = cond_both (is_comma (class i.sort) && ends ts) (untrailed ts) (node p i (untrailed us) (untrailed ts)) (λ y. name_of (pieces y) ≡ name_of (pieces (node p i us ts)))
    (λ z. (let a = and_parts (is_comma (class i.sort)) (ends ts) z in absurd (no_dead (of b) ts (subst (λ c. Ends (of b) (run (step (here start false) c) ts)) (is_comma_lem (class i.sort) a.0) h.ends))))
    (λ z. sym (name_at i.sort us (untrailed us) (pieces ts) (pieces (untrailed ts)) w.0))

pub label_kept : (s : Sort) (ks us : Nodes) → Holds s ks → ((b : Box) → Fits (of b) ks → name_of (pieces us) ≡ name_of (pieces ks)) → label_of s (pieces us) ≡ label_of s (pieces ks)
label_kept root ks us h k = refl
label_kept (within array) ks us h k = refl
label_kept (within object) ks us h k = refl
label_kept (within property) ks us h k = ap Label.Member (k property h)
label_kept (single x) ks us h k = refl

pub untrailed_parts : (ts : Nodes) → Whole ts → parts (untrailed ts) ≡ parts ts
untrailed_parts end h = refl
untrailed_parts (node p i ks ts) h = cond_both (is_comma (class i.sort) && ends ts) (untrailed ts) (node p i (untrailed ks) (untrailed ts)) (λ y. parts y ≡ parts (node p i ks ts))
    (λ z. (let a = is_comma_lem (class i.sort) (and_parts (is_comma (class i.sort)) (ends ts) z).0 in
    untrailed_parts ts h.2 ∙ sym (ap (λ c. parts_at c (handle p i) (label_of i.sort (pieces ks)) (parts ks) (parts ts)) a)))
    (λ z. ap (λ l. parts_at (class i.sort) (handle p i) l (parts (untrailed ks)) (parts (untrailed ts))) (label_kept i.sort ks (untrailed ks) h.0 (λ b k. untrailed_name b ks k h.1))
    ∙ (ap (λ y. parts_at (class i.sort) (handle p i) (label_of i.sort (pieces ks)) y (parts (untrailed ts))) (untrailed_parts ks h.1)
    ∙ ap (parts_at (class i.sort) (handle p i) (label_of i.sort (pieces ks)) (parts ks)) (untrailed_parts ts h.2)))

-- IF MULTILINE

-- a member that only trivia follows up to the bracket
value_next : (f : Owner) (q : State) (ts : Nodes) → ends ts ≡ true → Ends f (run (step q value) ts) → step q value ≡ here next false
value_next f dead ts z e = absurd (no_dead f ts e)
value_next f (here q true) ts z e = absurd (no_dead f ts e)
value_next f (here start false) ts z e = absurd (no_dead f ts e)
value_next f (here items false) ts z e = refl
value_next f (here next false) ts z e = absurd (no_dead f ts e)
value_next f (here named false) ts z e = absurd (no_dead f ts e)
value_next f (here only false) end z e = absurd (false≢true z)
value_next f (here only false) (node p i ks ts) z e = absurd (go (class i.sort) z e)
  where
    go : (c : Class) → end_at c (ends ts) ≡ true → Ends f (run (step (here shut false) c) ts) → ⊥
    go (gap g) z e = no_dead f ts e
    go (mark m) z e = no_dead f ts e
    go value z e = no_dead f ts e
value_next f (here shut false) ts z e = absurd (no_dead f ts e)

pub class_is_value : (c : Class) → is_value c ≡ true → c ≡ value
class_is_value (gap g) e = absurd (false≢true e)
class_is_value (mark m) e = absurd (false≢true e)
class_is_value value e = refl

-- a comma is due only where commas are taken
abbrev pub Commaed : Owner → Bool → Type 0
Commaed f b = b ≡ true → takes f (sign comma) ≡ true

trailed_ends : (f : Owner) (q : State) (b : Bool) (s : Supply) (ts : Nodes) → Ends f (run q ts) → Ends f (run q (trailed b s ts))
trailed_ends f q b s end e = e
trailed_ends f q b s (node p i ks ts) e =
    cond_both (b && (is_value (class i.sort) && ends ts)) 1 0
    (λ d. Ends f (run (step q (class i.sort)) (append (sown s (commas d)) (trailed b (skip (d + dues (lined i.sort ks) ks) s) ts))))
    (λ z. (let a = and_parts b (is_value (class i.sort) && ends ts) z in let c = and_parts (is_value (class i.sort)) (ends ts) a.1 in
    let e' : Ends f (run (step q value) ts) = subst (λ y. Ends f (run (step q y) ts)) (class_is_value (class i.sort) c.0) e in
    let v = value_next f q ts c.1 e' in
    let h : Ends f (run (here items false) ts) = bracket_items f false ts c.1 (subst (λ y. Ends f (run y ts)) v e') in
    let r : Ends f (run (here items false) (trailed b (skip (1 + dues (lined i.sort ks) ks) s) ts)) = trailed_ends f (here items false) b (skip (1 + dues (lined i.sort ks) ks) s) ts h in
    subst (λ y. Ends f (run (step y (mark Comma)) (trailed b (skip (1 + dues (lined i.sort ks) ks) s) ts))) (sym (ap (step q) (class_is_value (class i.sort) c.0) ∙ v)) r))
    (λ z. trailed_ends f (step q (class i.sort)) b (skip (0 + dues (lined i.sort ks) ks) s) ts e)

trailed_taken : (f : Owner) (b : Bool) (s : Supply) (ts : Nodes) → Commaed f b → Taken f ts → Taken f (trailed b s ts)
trailed_taken f b s end k h = tt
trailed_taken f b s (node p i ks ts) k h = (
  h.0,
  cond_both (b && (is_value (class i.sort) && ends ts)) 1 0
      (λ d. Taken f (append (sown s (commas d)) (trailed b (skip (d + dues (lined i.sort ks) ks) s) ts)))
      (λ z. (k (and_parts b (is_value (class i.sort) && ends ts) z).0, trailed_taken f b (skip (1 + dues (lined i.sort ks) ks) s) ts k h.1))
      (λ z. trailed_taken f b (skip (0 + dues (lined i.sort ks) ks) s) ts k h.1),
)

pub trailed_fits : (f : Owner) (b : Bool) (s : Supply) (ts : Nodes) → Commaed f b → Fits f ts → Fits f (trailed b s ts)
trailed_fits f b s ts k h = record { ends = trailed_ends f (begin f) b s ts h.ends; taken = trailed_taken f b s ts k h.taken }

trailed_end : (b : Bool) (s : Supply) (ks : Nodes) → IsEnd ks → IsEnd (trailed b s ks)
trailed_end b s end h = tt
trailed_end b s (node p i ks ts) h = absurd h

-- an array or object takes commas
pub bracketed_commas : (b : Bool) (x : Box) → takes (of x) title ≡ false → Commaed (of x) b
bracketed_commas b array n e = refl
bracketed_commas b object n e = refl
bracketed_commas b property n e = absurd (true≢false n)

-- only arrays and objects have lines
pub lined_commas : (x : Box) (ks : Nodes) → Commaed (of x) (lined (within x) ks)
lined_commas array ks e = refl
lined_commas object ks e = refl
lined_commas property ks e = absurd (false≢true e)

trailed_holds : (x : Sort) (s : Supply) (ks : Nodes) → Holds x ks → Holds x (trailed (lined x ks) s ks)
trailed_holds root s ks h = h
trailed_holds (within x) s ks h = trailed_fits (of x) (lined (within x) ks) s ks (lined_commas x ks) h
trailed_holds (single x) s ks h = (h.0, trailed_end (lined (single x) ks) s ks h.1)

pub trailed_whole : (b : Bool) (s : Supply) (ts : Nodes) → Whole ts → Whole (trailed b s ts)
trailed_whole b s end h = tt
trailed_whole b s (node p i ks ts) h = (
  trailed_holds i.sort (skip (due b i ts) s) ks h.0,
  trailed_whole (lined i.sort ks) (skip (due b i ts) s) ks h.1,
  cond_both (b && (is_value (class i.sort) && ends ts)) 1 0
      (λ d. Whole (append (sown s (commas d)) (trailed b (skip (d + dues (lined i.sort ks) ks) s) ts)))
      (λ z. ((tt, tt), tt, trailed_whole b (skip (1 + dues (lined i.sort ks) ks) s) ts h.2))
      (λ z. trailed_whole b (skip (0 + dues (lined i.sort ks) ks) s) ts h.2),
)

pub trailed_comments : (b : Bool) (s : Supply) (ts : Nodes) → comments (trailed b s ts) ≡ comments ts
trailed_comments b s end = refl
trailed_comments b s (node p i ks ts) =
    ap (λ y. remarks_of (class i.sort) y ++ comments (append (sown s (commas (due b i ts))) (trailed b (skip (due b i ts + dues (lined i.sort ks) ks) s) ts))) (trailed_comments (lined i.sort ks) (skip (due b i ts) s) ks)
    ∙ ap (λ y. remarks_of (class i.sort) (comments ks) ++ y)
    (cond_both (b && (is_value (class i.sort) && ends ts)) 1 0
    (λ d. comments (append (sown s (commas d)) (trailed b (skip (d + dues (lined i.sort ks) ks) s) ts)) ≡ comments ts)
    (λ z. trailed_comments b (skip (1 + dues (lined i.sort ks) ks) s) ts) (λ z. trailed_comments b (skip (0 + dues (lined i.sort ks) ks) s) ts))

trailed_name : (b : Bool) (s : Supply) (ks : Nodes) → Whole ks → name_of (pieces (trailed b s ks)) ≡ name_of (pieces ks)
trailed_name b s end w = refl
trailed_name b s (node p i us ts) w = sym (name_at i.sort us (trailed (lined i.sort us) (skip (due b i ts) s) us) (pieces ts) (pieces (append (sown s (commas (due b i ts))) (trailed b (skip (due b i ts + dues (lined i.sort us) us) s) ts))) w.0)

pub trailed_parts : (b : Bool) (s : Supply) (ts : Nodes) → Whole ts → parts (trailed b s ts) ≡ parts ts
trailed_parts b s end h = refl
trailed_parts b s (node p i ks ts) h =
    let us : Nodes = trailed (lined i.sort ks) (skip (due b i ts) s) ks in
    let vs : Nodes = append (sown s (commas (due b i ts))) (trailed b (skip (due b i ts + dues (lined i.sort ks) ks) s) ts) in
    ap (λ l. parts_at (class i.sort) (handle p i) l (parts us) (parts vs)) (label_kept i.sort ks us h.0 (λ x k. trailed_name (lined i.sort ks) (skip (due b i ts) s) ks h.1))
    ∙ (ap (λ y. parts_at (class i.sort) (handle p i) (label_of i.sort (pieces ks)) y (parts vs)) (trailed_parts (lined i.sort ks) (skip (due b i ts) s) ks h.1)
    ∙ ap (parts_at (class i.sort) (handle p i) (label_of i.sort (pieces ks)) (parts ks))
    (cond_both (b && (is_value (class i.sort) && ends ts)) 1 0
    (λ d. parts (append (sown s (commas d)) (trailed b (skip (d + dues (lined i.sort ks) ks) s) ts)) ≡ parts ts)
    (λ z. trailed_parts b (skip (1 + dues (lined i.sort ks) ks) s) ts h.2) (λ z. trailed_parts b (skip (0 + dues (lined i.sort ks) ks) s) ts h.2)))
