-- remove keeps a child list as the grammar has it, and takes one part of the value. Assumes nothing.
use Rattle.std.proofs.Common.{◌≡◌, ℕ, Bool, true, false, cond, not, ◌&&◌, eqb, ◌⊎◌, Some, None, Option, sym, refl, ap, ◌∙◌, subst, inl, inr, arith}
use mathlib.Core.Bool.{false≢true}
use Rattle.std.proofs.lemmas.Bool.{eqb-true, cond_both}
use Rattle.std.proofs.lemmas.Option.{none-some}
use Rattle.grammar.specs.Layout.{Line, Block, Mark, Open, Close, Comma, Colon, Name}
use Rattle.grammar.specs.Pieces.{Token, Leaf}
use Rattle.forest.specs.Forest.{end, node}
use Rattle.model.specs.Nodes.{Sort, root, within, single, Own, Nodes, Gap, blank, break, remark, Class, gap, mark, value, class}
use Rattle.model.specs.Asks.{is_comma}
use Rattle.model.specs.Edits.{onto, Local, local_from, local, back_at, back_line, un_comma, past_at, past_comma, line_ends, solid_next, rest_at, drop_line, bare_at, empty, tight_at, tight, tidy, closed, removal}
use Rattle.model.specs.Fits.{Owner, top, of, Pos, start, items, next, named, only, shut, State, here, spaced, gapped, marked, step, run, begin, Ends, title, role, takes, Taken, Fits, Holds, Whole}
use Rattle.model.specs.Changes.{At, Each}
use Rattle.model.proofs.Prints.{no_dead}
use Rattle.model.proofs.Machine.{back, run_onto, gap_goes, break_goes, blank_goes, blank_plain, mark_goes, value_goes, end_goes, dead_here, Unnamed, Untitled, unnamed_step, value_inv, gap_inv, gap_same, start_inv, Opened, by_comma, by_open, items_mark, items_value, begin_pos, begin_unnamed}

-- going back over Whitespace and Comments
line_inv : (k : Bool) (g : Gap) → spaced true items k g ≡ here items false → ((g ≡ break) → ⊥) → k ≡ false
line_inv true blank e n = absurd (dead_here items false e)
line_inv true break e n = absurd (n refl)
line_inv true (remark c) e n = absurd (dead_here items false e)
line_inv false g e n = refl

pub back_line_lem : (q : State) (bs : Nodes) → back q bs ≡ here items false → back q (back_line bs) ≡ here items false
back_line_lem q end e = e
back_line_lem q (node p i ks bs) e = go (class i.sort) (node p i ks bs) e e (back_line_lem q bs)
  where
    past : (g : Gap) → ((g ≡ break) → ⊥) → step (back q bs) (gap g) ≡ here items false → back q bs ≡ here items false
    past g n e = (let h = gap_inv (back q bs) g items false e in h.1 ∙ ap (here items) (line_inv h.0 g h.2 n))

    go : (c : Class) (x : Nodes) → back q x ≡ here items false → step (back q bs) c ≡ here items false
        → (back q bs ≡ here items false → back q (back_line bs) ≡ here items false) → back q (back_at c x (back_line bs)) ≡ here items false
    go (gap blank) x h e f = f (past blank (λ z. (let y : ◌≡◌ {A = ℕ} 0 1 = cc in omega arith)) e)
    go (gap break) x h e f = h
    go (gap (remark c)) x h e f = f (past (remark c) (λ z. (let y : ◌≡◌ {A = ℕ} 0 1 = cc in omega arith)) e)
    go (mark m) x h e f = h
    go value x h e f = h

-- only nothing stands before the start
nothing_before : (f : Owner) (bs : Nodes) (l : Bool) → back (begin f) bs ≡ here start l → bs ≡ end
nothing_before f end l e = refl
nothing_before f (node p i ks bs) l e = absurd (start_inv (back (begin f) bs) (class i.sort) l e)

-- without the comma before: an item has come, or there was no comma
pub un_comma_lem : (f : Owner) (bs : Nodes) (l : Bool) → back (begin f) bs ≡ here items l → (back (begin f) (un_comma bs) ≡ here next l) ⊎ (un_comma bs ≡ bs)
un_comma_lem f end l e = inr refl
un_comma_lem f (node p i ks bs) l e =
    go (class i.sort) (node p i ks (un_comma bs)) e refl (λ u. ap (node p i ks) u) (un_comma_lem f bs)
  where
    at : (m : Mark) (y : Nodes) → Opened (back (begin f) bs) l m → (un_comma bs ≡ bs → y ≡ node p i ks bs)
        → (back (begin f) (cond (is_comma (mark m)) bs y) ≡ here next l) ⊎ (cond (is_comma (mark m)) bs y ≡ node p i ks bs)
    at Close y z f' = elim z [ ]
    at Colon y z f' = elim z [ ]
    at Name y z f' = elim z [ ]
    at Comma y (by_comma z) f' = inl z
    at Open y (by_open z) f' = inr (f' (let w = nothing_before f bs l z in ap un_comma w ∙ sym w))

    go : (c : Class) (y : Nodes) → step (back (begin f) bs) c ≡ here items l → back (begin f) y ≡ step (back (begin f) (un_comma bs)) c → (un_comma bs ≡ bs → y ≡ node p i ks bs)
        → ((k : Bool) → back (begin f) bs ≡ here items k → (back (begin f) (un_comma bs) ≡ here next k) ⊎ (un_comma bs ≡ bs))
        → (back (begin f) (cond (is_comma c) bs y) ≡ here next l) ⊎ (cond (is_comma c) bs y ≡ node p i ks bs)
    go (gap g) y e h f' r = (let v = gap_inv (back (begin f) bs) g items l e in
        elim (r v.0 v.1) [ inl u ↦ inl (h ∙ (ap (λ z. step z (gap g)) u ∙ gap_same items next v.0 l g v.2)) | inr u ↦ inr (f' u) ])
    go (mark m) y e h f' r = at m y (items_mark (back (begin f) bs) m l e) f'
    go value y e h f' r = absurd (items_value (back (begin f) bs) l e)

-- the rest of a line dropped
pub line_fits : (f : Owner) (q : Pos) (l : Bool) (ts : Nodes) → Ends f (run (here q l) ts) → Ends f (run (here q false) (drop_line ts))
line_fits f q l end e = end_goes f q l e
line_fits f q l (node p i ks ts) e =
    go (class i.sort) (solid_next ts) (node p i ks ts) refl e (λ k. line_fits f q k ts)
  where
    go : (c : Class) (b : Bool) (x : Nodes) → run (here q false) x ≡ run (step (here q false) c) ts → Ends f (run (step (here q l) c) ts)
        → ((k : Bool) → Ends f (run (here q k) ts) → Ends f (run (here q false) (drop_line ts)))
        → Ends f (run (here q false) (rest_at c b x (drop_line ts) ts))
    go (gap blank) true x h e r = subst (Ends f) (sym h) (blank_plain f q l ts e)
    go (gap blank) false x h e r = (let g = gap_goes f q l blank ts e in r g.0 g.1)
    go (gap break) b x h e r = break_goes f q l ts e
    go (gap (remark c)) b x h e r = (let g = gap_goes f q l (remark c) ts e in r g.0 g.1)
    go (mark m) b x h e r = subst (Ends f) (sym h) (mark_goes f q l m ts e)
    go value b x h e r = subst (Ends f) (sym h) (value_goes f q l ts e)

-- behind the trailing comma
pub past_fits : (f : Owner) (l : Bool) (ts r : Nodes) → past_comma ts ≡ Some r → Ends f (run (here next l) ts) → Ends f (run (here items false) r)
past_fits f l end r w e = absurd (none-some r w)
past_fits f l (node p i ks ts) r w e = go (class i.sort) w e (λ k. past_fits f k ts r)
  where
    go : (c : Class) → past_at c (past_comma ts) ts ≡ Some r → Ends f (run (step (here next l) c) ts)
        → ((k : Bool) → past_comma ts ≡ Some r → Ends f (run (here next k) ts) → Ends f (run (here items false) r)) → Ends f (run (here items false) r)
    go (gap g) w e h = (let k = gap_goes f next l g ts e in h k.0 w k.1)
    go (mark Open) w e h = absurd (none-some r w)
    go (mark Close) w e h = absurd (none-some r w)
    go (mark Comma) w e h = (let z : ts ≡ r = cc in subst (λ t. Ends f (run (here items false) t)) z (mark_goes f next l Comma ts e))
    go (mark Colon) w e h = absurd (none-some r w)
    go (mark Name) w e h = absurd (none-some r w)
    go value w e h = absurd (none-some r w)

-- no trailing comma: as well where no item has come
swap_gap : (f : Owner) (l : Bool) (g : Gap) (ts : Nodes) → ((k : Bool) → Ends f (run (here next k) ts) → Ends f (run (here items k) ts))
    → Ends f (run (gapped next l g) ts) → Ends f (run (gapped items l g) ts)
swap_gap f true blank ts h e = e
swap_gap f true break ts h e = h false e
swap_gap f true (remark c) ts h e = e
swap_gap f false blank ts h e = h false e
swap_gap f false break ts h e = h false e
swap_gap f false (remark (Line t)) ts h e = h true e
swap_gap f false (remark (Block t)) ts h e = h false e

pub none_fits : (f : Owner) (l : Bool) (ts : Nodes) → past_comma ts ≡ None → Ends f (run (here next l) ts) → Ends f (run (here items l) ts)
none_fits top l end w e = e
none_fits (of b) l end w e = e
none_fits f l (node p i ks ts) w e = go (class i.sort) w e (λ h k. none_fits f k ts h)
  where
    close : (l : Bool) → Ends f (run (step (here next l) (mark Close)) ts) → Ends f (run (step (here items l) (mark Close)) ts)
    close true e = e
    close false e = e

    go : (c : Class) → past_at c (past_comma ts) ts ≡ None → Ends f (run (step (here next l) c) ts)
        → (past_comma ts ≡ None → (k : Bool) → Ends f (run (here next k) ts) → Ends f (run (here items k) ts)) → Ends f (run (step (here items l) c) ts)
    go (gap g) w e h = swap_gap f l g ts (h w) e
    go (mark Open) w e h = absurd (no_dead f ts (mark_goes f next l Open ts e))
    go (mark Close) w e h = close l e
    go (mark Comma) w e h = absurd (none-some ts (sym w))
    go (mark Colon) w e h = absurd (no_dead f ts (mark_goes f next l Colon ts e))
    go (mark Name) w e h = absurd (no_dead f ts (mark_goes f next l Name ts e))
    go value w e h = absurd (no_dead f ts (value_goes f next l ts e))

-- blank brackets, or a blank root, cleared
pub tight_fits : (f : Owner) (q : Pos) (ts : Nodes) → empty ts ≡ true → Ends f (run (here q false) ts) → Ends f (run (here q false) (tight ts))
tight_fits f q end w e = e
tight_fits f q (node p i ks ts) w e = go (class i.sort) (node p i ks (tight ts)) (λ v. refl) w e (λ h v. tight_fits f v ts h)
  where
    opened : (q : Pos) → ((v : Pos) → Ends f (run (here v false) ts) → Ends f (run (here v false) (tight ts))) → Ends f (run (marked q Open) ts) → Ends f (run (marked q Open) (tight ts))
    opened start h e = h items e
    opened items h e = absurd (no_dead f ts e)
    opened next h e = absurd (no_dead f ts e)
    opened named h e = absurd (no_dead f ts e)
    opened only h e = absurd (no_dead f ts e)
    opened shut h e = absurd (no_dead f ts e)

    closes : (q : Pos) → ((v : Pos) → Ends f (run (here v false) ts) → Ends f (run (here v false) (tight ts))) → Ends f (run (marked q Close) ts) → Ends f (run (marked q Close) (tight ts))
    closes start h e = absurd (no_dead f ts e)
    closes items h e = h shut e
    closes next h e = h shut e
    closes named h e = absurd (no_dead f ts e)
    closes only h e = absurd (no_dead f ts e)
    closes shut h e = absurd (no_dead f ts e)

    go : (c : Class) (x : Nodes) → ((v : State) → run v x ≡ run (step v c) (tight ts)) → bare_at c (empty ts) ≡ true → Ends f (run (step (here q false) c) ts)
        → (empty ts ≡ true → (v : Pos) → Ends f (run (here v false) ts) → Ends f (run (here v false) (tight ts)))
        → Ends f (run (here q false) (tight_at c x (tight ts)))
    go (gap blank) x w z e h = h z q (blank_goes f q false ts e)
    go (gap break) x w z e h = h z q (break_goes f q false ts e)
    go (gap (remark c)) x w z e h = absurd (false≢true z)
    go (mark Open) x w z e h = subst (Ends f) (sym (w (here q false))) (opened q (h z) e)
    go (mark Close) x w z e h = subst (Ends f) (sym (w (here q false))) (closes q (h z) e)
    go (mark Comma) x w z e h = absurd (false≢true z)
    go (mark Colon) x w z e h = absurd (false≢true z)
    go (mark Name) x w z e h = absurd (false≢true z)
    go value x w z e h = absurd (false≢true z)

tidy_ends : (f : Owner) (ts : Nodes) → Ends f (run (begin f) ts) → Ends f (run (begin f) (tidy ts))
tidy_ends f ts e = cond_both (empty ts) (tight ts) ts (λ y. Ends f (run (begin f) y))
    (λ h. (let b = begin_pos f in subst (λ v. Ends f (run v (tight ts))) (sym b.1) (tight_fits f b.0 ts h (subst (λ v. Ends f (run v ts)) b.1 e)))) (λ h. e)

closed_ends : (f : Owner) (bs ts : Nodes) → back (begin f) bs ≡ here items false → Ends f (run (here next false) ts) → Ends f (run (begin f) (closed bs ts (past_comma ts)))
closed_ends f bs ts q e = go (past_comma ts) refl
  where
    put : (cs us : Nodes) (v : State) → back (begin f) cs ≡ v → Ends f (run v us) → Ends f (run (begin f) (onto cs us))
    put cs us v w e = subst (Ends f) (sym (run_onto (begin f) cs us)) (subst (λ x. Ends f (run x us)) (sym w) e)

    cut : (b : Bool) (r : Nodes) → Ends f (run (here items false) r) → Ends f (run (here items false) (cond b (drop_line r) r))
    cut true r e = line_fits f items false r e
    cut false r e = e

    go : (o : Option Nodes) → past_comma ts ≡ o → Ends f (run (begin f) (closed bs ts o))
    go None w =
        elim (un_comma_lem f (back_line bs) false (back_line_lem (begin f) bs q)) [
          | inl u ↦ put (un_comma (back_line bs)) (drop_line ts) (here next false) u (line_fits f next false ts e)
          | inr u ↦ put (un_comma (back_line bs)) (drop_line ts) (here items false) (ap (back (begin f)) u ∙ back_line_lem (begin f) bs q) (line_fits f items false ts (none_fits f false ts w e))
        ]
    go (Some r) w = put (back_line bs) (cond (not (line_ends ts) && line_ends r) (drop_line r) r) (here items false) (back_line_lem (begin f) bs q) (cut (not (line_ends ts) && line_ends r) r (past_fits f false ts r w e))

-- what holds of each of the siblings holds of those that stay

module _ (P : Own → Nodes → Type 0) where
  pub each_onto : (bs ts : Nodes) → Each P bs → Each P ts → Each P (onto bs ts)
  each_onto end ts h k = k
  each_onto (node p i ks bs) ts h k = each_onto bs (node p i ks ts) h.1 (h.0, k)

  pub onto_each : (bs ts : Nodes) → Each P (onto bs ts) → Each P bs × Each P ts
  onto_each end ts h = (tt, h)
  onto_each (node p i ks bs) ts h = (let r = onto_each bs (node p i ks ts) h in ((r.1.0, r.0), r.1.1))

  each_back : (bs : Nodes) → Each P bs → Each P (back_line bs)
  each_back end h = tt
  each_back (node p i ks bs) h = go (class i.sort) (node p i ks bs) h (each_back bs h.1)
    where
      go : (c : Class) (x : Nodes) → Each P x → Each P (back_line bs) → Each P (back_at c x (back_line bs))
      go (gap blank) x h r = r
      go (gap break) x h r = h
      go (gap (remark c)) x h r = r
      go (mark m) x h r = h
      go value x h r = h

  each_comma : (bs : Nodes) → Each P bs → Each P (un_comma bs)
  each_comma end h = tt
  each_comma (node p i ks bs) h = cond_both (is_comma (class i.sort)) bs (node p i ks (un_comma bs)) (Each P) (λ e. h.1) (λ e. (h.0, each_comma bs h.1))

  each_past : (ts r : Nodes) → past_comma ts ≡ Some r → Each P ts → Each P r
  each_past end r w h = absurd (none-some r w)
  each_past (node p i ks ts) r w h = go (class i.sort) w (λ z. each_past ts r z h.1)
    where
      go : (c : Class) → past_at c (past_comma ts) ts ≡ Some r → (past_comma ts ≡ Some r → Each P r) → Each P r
      go (gap g) w k = k w
      go (mark Open) w k = absurd (none-some r w)
      go (mark Close) w k = absurd (none-some r w)
      go (mark Comma) w k = (let z : ts ≡ r = cc in subst (Each P) z h.1)
      go (mark Colon) w k = absurd (none-some r w)
      go (mark Name) w k = absurd (none-some r w)
      go value w k = absurd (none-some r w)

  each_line : (ts : Nodes) → Each P ts → Each P (drop_line ts)
  each_line end h = tt
  each_line (node p i ks ts) h = go (class i.sort) (solid_next ts) (node p i ks ts) h (each_line ts h.1)
    where
      go : (c : Class) (b : Bool) (x : Nodes) → Each P x → Each P (drop_line ts) → Each P (rest_at c b x (drop_line ts) ts)
      go (gap blank) true x k r = k
      go (gap blank) false x k r = r
      go (gap break) b x k r = h.1
      go (gap (remark c)) b x k r = r
      go (mark m) b x k r = k
      go value b x k r = k

  each_tight : (ts : Nodes) → Each P ts → Each P (tight ts)
  each_tight end h = tt
  each_tight (node p i ks ts) h = go (class i.sort) (node p i ks (tight ts)) (h.0, each_tight ts h.1) (each_tight ts h.1)
    where
      go : (c : Class) (x : Nodes) → Each P x → Each P (tight ts) → Each P (tight_at c x (tight ts))
      go (gap blank) x k r = r
      go (gap break) x k r = r
      go (gap (remark c)) x k r = k
      go (mark m) x k r = k
      go value x k r = k

  each_tidy : (ts : Nodes) → Each P ts → Each P (tidy ts)
  each_tidy ts h = cond_both (empty ts) (tight ts) ts (Each P) (λ e. each_tight ts h) (λ e. h)

  each_closed : (bs ts : Nodes) → Each P bs → Each P ts → Each P (closed bs ts (past_comma ts))
  each_closed bs ts h k = go (past_comma ts) refl
    where
      go : (o : Option Nodes) → past_comma ts ≡ o → Each P (closed bs ts o)
      go None w = each_onto (un_comma (back_line bs)) (drop_line ts) (each_comma (back_line bs) (each_back bs h)) (each_line ts k)
      go (Some r) w = each_onto (back_line bs) (cond (not (line_ends ts) && line_ends r) (drop_line r) r) (each_back bs h)
          (cond_both (not (line_ends ts) && line_ends r) (drop_line r) r (Each P) (λ e. each_line r (each_past ts r w k)) (λ e. each_past ts r w k))

-- what has to hold of a child, in its own words and as siblings have it
abbrev pub Kept : Owner → Own → Nodes → Type 0
Kept f i ks = (takes f (role i.sort) ≡ true) × Holds i.sort ks × Whole ks

pub each_kept : (f : Owner) (ts : Nodes) → Taken f ts → Whole ts → Each (Kept f) ts
each_kept f end h w = tt
each_kept f (node p i ks ts) h w = ((h.0, w.0, w.1), each_kept f ts h.1 w.2)

pub kept_taken : (f : Owner) (ts : Nodes) → Each (Kept f) ts → Taken f ts
kept_taken f end h = tt
kept_taken f (node p i ks ts) h = (h.0.0, kept_taken f ts h.1)

pub kept_whole : (f : Owner) (ts : Nodes) → Each (Kept f) ts → Whole ts
kept_whole f end h = tt
kept_whole f (node p i ks ts) h = (h.0.1, h.0.2, kept_whole f ts h.1)

pub kept_fits : (f : Owner) (ts : Nodes) → Ends f (run (begin f) ts) → Each (Kept f) ts → Fits f ts × Whole ts
kept_fits f ts e h = (record { ends = e; taken = kept_taken f ts h }, kept_whole f ts h)

-- where no name is taken, none stands
leaf_untitled : (f : Owner) (x : Leaf) → takes f title ≡ false → takes f (role (single x)) ≡ true → Untitled (class (single x))
leaf_untitled f Leaf.null n h = tt
leaf_untitled f (Leaf.boolean b) n h = tt
leaf_untitled f (Leaf.number t) n h = tt
leaf_untitled f (Leaf.string t) n h = tt
leaf_untitled f (Leaf.name t) n h = absurd (false≢true (sym n ∙ h))
leaf_untitled f (Leaf.token Token.open_array) n h = tt
leaf_untitled f (Leaf.token Token.close_array) n h = tt
leaf_untitled f (Leaf.token Token.open_object) n h = tt
leaf_untitled f (Leaf.token Token.close_object) n h = tt
leaf_untitled f (Leaf.token Token.comma) n h = tt
leaf_untitled f (Leaf.token Token.colon) n h = tt
leaf_untitled f (Leaf.whitespace t) n h = tt
leaf_untitled f (Leaf.newline k) n h = tt
leaf_untitled f (Leaf.comment c) n h = tt

pub sort_untitled : (f : Owner) (s : Sort) → takes f title ≡ false → takes f (role s) ≡ true → Untitled (class s)
sort_untitled f root n h = tt
sort_untitled f (within b) n h = tt
sort_untitled f (single x) n h = leaf_untitled f x n h

back_unnamed : (f : Owner) (bs : Nodes) → takes f title ≡ false → Each (Kept f) bs → Unnamed (back (begin f) bs)
back_unnamed f end n h = begin_unnamed f
back_unnamed f (node p i ks bs) n h = unnamed_step (back (begin f) bs) (class i.sort) (back_unnamed f bs n h.1) (sort_untitled f i.sort n h.0.0)

removal_fits : (f : Owner) (bs : Nodes) (p : ℕ) (i : Own) (ks ts : Nodes) → takes f title ≡ false → class i.sort ≡ value
    → Fits f (onto bs (node p i ks ts)) → Whole (onto bs (node p i ks ts)) → Fits f (removal bs p i ks ts) × Whole (removal bs p i ks ts)
removal_fits f bs p i ks ts n v h w =
    let a = onto_each (Kept f) bs (node p i ks ts) (each_kept f (onto bs (node p i ks ts)) h.taken w) in
    let e : Ends f (run (step (back (begin f) bs) value) ts) = subst (λ c. Ends f (run (step (back (begin f) bs) c) ts)) v (subst (Ends f) (run_onto (begin f) bs (node p i ks ts)) h.ends) in
    let q : back (begin f) bs ≡ here items false = value_inv f (back (begin f) bs) ts (back_unnamed f bs n a.0) e in
    let d : Ends f (run (here next false) ts) = subst (λ z. Ends f (run (step z value) ts)) q e in
    kept_fits f (tidy (closed bs ts (past_comma ts))) (tidy_ends f (closed bs ts (past_comma ts)) (closed_ends f bs ts q d)) (each_tidy (Kept f) (closed bs ts (past_comma ts)) (each_closed (Kept f) bs ts a.0 a.1.1))

-- an edit at one sibling
pub local_ways : (Q : Nodes → Type 0) (g : Local) (k : ℕ) (bs ts : Nodes) → Q (onto bs ts)
    → ((cs : Nodes) (p : ℕ) (i : Own) (ks us : Nodes) → onto cs (node p i ks us) ≡ onto bs ts → p ≡ k → Q (g cs p i ks us)) → Q (local_from g k bs ts)
local_ways Q g k bs end h r = h
local_ways Q g k bs (node p i ks ts) h r = cond_both (eqb p k) (g bs p i ks ts) (local_from g k (node p i ks bs) ts) Q
    (λ e. r bs p i ks ts refl (eqb-true p k e)) (λ e. local_ways Q g k (node p i ks bs) ts h r)

pub at_onto : (bs : Nodes) (p : ℕ) (i : Own) (ks us ts : Nodes) → At p i ks us → At p i ks (onto bs us)
at_onto end p i ks us ts a = a
at_onto (node q j vs bs) p i ks us ts a = at_onto bs p i ks (node q j vs us) ts (inr (inr a))

pub at_here : (bs : Nodes) (p : ℕ) (i : Own) (ks us ts : Nodes) → onto bs (node p i ks us) ≡ ts → At p i ks ts
at_here bs p i ks us ts e = subst (At p i ks) e (at_onto bs p i ks (node p i ks us) ts (inl (refl, refl, refl)))

-- remove keeps a child list that is no property's
pub remove_fits : (f : Owner) (k : ℕ) (ts : Nodes) → takes f title ≡ false → ((i : Own) (ks : Nodes) → At k i ks ts → class i.sort ≡ value)
    → Fits f ts → Whole ts → Fits f (local removal k ts) × Whole (local removal k ts)
remove_fits f k ts n v h w = local_ways (λ y. Fits f y × Whole y) removal k end ts (h, w)
    (λ cs p i ks us e z. removal_fits f cs p i ks us n (v i ks (subst (λ y. At y i ks ts) z (at_here cs p i ks us ts e))) (subst (Fits f) (sym e) h) (subst Whole (sym e) w))
