-- replace, set_value and set_root keep a child list as the grammar has it, and put the new value in its place. Assumes nothing.
use Rattle.std.proofs.Common.{◌≡◌, ℕ, suc, ◌+◌, Bool, true, false, eqb, sym, refl, ap, ◌∙◌, subst, inl, inr, true≢false, arith}
use mathlib.Core.Bool.{false≢true}
use Rattle.std.proofs.lemmas.Bool.{eqb-true, cond_both, cond-true, cond-false}
use Rattle.grammar.specs.Layout.{Line, Block, Parts, part}
use Rattle.grammar.specs.Pieces.{newline, Break, Pieces, end as no_pieces, leaf, box, nodes}
use Rattle.forest.specs.Forest.{end, node, append}
use Rattle.model.specs.Nodes.{Handle, handle, Own, Nodes, Gap, blank, break, remark, Class, gap, mark, value, class, leaf_class, pieces, label_of, parts, parts_at}
use Rattle.model.specs.Asks.{is_break}
use Rattle.model.specs.Edits.{Supply, skip, sown, onto, local_from, local, exchanged, cut_at, root_cut, is_remark, break_before, root_put}
use Rattle.model.specs.Fits.{Owner, top, of, items, next, State, here, spaced, gapped, step, run, begin, Ends, element, role, takes, Taken, Fits, Whole}
use Rattle.model.specs.Changes.{At, Each, Trivial, chain, swapped}
use Rattle.model.proofs.Prints.{no_dead}
use Rattle.model.proofs.Machine.{back, run_onto, gap_inv, dead_here}
use Rattle.model.proofs.Removes.{each_onto, onto_each, Kept, each_kept, kept_fits, local_ways, at_here}
use Rattle.model.proofs.Parted.{lead, parts_onto}
use Rattle.model.proofs.Loaded.{runs, TakenP, FitsP, WholeP, Goes, Stands}

-- new nodes are what their pieces are
run_sown : (q : State) (s : Supply) (a : Pieces) → run q (sown s a) ≡ runs q a
run_sown q s no_pieces = refl
run_sown q s (leaf x r) = run_sown (step q (leaf_class x)) (skip 1 s) r
run_sown q s (box b c r) = run_sown (step q value) (skip (suc (nodes c)) s) r

taken_sown : (f : Owner) (s : Supply) (a : Pieces) → TakenP f a → Taken f (sown s a)
taken_sown f s no_pieces h = tt
taken_sown f s (leaf x r) h = (h.0, taken_sown f (skip 1 s) r h.1)
taken_sown f s (box b c r) h = (h.0, taken_sown f (skip (suc (nodes c)) s) r h.1)

fits_sown : (f : Owner) (s : Supply) (a : Pieces) → FitsP f a → Fits f (sown s a)
fits_sown f s a h = record { ends = subst (Ends f) (sym (run_sown (begin f) s a)) h.ends; taken = taken_sown f s a h.taken }

whole_sown : (s : Supply) (a : Pieces) → WholeP a → Whole (sown s a)
whole_sown s no_pieces h = tt
whole_sown s (leaf x r) h = ((h.0, tt), tt, whole_sown (skip 1 s) r h.1)
whole_sown s (box b c r) h = (fits_sown (of b) (skip 1 s) c h.0, whole_sown (skip 1 s) c h.1, whole_sown (skip (suc (nodes c)) s) r h.2)

pub each_sown : (f : Owner) (s : Supply) (a : Pieces) → TakenP f a → WholeP a → Each (Kept f) (sown s a)
each_sown f s a h w = each_kept f (sown s a) (taken_sown f s a h) (whole_sown s a w)

run_append : (q : State) (us ts : Nodes) → run q (append us ts) ≡ run (run q us) ts
run_append q end ts = refl
run_append q (node p i ks us) ts = run_append (step q (class i.sort)) us ts

each_append : (P : Own → Nodes → Type 0) (us ts : Nodes) → Each P us → Each P ts → Each P (append us ts)
each_append P end ts h k = k
each_append P (node p i ks us) ts h k = (h.0, each_append P us ts h.1 k)

-- new siblings that lead from one state to another
sown_ends : (f : Owner) (q r : State) (s : Supply) (a : Pieces) (ts : Nodes) → Goes f q r a → Ends f (run r ts) → Ends f (run q (append (sown s a) ts))
sown_ends f q r s a ts g e = subst (Ends f) (sym (run_append q (sown s a) ts ∙ ap (λ y. run y ts) (run_sown q s a ∙ g.moves))) e

-- EXCHANGE

exchanged_fits : (f : Owner) (s : Supply) (a : Pieces) (bs : Nodes) (p : ℕ) (i : Own) (ks ts : Nodes) → Stands a → class i.sort ≡ value → role i.sort ≡ element
    → Fits f (onto bs (node p i ks ts)) → Whole (onto bs (node p i ks ts)) → Fits f (onto bs (append (sown s a) ts)) × Whole (onto bs (append (sown s a) ts))
exchanged_fits f s a bs p i ks ts g v o h w =
    let k = onto_each (Kept f) bs (node p i ks ts) (each_kept f (onto bs (node p i ks ts)) h.taken w) in
    let q = back (begin f) bs in
    let e : Ends f (run (step q value) ts) = subst (λ c. Ends f (run (step q c) ts)) v (subst (Ends f) (run_onto (begin f) bs (node p i ks ts)) h.ends) in
    let m : Goes f q (step q value) a = g f q (step q value) (subst (λ y. takes f y ≡ true) o k.1.0.0) refl in
    kept_fits f (onto bs (append (sown s a) ts)) (subst (Ends f) (sym (run_onto (begin f) bs (append (sown s a) ts))) (sown_ends f q (step q value) s a ts m e))
    (each_onto (Kept f) bs (append (sown s a) ts) k.0 (each_append (Kept f) (sown s a) ts (each_sown f s a m.taken m.whole) k.1.1))

-- a value in the place of a value keeps the child list
pub exchange_fits : (f : Owner) (k : ℕ) (s : Supply) (a : Pieces) (ts : Nodes) → Stands a → ((i : Own) (ks : Nodes) → At k i ks ts → (class i.sort ≡ value) × (role i.sort ≡ element))
    → Fits f ts → Whole ts → Fits f (local (exchanged (sown s a)) k ts) × Whole (local (exchanged (sown s a)) k ts)
exchange_fits f k s a ts g v h w = local_ways (λ y. Fits f y × Whole y) (exchanged (sown s a)) k end ts (h, w)
    (λ cs p i ks us e z. (let x = v i ks (subst (λ y. At y i ks ts) z (at_here cs p i ks us ts e)) in
    exchanged_fits f s a cs p i ks us g x.0 x.1 (subst (Fits f) (sym e) h) (subst Whole (sym e) w)))

pub parts_append : (us ts : Nodes) → parts (append us ts) ≡ chain (parts us) (parts ts)
parts_append end ts = refl
parts_append (node p i ks us) ts = go (class i.sort) (parts_append us ts)
  where
    go : (c : Class) → parts (append us ts) ≡ chain (parts us) (parts ts)
        → parts_at c (handle p i) (label_of i.sort (pieces ks)) (parts ks) (parts (append us ts)) ≡ chain (parts_at c (handle p i) (label_of i.sort (pieces ks)) (parts ks) (parts us)) (parts ts)
    go (gap g) h = h
    go (mark m) h = h
    go value h = ap (part (handle p i) (label_of i.sort (pieces ks)) (parts ks)) h

swapped_at : (k p : ℕ) (v : Parts Handle) (i : Own) (ks ts : Nodes) → eqb p k ≡ false → (c : Class)
    → parts_at c (handle p i) (label_of i.sort (pieces ks)) (parts ks) (swapped k v (parts ts)) ≡ swapped k v (parts_at c (handle p i) (label_of i.sort (pieces ks)) (parts ks) (parts ts))
swapped_at k p v i ks ts e (gap g) = refl
swapped_at k p v i ks ts e (mark m) = refl
swapped_at k p v i ks ts e value = sym (cond-false (eqb p k) (chain v (parts ts)) (part (handle p i) (label_of i.sort (pieces ks)) (parts ks) (swapped k v (parts ts))) e)

swapped_here : (k p : ℕ) (v : Parts Handle) (i : Own) (ks ts : Nodes) → eqb p k ≡ true → (c : Class) → c ≡ value
    → swapped k v (parts_at c (handle p i) (label_of i.sort (pieces ks)) (parts ks) (parts ts)) ≡ chain v (parts ts)
swapped_here k p v i ks ts e (gap g) z = (let y : ◌≡◌ {A = ℕ} 0 1 = cc in absurd (omega arith))
swapped_here k p v i ks ts e (mark m) z = (let y : ◌≡◌ {A = ℕ} 0 1 = cc in absurd (omega arith))
swapped_here k p v i ks ts e value z = cond-true (eqb p k) (chain v (parts ts)) (part (handle p i) (label_of i.sort (pieces ks)) (parts ks) (swapped k v (parts ts))) e

exchange_from : (k : ℕ) (us bs ts : Nodes) → ((i : Own) (ks : Nodes) → At k i ks ts → class i.sort ≡ value) → parts (local_from (exchanged us) k bs ts) ≡ lead bs (swapped k (parts us) (parts ts))
exchange_from k us bs end v = parts_onto bs end
exchange_from k us bs (node p i ks ts) v = cond_both (eqb p k) (onto bs (append us ts)) (local_from (exchanged us) k (node p i ks bs) ts) (λ y. parts y ≡ lead bs (swapped k (parts us) (parts (node p i ks ts))))
    (λ e. parts_onto bs (append us ts) ∙ ap (lead bs) (parts_append us ts ∙ sym (swapped_here k p (parts us) i ks ts e (class i.sort) (v i ks (inl (eqb-true p k e, refl, refl))))))
    (λ e. exchange_from k us (node p i ks bs) ts (λ j vs a. v j vs (inr (inr a))) ∙ ap (lead bs) (swapped_at k p (parts us) i ks ts e (class i.sort)))

-- the new parts stand in the place of the old one
pub exchange_parts : (k : ℕ) (us ts : Nodes) → ((i : Own) (ks : Nodes) → At k i ks ts → class i.sort ≡ value) → parts (local (exchanged us) k ts) ≡ swapped k (parts us) (parts ts)
exchange_parts k us ts v = exchange_from k us end ts v

-- A ROOT WITHOUT A VALUE

-- the last children first
back_onto : (q : State) (ts bs : Nodes) → back q (onto ts bs) ≡ run (back q bs) ts
back_onto q end bs = refl
back_onto q (node p i ks ts) bs = back_onto q ts (node p i ks bs)

-- before the value no line comment is left open
record Ready (q : State) (a : Pieces) : Type 0 where
  moved : runs q a ≡ here items false
  taken : TakenP top a
  whole : WholeP a

is_remark_lem : (g : Gap) (k l : Bool) → is_remark (gap g) ≡ false → spaced true items k g ≡ here items l → l ≡ false
is_remark_lem blank true l n e = absurd (dead_here items l e)
is_remark_lem blank false l n e = cc
is_remark_lem break true l n e = cc
is_remark_lem break false l n e = cc
is_remark_lem (remark c) k l n e = absurd (true≢false n)

break_items : (l : Bool) → gapped items l break ≡ here items false
break_items true = refl
break_items false = refl

before_ready : (bs : Nodes) (n : Break) (l : Bool) → Each Trivial bs → back (begin top) bs ≡ here items l → Ready (back (begin top) bs) (break_before bs n)
before_ready end n l h e = record { moved = refl; taken = tt; whole = tt }
before_ready (node p i ks bs) n l h e = cond_both (is_remark (class i.sort)) (leaf (newline n) no_pieces) no_pieces (Ready (back (begin top) (node p i ks bs)))
    (λ z. record { moved = ap (λ y. step y (gap break)) e ∙ break_items l; taken = (refl, tt); whole = (tt, tt) })
    (λ z. (let g = h.0.0 in let c = h.0.1 in
    let v = gap_inv (back (begin top) bs) g items l (ap (step (back (begin top) bs)) (sym c) ∙ e) in
    record { moved = e ∙ ap (here items) (is_remark_lem g v.0 l (ap is_remark (sym c) ∙ z) v.2); taken = tt; whole = tt }))

put_ends : (bs : Nodes) (n : Break) (s t u : Supply) (a y : Pieces) (ts : Nodes) (l : Bool) → Stands a → Each Trivial bs → back (begin top) bs ≡ here items l → Ends top (run (here next false) (append (sown u y) ts))
    → Ends top (run (begin top) (onto bs (append (sown s (break_before bs n)) (append (sown t a) (append (sown u y) ts)))))
put_ends bs n s t u a y ts l g h e d =
    let r = before_ready bs n l h e in
    let q = back (begin top) bs in
    let m : Goes top (here items false) (here next false) a = g top (here items false) (here next false) refl refl in
    subst (Ends top) (sym (run_onto (begin top) bs (append (sown s (break_before bs n)) (append (sown t a) (append (sown u y) ts)))))
    (sown_ends top q (here items false) s (break_before bs n) (append (sown t a) (append (sown u y) ts)) (record { moves = r.moved; taken = r.taken; whole = r.whole })
    (sown_ends top (here items false) (here next false) t a (append (sown u y) ts) m d))

put_each : (bs : Nodes) (n : Break) (s t u : Supply) (a y : Pieces) (ts : Nodes) (l : Bool) → Stands a → Each Trivial bs → back (begin top) bs ≡ here items l → TakenP top y → WholeP y → Each (Kept top) bs → Each (Kept top) ts
    → Each (Kept top) (onto bs (append (sown s (break_before bs n)) (append (sown t a) (append (sown u y) ts))))
put_each bs n s t u a y ts l g h e c w kb kt =
    let r = before_ready bs n l h e in
    let m : Goes top (here items false) (here next false) a = g top (here items false) (here next false) refl refl in
    each_onto (Kept top) bs (append (sown s (break_before bs n)) (append (sown t a) (append (sown u y) ts))) kb
    (each_append (Kept top) (sown s (break_before bs n)) (append (sown t a) (append (sown u y) ts)) (each_sown top s (break_before bs n) r.taken r.whole)
    (each_append (Kept top) (sown t a) (append (sown u y) ts) (each_sown top t a m.taken m.whole) (each_append (Kept top) (sown u y) ts (each_sown top u y c w) kt)))

put_fits : (bs : Nodes) (n : Break) (a : Pieces) (s : Supply) (l : Bool) → Stands a → Each Trivial bs → Each (Kept top) bs → back (begin top) bs ≡ here items l → Fits top (root_put (cut_at bs) n a s) × Whole (root_put (cut_at bs) n a s)
put_fits end n a s l g h k e =
    kept_fits top (root_put (cut_at end) n a s)
    (put_ends end n s (skip (0 + 1) s) (skip 0 s) a (leaf (newline n) no_pieces) end l g tt e tt)
    (put_each end n s (skip (0 + 1) s) (skip 0 s) a (leaf (newline n) no_pieces) end l g tt e (refl, tt) (tt, tt) tt tt)
put_fits (node p i ks bs) n a s l g h k e =
    cond_both (is_break (class i.sort)) (record { before = bs; after = node p i ks end }) (record { before = node p i ks bs; after = end }) (λ c. Fits top (root_put c n a s) × Whole (root_put c n a s))
    (λ z. (let x = h.0.0 in let c = h.0.1 in
    let v = gap_inv (back (begin top) bs) x items l (ap (step (back (begin top) bs)) (sym c) ∙ e) in
    let X : Pieces = break_before bs n in
    let d : Ends top (run (here next false) (node p i ks end)) = subst (λ y. Ends top (step (here next false) y)) (sym c) (after_break x (ap is_break (sym c) ∙ z)) in
    kept_fits top (root_put (record { before = bs; after = node p i ks end }) n a s)
    (put_ends bs n s (skip (nodes X + 0) s) (skip (nodes X) s) a no_pieces (node p i ks end) v.0 g h.1 v.1 d)
    (put_each bs n s (skip (nodes X + 0) s) (skip (nodes X) s) a no_pieces (node p i ks end) v.0 g h.1 v.1 tt tt k.1 (k.0, tt))))
    (λ z. (let X : Pieces = break_before (node p i ks bs) n in
    kept_fits top (root_put (record { before = node p i ks bs; after = end }) n a s)
    (put_ends (node p i ks bs) n s (skip (nodes X + 1) s) (skip (nodes X) s) a (leaf (newline n) no_pieces) end l g h e tt)
    (put_each (node p i ks bs) n s (skip (nodes X + 1) s) (skip (nodes X) s) a (leaf (newline n) no_pieces) end l g h e (refl, tt) (tt, tt) k tt)))
  where
    after_break : (x : Gap) → is_break (gap x) ≡ true → Ends top (step (here next false) (gap x))
    after_break blank z = absurd (false≢true z)
    after_break break z = tt
    after_break (remark c) z = absurd (false≢true z)

trivial_items : (ts : Nodes) (l : Bool) → Each Trivial ts → Ends top (run (here items l) ts) → (k : Bool) × (run (here items l) ts ≡ here items k)
trivial_items end l h e = (l, refl)
trivial_items (node p i ks ts) l h e = go h.0.0 h.0.1 (λ k. trivial_items ts k h.1)
  where
    go : (g : Gap) → class i.sort ≡ gap g → ((k : Bool) → Ends top (run (here items k) ts) → (j : Bool) × (run (here items k) ts ≡ here items j)) → (j : Bool) × (run (step (here items l) (class i.sort)) ts ≡ here items j)
    go g c r = (let d : Ends top (run (gapped items l g) ts) = subst (λ y. Ends top (run (step (here items l) y) ts)) c e in
        let m = at l g d r in (m.0, ap (λ y. run (step (here items l) y) ts) c ∙ m.1))
      where
        at : (l : Bool) (g : Gap) → Ends top (run (gapped items l g) ts) → ((k : Bool) → Ends top (run (here items k) ts) → (j : Bool) × (run (here items k) ts ≡ here items j)) → (j : Bool) × (run (gapped items l g) ts ≡ here items j)
        at true blank d r = absurd (no_dead top ts d)
        at true break d r = r false d
        at true (remark c) d r = absurd (no_dead top ts d)
        at false blank d r = r false d
        at false break d r = r false d
        at false (remark (Line t)) d r = r true d
        at false (remark (Block t)) d r = r false d

-- a value put into a root that has none
pub root_fits : (n : Break) (a : Pieces) (s : Supply) (ts : Nodes) → Stands a → Each Trivial ts → Fits top ts → Whole ts → Fits top (root_put (root_cut ts) n a s) × Whole (root_put (root_cut ts) n a s)
root_fits n a s ts g h f w =
    let m = trivial_items ts false h f.ends in
    put_fits (onto ts end) n a s m.0 g (each_onto Trivial ts end h tt) (each_onto (Kept top) ts end (each_kept top ts f.taken w) tt) (back_onto (begin top) ts end ∙ m.1)
