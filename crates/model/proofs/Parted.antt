-- What edits of a child list do to the value with its handles. Assumes nothing.
use Rattle.std.proofs.Common.{◌≡◌, ℕ, Bool, true, false, cond, not, ◌&&◌, eqb, Some, None, Option, sym, refl, ap, ◌∙◌, inl, inr, arith}
use Rattle.std.proofs.lemmas.Bool.{eqb-true, cond_both, cond-true, cond-false}
use Rattle.std.proofs.lemmas.Option.{none-some}
use Rattle.grammar.specs.Layout.{Open, Close, Comma, Colon, Name, Parts, part}
use Rattle.forest.specs.Forest.{end, node}
use Rattle.model.specs.Nodes.{Handle, handle, Own, Nodes, blank, break, remark, Class, gap, mark, value, class, pieces, label_of, parts, parts_at}
use Rattle.model.specs.Asks.{is_comma}
use Rattle.model.specs.Edits.{onto, local_from, local, back_at, back_line, un_comma, past_at, past_comma, line_ends, solid_next, rest_at, drop_line, empty, tight_at, tight, tidy, closed, removal}
use Rattle.model.specs.Changes.{At, lost}

-- the parts of the siblings before, nearest first, put before others
abbrev pub lead : Nodes → Parts Handle → Parts Handle
lead end v = v
lead (node p i ks bs) v = lead bs (parts_at (class i.sort) (handle p i) (label_of i.sort (pieces ks)) (parts ks) v)

pub parts_onto : (bs ts : Nodes) → parts (onto bs ts) ≡ lead bs (parts ts)
parts_onto end ts = refl
parts_onto (node p i ks bs) ts = parts_onto bs (node p i ks ts)

lead_back : (bs : Nodes) (v : Parts Handle) → lead (back_line bs) v ≡ lead bs v
lead_back end v = refl
lead_back (node p i ks bs) v = go (class i.sort) (node p i ks bs) refl (lead_back bs v)
  where
    go : (c : Class) (x : Nodes) → lead x v ≡ lead bs (parts_at c (handle p i) (label_of i.sort (pieces ks)) (parts ks) v) → lead (back_line bs) v ≡ lead bs v
        → lead (back_at c x (back_line bs)) v ≡ lead bs (parts_at c (handle p i) (label_of i.sort (pieces ks)) (parts ks) v)
    go (gap blank) x h r = r
    go (gap break) x h r = h
    go (gap (remark c)) x h r = r
    go (mark m) x h r = h
    go value x h r = h

lead_comma : (bs : Nodes) (v : Parts Handle) → lead (un_comma bs) v ≡ lead bs v
lead_comma end v = refl
lead_comma (node p i ks bs) v = go (class i.sort) (node p i ks (un_comma bs)) (lead_comma bs (parts_at (class i.sort) (handle p i) (label_of i.sort (pieces ks)) (parts ks) v))
  where
    go : (c : Class) (y : Nodes) → lead y v ≡ lead bs (parts_at c (handle p i) (label_of i.sort (pieces ks)) (parts ks) v)
        → lead (cond (is_comma c) bs y) v ≡ lead bs (parts_at c (handle p i) (label_of i.sort (pieces ks)) (parts ks) v)
    go (gap g) y h = h
    go (mark Open) y h = h
    go (mark Close) y h = h
    go (mark Comma) y h = refl
    go (mark Colon) y h = h
    go (mark Name) y h = h
    go value y h = h

parts_past : (ts r : Nodes) → past_comma ts ≡ Some r → parts r ≡ parts ts
parts_past end r w = absurd (none-some r w)
parts_past (node p i ks ts) r w = go (class i.sort) w (parts_past ts r)
  where
    go : (c : Class) → past_at c (past_comma ts) ts ≡ Some r → (past_comma ts ≡ Some r → parts r ≡ parts ts) → parts r ≡ parts_at c (handle p i) (label_of i.sort (pieces ks)) (parts ks) (parts ts)
    go (gap g) w k = k w
    go (mark Open) w k = absurd (none-some r w)
    go (mark Close) w k = absurd (none-some r w)
    go (mark Comma) w k = (let z : r ≡ ts = cc in ap parts z)
    go (mark Colon) w k = absurd (none-some r w)
    go (mark Name) w k = absurd (none-some r w)
    go value w k = absurd (none-some r w)

parts_line : (ts : Nodes) → parts (drop_line ts) ≡ parts ts
parts_line end = refl
parts_line (node p i ks ts) = go (class i.sort) (solid_next ts) (node p i ks ts) refl (parts_line ts)
  where
    go : (c : Class) (b : Bool) (x : Nodes) → parts x ≡ parts_at c (handle p i) (label_of i.sort (pieces ks)) (parts ks) (parts ts) → parts (drop_line ts) ≡ parts ts
        → parts (rest_at c b x (drop_line ts) ts) ≡ parts_at c (handle p i) (label_of i.sort (pieces ks)) (parts ks) (parts ts)
    go (gap blank) true x h r = h
    go (gap blank) false x h r = r
    go (gap break) b x h r = refl
    go (gap (remark c)) b x h r = r
    go (mark m) b x h r = h
    go value b x h r = h

parts_tight : (ts : Nodes) → parts (tight ts) ≡ parts ts
parts_tight end = refl
parts_tight (node p i ks ts) = go (class i.sort) (node p i ks (tight ts)) refl (parts_tight ts)
  where
    at : (c : Class) → parts (tight ts) ≡ parts ts → parts_at c (handle p i) (label_of i.sort (pieces ks)) (parts ks) (parts (tight ts)) ≡ parts_at c (handle p i) (label_of i.sort (pieces ks)) (parts ks) (parts ts)
    at c r = ap (parts_at c (handle p i) (label_of i.sort (pieces ks)) (parts ks)) r

    go : (c : Class) (x : Nodes) → parts x ≡ parts_at c (handle p i) (label_of i.sort (pieces ks)) (parts ks) (parts (tight ts)) → parts (tight ts) ≡ parts ts
        → parts (tight_at c x (tight ts)) ≡ parts_at c (handle p i) (label_of i.sort (pieces ks)) (parts ks) (parts ts)
    go (gap blank) x h r = r
    go (gap break) x h r = r
    go (gap (remark c)) x h r = h ∙ at (gap (remark c)) r
    go (mark m) x h r = h ∙ at (mark m) r
    go value x h r = h ∙ at value r

parts_tidy : (ts : Nodes) → parts (tidy ts) ≡ parts ts
parts_tidy ts = cond_both (empty ts) (tight ts) ts (λ y. parts y ≡ parts ts) (λ e. parts_tight ts) (λ e. refl)

parts_closed : (bs ts : Nodes) → parts (closed bs ts (past_comma ts)) ≡ lead bs (parts ts)
parts_closed bs ts = go (past_comma ts) refl
  where
    cut : (b : Bool) (r : Nodes) → parts (cond b (drop_line r) r) ≡ parts r
    cut true r = parts_line r
    cut false r = refl

    go : (o : Option Nodes) → past_comma ts ≡ o → parts (closed bs ts o) ≡ lead bs (parts ts)
    go None w = parts_onto (un_comma (back_line bs)) (drop_line ts) ∙ (ap (lead (un_comma (back_line bs))) (parts_line ts) ∙ (lead_comma (back_line bs) (parts ts) ∙ lead_back bs (parts ts)))
    go (Some r) w = parts_onto (back_line bs) (cond (not (line_ends ts) && line_ends r) (drop_line r) r)
        ∙ (ap (lead (back_line bs)) (cut (not (line_ends ts) && line_ends r) r ∙ parts_past ts r w) ∙ lead_back bs (parts ts))

parts_removal : (bs : Nodes) (p : ℕ) (i : Own) (ks ts : Nodes) → parts (removal bs p i ks ts) ≡ lead bs (parts ts)
parts_removal bs p i ks ts = parts_tidy (closed bs ts (past_comma ts)) ∙ parts_closed bs ts

-- the part that is lost, among those of the siblings
lost_at : (k p : ℕ) (i : Own) (ks ts : Nodes) → eqb p k ≡ false → (c : Class)
    → parts_at c (handle p i) (label_of i.sort (pieces ks)) (parts ks) (lost k (parts ts)) ≡ lost k (parts_at c (handle p i) (label_of i.sort (pieces ks)) (parts ks) (parts ts))
lost_at k p i ks ts e (gap g) = refl
lost_at k p i ks ts e (mark m) = refl
lost_at k p i ks ts e value = sym (cond-false (eqb p k) (parts ts) (part (handle p i) (label_of i.sort (pieces ks)) (parts ks) (lost k (parts ts))) e)

lost_here : (k p : ℕ) (i : Own) (ks ts : Nodes) → eqb p k ≡ true → (c : Class) → c ≡ value
    → lost k (parts_at c (handle p i) (label_of i.sort (pieces ks)) (parts ks) (parts ts)) ≡ parts ts
lost_here k p i ks ts e (gap g) v = (let z : ◌≡◌ {A = ℕ} 0 1 = cc in absurd (omega arith))
lost_here k p i ks ts e (mark m) v = (let z : ◌≡◌ {A = ℕ} 0 1 = cc in absurd (omega arith))
lost_here k p i ks ts e value v = cond-true (eqb p k) (parts ts) (part (handle p i) (label_of i.sort (pieces ks)) (parts ks) (lost k (parts ts))) e

remove_from : (k : ℕ) (bs ts : Nodes) → ((i : Own) (ks : Nodes) → At k i ks ts → class i.sort ≡ value) → parts (local_from removal k bs ts) ≡ lead bs (lost k (parts ts))
remove_from k bs end v = parts_onto bs end
remove_from k bs (node p i ks ts) v = cond_both (eqb p k) (removal bs p i ks ts) (local_from removal k (node p i ks bs) ts) (λ y. parts y ≡ lead bs (lost k (parts (node p i ks ts))))
    (λ e. parts_removal bs p i ks ts ∙ ap (lead bs) (sym (lost_here k p i ks ts e (class i.sort) (v i ks (inl (eqb-true p k e, refl, refl))))))
    (λ e. remove_from k (node p i ks bs) ts (λ j us a. v j us (inr (inr a))) ∙ ap (lead bs) (lost_at k p i ks ts e (class i.sort)))

-- remove takes the part of the node, and no other
pub remove_parts : (k : ℕ) (ts : Nodes) → ((i : Own) (ks : Nodes) → At k i ks ts → class i.sort ≡ value) → parts (local removal k ts) ≡ lost k (parts ts)
remove_parts k ts v = remove_from k end ts v
