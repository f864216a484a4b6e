-- Edits that write nothing leave each place at most as often as it stood. Assumes nothing.
use Rattle.std.proofs.Common.{◌≡◌, ℕ, ◌+◌, ◌≤◌, Bool, true, false, not, ◌&&◌, eqb, Some, None, Option, refl, ap, arith}
use Rattle.std.proofs.lemmas.Bool.{cond_both}
use Rattle.std.proofs.lemmas.Option.{none-some}
use Rattle.grammar.specs.Layout.{Open, Close, Comma, Colon, Name}
use Rattle.forest.specs.Forest.{end, node, one, count}
use Rattle.forest.specs.Edits.{edited}
use Rattle.model.specs.Nodes.{Nodes, blank, break, remark, Class, gap, mark, value, class}
use Rattle.model.specs.Asks.{is_comma}
use Rattle.model.specs.Edits.{onto, local_from, local, under, back_at, back_line, un_comma, past_at, past_comma, line_ends, solid_next, rest_at, drop_line, empty, tight_at, tight, tidy, closed, removal, remove, ends, untrailed}
use Rattle.model.specs.Changes.{Placed}

module _ (k : ℕ) where
  count_onto : (bs ts : Nodes) → count k (onto bs ts) ≡ count k bs + count k ts
  count_onto end ts = omega arith
  count_onto (node p i ks bs) ts = omega (arith, count_onto bs (node p i ks ts))

  fewer_back : (bs : Nodes) → count k (back_line bs) ≤ count k bs
  fewer_back end = omega arith
  fewer_back (node p i ks bs) = go (class i.sort) (node p i ks bs) refl (fewer_back bs)
    where
      go : (c : Class) (x : Nodes) → count k x ≡ one p k + (count k ks + count k bs) → count k (back_line bs) ≤ count k bs → count k (back_at c x (back_line bs)) ≤ one p k + (count k ks + count k bs)
      go (gap blank) x h r = omega arith
      go (gap break) x h r = omega arith
      go (gap (remark c)) x h r = omega arith
      go (mark m) x h r = omega arith
      go value x h r = omega arith

  fewer_comma : (bs : Nodes) → count k (un_comma bs) ≤ count k bs
  fewer_comma end = omega arith
  fewer_comma (node p i ks bs) = cond_both (is_comma (class i.sort)) bs (node p i ks (un_comma bs)) (λ y. count k y ≤ one p k + (count k ks + count k bs))
      (λ e. omega arith) (λ e. omega (arith, fewer_comma bs))

  fewer_past : (ts r : Nodes) → past_comma ts ≡ Some r → count k r ≤ count k ts
  fewer_past end r w = absurd (none-some r w)
  fewer_past (node p i ks ts) r w = go (class i.sort) w (fewer_past ts r)
    where
      go : (c : Class) → past_at c (past_comma ts) ts ≡ Some r → (past_comma ts ≡ Some r → count k r ≤ count k ts) → count k r ≤ one p k + (count k ks + count k ts)
      go (gap g) w h = omega (arith, h w)
      go (mark Open) w h = absurd (none-some r w)
      go (mark Close) w h = absurd (none-some r w)
      go (mark Comma) w h = (let z : ts ≡ r = cc in omega (arith, ap (count k) z))
      go (mark Colon) w h = absurd (none-some r w)
      go (mark Name) w h = absurd (none-some r w)
      go value w h = absurd (none-some r w)

  fewer_line : (ts : Nodes) → count k (drop_line ts) ≤ count k ts
  fewer_line end = omega arith
  fewer_line (node p i ks ts) = go (class i.sort) (solid_next ts) (node p i ks ts) refl (fewer_line ts)
    where
      go : (c : Class) (b : Bool) (x : Nodes) → count k x ≡ one p k + (count k ks + count k ts) → count k (drop_line ts) ≤ count k ts → count k (rest_at c b x (drop_line ts) ts) ≤ one p k + (count k ks + count k ts)
      go (gap blank) true x h r = omega arith
      go (gap blank) false x h r = omega arith
      go (gap break) b x h r = omega arith
      go (gap (remark c)) b x h r = omega arith
      go (mark m) b x h r = omega arith
      go value b x h r = omega arith

  fewer_tight : (ts : Nodes) → count k (tight ts) ≤ count k ts
  fewer_tight end = omega arith
  fewer_tight (node p i ks ts) = go (class i.sort) (node p i ks (tight ts)) refl (fewer_tight ts)
    where
      go : (c : Class) (x : Nodes) → count k x ≡ one p k + (count k ks + count k (tight ts)) → count k (tight ts) ≤ count k ts → count k (tight_at c x (tight ts)) ≤ one p k + (count k ks + count k ts)
      go (gap blank) x h r = omega arith
      go (gap break) x h r = omega arith
      go (gap (remark c)) x h r = omega arith
      go (mark m) x h r = omega arith
      go value x h r = omega arith

  fewer_tidy : (ts : Nodes) → count k (tidy ts) ≤ count k ts
  fewer_tidy ts = cond_both (empty ts) (tight ts) ts (λ y. count k y ≤ count k ts) (λ e. fewer_tight ts) (λ e. omega arith)

  fewer_closed : (bs ts : Nodes) → count k (closed bs ts (past_comma ts)) ≤ count k bs + count k ts
  fewer_closed bs ts = go (past_comma ts) refl
    where
      go : (o : Option Nodes) → past_comma ts ≡ o → count k (closed bs ts o) ≤ count k bs + count k ts
      go None w = omega (arith, count_onto (un_comma (back_line bs)) (drop_line ts), fewer_comma (back_line bs), fewer_back bs, fewer_line ts)
      go (Some r) w = cond_both (not (line_ends ts) && line_ends r) (drop_line r) r (λ y. count k (onto (back_line bs) y) ≤ count k bs + count k ts)
          (λ e. omega (arith, count_onto (back_line bs) (drop_line r), fewer_back bs, fewer_line r, fewer_past ts r w))
          (λ e. omega (arith, count_onto (back_line bs) r, fewer_back bs, fewer_past ts r w))

  fewer_removal : (n : ℕ) (bs ts : Nodes) → count k (local_from removal n bs ts) ≤ count k bs + count k ts
  fewer_removal n bs end = omega (arith, count_onto bs end)
  fewer_removal n bs (node p i ks ts) = cond_both (eqb p n) (removal bs p i ks ts) (local_from removal n (node p i ks bs) ts) (λ y. count k y ≤ count k bs + (one p k + (count k ks + count k ts)))
      (λ e. omega (arith, fewer_tidy (closed bs ts (past_comma ts)), fewer_closed bs ts)) (λ e. omega (arith, fewer_removal n (node p i ks bs) ts))

  fewer_untrailed : (ts : Nodes) → count k (untrailed ts) ≤ count k ts
  fewer_untrailed end = omega arith
  fewer_untrailed (node p i ks ts) = cond_both (is_comma (class i.sort) && ends ts) (untrailed ts) (node p i (untrailed ks) (untrailed ts)) (λ y. count k y ≤ one p k + (count k ks + count k ts))
      (λ e. omega (arith, fewer_untrailed ts)) (λ e. omega (arith, fewer_untrailed ks, fewer_untrailed ts))

  fewer_edited : (c : ℕ) (F : Nodes → Nodes) → ((ks : Nodes) → count k (F ks) ≤ count k ks) → (ts : Nodes) → count k (edited c F ts) ≤ count k ts
  fewer_edited c F h end = omega arith
  fewer_edited c F h (node p i ks ts) = cond_both (eqb p c) (node p i (F ks) ts) (node p i (edited c F ks) (edited c F ts)) (λ y. count k y ≤ one p k + (count k ks + count k ts))
      (λ e. omega (arith, h ks)) (λ e. omega (arith, fewer_edited c F h ks, fewer_edited c F h ts))

  fewer_under : (c : ℕ) (F : Nodes → Nodes) → ((ks : Nodes) → count k (F ks) ≤ count k ks) → (ts : Nodes) → count k (under c F ts) ≤ count k ts
  fewer_under c F h ts = cond_both (eqb c 0) (F ts) (edited c F ts) (λ y. count k y ≤ count k ts) (λ e. h ts) (λ e. fewer_edited c F h ts)

-- no place comes to stand twice, nor the root's
fewer_placed : (ts us : Nodes) → ((k : ℕ) → count k us ≤ count k ts) → Placed ts → Placed us
fewer_placed ts us h p = record { once = λ k. omega (arith, h k, p.once k); rootless = omega (arith, h 0, p.rootless) }

pub remove_placed : (c k : ℕ) (ts : Nodes) → Placed ts → Placed (remove c k ts)
remove_placed c k ts = fewer_placed ts (remove c k ts) (λ n. fewer_under n c (local removal k) (λ ks. omega (arith, fewer_removal n k end ks)) ts)

pub never_placed : (c : ℕ) (ts : Nodes) → Placed ts → Placed (under c untrailed ts)
never_placed c ts = fewer_placed ts (under c untrailed ts) (λ n. fewer_under n c untrailed (fewer_untrailed n) ts)
