-- Sums over the nodes of a forest: what each edit takes from them and what it adds. Assumes nothing.
use Rattle.std.proofs.Common.{◌≡◌, ℕ, zero, suc, ◌+◌, ◌≤◌, Bool, true, false, cond, not, ◌&&◌, eqb, ◌⊎◌, drop, Some, None, Option, sym, refl, ap, ◌∙◌, subst, inl, inr, drop-drop, add_assoc, suc-add, one-add, arith}
use mathlib.Core.Bool.{false≢true}
use Rattle.std.proofs.lemmas.Bool.{cond_both, eqb-true, cond-true, cond-false, ne_eqb, eq-eqb}
use Rattle.std.proofs.lemmas.Option.{none-some}
use Rattle.grammar.specs.Layout.{Open, Close, Comma, Colon, Name}
use Rattle.grammar.specs.Pieces.{Pieces, end as no_pieces, leaf, box, join, nodes, Break}
use Rattle.forest.specs.Forest.{end, node, count, append}
use Rattle.forest.specs.Edits.{edited}
use Rattle.forest.proofs.Frames.{one_eq}
use Rattle.forest.proofs.Edited.{edited_off}
use Rattle.model.specs.Nodes.{Own, Nodes, blank, break, remark, Class, gap, mark, value, class}
use Rattle.model.specs.Asks.{is_comma, is_break}
use Rattle.model.specs.Edits.{Supply, skip, sown, onto, local_from, local, under, back_at, back_line, un_comma, past_at, past_comma, line_ends, solid_next, rest_at, drop_line, empty, tight_at, tight, tidy, closed, removal, remove, ends, untrailed, lined, due, dues, commas, trailed, dropped, exchanged, drop_node, exchange, Cut, cut_at, root_cut, break_before, break_behind, root_pieces, root_put, piece_of, begun, loose, shuts, unspaced, Lines, lead, leads, spread_out}
use Rattle.model.specs.Changes.{At}
use Rattle.model.proofs.Edited.{at_count}

-- the sum of w over the nodes
abbrev pub tally : (ℕ → Own → ℕ) → Nodes → ℕ
tally w end = 0
tally w (node p i ks ts) = w p i + (tally w ks + tally w ts)

-- a node at the place k is among the siblings
abbrev pub Among : ℕ → Nodes → Type 0
Among k end = ⊥
Among k (node p i ks ts) = (p ≡ k) ⊎ Among k ts

-- what is at another place than the first is behind it
pub among_on : (p k : ℕ) (ts : Nodes) → eqb p k ≡ false → (p ≡ k) ⊎ Among k ts → Among k ts
among_on p k ts e (inl z) = absurd (false≢true (sym e ∙ eq-eqb p k z))
among_on p k ts e (inr z) = z

-- us are the children of the container at the place c, which is the root's, or a node's alone
abbrev pub Below : ℕ → Nodes → Nodes → Type 0
Below c us ts = ((c ≡ 0) × (us ≡ ts)) ⊎ ((c ≡ 0 → ⊥) × (count c ts ≤ 1) × ((j : Own) × At c j us ts))

-- what is left after some new nodes and then others
pub skip_skip : (m n : ℕ) (s : Supply) → skip m (skip n s) ≡ skip (n + m) s
skip_skip m n s = ap (λ y. record { places = y; number = (s.number + n) + m }) (drop-drop m n s.places) ∙ ap (λ y. record { places = drop (n + m) s.places; number = y }) (add_assoc s.number n m)

-- after no new nodes all is left
pub skip_none : (s : Supply) → skip 0 s ≡ s
skip_none s = ap (λ y. record { places = s.places; number = y }) (let e : s.number + 0 ≡ s.number = omega arith in e)

module _ (w : ℕ → Own → ℕ) where
  -- siblings put back before others count with them
  pub tally_onto : (bs ts : Nodes) → tally w (onto bs ts) ≡ tally w bs + tally w ts
  tally_onto end ts = omega arith
  tally_onto (node p i ks bs) ts = omega (arith, tally_onto bs (node p i ks ts))

  -- siblings behind others count with them
  pub tally_append : (us ts : Nodes) → tally w (append us ts) ≡ tally w us + tally w ts
  tally_append end ts = omega arith
  tally_append (node p i ks us) ts = omega (arith, tally_append us ts)

  -- REMOVE
  less_back : (bs : Nodes) → tally w (back_line bs) ≤ tally w bs
  less_back end = omega arith
  less_back (node p i ks bs) = go (class i.sort) (node p i ks bs) refl (less_back bs)
    where
      go : (c : Class) (x : Nodes) → tally w x ≡ w p i + (tally w ks + tally w bs) → tally w (back_line bs) ≤ tally w bs → tally w (back_at c x (back_line bs)) ≤ w p i + (tally w ks + tally w bs)
      go (gap blank) x h r = omega arith
      go (gap break) x h r = omega arith
      go (gap (remark c)) x h r = omega arith
      go (mark m) x h r = omega arith
      go value x h r = omega arith

  -- the nearest comma goes
  less_comma : (bs : Nodes) → tally w (un_comma bs) ≤ tally w bs
  less_comma end = omega arith
  less_comma (node p i ks bs) = cond_both (is_comma (class i.sort)) bs (node p i ks (un_comma bs)) (λ y. tally w y ≤ w p i + (tally w ks + tally w bs))
      (λ e. omega arith) (λ e. omega (arith, less_comma bs))

  -- what follows the trailing comma is part of what was there
  less_past : (ts r : Nodes) → past_comma ts ≡ Some r → tally w r ≤ tally w ts
  less_past end r e = absurd (none-some r e)
  less_past (node p i ks ts) r e = go (class i.sort) e (less_past ts r)
    where
      go : (c : Class) → past_at c (past_comma ts) ts ≡ Some r → (past_comma ts ≡ Some r → tally w r ≤ tally w ts) → tally w r ≤ w p i + (tally w ks + tally w ts)
      go (gap g) e h = omega (arith, h e)
      go (mark Open) e h = absurd (none-some r e)
      go (mark Close) e h = absurd (none-some r e)
      go (mark Comma) e h = (let z : ts ≡ r = cc in omega (arith, ap (tally w) z))
      go (mark Colon) e h = absurd (none-some r e)
      go (mark Name) e h = absurd (none-some r e)
      go value e h = absurd (none-some r e)

  -- the rest of the line goes, behind
  less_line : (ts : Nodes) → tally w (drop_line ts) ≤ tally w ts
  less_line end = omega arith
  less_line (node p i ks ts) = go (class i.sort) (solid_next ts) (node p i ks ts) refl (less_line ts)
    where
      go : (c : Class) (b : Bool) (x : Nodes) → tally w x ≡ w p i + (tally w ks + tally w ts) → tally w (drop_line ts) ≤ tally w ts → tally w (rest_at c b x (drop_line ts) ts) ≤ w p i + (tally w ks + tally w ts)
      go (gap blank) true x h r = omega arith
      go (gap blank) false x h r = omega arith
      go (gap break) b x h r = omega arith
      go (gap (remark c)) b x h r = omega arith
      go (mark m) b x h r = omega arith
      go value b x h r = omega arith

  -- blanks go
  less_tight : (ts : Nodes) → tally w (tight ts) ≤ tally w ts
  less_tight end = omega arith
  less_tight (node p i ks ts) = go (class i.sort) (node p i ks (tight ts)) refl (less_tight ts)
    where
      go : (c : Class) (x : Nodes) → tally w x ≡ w p i + (tally w ks + tally w (tight ts)) → tally w (tight ts) ≤ tally w ts → tally w (tight_at c x (tight ts)) ≤ w p i + (tally w ks + tally w ts)
      go (gap blank) x h r = omega arith
      go (gap break) x h r = omega arith
      go (gap (remark c)) x h r = omega arith
      go (mark m) x h r = omega arith
      go value x h r = omega arith

  -- blanks go where only they are left
  pub less_tidy : (ts : Nodes) → tally w (tidy ts) ≤ tally w ts
  less_tidy ts = cond_both (empty ts) (tight ts) ts (λ y. tally w y ≤ tally w ts) (λ e. less_tight ts) (λ e. omega arith)

  -- what stays around a node that is removed was there
  pub less_closed : (bs ts : Nodes) → tally w (closed bs ts (past_comma ts)) ≤ tally w bs + tally w ts
  less_closed bs ts = go (past_comma ts) refl
    where
      go : (o : Option Nodes) → past_comma ts ≡ o → tally w (closed bs ts o) ≤ tally w bs + tally w ts
      go None e = omega (arith, tally_onto (un_comma (back_line bs)) (drop_line ts), less_comma (back_line bs), less_back bs, less_line ts)
      go (Some r) e = cond_both (not (line_ends ts) && line_ends r) (drop_line r) r (λ y. tally w (onto (back_line bs) y) ≤ tally w bs + tally w ts)
          (λ z. omega (arith, tally_onto (back_line bs) (drop_line r), less_back bs, less_line r, less_past ts r e))
          (λ z. omega (arith, tally_onto (back_line bs) r, less_back bs, less_past ts r e))

  -- removal among siblings adds nothing
  less_removal : (n : ℕ) (bs ts : Nodes) → tally w (local_from removal n bs ts) ≤ tally w bs + tally w ts
  less_removal n bs end = omega (arith, tally_onto bs end)
  less_removal n bs (node p i ks ts) = cond_both (eqb p n) (removal bs p i ks ts) (local_from removal n (node p i ks bs) ts) (λ y. tally w y ≤ tally w bs + (w p i + (tally w ks + tally w ts)))
      (λ e. omega (arith, less_tidy (closed bs ts (past_comma ts)), less_closed bs ts)) (λ e. omega (arith, less_removal n (node p i ks bs) ts))

  -- a node alone gone adds nothing
  less_dropped : (n : ℕ) (bs ts : Nodes) → tally w (local_from dropped n bs ts) ≤ tally w bs + tally w ts
  less_dropped n bs end = omega (arith, tally_onto bs end)
  less_dropped n bs (node p i ks ts) = cond_both (eqb p n) (onto bs ts) (local_from dropped n (node p i ks bs) ts) (λ y. tally w y ≤ tally w bs + (w p i + (tally w ks + tally w ts)))
      (λ e. omega (arith, tally_onto bs ts)) (λ e. omega (arith, less_dropped n (node p i ks bs) ts))

  -- Never adds nothing
  less_untrailed : (ts : Nodes) → tally w (untrailed ts) ≤ tally w ts
  less_untrailed end = omega arith
  less_untrailed (node p i ks ts) = cond_both (is_comma (class i.sort) && ends ts) (untrailed ts) (node p i (untrailed ks) (untrailed ts)) (λ y. tally w y ≤ w p i + (tally w ks + tally w ts))
      (λ e. omega (arith, less_untrailed ts)) (λ e. omega (arith, less_untrailed ks, less_untrailed ts))

  -- Whitespace goes
  less_unspaced : (b : Bool) (ts : Nodes) → tally w (unspaced b ts) ≤ tally w ts
  less_unspaced b end = omega arith
  less_unspaced b (node p i ks ts) =
      let x = piece_of (class i.sort) in
      let r = unspaced (begun x b) ts in
      cond_both (loose x b (shuts ts)) r (node p i ks r) (λ y. tally w y ≤ w p i + (tally w ks + tally w ts))
      (λ e. omega (arith, less_unspaced (begun x b) ts)) (λ e. omega (arith, less_unspaced (begun x b) ts))

  -- a change that adds nothing to children adds nothing to the whole
  less_edited : (c : ℕ) (F : Nodes → Nodes) → ((ks : Nodes) → tally w (F ks) ≤ tally w ks) → (ts : Nodes) → tally w (edited c F ts) ≤ tally w ts
  less_edited c F h end = omega arith
  less_edited c F h (node p i ks ts) = cond_both (eqb p c) (node p i (F ks) ts) (node p i (edited c F ks) (edited c F ts)) (λ y. tally w y ≤ w p i + (tally w ks + tally w ts))
      (λ e. omega (arith, h ks)) (λ e. omega (arith, less_edited c F h ks, less_edited c F h ts))

  -- nor below the root
  less_under : (c : ℕ) (F : Nodes → Nodes) → ((ks : Nodes) → tally w (F ks) ≤ tally w ks) → (ts : Nodes) → tally w (under c F ts) ≤ tally w ts
  less_under c F h ts = cond_both (eqb c 0) (F ts) (edited c F ts) (λ y. tally w y ≤ tally w ts) (λ e. h ts) (λ e. less_edited c F h ts)

  -- what an edit cuts leaves no more of anything
  pub remove_less : (c k : ℕ) (ts : Nodes) → tally w (remove c k ts) ≤ tally w ts
  remove_less c k ts = less_under c (local removal k) (λ ks. omega (arith, less_removal k end ks)) ts

  -- so does what replace takes away
  pub drop_less : (c k : ℕ) (ts : Nodes) → tally w (drop_node c k ts) ≤ tally w ts
  drop_less c k ts = less_under c (local dropped k) (λ ks. omega (arith, less_dropped k end ks)) ts

  -- so does Never
  pub never_less : (c : ℕ) (ts : Nodes) → tally w (under c untrailed ts) ≤ tally w ts
  never_less c ts = less_under c untrailed less_untrailed ts

  -- so does the Whitespace that ensure_multiline takes away
  pub unspaced_less : (c : ℕ) (ts : Nodes) → tally w (under c (unspaced false) ts) ≤ tally w ts
  unspaced_less c ts = less_under c (unspaced false) (less_unspaced false) ts

  -- WHAT IS ADDED

  -- new nodes in two parts
  pub sown_join : (s : Supply) (a b : Pieces) → tally w (sown s (join a b)) ≡ tally w (sown s a) + tally w (sown (skip (nodes a) s) b)
  sown_join s no_pieces b = omega (arith, ap (λ y. tally w (sown y b)) (skip_none s))
  sown_join s (leaf x r) b = omega (arith, sown_join (skip 1 s) r b, ap (λ y. tally w (sown y b)) (skip_skip (nodes r) 1 s), ap (λ y. tally w (sown (skip y s) b)) (one-add (nodes r)))
  sown_join s (box k c r) b = omega (arith, sown_join (skip (suc (nodes c)) s) r b, ap (λ y. tally w (sown y b)) (skip_skip (nodes r) (suc (nodes c)) s), ap (λ y. tally w (sown (skip y s) b)) (suc-add (nodes c) (nodes r)))

  -- a change below one node changes as much of the whole
  pub edited_tally : (c : ℕ) (F : Nodes → Nodes) (j : Own) (us ts : Nodes) → count c ts ≤ 1 → At c j us ts → tally w (edited c F ts) + tally w us ≡ tally w ts + tally w (F us)
  edited_tally c F j us end o a = absurd a
  edited_tally c F j us (node p i ks ts) o a = cond_both (eqb p c) (node p i (F ks) ts) (node p i (edited c F ks) (edited c F ts)) (λ y. tally w y + tally w us ≡ (w p i + (tally w ks + tally w ts)) + tally w (F us))
      (λ e. here (eqb-true p c e) a) (λ e. other e a (λ o b. edited_tally c F j us ks o b) (λ o b. edited_tally c F j us ts o b))
    where
      here : p ≡ c → At c j us (node p i ks ts) → (w p i + (tally w (F ks) + tally w ts)) + tally w us ≡ (w p i + (tally w ks + tally w ts)) + tally w (F us)
      here e (inl (_, _, z)) = omega (arith, ap (tally w) z, ap (λ y. tally w (F y)) z)
      here e (inr (inl b)) = absurd (omega (arith, one_eq p c e, at_count c j us ks b))
      here e (inr (inr b)) = absurd (omega (arith, one_eq p c e, at_count c j us ts b))

      other : eqb p c ≡ false → At c j us (node p i ks ts) → (count c ks ≤ 1 → At c j us ks → tally w (edited c F ks) + tally w us ≡ tally w ks + tally w (F us))
          → (count c ts ≤ 1 → At c j us ts → tally w (edited c F ts) + tally w us ≡ tally w ts + tally w (F us)) → (w p i + (tally w (edited c F ks) + tally w (edited c F ts))) + tally w us ≡ (w p i + (tally w ks + tally w ts)) + tally w (F us)
      other e (inl (z, _, _)) K R = absurd (false≢true (sym e ∙ eq-eqb p c z))
      other e (inr (inl b)) K R = omega (arith, K (omega arith) b, ap (tally w) (edited_off c F ts (omega (arith, at_count c j us ks b))))
      other e (inr (inr b)) K R = omega (arith, R (omega arith) b, ap (tally w) (edited_off c F ks (omega (arith, at_count c j us ts b))))

  -- the children us of the container c: the root's, or those of a node
  pub under_tally : (c : ℕ) (F : Nodes → Nodes) (us ts : Nodes) → Below c us ts → tally w (under c F ts) + tally w us ≡ tally w ts + tally w (F us)
  under_tally c F us ts (inl (z, e)) =
      subst (λ y. tally w y + tally w us ≡ tally w ts + tally w (F us)) (sym (cond-true (eqb c 0) (F ts) (edited c F ts) (eq-eqb c 0 z)))
      (omega (arith, ap (tally w) e, ap (λ y. tally w (F y)) e))
  under_tally c F us ts (inr (n, o, (j, a))) =
      subst (λ y. tally w y + tally w us ≡ tally w ts + tally w (F us)) (sym (cond-false (eqb c 0) (F ts) (edited c F ts) (ne_eqb c 0 n)))
      (edited_tally c F j us ts o a)

  -- EXCHANGE
  exchange_from : (k : ℕ) (us bs ts : Nodes) → Among k ts → tally w (local_from (exchanged us) k bs ts) ≡ tally w (local_from dropped k bs ts) + tally w us
  exchange_from k us bs end a = absurd a
  exchange_from k us bs (node p i ks ts) a = go (eqb p k) refl (exchange_from k us (node p i ks bs) ts)
    where
      go : (b : Bool) → eqb p k ≡ b → (Among k ts → tally w (local_from (exchanged us) k (node p i ks bs) ts) ≡ tally w (local_from dropped k (node p i ks bs) ts) + tally w us)
          → tally w (cond b (onto bs (append us ts)) (local_from (exchanged us) k (node p i ks bs) ts)) ≡ tally w (cond b (onto bs ts) (local_from dropped k (node p i ks bs) ts)) + tally w us
      go true e R = omega (arith, tally_onto bs (append us ts), tally_onto bs ts, tally_append us ts)
      go false e R = R (among_on p k ts e a)

  -- so they do in the whole tree
  pub exchange_tally : (c k : ℕ) (vs us ts : Nodes) → Below c us ts → Among k us → tally w (exchange c k vs ts) ≡ tally w (drop_node c k ts) + tally w vs
  exchange_tally c k vs us ts b a = omega (arith, under_tally c (local (exchanged vs) k) us ts b, under_tally c (local dropped k) us ts b, exchange_from k vs end us a)

  -- IFMULTILINE
  commas_split : (s : Supply) (m n : ℕ) → tally w (sown s (commas (m + n))) ≡ tally w (sown s (commas m)) + tally w (sown (skip m s) (commas n))
  commas_split s zero n = omega (arith, ap (λ y. tally w (sown y (commas n))) (skip_none s), ap (λ y. tally w (sown s (commas y))) (let e : 0 + n ≡ n = omega arith in e))
  commas_split s (suc m) n = omega (arith, commas_split (skip 1 s) m n, ap (λ y. tally w (sown y (commas n))) (skip_skip m 1 s), ap (λ y. tally w (sown (skip y s) (commas n))) (one-add m), ap (λ y. tally w (sown s (commas y))) (suc-add m n))

  -- the commas that are due count besides the siblings
  trailed_tally : (b : Bool) (s : Supply) (ts : Nodes) → tally w (trailed b s ts) ≡ tally w ts + tally w (sown s (commas (dues b ts)))
  trailed_tally b s end = omega arith
  trailed_tally b s (node p i ks ts) =
      let m = due b i ts in let n = dues (lined i.sort ks) ks in let l = dues b ts in
      omega (
        arith,
        trailed_tally (lined i.sort ks) (skip m s) ks,
        trailed_tally b (skip (m + n) s) ts,
        tally_append (sown s (commas m)) (trailed b (skip (m + n) s) ts),
        commas_split s m (n + l),
        commas_split (skip m s) n l,
        ap (λ y. tally w (sown y (commas l))) (skip_skip n m s),
      )

  -- so they do in the whole tree
  pub lines_tally : (c : ℕ) (b : Bool) (s : Supply) (us ts : Nodes) → Below c us ts → tally w (under c (trailed b s) ts) ≡ tally w ts + tally w (sown s (commas (dues b us)))
  lines_tally c b s us ts h = omega (arith, under_tally c (trailed b s) us ts h, trailed_tally b s us)

  -- ENSURE_MULTILINE
  spread_tally : (l : Lines) (b : Bool) (s : Supply) (ts : Nodes) → tally w (spread_out l b s ts) ≡ tally w ts + tally w (sown s (leads l b ts))
  spread_tally l b s end = omega arith
  spread_tally l b s (node p i ks ts) =
      let x = piece_of (class i.sort) in let a = lead l x b in
      omega (arith, tally_append (sown s a) (node p i ks (spread_out l (begun x b) (skip (nodes a) s) ts)), spread_tally l (begun x b) (skip (nodes a) s) ts, sown_join s a (leads l (begun x b) ts))

  -- so it does in the whole tree
  pub multiline_tally : (c : ℕ) (l : Lines) (s : Supply) (us ts : Nodes) → Below c us ts
      → tally w (under c (λ ks. spread_out l false s (unspaced false ks)) ts) ≡ tally w (under c (unspaced false) ts) + tally w (sown s (leads l false (unspaced false us)))
  multiline_tally c l s us ts h = omega (arith, under_tally c (λ ks. spread_out l false s (unspaced false ks)) us ts h, under_tally c (unspaced false) us ts h, spread_tally l false s (unspaced false us))

  -- A ROOT WITHOUT A VALUE
  cut_tally : (bs : Nodes) → tally w (cut_at bs).before + tally w (cut_at bs).after ≡ tally w bs
  cut_tally end = omega arith
  cut_tally (node p i ks bs) = cond_both (is_break (class i.sort)) (record { before = bs; after = node p i ks end }) (record { before = node p i ks bs; after = end })
      (λ (y : Cut). tally w y.before + tally w y.after ≡ w p i + (tally w ks + tally w bs)) (λ e. omega arith) (λ e. omega arith)

  -- what is written at a root without a value counts besides them
  put_tally : (c : Cut) (n : Break) (v : Pieces) (s : Supply) → tally w (root_put c n v s) ≡ (tally w c.before + tally w c.after) + tally w (sown s (root_pieces c n v))
  put_tally c n v s =
      let x = break_before c.before n in let y = break_behind c.after n in
      let B = sown (skip (nodes x + nodes y) s) v in let C = sown (skip (nodes x) s) y in
      omega (
        arith,
        tally_onto c.before (append (sown s x) (append B (append C c.after))),
        tally_append (sown s x) (append B (append C c.after)),
        tally_append B (append C c.after),
        tally_append C c.after,
        sown_join s x (join y v),
        sown_join (skip (nodes x) s) y v,
        ap (λ u. tally w (sown u v)) (skip_skip (nodes y) (nodes x) s),
      )

  -- so it does with the root's children as they were
  pub root_tally : (n : Break) (v : Pieces) (s : Supply) (ts : Nodes) → tally w (root_put (root_cut ts) n v s) ≡ tally w ts + tally w (sown s (root_pieces (root_cut ts) n v))
  root_tally n v s ts = omega (arith, put_tally (root_cut ts) n v s, cut_tally (onto ts end), tally_onto ts end)
