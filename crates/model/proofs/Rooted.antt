-- A value put into a root that has none: it is the document's value, and all comments stay. Assumes nothing.
use Rattle.std.proofs.Common.{◌≡◌, ℕ, ◌+◌, true, [], ◌++◌, sym, refl, ap, ◌∙◌, append_assoc, append-nil}
use mathlib.Core.Bool.{false≢true}
use Rattle.std.proofs.lemmas.Bool.{cond_both}
use Rattle.grammar.specs.Layout.{Parts, nil, part}
use Rattle.grammar.specs.Pieces.{Break, newline, Pieces, end as no_pieces, leaf, nodes}
use Rattle.forest.specs.Forest.{end, node, append}
use Rattle.model.specs.Nodes.{Handle, handle, Own, Nodes, blank, break, remark, Class, gap, mark, value, class, pieces, parts, parts_at, label_of}
use Rattle.model.specs.Asks.{is_break}
use Rattle.model.specs.Edits.{Supply, skip, sown, onto, cut_at, root_cut, is_remark, break_before, break_behind, root_put}
use Rattle.model.specs.Fits.{comments, remarks_of}
use Rattle.model.specs.Changes.{Each, Trivial, chain, notes_before}
use Rattle.model.proofs.Removes.{each_onto}
use Rattle.model.proofs.Parted.{lead, parts_onto}
use Rattle.model.proofs.Exchanges.{parts_append}
use Rattle.model.proofs.Says.{comments_onto, comments_append}

-- nodes without values and comments
record Empty (us : Nodes) : Type 0 where
  valueless : parts us ≡ nil
  quiet : comments us ≡ []

-- trivia before others adds no value
lead_trivial : (bs : Nodes) (v : Parts Handle) → Each Trivial bs → lead bs v ≡ v
lead_trivial end v h = refl
lead_trivial (node p i ks bs) v h =
    ap (λ c. lead bs (parts_at c (handle p i) (label_of i.sort (pieces ks)) (parts ks) v)) h.0.1 ∙ lead_trivial bs v h.1

-- a Newline, or nothing
before_empty : (bs : Nodes) (n : Break) (s : Supply) → Empty (sown s (break_before bs n))
before_empty end n s = record { valueless = refl; quiet = refl }
before_empty (node p i ks bs) n s = cond_both (is_remark (class i.sort)) (leaf (newline n) no_pieces) no_pieces (λ x. Empty (sown s x))
    (λ e. record { valueless = refl; quiet = refl }) (λ e. record { valueless = refl; quiet = refl })

-- a Newline behind the value, or nothing
behind_empty : (ts : Nodes) (n : Break) (s : Supply) → Empty (sown s (break_behind ts n))
behind_empty end n s = record { valueless = refl; quiet = refl }
behind_empty (node p i ks ts) n s = record { valueless = refl; quiet = refl }

-- nothing behind parts changes nothing
chain_nil : (v : Parts Handle) → chain v nil ≡ v
chain_nil nil = refl
chain_nil (part h l ks ts) = ap (part h l ks) (chain_nil ts)

-- a value between what is empty, behind trivia
put_parts : (bs x us y ts : Nodes) → Each Trivial bs → Empty x → Empty y → Empty ts → parts (onto bs (append x (append us (append y ts)))) ≡ parts us
put_parts bs x us y ts h a b c =
    parts_onto bs (append x (append us (append y ts)))
    ∙ (lead_trivial bs (parts (append x (append us (append y ts)))) h
    ∙ (parts_append x (append us (append y ts)) ∙ (ap (λ v. chain v (parts (append us (append y ts)))) a.valueless
    ∙ (parts_append us (append y ts) ∙ (ap (chain (parts us)) (parts_append y ts ∙ (ap (λ v. chain v (parts ts)) b.valueless ∙ c.valueless)) ∙ chain_nil (parts us))))))

-- the comments before it are all there are
put_comments : (bs x us y ts : Nodes) → Empty x → comments us ≡ [] → Empty y → Empty ts → comments (onto bs (append x (append us (append y ts)))) ≡ notes_before bs
put_comments bs x us y ts a u b c =
    comments_onto bs (append x (append us (append y ts)))
    ∙ (ap (λ v. notes_before bs ++ v) (comments_append x (append us (append y ts)) ∙ (ap (λ v. v ++ comments (append us (append y ts))) a.quiet
    ∙ (comments_append us (append y ts) ∙ (ap (λ v. v ++ comments (append y ts)) u ∙ (comments_append y ts ∙ (ap (λ v. v ++ comments ts) b.quiet ∙ c.quiet))))))
    ∙ append-nil (notes_before bs))

-- a Newline that stands last
break_class : (c : Class) → is_break c ≡ true → c ≡ gap break
break_class (gap blank) e = absurd (false≢true e)
break_class (gap break) e = refl
break_class (gap (remark c)) e = absurd (false≢true e)
break_class (mark m) e = absurd (false≢true e)
break_class value e = absurd (false≢true e)

-- a Newline has no value and no comments
break_empty : (p : ℕ) (i : Own) (ks : Nodes) → class i.sort ≡ gap break → Empty (node p i ks end)
break_empty p i ks e = record {
  valueless = ap (λ c. parts_at c (handle p i) (label_of i.sort (pieces ks)) (parts ks) nil) e;
  quiet = ap (λ c. remarks_of c (comments ks) ++ []) e;
}

-- the nodes after the edit say what the new ones say, and keep the comments before
record Says (a : Pieces) (bs ts : Nodes) : Type 0 where
  supply : Supply
  value_is : parts ts ≡ parts (sown supply a)
  comments_are : comments ts ≡ notes_before bs

-- what the cut root says after the value is put into it
cut_says : (n : Break) (a : Pieces) (s : Supply) (bs : Nodes) → ((u : Supply) → comments (sown u a) ≡ []) → Each Trivial bs → Says a bs (root_put (cut_at bs) n a s)
cut_says n a s end q h =
    let x : Pieces = break_before end n in
    let y : Pieces = break_behind end n in
    let u : Supply = skip (nodes x + nodes y) s in
    let z : Empty end = record { valueless = refl; quiet = refl } in
    record {
      supply = u;
      value_is = put_parts end (sown s x) (sown u a) (sown (skip (nodes x) s) y) end tt (before_empty end n s) (behind_empty end n (skip (nodes x) s)) z;
      comments_are = put_comments end (sown s x) (sown u a) (sown (skip (nodes x) s) y) end (before_empty end n s) (q u) (behind_empty end n (skip (nodes x) s)) z;
    }
cut_says n a s (node p i ks bs) q h =
    cond_both (is_break (class i.sort)) (record { before = bs; after = node p i ks end }) (record { before = node p i ks bs; after = end }) (λ c. Says a (node p i ks bs) (root_put c n a s))
    (λ e. (let x : Pieces = break_before bs n in
    let y : Pieces = break_behind (node p i ks end) n in
    let u : Supply = skip (nodes x + nodes y) s in
    let b = break_class (class i.sort) e in
    let z = break_empty p i ks b in
    record {
      supply = u;
      value_is = put_parts bs (sown s x) (sown u a) (sown (skip (nodes x) s) y) (node p i ks end) h.1 (before_empty bs n s) (behind_empty (node p i ks end) n (skip (nodes x) s)) z;
      comments_are = put_comments bs (sown s x) (sown u a) (sown (skip (nodes x) s) y) (node p i ks end) (before_empty bs n s) (q u) (behind_empty (node p i ks end) n (skip (nodes x) s)) z
          ∙ (sym (append-nil (notes_before bs)) ∙ ap (λ c. notes_before bs ++ remarks_of c (comments ks)) (sym b));
    }))
    (λ e. (let x : Pieces = break_before (node p i ks bs) n in
    let y : Pieces = break_behind end n in
    let u : Supply = skip (nodes x + nodes y) s in
    let z : Empty end = record { valueless = refl; quiet = refl } in
    record {
      supply = u;
      value_is = put_parts (node p i ks bs) (sown s x) (sown u a) (sown (skip (nodes x) s) y) end h (before_empty (node p i ks bs) n s) (behind_empty end n (skip (nodes x) s)) z;
      comments_are = put_comments (node p i ks bs) (sown s x) (sown u a) (sown (skip (nodes x) s) y) end (before_empty (node p i ks bs) n s) (q u) (behind_empty end n (skip (nodes x) s)) z;
    }))

-- the comments of siblings, turned round and back
notes_onto : (ts bs : Nodes) → notes_before (onto ts bs) ≡ notes_before bs ++ comments ts
notes_onto end bs = sym (append-nil (notes_before bs))
notes_onto (node p i ks ts) bs = notes_onto ts (node p i ks bs) ∙ append_assoc (notes_before bs) (remarks_of (class i.sort) (comments ks)) (comments ts)

-- The value is that of the new nodes, and the comments are those that were.
pub root_says : (n : Break) (a : Pieces) (s : Supply) (ts : Nodes) → ((u : Supply) → comments (sown u a) ≡ []) → Each Trivial ts
    → (u : Supply) × (parts (root_put (root_cut ts) n a s) ≡ parts (sown u a)) × (comments (root_put (root_cut ts) n a s) ≡ comments ts)
root_says n a s ts q h =
    let m = cut_says n a s (onto ts end) q (each_onto Trivial ts end h tt) in
    (m.supply, m.value_is, m.comments_are ∙ notes_onto ts end)
