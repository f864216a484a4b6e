-- A change of one child list, and what it does to the whole tree. Assumes nothing.
use Rattle.std.proofs.Common.{◌≡◌, ℕ, ◌<◌, ◌≤◌, true, false, eqb, [], ◌++◌, sym, refl, ap, ◌∙◌, subst, inl, inr, append_assoc, arith}
use Rattle.std.proofs.lemmas.Bool.{eqb-true, cond_both, cond-true, cond-false}
use Rattle.grammar.specs.Layout.{Label, Parts, part}
use Rattle.grammar.specs.Pieces.{array, object, property, Pieces, name_of}
use Rattle.forest.specs.Forest.{end, node, count}
use Rattle.forest.specs.Edits.{edited, kids}
use Rattle.forest.proofs.Edited.{by_edit}
use Rattle.forest.proofs.Frames.{one_eq}
use Rattle.model.specs.Nodes.{Handle, handle, Sort, root, within, single, Own, Nodes, Class, gap, mark, value, class, piece, pieces, parts, parts_at, label_of}
use Rattle.model.specs.Edits.{under}
use Rattle.model.specs.Fits.{Owner, top, of, State, step, run, begin, Ends, Taken, Fits, IsEnd, Holds, Whole, Document, comments, remarks_of}
use Rattle.model.specs.Changes.{At, Keeps, changed, Around}

module _ (c : ℕ) (F : Nodes → Nodes) where
  -- the siblings are of the classes that they were
  pub run_edited : (q : State) (ts : Nodes) → run q (edited c F ts) ≡ run q ts
  run_edited q end = refl
  run_edited q (node p j ks ts) = cond_both (eqb p c) (node p j (F ks) ts) (node p j (edited c F ks) (edited c F ts)) (λ y. run q y ≡ run q (node p j ks ts))
      (λ e. refl) (λ e. run_edited (step q (class j.sort)) ts)

  pub taken_edited : (f : Owner) (ts : Nodes) → Taken f ts → Taken f (edited c F ts)
  taken_edited f end h = tt
  taken_edited f (node p j ks ts) h = cond_both (eqb p c) (node p j (F ks) ts) (node p j (edited c F ks) (edited c F ts)) (Taken f)
      (λ e. h) (λ e. (h.0, taken_edited f ts h.1))

  fits_edited : (f : Owner) (ts : Nodes) → Fits f ts → Fits f (edited c F ts)
  fits_edited f ts h = record { ends = subst (Ends f) (sym (run_edited (begin f) ts)) h.ends; taken = taken_edited f ts h.taken }

  end_edited : (ks : Nodes) → IsEnd ks → IsEnd (edited c F ks)
  end_edited end h = tt
  end_edited (node p j ks ts) h = absurd h

  holds_edited : (s : Sort) (ks : Nodes) → Holds s ks → Holds s (edited c F ks)
  holds_edited root ks h = h
  holds_edited (within b) ks h = fits_edited (of b) ks h
  holds_edited (single x) ks h = (h.0, end_edited ks h.1)

  holds_here : (j : Own) (ks : Nodes) → Keeps F j ks → Holds j.sort ks → Whole ks → Holds j.sort (F ks) × Whole (F ks)
  holds_here j ks k h w =
      let r = k.2 (subst (λ y. Holds y ks) k.1 h) w in
      (subst (λ y. Holds y (F ks)) (sym k.1) r.0, r.1)

  pub whole_edited : (ts : Nodes) → ((j : Own) (ks : Nodes) → At c j ks ts → Keeps F j ks) → Whole ts → Whole (edited c F ts)
  whole_edited end k h = tt
  whole_edited (node p j ks ts) k h = cond_both (eqb p c) (node p j (F ks) ts) (node p j (edited c F ks) (edited c F ts)) Whole
      (λ e. (let r = holds_here j ks (k j ks (inl (eqb-true p c e, refl, refl))) h.0 h.1 in (r.0, r.1, h.2)))
      (λ e. (holds_edited j.sort ks h.0, whole_edited ks (λ i us a. k i us (inr (inl a))) h.1, whole_edited ts (λ i us a. k i us (inr (inr a))) h.2))

  -- A change that keeps what the child list of c has to be keeps the document.
  pub document_edited : (ts : Nodes) → ((j : Own) (ks : Nodes) → At c j ks ts → Keeps F j ks) → Document ts → Document (edited c F ts)
  document_edited ts k d = record { fits = fits_edited top ts d.fits; whole = whole_edited ts k d.whole }

  pub document_under : (ts : Nodes) → ((j : Own) (ks : Nodes) → At c j ks ts → Keeps F j ks) → (c ≡ 0 → Fits top ts → Whole ts → Fits top (F ts) × Whole (F ts)) → Document ts → Document (under c F ts)
  document_under ts k r d = cond_both (eqb c 0) (F ts) (edited c F ts) Document
      (λ e. (let x = r (eqb-true c 0 e) d.fits d.whole in record { fits = x.0; whole = x.1 })) (λ e. document_edited ts k d)

  -- Comments that the change keeps stay.
  pub comments_edited : (ts : Nodes) → ((j : Own) (ks : Nodes) → At c j ks ts → comments (F ks) ≡ comments ks) → comments (edited c F ts) ≡ comments ts
  comments_edited end k = refl
  comments_edited (node p j ks ts) k = cond_both (eqb p c) (node p j (F ks) ts) (node p j (edited c F ks) (edited c F ts)) (λ y. comments y ≡ comments (node p j ks ts))
      (λ e. ap (λ y. remarks_of (class j.sort) y ++ comments ts) (k j ks (inl (eqb-true p c e, refl, refl))))
      (λ e. ap (λ y. remarks_of (class j.sort) y ++ comments (edited c F ts)) (comments_edited ks (λ i us a. k i us (inr (inl a))))
      ∙ ap (λ y. remarks_of (class j.sort) (comments ks) ++ y) (comments_edited ts (λ i us a. k i us (inr (inr a)))))

  -- a property's name is that of its first child, which stays
  name_edited : (ts : Nodes) → name_of (pieces (edited c F ts)) ≡ name_of (pieces ts)
  name_edited end = refl
  name_edited (node p j ks ts) = cond_both (eqb p c) (node p j (F ks) ts) (node p j (edited c F ks) (edited c F ts)) (λ y. name_of (pieces y) ≡ name_of (pieces (node p j ks ts)))
      (λ e. go j.sort (pieces (F ks)) (pieces ts) refl) (λ e. go j.sort (pieces (edited c F ks)) (pieces (edited c F ts)) (name_edited ts))
    where
      go : (s : Sort) (us vs : Pieces) → name_of vs ≡ name_of (pieces ts) → name_of (piece s us vs) ≡ name_of (piece s (pieces ks) (pieces ts))
      go root us vs e = e
      go (within b) us vs e = refl
      go (single x) us vs e = refl

  label_same : (s : Sort) (us vs : Pieces) → name_of us ≡ name_of vs → label_of s us ≡ label_of s vs
  label_same root us vs e = refl
  label_same (within array) us vs e = refl
  label_same (within object) us vs e = refl
  label_same (within property) us vs e = ap Label.Member e
  label_same (single x) us vs e = refl

  -- The value with its handles: a change of the parts below c. A part's own handle and label stay.
  pub parts_edited : (G : Parts Handle → Parts Handle) (ts : Nodes)
      → ((j : Own) (ks : Nodes) → At c j ks ts → (class j.sort ≡ value) × (parts (F ks) ≡ G (parts ks)) × (label_of j.sort (pieces (F ks)) ≡ label_of j.sort (pieces ks)))
      → parts (edited c F ts) ≡ changed c G (parts ts)
  parts_edited G end k = refl
  parts_edited G (node p j ks ts) k = cond_both (eqb p c) (node p j (F ks) ts) (node p j (edited c F ks) (edited c F ts)) (λ y. parts y ≡ changed c G (parts (node p j ks ts)))
      (λ e. (let h = k j ks (inl (eqb-true p c e, refl, refl)) in here (class j.sort) h.0 e h.2 h.1))
      (λ e. go (class j.sort) e (label_same j.sort (pieces (edited c F ks)) (pieces ks) (name_edited ks)) (parts_edited G ks (λ i us a. k i us (inr (inl a)))) (parts_edited G ts (λ i us a. k i us (inr (inr a)))))
    where
      here : (x : Class) → x ≡ value → eqb p c ≡ true → label_of j.sort (pieces (F ks)) ≡ label_of j.sort (pieces ks) → parts (F ks) ≡ G (parts ks)
          → parts_at x (handle p j) (label_of j.sort (pieces (F ks))) (parts (F ks)) (parts ts) ≡ changed c G (parts_at x (handle p j) (label_of j.sort (pieces ks)) (parts ks) (parts ts))
      here (gap g) z e l h = (let q : ◌≡◌ {A = ℕ} 0 1 = cc in absurd (omega arith))
      here (mark m) z e l h = (let q : ◌≡◌ {A = ℕ} 0 1 = cc in absurd (omega arith))
      here value z e l h =
          ap (λ y. part (handle p j) y (parts (F ks)) (parts ts)) l ∙ (ap (λ y. part (handle p j) (label_of j.sort (pieces ks)) y (parts ts)) h
          ∙ sym (cond-true (eqb p c) (part (handle p j) (label_of j.sort (pieces ks)) (G (parts ks)) (parts ts)) (part (handle p j) (label_of j.sort (pieces ks)) (changed c G (parts ks)) (changed c G (parts ts))) e))

      go : (x : Class) → eqb p c ≡ false → label_of j.sort (pieces (edited c F ks)) ≡ label_of j.sort (pieces ks) → parts (edited c F ks) ≡ changed c G (parts ks) → parts (edited c F ts) ≡ changed c G (parts ts)
          → parts_at x (handle p j) (label_of j.sort (pieces (edited c F ks))) (parts (edited c F ks)) (parts (edited c F ts)) ≡ changed c G (parts_at x (handle p j) (label_of j.sort (pieces ks)) (parts ks) (parts ts))
      go (gap g) e l h r = r
      go (mark m) e l h r = r
      go value e l h r =
          ap (λ y. part (handle p j) y (parts (edited c F ks)) (parts (edited c F ts))) l ∙ (ap (λ y. part (handle p j) (label_of j.sort (pieces ks)) y (parts (edited c F ts))) h
          ∙ (ap (λ y. part (handle p j) (label_of j.sort (pieces ks)) (changed c G (parts ks)) y) r
          ∙ sym (cond-false (eqb p c) (part (handle p j) (label_of j.sort (pieces ks)) (G (parts ks)) (parts ts)) (part (handle p j) (label_of j.sort (pieces ks)) (changed c G (parts ks)) (changed c G (parts ts))) e)))

  -- a node with children is of the class of values
  full_value : (s : Sort) (ks : Nodes) → Holds s ks → 0 < count c ks → class s ≡ value
  full_value root ks h z = refl
  full_value (within b) ks h z = refl
  full_value (single x) end h z = absurd (omega arith)
  full_value (single x) (node p j ks ts) h z = absurd h.1

  -- The comments of the child list stand between two runs of comments that stay.
  pub comments_around : (ts : Nodes) → count c ts ≡ 1 → Whole ts → ((j : Own) (ks : Nodes) → At c j ks ts → class j.sort ≡ value) → Around (comments ts) (comments (kids c ts)) (comments (edited c F ts)) (comments (F (kids c ts)))
  comments_around end o w k = absurd (omega arith)
  comments_around (node p j ks ts) o w k =
      by_edit c F (λ d s. Around (comments (node p j ks ts)) (comments s) (comments d) (comments (F s))) p j ks ts o
      (λ e a b. (let v = k j ks (inl (e, refl, refl)) in record {
        before = [];
        behind = comments ts;
        was = ap (λ y. remarks_of y (comments ks) ++ comments ts) v;
        is = ap (λ y. remarks_of y (comments (F ks)) ++ comments ts) v;
      }))
      (λ d a b. (let v = full_value j.sort ks w.0 (omega arith) in let m = comments_around ks a w.1 (λ i us z. k i us (inr (inl z))) in record {
        before = m.before;
        behind = m.behind ++ comments ts;
        was = ap (λ y. remarks_of y (comments ks) ++ comments ts) v ∙ (ap (λ y. y ++ comments ts) m.was ∙ simp append_assoc);
        is = ap (λ y. remarks_of y (comments (edited c F ks)) ++ comments ts) v ∙ (ap (λ y. y ++ comments ts) m.is ∙ simp append_assoc);
      }))
      (λ d a b. (let m = comments_around ts b w.2 (λ i us z. k i us (inr (inr z))) in record {
        before = remarks_of (class j.sort) (comments ks) ++ m.before;
        behind = m.behind;
        was = ap (λ y. remarks_of (class j.sort) (comments ks) ++ y) m.was ∙ sym (append_assoc (remarks_of (class j.sort) (comments ks)) m.before (comments (kids c ts) ++ m.behind));
        is = ap (λ y. remarks_of (class j.sort) (comments ks) ++ y) m.is ∙ sym (append_assoc (remarks_of (class j.sort) (comments ks)) m.before (comments (F (kids c ts)) ++ m.behind));
      }))

-- where c stands once, its data and children are one
pub at_count : (c : ℕ) (j : Own) (ks : Nodes) (ts : Nodes) → At c j ks ts → 0 < count c ts
at_count c j ks end a = absurd a
at_count c j ks (node p i us ts) (inl a) = omega (arith, one_eq p c a.0)
at_count c j ks (node p i us ts) (inr (inl a)) = omega (arith, at_count c j ks us a)
at_count c j ks (node p i us ts) (inr (inr a)) = omega (arith, at_count c j ks ts a)

pub at_once : (c : ℕ) (j i : Own) (ks us : Nodes) (ts : Nodes) → count c ts ≤ 1 → At c j ks ts → At c i us ts → (j ≡ i) × (ks ≡ us)
at_once c j i ks us end h a b = absurd a
at_once c j i ks us (node p k vs ts) h (inl a) (inl b) = (sym a.1 ∙ b.1, sym a.2 ∙ b.2)
at_once c j i ks us (node p k vs ts) h (inl a) (inr (inl b)) = absurd (omega (arith, one_eq p c a.0, at_count c i us vs b))
at_once c j i ks us (node p k vs ts) h (inl a) (inr (inr b)) = absurd (omega (arith, one_eq p c a.0, at_count c i us ts b))
at_once c j i ks us (node p k vs ts) h (inr (inl a)) (inl b) = absurd (omega (arith, one_eq p c b.0, at_count c j ks vs a))
at_once c j i ks us (node p k vs ts) h (inr (inl a)) (inr (inl b)) = at_once c j i ks us vs (omega arith) a b
at_once c j i ks us (node p k vs ts) h (inr (inl a)) (inr (inr b)) = absurd (omega (arith, at_count c j ks vs a, at_count c i us ts b))
at_once c j i ks us (node p k vs ts) h (inr (inr a)) (inl b) = absurd (omega (arith, one_eq p c b.0, at_count c j ks ts a))
at_once c j i ks us (node p k vs ts) h (inr (inr a)) (inr (inl b)) = absurd (omega (arith, at_count c j ks ts a, at_count c i us vs b))
at_once c j i ks us (node p k vs ts) h (inr (inr a)) (inr (inr b)) = at_once c j i ks us ts (omega arith) a b
