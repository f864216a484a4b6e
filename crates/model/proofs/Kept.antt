-- Each edit keeps the document, and does to its value what it should. Assumes nothing.
use Rattle.std.proofs.Common.{◌≡◌, ℕ, Bool, true, false, cond, eqb, sym, refl, ap, ◌∙◌, subst, inl, inr, true≢false}
use Rattle.std.proofs.lemmas.Bool.{cond_both, eqb-true}
use Rattle.grammar.specs.Layout.{Parts, nil, part}
use Rattle.grammar.specs.Pieces.{Break, Box, array, object, property, Pieces}
use Rattle.forest.specs.Forest.{end, node}
use Rattle.forest.specs.Edits.{edited}
use Rattle.model.specs.Nodes.{Handle, within, Own, Nodes, value, class, pieces, label_of, parts}
use Rattle.model.specs.Edits.{Supply, sown, local, under, removal, remove, untrailed, trailed, exchanged, exchange, root_cut, root_put, Lines, unspaced, spread_out}
use Rattle.model.specs.Fits.{top, of, title, takes, Whole, Document, comments}
use Rattle.model.specs.Changes.{At, changed, changed_under, lost, swapped, Each, Trivial, IsBracketed, IsContainer, IsItem, IsElement, Blanked}
use Rattle.model.proofs.Edited.{document_under, comments_edited, parts_edited}
use Rattle.model.proofs.Removes.{remove_fits}
use Rattle.model.proofs.Parted.{remove_parts}
use Rattle.model.proofs.Commas.{untrailed_fits, untrailed_whole, untrailed_comments, untrailed_parts, Commaed, trailed_fits, trailed_whole, trailed_comments, trailed_parts}
use Rattle.model.proofs.Multiline.{multiline_fits, unspaced_comments, unspaced_parts, spread_comments, spread_parts}
use Rattle.model.proofs.Exchanges.{exchange_fits, exchange_parts, root_fits}
use Rattle.model.proofs.Loaded.{Stands}

-- a node below a node of the forest is in the forest
pub at_inside : (c k : ℕ) (j i : Own) (ks us ts : Nodes) → At c j ks ts → At k i us ks → At k i us ts
at_inside c k j i ks us end a b = absurd a
at_inside c k j i ks us (node p o vs ts) (inl a) b = inr (inl (subst (At k i us) (sym a.2) b))
at_inside c k j i ks us (node p o vs ts) (inr (inl a)) b = inr (inl (at_inside c k j i ks us vs a b))
at_inside c k j i ks us (node p o vs ts) (inr (inr a)) b = inr (inr (at_inside c k j i ks us ts a b))

-- what is whole is whole below
pub whole_at : (c : ℕ) (j : Own) (ks ts : Nodes) → At c j ks ts → Whole ts → Whole ks
whole_at c j ks end a w = absurd a
whole_at c j ks (node p o vs ts) (inl a) w = subst Whole a.2 w.1
whole_at c j ks (node p o vs ts) (inr (inl a)) w = whole_at c j ks vs a w.1
whole_at c j ks (node p o vs ts) (inr (inr a)) w = whole_at c j ks ts a w.2

-- what is said of the change of a child list, said of all
module _ (c : ℕ) (F : Nodes → Nodes) (ts : Nodes) where
  pub comments_under : ((j : Own) (ks : Nodes) → At c j ks ts → comments (F ks) ≡ comments ks) → (c ≡ 0 → comments (F ts) ≡ comments ts) → comments (under c F ts) ≡ comments ts
  comments_under k r = cond_both (eqb c 0) (F ts) (edited c F ts) (λ y. comments y ≡ comments ts) (λ e. r (eqb-true c 0 e)) (λ e. comments_edited c F ts k)

  pub parts_under : (G : Parts Handle → Parts Handle)
      → ((j : Own) (ks : Nodes) → At c j ks ts → (class j.sort ≡ value) × (parts (F ks) ≡ G (parts ks)) × (label_of j.sort (pieces (F ks)) ≡ label_of j.sort (pieces ks)))
      → (c ≡ 0 → parts (F ts) ≡ G (parts ts)) → parts (under c F ts) ≡ changed_under c G (parts ts)
  parts_under G k r = go (eqb c 0) refl
    where
      go : (b : Bool) → eqb c 0 ≡ b → parts (cond b (F ts) (edited c F ts)) ≡ cond b (G (parts ts)) (changed c G (parts ts))
      go true e = r (eqb-true c 0 e)
      go false e = parts_edited c F G ts k

-- a container is of the class of values
box_value : (j : Own) (b : Box) → j.sort ≡ within b → class j.sort ≡ value
box_value j b e = ap class e

-- the label of an array or object rests on nothing inside
box_label_lem : (j : Own) (b : Box) (us vs : Pieces) → j.sort ≡ within b → takes (of b) title ≡ false → label_of j.sort us ≡ label_of j.sort vs
box_label_lem j array us vs e n = ap (λ s. label_of s us) e ∙ sym (ap (λ s. label_of s vs) e)
box_label_lem j object us vs e n = ap (λ s. label_of s us) e ∙ sym (ap (λ s. label_of s vs) e)
box_label_lem j property us vs e n = absurd (true≢false n)

-- REMOVE
pub remove_document : (c k : ℕ) (ts : Nodes) → IsBracketed c ts → IsItem k ts → Document ts → Document (remove c k ts)
remove_document c k ts b v d = document_under c (local removal k) ts
    (λ j ks a. (let x = b j ks a in (x.0, x.1, λ f w. remove_fits (of x.0) k ks x.2 (λ i us z. v i us (at_inside c k j i ks us ts a z)) f w)))
    (λ e f w. remove_fits top k ts refl v f w) d

pub remove_value : (c k : ℕ) (ts : Nodes) → IsBracketed c ts → IsItem k ts → parts (remove c k ts) ≡ changed_under c (lost k) (parts ts)
remove_value c k ts b v = parts_under c (local removal k) ts (lost k)
    (λ j ks a. (let x = b j ks a in (box_value j x.0 x.1, remove_parts k ks (λ i us z. v i us (at_inside c k j i ks us ts a z)), box_label_lem j x.0 (pieces (local removal k ks)) (pieces ks) x.1 x.2)))
    (λ e. remove_parts k ts v)

-- REPLACE, SET_VALUE, SET_ROOT
pub exchange_kept : (c k : ℕ) (s : Supply) (a : Pieces) (ts : Nodes) → Stands a → IsContainer c ts → IsElement k ts → Document ts → Document (exchange c k (sown s a) ts)
exchange_kept c k s a ts g b v d = document_under c (local (exchanged (sown s a)) k) ts
    (λ j ks z. (let x = b j ks z in (x.0, x.1, λ f w. exchange_fits (of x.0) k s a ks g (λ i us y. v i us (at_inside c k j i ks us ts z y)) f w)))
    (λ e f w. exchange_fits top k s a ts g v f w) d

pub exchange_value : (c k : ℕ) (us ts : Nodes) → IsBracketed c ts → IsElement k ts → parts (exchange c k us ts) ≡ changed_under c (swapped k (parts us)) (parts ts)
exchange_value c k us ts b v = parts_under c (local (exchanged us) k) ts (swapped k (parts us))
    (λ j ks a. (let x = b j ks a in (box_value j x.0 x.1, exchange_parts k us ks (λ i vs z. (v i vs (at_inside c k j i ks vs ts a z)).0), box_label_lem j x.0 (pieces (local (exchanged us) k ks)) (pieces ks) x.1 x.2)))
    (λ e. exchange_parts k us ts (λ i vs z. (v i vs z).0))

pub root_document : (n : Break) (s : Supply) (a : Pieces) (ts : Nodes) → Stands a → Each Trivial ts → Document ts → Document (root_put (root_cut ts) n a s)
root_document n s a ts g h d = (let x = root_fits n a s ts g h d.fits d.whole in record { fits = x.0; whole = x.1 })

-- SET_TRAILING_COMMAS
pub never_document : (c : ℕ) (ts : Nodes) → IsContainer c ts → Document ts → Document (under c untrailed ts)
never_document c ts b d = document_under c untrailed ts
    (λ j ks a. (let x = b j ks a in (x.0, x.1, λ f w. (untrailed_fits (of x.0) ks f, untrailed_whole ks w))))
    (λ e f w. (untrailed_fits top ts f, untrailed_whole ts w)) d

pub never_comments : (c : ℕ) (ts : Nodes) → comments (under c untrailed ts) ≡ comments ts
never_comments c ts = comments_under c untrailed ts (λ j ks a. untrailed_comments ks) (λ e. untrailed_comments ts)

-- g of nothing changes nothing
changed_same : (c : ℕ) (v : Parts Handle) → changed c (λ y. y) v ≡ v
changed_same c nil = refl
changed_same c (part h l ks ts) = cond_both (eqb h.place c) (part h l ks ts) (part h l (changed c (λ y. y) ks) (changed c (λ y. y) ts)) (λ y. y ≡ part h l ks ts)
    (λ e. refl) (λ e. ap (λ y. part h l y (changed c (λ y. y) ts)) (changed_same c ks) ∙ ap (part h l ks) (changed_same c ts))

under_same : (c : ℕ) (v : Parts Handle) → changed_under c (λ y. y) v ≡ v
under_same c v = cond_both (eqb c 0) v (changed c (λ y. y) v) (λ y. y ≡ v) (λ e. refl) (λ e. changed_same c v)

pub never_value : (c : ℕ) (ts : Nodes) → IsBracketed c ts → Document ts → parts (under c untrailed ts) ≡ parts ts
never_value c ts b d = parts_under c untrailed ts (λ y. y)
    (λ j ks a. (let x = b j ks a in (box_value j x.0 x.1, untrailed_parts ks (whole_at c j ks ts a d.whole), box_label_lem j x.0 (pieces (untrailed ks)) (pieces ks) x.1 x.2)))
    (λ e. untrailed_parts ts d.whole) ∙ under_same c (parts ts)

pub lines_document : (c : ℕ) (b : Bool) (s : Supply) (ts : Nodes) → ((j : Own) (ks : Nodes) → At c j ks ts → (x : Box) × (j.sort ≡ within x) × Commaed (of x) b) → (c ≡ 0 → b ≡ false) → Document ts → Document (under c (trailed b s) ts)
lines_document c b s ts h z d = document_under c (trailed b s) ts
    (λ j ks a. (let x = h j ks a in (x.0, x.1, λ f w. (trailed_fits (of x.0) b s ks x.2 f, trailed_whole b s ks w))))
    (λ e f w. (trailed_fits top b s ts (λ y. absurd (true≢false (sym y ∙ z e))) f, trailed_whole b s ts w)) d

pub lines_comments : (c : ℕ) (b : Bool) (s : Supply) (ts : Nodes) → comments (under c (trailed b s) ts) ≡ comments ts
lines_comments c b s ts = comments_under c (trailed b s) ts (λ j ks a. trailed_comments b s ks) (λ e. trailed_comments b s ts)

pub lines_value : (c : ℕ) (b : Bool) (s : Supply) (ts : Nodes) → IsBracketed c ts → Document ts → parts (under c (trailed b s) ts) ≡ parts ts
lines_value c b s ts h d = parts_under c (trailed b s) ts (λ y. y)
    (λ j ks a. (let x = h j ks a in (box_value j x.0 x.1, trailed_parts b s ks (whole_at c j ks ts a d.whole), box_label_lem j x.0 (pieces (trailed b s ks)) (pieces ks) x.1 x.2)))
    (λ e. trailed_parts b s ts d.whole) ∙ under_same c (parts ts)

-- ENSURE_MULTILINE
abbrev pub multilined : Lines → Supply → Nodes → Nodes
multilined l s ks = spread_out l false s (unspaced false ks)

pub multiline_document : (c : ℕ) (l : Lines) (s : Supply) (ts : Nodes) → Blanked l → IsBracketed c ts → Document ts → Document (under c (multilined l s) ts)
multiline_document c l s ts h b d = document_under c (multilined l s) ts
    (λ j ks a. (let x = b j ks a in (x.0, x.1, λ f w. multiline_fits (of x.0) l s ks h x.2 f w)))
    (λ e f w. multiline_fits top l s ts h refl f w) d

pub multiline_comments : (c : ℕ) (l : Lines) (s : Supply) (ts : Nodes) → Blanked l → comments (under c (multilined l s) ts) ≡ comments ts
multiline_comments c l s ts h = comments_under c (multilined l s) ts (λ j ks a. spread_comments l false s (unspaced false ks) h ∙ unspaced_comments false ks) (λ e. spread_comments l false s (unspaced false ts) h ∙ unspaced_comments false ts)

pub multiline_value : (c : ℕ) (l : Lines) (s : Supply) (ts : Nodes) → Blanked l → IsBracketed c ts → parts (under c (multilined l s) ts) ≡ parts ts
multiline_value c l s ts h b = parts_under c (multilined l s) ts (λ y. y)
    (λ j ks a. (let x = b j ks a in (box_value j x.0 x.1, spread_parts l false s (unspaced false ks) h ∙ unspaced_parts false ks, box_label_lem j x.0 (pieces (multilined l s ks)) (pieces ks) x.1 x.2)))
    (λ e. spread_parts l false s (unspaced false ts) h ∙ unspaced_parts false ts) ∙ under_same c (parts ts)
