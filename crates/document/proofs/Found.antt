-- A node that a document found is a node of its tree, and the one that the handle names. Assumes nothing.
use Rattle.std.proofs.Common.{◌≡◌, ℕ, [], Some, None, Option, sym, ap, ◌∙◌, inl, inr, arith}
use Rattle.std.proofs.lemmas.Option.{none-some}
use Rattle.std.proofs.lemmas.Bool.{cond-false, cases_lt}
use Rattle.forest.specs.Forest.{end, count}
use Rattle.refusal.specs.declared.Refusal.TheVariants.{Gone}
use Rattle.model.specs.Nodes.{Handle}
use Rattle.model.specs.Asks.{Spot, tree, spot_at, spot_handle}
use Rattle.model.specs.State.{Given, and_then, present, asking, unloaded}
use Rattle.model.proofs.Spots.{spot_found}
use Rattle.model.proofs.Lying.{named_spot, spot_place}
use Rattle.tree.specs.declared.tree.Tree.{Tree}
use Rattle.tree.specs.declared.node.Node.{Node}
use Rattle.tree.specs.Places.{spot_of}
use Rattle.tree.specs.Trees.{kids, state}
use Rattle.tree.specs.Steps.{spot}
use Rattle.tree.proofs.Spots.{plug, no_spot, spot_stands}
use Rattle.tree.proofs.Seen.{distinct, plug_is}
use Rattle.document.specs.Documents.{state_in}
use Rattle.document.proofs.Asked.{is_loaded}

-- what answers a spot was found
got : (o : Option Spot) (s : Spot) → Given s ≡ and_then (present Gone o) Given → o ≡ Some s
got None s e = let z : ◌≡◌ {A = ℕ} 0 1 = cc in absurd (omega arith)
got (Some t) s e = cc

same : (s t : Spot) → Some s ≡ Some t → s ≡ t
same s t e = cc

-- a node that a tree names is of that tree
named_kids : (t : Tree) (k : ℕ) (n : Node) → spot_at k (kids t) ≡ Some (spot n) → kids n.tree.now ≡ kids t
named_kids t k n e =
    elim (cases_lt 0 (count k (tree (kids t)))) [
      | inl c ↦
          let m : spot_of k (kids t) ≡ spot n = same _ _ (sym (spot_stands (kids t) (distinct t) k c) ∙ e) in
          let z : tree (kids n.tree.now) ≡ tree (kids t) = sym (plug_is n.tree.now n.place n.stands) ∙ (ap plug (sym m) ∙ plug_is t k c) in
          cc
      | inr c ↦ absurd (none-some (spot n) (sym (no_spot k [] end (tree (kids t)) (omega arith)) ∙ e))
    ]

-- so is the one that a document found, and the handle names it
pub found_is : (o : Option Tree) (h : Handle) (n : Node) → Given (spot n) ≡ asking (state_in o) h Given → (kids n.tree.now ≡ (state_in o).kids) × (spot_handle (spot n) ≡ h)
found_is None h n e = let z : ◌≡◌ {A = ℕ} 0 1 = cc in absurd (omega arith)
found_is (Some t) h n e =
    let m = named_spot h (kids t) (spot n) (got _ (spot n) (e ∙ cond-false (unloaded (state t)) _ _ (is_loaded t))) in
    let p : (spot n).here.place ≡ h.place = spot_place h.place (kids t) (spot n) (spot_found h.place (kids t) (spot n) m.0) in
    (named_kids t h.place n m.0, λ i. record { place = p i; number = m.1 i })
