-- What a question answers of what is loaded: of a handle that is Gone, and of one that names a node.
use Rattle.std.proofs.Common.{◌≡◌, ℕ, ◌<◌, Bool, true, false, cond, IsErrAnd, Some, None, Ok, Err, Option, Result, sym, refl, ap, ◌∙◌, arith}
use Rattle.std.specs.Option.{ok_or}
use Rattle.std.proofs.lemmas.Result.{err_from_is_err_and}
use Rattle.std.proofs.lemmas.Bool.{ne_eqb, cond-false, cond-true}
use Rattle.forest.specs.Forest.{size}
use Rattle.refusal.specs.declared.Refusal.{Refusal}
use Rattle.refusal.specs.declared.Refusal.TheVariants.{BadMemory, Gone}
use Rattle.table.specs.Tables as table
use Rattle.table.proofs.Seen as of_table
use Rattle.model.specs.Nodes.{Handle}
use Rattle.model.specs.Asks.{Spot}
use Rattle.model.specs.State.{Outcome, Given, Refused, State, unless, and_then, present, unloaded, spotted, asking}
use Rattle.tree.specs.declared.tree.Tree.{Tree}
use Rattle.tree.specs.declared.node.Node.{Node}
use Rattle.tree.specs.Trees.{state}
use Rattle.tree.specs.Steps.{spot, Found}
use Rattle.tree.proofs.Seen.{root_is}
use Rattle.document.specs.declared.document.Document.{Document}
use Rattle.document.specs.Documents.{state_of, state_in, told}

-- a tree has records
pub some_records : (t : Tree) → 0 < table.records t.table
some_records t = (let r = root_is t in omega (arith, of_table.tree_size t.table, ap (λ y. size y) r.2))

pub is_loaded : (t : Tree) → unloaded (state t) ≡ false
is_loaded t = ne_eqb (table.records t.table) 0 (λ e. omega (arith, some_records t))

module _ (d : Document) (t : Tree) (e : d.tree ≡ Some t) where
  pub state_is : state_of d ≡ state t
  state_is = ap state_in e

  -- a question that takes no handle
  pub plainly : {A : Type 0} (f : State → Outcome A) → unless (unloaded (state_of d)) BadMemory (f (state_of d)) ≡ f (state t)
  plainly f = ap (λ s. unless (unloaded s) BadMemory (f s)) state_is ∙ cond-false (unloaded (state t)) (Refused BadMemory) (f (state t)) (is_loaded t)

  -- what a tree finds is what the document is asked
  pub found_told : (h : Handle) (r : Result Node Refusal) → Found r h t → told spot r ≡ asking (state_of d) h Given
  found_told h (Ok n) (a, b, p) = sym (plainly (λ s. and_then (spotted s h) Given) ∙ ap (λ o. and_then (present Gone o) Given) b)
  found_told h (Err x) (a, b) = ap Refused a ∙ sym (plainly (λ s. and_then (spotted s h) Given) ∙ ap (λ o. and_then (present Gone o) Given) b)

-- the exit of a refusal
exit : {A B : Type 0} (g : A → B) (r : Result A Refusal) (x : Refusal) → IsErrAnd r (λ y. y ≡ x) → told g r ≡ Refused x
exit g r x b = (let p = err_from_is_err_and r b in ap (told g) (p.1 ∙ ap Err p.2))

-- the exit of a value that is absent, which e refuses
pub absent_exit : {A B C : Type 0} (g : A → B) (r : Result A Refusal) (o : Option C) (x e : Refusal) → IsErrAnd r (λ y. y ≡ x) → Err x ≡ ok_or o e → (o ≡ None) × (told g r ≡ Refused e)
absent_exit g r None x e b z = (refl, exit g r x b ∙ cc)
absent_exit g r (Some a) x e b z = (let n : ◌≡◌ {A = ℕ} 0 1 = cc in absurd (omega arith))

-- what is asked of the node that a handle names: it is asked of the node that was found, or what refused the search refuses it
module _ {A : Type 0} (d : State) (h : Handle) (f : Spot → Outcome A) where
  asked : asking d h f ≡ and_then (asking d h Given) f
  asked = go (unloaded d) (spotted d h)
    where
      go : (b : Bool) (o : Outcome Spot) → unless b BadMemory (and_then o f) ≡ and_then (unless b BadMemory (and_then o Given)) f
      go true o = refl
      go false (Given s) = refl
      go false (Refused e) = refl

  pub here : (s : Spot) → Given s ≡ asking d h Given → asking d h f ≡ f s
  here s e = asked ∙ ap (λ o. and_then o f) (sym e)

  -- the exit where none was found
  pub refused_exit : {B : Type 0} (g : B → A) (r : Result B Refusal) (x : Refusal) → IsErrAnd r (λ y. y ≡ x) → Refused x ≡ asking d h Given → told g r ≡ asking d h f
  refused_exit g r x y e = exit g r x y ∙ sym (asked ∙ ap (λ o. and_then o f) (sym e))

-- what is asked only of a node that passes a test
pub here_where : {A : Type 0} (d : State) (h : Handle) (f : Spot → Outcome A) (t : Spot → Bool) (x : Refusal) (s : Spot) → Given s ≡ asking d h Given → t s ≡ true
    → asking d h (λ s. cond (t s) (f s) (Refused x)) ≡ f s
here_where d h f t x s e b = here d h (λ s. cond (t s) (f s) (Refused x)) s e ∙ cond-true (t s) (f s) (Refused x) b
