-- What the questions answer, of the node that was found. Assumes nothing.
use Rattle.std.proofs.Common.{◌≡◌, ℕ, ◌≤◌, ltb, List, [], ◌++◌, length, drop, Some, None, Option, sym, refl, ap, ◌∙◌}
use Rattle.std.proofs.lemmas.Option.{none-some}
use Rattle.std.proofs.lemmas.Bool.{cond-false, le-ltb}
use Rattle.refusal.specs.declared.Refusal.TheVariants.{BadMemory, NotHere}
use Rattle.model.specs.Nodes.{Handle, parts}
use Rattle.model.specs.Asks.{or_given, path}
use Rattle.model.specs.State.{Given, Refused, present, asking, path_answer}
use Rattle.tree.specs.declared.tree.Tree.{Tree}
use Rattle.tree.specs.declared.node.Node.{Node}
use Rattle.tree.specs.Steps.{spot}
use Rattle.document.specs.Documents.{state_in}
use Rattle.document.proofs.Asked.{here}
use Rattle.document.proofs.Found.{found_is}
use Rattle.paths.specs.Ways.{path_of, measured, counted, written}

-- what is measured, as it is answered and written
some_told : (o : Option (List ℕ)) (n : ℕ) (xs : List ℕ) → Some n ≡ measured o → (Given n ≡ counted (present NotHere o)) × (or_given o [] ++ drop n xs ≡ written (present NotHere o) xs)
some_told None n xs e = absurd (none-some n (sym e))
some_told (Some p) n xs e = (let z : n ≡ length p = cc in (ap Given z, ap (λ y. p ++ drop y xs) z))

-- nothing to measure is NotHere
none_told : (o : Option (List ℕ)) (xs : List ℕ) → None ≡ measured o → (Refused NotHere ≡ counted (present NotHere o)) × (xs ≡ written (present NotHere o) xs)
none_told None xs e = (refl, refl)
none_told (Some p) xs e = absurd (none-some (length p) e)

module _ (o : Option Tree) (h : Handle) (k : ℕ) (l : 128 ≤ k) where
  -- with room for a path, the document is asked
  pub roomy : path_answer (state_in o) h k ≡ asking (state_in o) h (λ s. present NotHere (path h (parts (state_in o).kids)))
  roomy = cond-false (ltb k 128) (Refused BadMemory) (asking (state_in o) h (λ s. present NotHere (path h (parts (state_in o).kids)))) (le-ltb k 128 l)

  module _ (n : Node) (e : Given (spot n) ≡ asking (state_in o) h Given) where
    -- the answer on the path of a node
    path_here : present NotHere (path_of n) ≡ path_answer (state_in o) h k
    path_here =
        let m = found_is o h n e in
        (λ i. present NotHere (path (m.1 i) (parts (m.0 i))))
        ∙ (sym (here (state_in o) h (λ s. present NotHere (path h (parts (state_in o).kids))) (spot n) e) ∙ sym roomy)

    -- a path that was measured and written
    pub path_told : (xs ys : List ℕ) (j : ℕ) → Some j ≡ measured (path_of n) → ys ≡ or_given (path_of n) [] ++ drop j xs → (Given j ≡ counted (path_answer (state_in o) h k)) × (ys ≡ written (path_answer (state_in o) h k) xs)
    path_told xs ys j m w = (let b = some_told (path_of n) j xs m in (b.0 ∙ ap counted path_here, w ∙ (b.1 ∙ ap (λ y. written y xs) path_here)))

    -- a node without a path
    pub path_untold : (xs : List ℕ) → None ≡ measured (path_of n) → (Refused NotHere ≡ counted (path_answer (state_in o) h k)) × (xs ≡ written (path_answer (state_in o) h k) xs)
    path_untold xs m = (let b = none_told (path_of n) xs m in (b.0 ∙ ap counted path_here, b.1 ∙ ap (λ y. written y xs) path_here))
