-- Which indents a written value takes, by how the lines around it are indented. Assumes nothing.
use Rattle.std.specs.Prelude.{ℕ, zero, suc, Bool, true, false, cond, List, [], ◌∷◌, ◌++◌, Some, None, Option, ◌==◌}
use Rattle.forest.specs.Forest.{end, node}
use Rattle.model.specs.Nodes.{Nodes}
use Rattle.model.specs.Asks.{or_else, Frame, Spot, is_root, is_property, indent_before, indent_text, value_kids, sort_of}

-- the current indent and the single one
pub record Indents : Type 0 where
  pub current : List ℕ
  pub step : List ℕ

-- the indent where nothing else is found
abbrev pub two_spaces : List ℕ
two_spaces = 32 ∷ 32 ∷ []

-- a text n times
abbrev pub times : ℕ → List ℕ → List ℕ
times zero t = []
times (suc n) t = t ++ times n t

-- the rest of a text behind its beginning
abbrev pub rest : List ℕ → List ℕ → Option (List ℕ)
rest [] t = Some t
rest (x ∷ xs) [] = None
rest (x ∷ xs) (y ∷ ys) = cond (x == y) (rest xs ys) None

-- the parent, where it is a property, left out
abbrev pub past_property : List Frame → List Frame
past_property [] = []
past_property (f ∷ us) = cond (is_property f.own.sort) us (f ∷ us)

-- an ancestor counts unless its own parent is a property, which counts in its place
abbrev pub counts : List Frame → Bool
counts [] = true
counts (f ∷ us) = cond (is_property f.own.sort) false true

-- What the search comes to: the indents found, or the level at which it ended.
pub data Searched : Type 0 where
  Found : Indents → Searched
  Ended : ℕ → Searched

-- One ancestor at the level n + 1: its indent, and the stored one. Where its indent begins the stored one, the rest is the single indent.
abbrev pub begins : ℕ → List ℕ → Option (List ℕ) → Searched → Searched
begins n t (Some s) go = Found (record { current = t ++ times n s; step = s })
begins n t None go = go

-- the indents of an ancestor and the stored one, where they are there
abbrev pub compared : ℕ → Option (List ℕ) → Option (List ℕ) → (Option (List ℕ) → Searched) → Searched
compared n (Some a) (Some t) go = begins n t (rest a t) (go None)
compared n (Some a) None go = go (Some a)
compared n None stored go = go None

-- the ancestors, nearest first, up to the root
abbrev pub searched : ℕ → Option (List ℕ) → List Frame → Searched
searched n stored [] = Ended n
searched n stored (f ∷ us) =
    cond (is_root f.own.sort) (Ended n)
    (cond (counts us) (compared n (indent_before f.before) stored (λ t. searched (suc n) t us)) (searched n stored us))

-- the first indent among children, the siblings before nearest first
abbrev pub first_indent : Nodes → Nodes → Option (List ℕ)
first_indent bs end = None
first_indent bs (node p i ks ts) = or_else (indent_before bs) (first_indent (node p i ks bs) ts)

-- not found: at the level 1 the node's own, else the first indent among the children of the root's value, else two spaces
abbrev pub stepped : ℕ → Option (List ℕ) → Indents
stepped n (Some t) = record { current = times n t; step = t }
stepped n None = record { current = times n two_spaces; step = two_spaces }

-- what stands where the search found nothing
abbrev pub unfound : ℕ → Option (List ℕ) → Option (List ℕ) → Indents
unfound (suc zero) (Some t) first = record { current = t; step = t }
unfound (suc zero) None first = stepped 1 first
unfound zero own first = stepped 0 first
unfound (suc (suc n)) own first = stepped (suc (suc n)) first

-- the indents that the search comes to
abbrev pub settled : Searched → Option (List ℕ) → Option (List ℕ) → Indents
settled (Found i) own first = i
settled (Ended n) own first = unfound n own first

-- the indents of the root
abbrev pub root_indents : Indents
root_indents = record { current = []; step = two_spaces }

-- the indents of a node that is not the root, in a document with these children of the root
abbrev pub node_indents : Spot → Nodes → Indents
node_indents s ks = settled (searched 0 (indent_text s) (past_property s.ups)) (indent_text s) (first_indent end (value_kids ks))

-- of any node
abbrev pub indents : Spot → Nodes → Indents
indents s ks = cond (is_root (sort_of s)) root_indents (node_indents s ks)
