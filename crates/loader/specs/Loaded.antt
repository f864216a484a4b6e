-- What comes of a load. Assumes nothing.
use Rattle.std.specs.Prelude.{◌≡◌, ℕ, suc, ◌≤◌, Bool, false, ◌||◌, List, length, Ok, Err, Result, ◌==◌, nat_lt}
use Rattle.refusal.specs.declared.Refusal.{Refusal}
use Rattle.grammar.specs.Answer.{Answer, Read, BadText as Bad, TooDeep as Deep, read}
use Rattle.grammar.specs.Pieces.{nodes, stored}
use Rattle.model.specs.State.{Refused, Given, largest, load, loading}
use Rattle.tree.specs.declared.tree.Tree.{Tree}
use Rattle.tree.specs.Trees.{state}
use Rattle.loader.specs.declared.error.LoadError.{LoadError}
use Rattle.loader.specs.declared.error.LoadError.TheVariants as error

-- the sizes are not taken: no records or more than 65,535, or room or a text of more than 1,048,576 bytes
abbrev pub bad_sizes : ℕ → ℕ → List ℕ → Bool
bad_sizes r m t = r == 0 || (nat_lt 65535 r || (nat_lt largest m || nat_lt largest (length t)))

-- nothing is loaded: load refuses so, or memory does not suffice, which may be wherever the sizes are taken
abbrev pub RefusedSo : ℕ → ℕ → List ℕ → LoadError → Type 0
RefusedSo r m t (error.Refused e) = load r m t ≡ Refused e
RefusedSo r m t error.NoMemory = bad_sizes r m t ≡ false

-- the load of the text t, with r records and room for m bytes: a tree in the state that load gives, or a refusal
abbrev pub Loaded : ℕ → ℕ → List ℕ → Result Tree LoadError → Type 0
Loaded r m t (Ok d) = load r m t ≡ Given (state d)
Loaded r m t (Err e) = RefusedSo r m t e

-- a document of this text fits a table of r records and a store of m bytes
abbrev pub Fitting : ℕ → ℕ → Answer → Type 0
Fitting r m (Read a) = (suc (nodes a) ≤ r) × (length (stored a) ≤ m)
Fitting r m (Bad p) = ⊥
Fitting r m Deep = ⊥

-- the judgement on a text before it is built: it fits, or is refused as load refuses it
abbrev pub Judging : ℕ → ℕ → List ℕ → Result (Unit {0}) Refusal → Type 0
Judging r m t (Ok _) = Fitting r m (read 64 t)
Judging r m t (Err e) = loading r m (read 64 t) ≡ Refused e
