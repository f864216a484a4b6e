-- What a builder has built, and what each thing that it is told adds. Assumes nothing.
use Rattle.std.specs.Prelude.{◌≡◌, ℕ, ◌+◌, ◌-◌, Bool, cond, List, [], ◌∷◌, ◌++◌, length, Some, None, Ok, Err, vec_items, vec_len, Option, Result, nat_le, refl}
use Rattle.std.proofs.Common.{◌∙◌, ap}
use Rattle.grammar.specs.Pieces.{kept}
use Rattle.forest.specs.Forest.{Forest, end, node, size}
use Rattle.forest.specs.Asks.{parent_in}
use Rattle.forest.specs.Edits.{ins_last}
use Rattle.table.specs.declared.kind.Kind.{Kind}
use Rattle.table.specs.declared.kind.Kind.TheVariants.{Root}
use Rattle.table.specs.declared.node.Own.{Own}
use Rattle.table.specs.Tables as table
use Rattle.text.specs.Events.{Event, Put, Enter, Leave}
use Rattle.checking.specs.Counted.{fold, fold_app}
use Rattle.model.specs.State.{State}
use Rattle.tree.specs.Well.{kids_in}
use Rattle.loader.specs.declared.builder.Builder.{Builder}
use Rattle.loader.specs.declared.error.LoadError.{LoadError}
use Rattle.loader.specs.declared.error.LoadError.TheVariants.{NoMemory}
use Rattle.loader.specs.Kinds.{leaf_kind, box_kind}

-- the nodes, the free places, the stored bytes and how many there may be, and the node whose children are being built
pub record Site : Type 0 where
  pub tree : Forest Own
  pub free : List ℕ
  pub bytes : List ℕ
  pub room : ℕ
  pub at : ℕ

-- what a builder has built
abbrev pub site_of : Builder → Site
site_of b = record { tree = table.tree b.table; free = table.free b.table; bytes = vec_items b.store; room = b.room; at = b.at }

-- the bytes find room
abbrev pub fits : Site → List ℕ → Bool
fits s t = nat_le (length s.bytes + length t) s.room

-- the next node's own data: the nodes are numbered from 1 on, and its bytes come behind those that are stored
abbrev pub next_own : Site → Kind → ℕ → Own
next_own s k n = record { number = size s.tree + 1; kind = k; start = length s.bytes; len = n }

-- a new node at the place p, with the bytes t, behind all children of the node where the builder stands; the places ps stay free
abbrev pub placed : Site → ℕ → List ℕ → Kind → List ℕ → Site
placed s p ps k t = record {
  tree = ins_last s.at p (next_own s k (length t)) s.tree;
  free = ps;
  bytes = s.bytes ++ t;
  room = s.room;
  at = s.at;
}

-- the same at the first of the free places; nothing where none is free or the bytes find no room
abbrev pub added : Site → List ℕ → Kind → List ℕ → Site
added s [] k t = s
added s (p ∷ ps) k t = cond (fits s t) (placed s p ps k t) s

-- at which place
abbrev pub place_for : Site → List ℕ → List ℕ → Option ℕ
place_for s [] t = None
place_for s (p ∷ ps) t = cond (fits s t) (Some p) None

-- standing at another node, where there is one
abbrev pub turned : Site → Option ℕ → Site
turned s None = s
turned s (Some p) = record { tree = s.tree; free = s.free; bytes = s.bytes; room = s.room; at = p }

-- a leaf is put, a container is put and entered, or left for its parent
abbrev pub step : Site → Event → Site
step s (Put x) = added s s.free (leaf_kind x) (kept x)
step s (Enter b) = turned (added s s.free (box_kind b) []) (place_for s s.free [])
step s (Leave b) = turned s (parent_in s.at None s.tree)

-- a builder a that was told the events is b
unfoldable pub Built : Builder → List Event → Builder → Type 0
Built a es b = site_of b ≡ fold step (site_of a) es

-- told nothing, it is as it was
pub still : (a : Builder) → Built a [] a
unfolding Built
still a = refl

-- told in two parts
pub onward : (a b c : Builder) (x y : List Event) → Built a x b → Built b y c → Built a (x ++ y) c
unfolding Built
onward a b c x y h k = k ∙ (ap (λ s. fold step s y) h ∙ fold_app step (site_of a) x y)

-- the root's own data
abbrev pub root_own : Own
root_own = record { number = 1; kind = Root; start = 0; len = 0 }

-- before anything is told: the root alone, in a table of r records, with room for m bytes
abbrev pub bare_site : ℕ → ℕ → Site
bare_site r m = record { tree = node 0 root_own end end; free = table.run 1 (r - 1); bytes = []; room = m; at = 0 }

-- a new builder is so; or memory does not suffice
abbrev pub Began : ℕ → ℕ → Result Builder LoadError → Type 0
Began r m (Ok b) = site_of b ≡ bare_site r m
Began r m (Err e) = e ≡ NoMemory

-- the state of the tree of a builder
abbrev pub built_state : Builder → State
built_state b = record {
  kids = kids_in b.table (vec_items b.store);
  fresh = size (table.tree b.table) + 1;
  used = vec_len b.store;
  edits = 0;
  records = table.records b.table;
  store = b.room;
  free = table.free b.table;
}
