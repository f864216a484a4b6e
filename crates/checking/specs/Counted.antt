-- What a counter counts of what it is told. Assumes nothing.
use Rattle.std.specs.Prelude.{◌≡◌, ℕ, ◌+◌, ◌-◌, ◌^◌, min, max, List, [], ◌∷◌, ◌++◌, length, refl}
use Rattle.std.proofs.Common.{◌∙◌, ap}
use Rattle.grammar.specs.Pieces.{Leaf, null, boolean, number, string, name, token, whitespace, newline, comment, Box, array, object, property, kept}
use Rattle.checking.specs.declared.counter.Counter.{Counter}
use Rattle.text.specs.Events.{Event, Put, Enter, Leave}

-- a sum that stops at the largest number
abbrev pub plus : ℕ → ℕ → ℕ
plus n m = min (n + m) (2 ^ 64 - 1)

-- what is left after every event, in order
abbrev pub fold : {A : Type 0} → (A → Event → A) → A → List Event → A
fold f a [] = a
fold f a (e ∷ es) = fold f (f a e) es

-- how many comments a leaf is
abbrev pub remark : Leaf → ℕ
remark null = 0
remark (boolean b) = 0
remark (number t) = 0
remark (string t) = 0
remark (name t) = 0
remark (token m) = 0
remark (whitespace t) = 0
remark (newline k) = 0
remark (comment c) = 1

-- how many levels a container is
abbrev pub level : Box → ℕ
level array = 1
level object = 1
level property = 0

-- every leaf and every container is a node
abbrev pub node_step : ℕ → Event → ℕ
node_step n (Put x) = plus n 1
node_step n (Enter k) = plus n 1
node_step n (Leave k) = n

abbrev pub byte_step : ℕ → Event → ℕ
byte_step n (Put x) = plus n (length (kept x))
byte_step n (Enter k) = n
byte_step n (Leave k) = n

abbrev pub note_step : ℕ → Event → ℕ
note_step n (Put x) = plus n (remark x)
note_step n (Enter k) = n
note_step n (Leave k) = n

-- how deep the reader stands, and how deep it has stood
abbrev pub level_step : ℕ × ℕ → Event → ℕ × ℕ
level_step x (Put y) = x
level_step x (Enter k) = (plus x.0 (level k), max x.1 (plus x.0 (level k)))
level_step x (Leave k) = (x.0 - level k, x.1)

abbrev pub depths : Counter → ℕ × ℕ
depths c = (c.depth, c.seen.levels)

-- a counter a that was told the events is b
pub record Counted (a : Counter) (es : List Event) (b : Counter) : Type 0 where
  pub nodes : b.seen.nodes ≡ fold node_step a.seen.nodes es
  pub stored : b.seen.stored ≡ fold byte_step a.seen.stored es
  pub comments : b.seen.comments ≡ fold note_step a.seen.comments es
  pub levels : depths b ≡ fold level_step (depths a) es

pub fold_app : {A : Type 0} (f : A → Event → A) (a : A) (x y : List Event) → fold f (fold f a x) y ≡ fold f a (x ++ y)
fold_app f a [] y = refl
fold_app f a (e ∷ x) y = fold_app f (f a e) x y

-- told nothing, it is as it was
pub still : (a : Counter) → Counted a [] a
still a = record { nodes = refl; stored = refl; comments = refl; levels = refl }

-- told in two parts
pub onward : (a b c : Counter) (x y : List Event) → Counted a x b → Counted b y c → Counted a (x ++ y) c
onward a b c x y h k = record {
  nodes = k.nodes ∙ ap (λ n. fold node_step n y) h.nodes ∙ fold_app node_step a.seen.nodes x y;
  stored = k.stored ∙ ap (λ n. fold byte_step n y) h.stored ∙ fold_app byte_step a.seen.stored x y;
  comments = k.comments ∙ ap (λ n. fold note_step n y) h.comments ∙ fold_app note_step a.seen.comments x y;
  levels = k.levels ∙ ap (λ n. fold level_step n y) h.levels ∙ fold_app level_step (depths a) x y;
}
