-- A sink of which nothing is promised: it is only run and compared. Assumes nothing.
use Rattle.std.specs.Prelude.{List, [], ◌++◌}
use Rattle.text.specs.Events.{Event}
use Rattle.load_vectors.specs.declared.shape.Shape.{Shape}

-- no promise
abbrev pub Any : Shape → List Event → Shape → Type 0
Any a es b = Unit {0}

pub any : (a : Shape) → Any a [] a
any a = tt

pub anyways : (a b c : Shape) (x y : List Event) → Any a x b → Any b y c → Any a (x ++ y) c
anyways a b c x y h k = tt
