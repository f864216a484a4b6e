-- The kind of a line break, as the definitions and as a caller has it. Assumes nothing.
use Rattle.std.proofs.Common.{◌≡◌, List, map, Some, None, Option, refl, ap, ◌∙◌}
use Rattle.std.specs.Option.{option_map, unwrap_or}
use Rattle.model.specs.Nodes.{Nodes, Sort}
use Rattle.model.specs.Asks.{breaks, first_of, layers, or_given}
use Rattle.model.specs.Asks as of
use Rattle.style.specs.declared.newline.NewlineKind.{NewlineKind}
use Rattle.style.specs.declared.newline.NewlineKind.TheVariants.{LineFeed, CarriageReturnLineFeed}
use Rattle.style.specs.Breaks.{kind_for, kinds_for}
use Rattle.style.specs.Found.{found}
use Rattle.style.proofs.Layers.{first_turned}

-- the name of each kind
abbrev pub name_for : of.NewlineKind → NewlineKind
name_for of.LineFeed = LineFeed
name_for of.CarriageReturnLineFeed = CarriageReturnLineFeed

-- the name of what a node counts as, if it is a Newline
abbrev pub names_at : Sort → Nodes → List NewlineKind
names_at s ks = map name_for (breaks s ks)

-- the names of what was found
pub names_found : (r : Option NewlineKind) → found r ≡ map name_for (kinds_for r)
names_found None = refl
names_found (Some LineFeed) = refl
names_found (Some CarriageReturnLineFeed) = refl

-- the first of them, or a line feed
pub first_kind : (r : Option NewlineKind) (ks : Nodes) → r ≡ first_of (layers names_at ks) → kind_for (unwrap_or r LineFeed) ≡ of.newline_kind ks
first_kind r ks e = ap (λ o. kind_for (unwrap_or o LineFeed)) (e ∙ first_turned name_for breaks ks) ∙ go (first_of (layers breaks ks))
  where
    go : (o : Option of.NewlineKind) → kind_for (unwrap_or (option_map name_for o) LineFeed) ≡ or_given o of.LineFeed
    go None = refl
    go (Some of.LineFeed) = refl
    go (Some of.CarriageReturnLineFeed) = refl
