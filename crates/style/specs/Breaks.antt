-- The kind of a line break, as a caller is told it. Assumes nothing.
use Rattle.std.specs.Prelude.{List, [], ◌∷◌, Some, None, Option}
use Rattle.model.specs.Asks as of
use Rattle.style.specs.declared.newline.NewlineKind.{NewlineKind}
use Rattle.style.specs.declared.newline.NewlineKind.TheVariants.{LineFeed, CarriageReturnLineFeed}

-- the kind of each name
abbrev pub kind_for : NewlineKind → of.NewlineKind
kind_for LineFeed = of.LineFeed
kind_for CarriageReturnLineFeed = of.CarriageReturnLineFeed

-- the kind that was found, if any
abbrev pub kinds_for : Option NewlineKind → List of.NewlineKind
kinds_for None = []
kinds_for (Some k) = kind_for k ∷ []
