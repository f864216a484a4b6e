-- The line breaks of the grammar, by their names in code. Assumes nothing.
use Rattle.grammar.specs.Pieces.{Break, line_feed, carriage_return, both}
use Rattle.line_break.specs.declared.NewlineKind.{NewlineKind}
use Rattle.line_break.specs.declared.NewlineKind.TheVariants.{LineFeed, CarriageReturn, CarriageReturnLineFeed}

-- the line break of each name
abbrev pub break_for : NewlineKind → Break
break_for LineFeed = line_feed
break_for CarriageReturn = carriage_return
break_for CarriageReturnLineFeed = both
