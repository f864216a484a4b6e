-- Which class of bytes each name of the code stands for. Assumes nothing.
use Rattle.std.specs.Prelude.{[], ◌∷◌}
use Rattle.grammar.specs.Parse as parse
use Rattle.grammar.specs.Parse.{Class}
use Rattle.grammar.specs.Classes as of
use Rattle.grammar.specs.Reader as reader
use Rattle.lexemes.specs.declared.classes.ByteClass.{ByteClass}
use Rattle.lexemes.specs.declared.classes.ByteClass.TheVariants.{Only, Range, MultiFirst, Digit, Exponent, Sign, Hex, Escaped, Plain, Blank, LineEnd, InLine, InBlock, Opening, ValueFirst}

-- the ranges of a class
abbrev pub bytes_of : ByteClass → Class
bytes_of (Only b) = of.only b
bytes_of (Range lo hi) = (lo, hi) ∷ []
bytes_of MultiFirst = of.MultiFirst
bytes_of Digit = of.Digit
bytes_of Exponent = of.Exponent
bytes_of Sign = of.Signs
bytes_of Hex = of.Hex
bytes_of Escaped = of.Escaped
bytes_of Plain = of.Plain
bytes_of Blank = of.Blank
bytes_of LineEnd = of.LineEnd
bytes_of InLine = of.InLine
bytes_of InBlock = of.InBlock
bytes_of Opening = parse.Opening
bytes_of ValueFirst = reader.ValueFirst
