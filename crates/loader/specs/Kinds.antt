-- The kind of the node that each leaf and each container becomes. Assumes nothing.
use Rattle.grammar.specs.Layout.{Line, Block}
use Rattle.grammar.specs.Pieces as of
use Rattle.grammar.specs.Pieces.{Leaf, Box, Break, token_byte}
use Rattle.table.specs.declared.kind.Kind.{Kind}
use Rattle.table.specs.declared.kind.Kind.TheVariants.{Array, Object, Property, Null, Boolean, Number, String, Name, Token, Whitespace, Newline, LineComment, BlockComment}
use Rattle.line_break.specs.declared.NewlineKind.{NewlineKind}
use Rattle.line_break.specs.declared.NewlineKind.TheVariants.{LineFeed, CarriageReturn, CarriageReturnLineFeed}

-- the name of a line break
abbrev pub break_kind : Break → NewlineKind
break_kind of.line_feed = LineFeed
break_kind of.carriage_return = CarriageReturn
break_kind of.both = CarriageReturnLineFeed

-- the kind of a leaf; a token's is that of its character
abbrev pub leaf_kind : Leaf → Kind
leaf_kind of.null = Null
leaf_kind (of.boolean b) = Boolean b
leaf_kind (of.number t) = Number
leaf_kind (of.string t) = String
leaf_kind (of.name t) = Name
leaf_kind (of.token m) = Token (token_byte m)
leaf_kind (of.whitespace t) = Whitespace
leaf_kind (of.newline k) = Newline (break_kind k)
leaf_kind (of.comment (Line t)) = LineComment
leaf_kind (of.comment (Block t)) = BlockComment

-- the kind of a container
abbrev pub box_kind : Box → Kind
box_kind of.array = Array
box_kind of.object = Object
box_kind of.property = Property
