-- What the reader reports of a text: its leaves, and where containers begin and end. Assumes nothing.
use Rattle.std.specs.Prelude.{ℕ, List, [], ◌∷◌, ◌++◌}
use Rattle.grammar.specs.Layout.{Line, Block}
use Rattle.grammar.specs.Pieces as of
use Rattle.grammar.specs.Pieces.{Leaf, Box, Token, Break, Pieces}
use Rattle.text.specs.declared.sink.TokenKind.{TokenKind}
use Rattle.text.specs.declared.sink.TokenKind.TheVariants.{OpenArray, CloseArray, OpenObject, CloseObject, Comma, Colon}
use Rattle.line_break.specs.Breaks.{break_for}
use Rattle.text.specs.declared.sink.LeafKind as leaves
use Rattle.text.specs.declared.sink.LeafKind.TheVariants as kind
use Rattle.text.specs.declared.sink.Container as containers
use Rattle.text.specs.declared.sink.Container.TheVariants as box

-- a leaf, the beginning of a container, or its end
pub data Event : Type 0 where
  Put : Leaf → Event
  Enter : Box → Event
  Leave : Box → Event

-- what is reported of the pieces of a text
abbrev pub events : Pieces → List Event
events of.end = []
events (of.leaf x r) = Put x ∷ events r
events (of.box k c r) = Enter k ∷ (events c ++ Leave k ∷ events r)

-- the token of each name
abbrev pub token_for : TokenKind → Token
token_for OpenArray = of.open_array
token_for CloseArray = of.close_array
token_for OpenObject = of.open_object
token_for CloseObject = of.close_object
token_for Comma = of.comma
token_for Colon = of.colon

-- the leaf of a kind and its bytes
abbrev pub leaf_for : leaves.LeafKind → List ℕ → Leaf
leaf_for kind.Null t = of.null
leaf_for (kind.Boolean b) t = of.boolean b
leaf_for kind.Number t = of.number t
leaf_for kind.String t = of.string t
leaf_for kind.Name t = of.name t
leaf_for (kind.Token m) t = of.token (token_for m)
leaf_for kind.Whitespace t = of.whitespace t
leaf_for (kind.Newline k) t = of.newline (break_for k)
leaf_for kind.LineComment t = of.comment (Line t)
leaf_for kind.BlockComment t = of.comment (Block t)

-- the container of each name
abbrev pub box_for : containers.Container → Box
box_for box.Array = of.array
box_for box.Object = of.object
box_for box.Property = of.property
