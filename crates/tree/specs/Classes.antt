-- A node's class as code tells it, and its kind as a caller is told it. Assumes nothing.
use Rattle.grammar.specs.Layout as said
use Rattle.model.specs.Nodes as of
use Rattle.model.specs.Asks as kinds
use Rattle.tree.specs.declared.class.Class.{Class}
use Rattle.tree.specs.declared.class.Class.TheVariants.{Blank, Break, Remark, Comma, Mark, Value}
use Rattle.tree.specs.declared.class.NodeKind.{NodeKind}
use Rattle.tree.specs.declared.class.NodeKind.TheVariants.{Root, Array, Object, Property, Boolean, Null, Number, String, Token, Whitespace, Newline, Comment}

-- a mark: a comma, or another token or a name
abbrev pub plain_mark : said.Mark → Class
plain_mark said.Open = Mark
plain_mark said.Close = Mark
plain_mark said.Comma = Comma
plain_mark said.Colon = Mark
plain_mark said.Name = Mark

-- trivia of each sort
abbrev pub plain_gap : of.Gap → Class
plain_gap of.blank = Blank
plain_gap of.break = Break
plain_gap (of.remark c) = Remark

-- the class, a comment's bytes and a mark's token forgotten
abbrev pub plain : of.Class → Class
plain (of.gap g) = plain_gap g
plain (of.mark m) = plain_mark m
plain of.value = Value

-- the kind of each name
abbrev pub kind_for : NodeKind → kinds.Kind
kind_for Root = kinds.Root
kind_for Array = kinds.Array
kind_for Object = kinds.Object
kind_for Property = kinds.Property
kind_for Boolean = kinds.Boolean
kind_for Null = kinds.Null
kind_for Number = kinds.Number
kind_for String = kinds.String
kind_for Token = kinds.Token
kind_for Whitespace = kinds.Whitespace
kind_for Newline = kinds.Newline
kind_for Comment = kinds.Comment
