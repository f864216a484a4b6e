-- What a record of the table says of a node, with the bytes in the store. Assumes nothing.
use Rattle.std.specs.Prelude.{ℕ, ◌+◌, ◌≤◌, cond, List, take, drop, ◌==◌}
use Rattle.grammar.specs.Layout as said
use Rattle.grammar.specs.Pieces as of
use Rattle.forest.specs.Forest.{Forest, end, node}
use Rattle.table.specs.declared.kind.Kind.{Kind}
use Rattle.table.specs.declared.kind.Kind.TheVariants.{Root, Array, Object, Property, Null, Boolean, Number, String, Name, Token, Whitespace, Newline, LineComment, BlockComment}
use Rattle.line_break.specs.Breaks.{break_for}
use Rattle.table.specs.declared.node.Own as record_of
use Rattle.table.specs.declared.node.Handle as handle_of
use Rattle.model.specs.Nodes.{Handle, Sort, root, within, single, Own}

-- the token of a character
abbrev pub token_for : ℕ → of.Token
token_for c =
    cond (c == 91) of.open_array (cond (c == 93) of.close_array (cond (c == 123) of.open_object
    (cond (c == 125) of.close_object (cond (c == 44) of.comma of.colon))))

-- what a node of a kind is, with its stored bytes
abbrev pub sort_for : Kind → List ℕ → Sort
sort_for Root t = root
sort_for Array t = within of.array
sort_for Object t = within of.object
sort_for Property t = within of.property
sort_for Null t = single of.null
sort_for (Boolean b) t = single (of.boolean b)
sort_for Number t = single (of.number t)
sort_for String t = single (of.string t)
sort_for Name t = single (of.name t)
sort_for (Token c) t = single (of.token (token_for c))
sort_for Whitespace t = single (of.whitespace t)
sort_for (Newline k) t = single (of.newline (break_for k))
sort_for LineComment t = single (of.comment (said.Line t))
sort_for BlockComment t = single (of.comment (said.Block t))

-- the part of the store that is a node's
abbrev pub bytes_in : List ℕ → record_of.Own → List ℕ
bytes_in s o = take o.len (drop o.start s)

-- a node's number and what it is
abbrev pub own_for : List ℕ → record_of.Own → Own
own_for s o = record { number = o.number; sort = sort_for o.kind (bytes_in s o) }

-- a handle's place and number
abbrev pub handle_for : handle_of.Handle → Handle
handle_for h = record { place = h.place; number = h.number }

-- each node's bytes lie within the first n
abbrev pub Inside : ℕ → Forest record_of.Own → Type 0
Inside n end = Unit {0}
Inside n (node p o ks ts) = (o.start + o.len ≤ n) × Inside n ks × Inside n ts
