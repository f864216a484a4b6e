use Rattle.std.proofs.Common.{◌∙◌}
use Rattle.table.specs.declared.kind.Kind.TheVariants.{Null, Boolean, Token, Newline}
use Rattle.tree.proofs.Seen.{spelt_is}
use Rattle.tree.proofs.Spelt.{bare, kept}
use Rattle.tree.proofs.node.Node.spelling.Goals as goal

pub returns-in-Root : goal.returns-in-Root
returns-in-Root c = let n = c.args.self in bare n.tree.now n.place n.stands c.own-own.result c.own-own.ensures c.in-Root.is

pub returns-in-Null : goal.returns-in-Null
returns-in-Null c = let n = c.args.self in spelt_is n.tree.now n.place n.stands c.own-own.result c.own-own.ensures Null c.in-Null.is

pub returns-in-Boolean : goal.returns-in-Boolean
returns-in-Boolean c = let n = c.args.self in c.boolean_bytes.ensures ∙ spelt_is n.tree.now n.place n.stands c.own-own.result c.own-own.ensures (Boolean c.in-Boolean.value) c.in-Boolean.is

pub returns-in-Token : goal.returns-in-Token
returns-in-Token c = let n = c.args.self in c.token_bytes.ensures ∙ spelt_is n.tree.now n.place n.stands c.own-own.result c.own-own.ensures (Token c.in-Token.token) c.in-Token.is

pub returns-in-Newline : goal.returns-in-Newline
returns-in-Newline c = let n = c.args.self in c.spelling.ensures ∙ spelt_is n.tree.now n.place n.stands c.own-own.result c.own-own.ensures (Newline c.in-Newline.newline) c.in-Newline.is

pub returns-in-Name : goal.returns-in-Name
returns-in-Name c = let n = c.args.self in c.stored.ensures ∙ kept n.tree.now n.place n.stands c.own-own.result c.own-own.ensures c.in-Name.is
