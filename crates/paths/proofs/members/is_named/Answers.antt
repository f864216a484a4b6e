use Rattle.std.proofs.Common.{rules}
use Rattle.paths.proofs.Titles.{named_by}
use Rattle.paths.proofs.members.is_named.Goals as goal
use Rattle.paths.proofs.members.is_named.Goals.{in-Property, in_default}

pub returns-then-matches : goal.returns-then-matches
returns-then-matches c =
    elim c.match-matches.branch [
      | in-Property w ↦ named_by c.args.node c.first.result c.is_some_and.result c.args.name.now _ w.in-Property.ensures.1 c.first.ensures.children c.is_some_and.ensures (λ m p. search rules)
      | in_default w ↦ cc
    ]
