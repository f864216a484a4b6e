use Rattle.paths.proofs.Titles.{inner_part}
use Rattle.paths.proofs.members.between.Goals as goal

pub returns-in-len2-up : goal.returns-in-len2-up
returns-in-len2-up c = inner_part c.args.quoted.now
