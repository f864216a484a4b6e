-- The node that is left has a parent, which is there, or is the root. Assumes nothing.
use Rattle.std.proofs.Common.{sym, ap, ◌∙◌}
use Rattle.loader.specs.Sites.{Built, site_of, turned}
use Rattle.loader.proofs.Standing.{parent_there}
use Rattle.loader.proofs.telling.BuilderSink.leave.Goals as goal

pub invariant_of-self : goal.invariant_of-self
invariant_of-self c =
    let b = c.args.self.now in
    record {
      there = parent_there b.table b.at c.in-Some.parent b.there (sym c.parent.ensures ∙ c.in-Some.is);
      used = b.used;
      roomy = b.roomy;
      large = b.large;
    }

pub returns-in-Some : goal.returns-in-Some
unfolding Built
returns-in-Some c = ap (λ y. turned (site_of c.args.self.now) y) (sym c.in-Some.is ∙ c.parent.ensures)

pub returns-in_default : goal.returns-in_default
unfolding Built
returns-in_default c = ap (λ y. turned (site_of c.args.self.now) y) (sym c.in_default.is ∙ c.parent.ensures)
