-- A container that found a place is entered. Assumes nothing.
use Rattle.std.proofs.Common.{Some, None, sym, ◌∙◌}
use Rattle.table.specs.Tables.{free}
use Rattle.text.specs.Events.{box_for}
use Rattle.loader.specs.Kinds.{box_kind}
use Rattle.loader.specs.Sites.{Built, site_of}
use Rattle.loader.proofs.Standing.{entered_there, enter_told}
use Rattle.loader.proofs.telling.BuilderSink.enter.Goals as goal

pub invariant_of-self : goal.invariant_of-self
invariant_of-self c =
    let b = c.add.new.self in
    record {
      there = entered_there c.args.self.now b c.container_kind.result c.in-Some.place c.add.ensures.site (sym c.add.ensures.place ∙ c.in-Some.is);
      used = b.used;
      roomy = b.roomy;
      large = b.large;
    }

pub returns-in-Some : goal.returns-in-Some
unfolding Built
returns-in-Some c =
    enter_told (site_of c.args.self.now) (site_of c.add.new.self) (free c.args.self.now.table) c.container_kind.result (box_kind (box_for c.args.container))
    c.container_kind.ensures (Some c.in-Some.place) c.add.ensures.site (sym c.in-Some.is ∙ c.add.ensures.place)

pub returns-in_default : goal.returns-in_default
unfolding Built
returns-in_default c =
    enter_told (site_of c.args.self.now) (site_of c.add.new.self) (free c.args.self.now.table) c.container_kind.result (box_kind (box_for c.args.container))
    c.container_kind.ensures None c.add.ensures.site (sym c.in_default.is ∙ c.add.ensures.place)
