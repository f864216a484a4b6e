use Rattle.std.proofs.Common.{◌++◌, reverse, sym, refl, ap, ◌∙◌}
use Rattle.table.specs.Tables.{free}
use Rattle.table.proofs.Seen.{root_there}
use Rattle.tree.proofs.Emptied.{child_there, child_inner, fewer, same_root, given_back, all_gone}
use Rattle.tree.proofs.clears.cut_all.Goals as goal

pub loop-child-init : goal.loop-child-init
loop-child-init c = (refl, refl)

pub first-requires : goal.first-requires
first-requires c = root_there c.loop-child.table

pub remove-requires : goal.remove-requires
remove-requires c = record {
  there = child_there c.loop-child.table c.in-Some.child c.in-Some.ensures;
  inner = child_inner c.loop-child.table c.in-Some.child c.in-Some.ensures;
}

pub loop-child-smaller : goal.loop-child-smaller
loop-child-smaller c = fewer c.loop-child.table c.in-Some.child c.in-Some.ensures c.remove.new.self c.remove.ensures.forest c.remove.ensures.given

pub loop-child-preserved : goal.loop-child-preserved
loop-child-preserved c = (
  same_root c.loop-child.table c.in-Some.child c.in-Some.ensures c.remove.new.self c.remove.ensures.forest c.remove.ensures.given ∙ c.loop-child.invariant.0,
  given_back c.loop-child.table c.in-Some.child c.in-Some.ensures c.remove.new.self c.remove.ensures.forest c.remove.ensures.given ∙ c.loop-child.invariant.1,
)

pub returns : goal.returns
returns c =
    let m = all_gone c.loop-child.table c.in_default.ensures in
    record {
      forest = m.0 ∙ c.loop-child.invariant.0;
      given = ap (λ y. reverse y ++ free c.loop-child.table) (sym m.1) ∙ c.loop-child.invariant.1;
    }
