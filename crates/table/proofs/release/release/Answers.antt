use Rattle.std.proofs.Common.{◌≡◌, length, vec_items, vec_len, refl, ◌∙◌, arith}
use Rattle.table.specs.Nodes.{forest_at}
use Rattle.table.proofs.Frees.{walk_start, walk_end, walk_on, walk_in, walk_last, walk_room}
use Rattle.table.proofs.release.release.Goals as goal

pub loop-step-init : goal.loop-step-init
loop-step-init c =
    (walk_start c.args.nodes.now (vec_items c.args.spare.now) (forest_at c.args.nodes.now c.args.start.0) c.args.start.0 c.target-step.result c.requires.loose c.target-step.ensures, refl)

pub detach-step-requires : goal.detach-step-requires
detach-step-requires c = record {
  place_within = walk_in _ _ _ _ _ c.loop-step.step c.loop-step.invariant.0 c.in-Some.place c.in-Some.is;
  last_within = walk_last _ _ _ _ _ c.loop-step.step c.loop-step.invariant.0 c.in-Some.place c.in-Some.is;
}

pub push_reserved-requires : goal.push_reserved-requires
push_reserved-requires c =
    let e : vec_len c.loop-step.spare ≡ length (vec_items c.loop-step.spare) = c.loop-step.spare.ok.0 in
    let f : vec_len c.args.spare.now ≡ length (vec_items c.args.spare.now) = c.args.spare.now.ok.0 in
    omega (arith, walk_room _ _ _ _ _ c.loop-step.step c.loop-step.invariant.0 c.in-Some.place c.in-Some.is, c.requires.room, c.loop-step.invariant.1)

pub loop-step-preserved : goal.loop-step-preserved
loop-step-preserved c = (
  walk_on _ _ _ _ _ c.loop-step.step c.loop-step.invariant.0 c.in-Some.place c.in-Some.is c.detach-step.new.nodes (vec_items c.push_reserved.new.self)
      c.detach-step.result c.detach-step.ensures.nodes c.push_reserved.ensures.items c.detach-step.ensures.next,
  c.push_reserved.ensures.capacity ∙ c.loop-step.invariant.1,
)

pub returns : goal.returns
returns c =
    record { released = walk_end _ _ _ _ _ c.loop-step.step c.loop-step.invariant.0 c.in_default.is; capacity = c.loop-step.invariant.1 }
