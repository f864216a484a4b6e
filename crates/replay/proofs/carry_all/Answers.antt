use Rattle.std.proofs.Common.{rules}
use Rattle.replay.specs.declared.call.Call.TheVariants.{Print}
use Rattle.replay.specs.Buffers.{SameBuffers, world_with}
use Rattle.replay.specs.Carried.{World}
use Rattle.replay.proofs.Carrying.{more_world, more_answers}
use Rattle.replay.proofs.carry_all.Goals as goal

pub loop-i-preserved : goal.loop-i-preserved
loop-i-preserved c =
    let w : World = world_with c.args.document.now c.args.buffers.now in
    let u : World = world_with c.loop-i.document c.loop-i.buffers in
    let h : SameBuffers c.args.buffers.now c.carry.new.buffers = search rules in
    record {
      world = more_world w c.args.calls.now c.loop-i.i c.loop-i-test.true Print u c.loop-i.invariant.world (world_with c.carry.new.document c.carry.new.buffers) c.carry.ensures.world;
      recorded = more_answers w c.args.calls.now c.loop-i.i c.loop-i-test.true Print u c.loop-i.invariant.world c.args.answers.now c.loop-i.answers c.carry.result c.requires c.loop-i.invariant.recorded c.carry.ensures.answer;
      same = h;
    }
