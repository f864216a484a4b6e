use Rattle.std.proofs.Common.{◌≡◌, ◌++◌, take, drop}
use Rattle.replay.specs.Carried.{answers_to, carried_all}
use Rattle.replay.specs.Buffers.{SameBuffers, world_with}
use Rattle.replay.proofs.carry_all.Given as goal

abbrev pub invariant-loop-i : goal.invariant-loop-i
invariant-loop-i l = record {
  world : world_with l.document l.buffers ≡ carried_all (world_with l.initial.document l.initial.buffers) (take l.i l.calls);
  recorded : l.answers ≡ answers_to (world_with l.initial.document l.initial.buffers) (take l.i l.calls) ++ drop l.i l.initial.answers;
  same : SameBuffers l.initial.buffers l.buffers;
}
