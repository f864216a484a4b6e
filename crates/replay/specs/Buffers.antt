-- The buffers that are lent to calls. Assumes nothing.
use Rattle.std.specs.Prelude.{◌≡◌, length}
use Rattle.document.specs.declared.document.Document.{Document}
use Rattle.replay.specs.declared.buffers.Buffers.{Buffers}
use Rattle.replay.specs.Carried.{World, world_of}

-- the world of a document and the buffers
abbrev pub world_with : Document → Buffers → World
world_with d b = world_of d b.bytes.now b.ordinals.now b.queue.now

-- the buffers are still those that were lent and as long as they were, whatever they hold
pub record SameBuffers (a b : Buffers) : Type 0 where
  pub bytes : b.bytes.ghost_name ≡ a.bytes.ghost_name
  pub ordinals : b.ordinals.ghost_name ≡ a.ordinals.ghost_name
  pub queue : b.queue.ghost_name ≡ a.queue.ghost_name
  pub bytes_long : length b.bytes.now ≡ length a.bytes.now
  pub ordinals_long : length b.ordinals.now ≡ length a.ordinals.now
  pub queue_long : length b.queue.now ≡ length a.queue.now
