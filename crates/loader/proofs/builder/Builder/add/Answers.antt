-- The node where the builder stands stays there. Assumes nothing.
use Rattle.std.proofs.Common.{arith}
use Rattle.loader.proofs.Standing.{still_there}
use Rattle.loader.proofs.builder.Builder.add.Goals as goal

pub invariant_of-self : goal.invariant_of-self
invariant_of-self c =
    let b = c.args.self.now in
    record {
      there = still_there b.table c.append.new.self b.at c.append.result _ b.there c.append.ensures.forest b.at b.there;
      used = omega (arith, c.push_all.ensures.len);
      roomy = omega (arith, c.push_all.ensures.capacity, b.roomy);
      large = b.large;
    }
