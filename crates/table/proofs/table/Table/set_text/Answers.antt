use Rattle.std.proofs.Common.{refl}
use Rattle.table.specs.Tables.{tree, free}
use Rattle.table.proofs.Seen.{there_in}
use Rattle.table.proofs.Changed.{text_moved}
use Rattle.table.proofs.table.Table.set_text.Goals as goal

pub index_mut-requires : goal.index_mut-requires
index_mut-requires c = there_in c.args.self.now c.args.place c.requires

pub invariant_of-self : goal.invariant_of-self
invariant_of-self c = record {
  ok = ∣ (text_moved c.args.self.now c.args.place c.requires c.args.start c.args.len c.index_mut.result.now c.index_mut.ensures.value).0 ∣₁;
}

pub returns : goal.returns
unfolding tree free
returns c =
    record {
      forest = (text_moved c.args.self.now c.args.place c.requires c.args.start c.args.len c.index_mut.result.now c.index_mut.ensures.value).1;
      same = refl;
    }
