use Rattle.std.proofs.Common.{vec_items, vec_capacity, arith}
use Rattle.table.specs.Tables.{tree, free}
use Rattle.table.proofs.Standing.{all_in, next_within, up_within}
use Rattle.table.proofs.Seen.{good_of, there_of, spare_long}
use Rattle.table.proofs.Inserted.{free_taken, top_fits, after_put}
use Rattle.table.proofs.table.Table.insert_after.Goals as goal

pub take-place-requires : goal.take-place-requires
take-place-requires c = omega (arith, spare_long c.args.self.now, c.requires.room)

pub link_after-requires : goal.link_after-requires
link_after-requires c =
    let t = c.args.self.now in
    let xs = c.deref_mut.result.now in
    let e = c.deref_mut.ensures.value in
    let s = c.args.sibling in
    record {
      sibling_within = all_in xs _ _ (good_of t xs e).sound s (there_of t xs e s c.requires.there);
      place_within = top_fits t xs e (vec_items c.take-place.new.spare) c.take-place.result s c.take-place.ensures.items c.requires.there;
      next_within = next_within xs _ _ (good_of t xs e).sound s (there_of t xs e s c.requires.there);
      parent_within = up_within xs _ _ (good_of t xs e).sound s (there_of t xs e s c.requires.there) c.requires.inner;
    }

pub invariant_of-self : goal.invariant_of-self
invariant_of-self c = record {
  ok = ∣ (after_put c.args.self.now c.deref_mut.result.now c.deref_mut.ensures.value (vec_items c.take-place.new.spare) c.take-place.result c.args.sibling
      c.take-place.ensures.items c.requires.there c.requires.inner c.args.own c.requires.numbered c.link_after.new.nodes c.link_after.ensures c.link_after.auto.nodes
      (vec_capacity c.take-place.new.spare) c.take-place.ensures.capacity).0 ∣₁;
}

pub returns : goal.returns
unfolding tree free
returns c =
    record {
      forest = (after_put c.args.self.now c.deref_mut.result.now c.deref_mut.ensures.value (vec_items c.take-place.new.spare) c.take-place.result c.args.sibling
          c.take-place.ensures.items c.requires.there c.requires.inner c.args.own c.requires.numbered c.link_after.new.nodes c.link_after.ensures c.link_after.auto.nodes
          (vec_capacity c.take-place.new.spare) c.take-place.ensures.capacity).1;
      taken = free_taken c.args.self.now (vec_items c.take-place.new.spare) c.take-place.result c.take-place.ensures.items;
    }
