use Rattle.std.proofs.Common.{vec_items, vec_capacity, subst, ◌∙◌}
use Rattle.table.specs.Nodes.{forest_at}
use Rattle.table.specs.Sound.{Released}
use Rattle.table.specs.Tables.{tree, free}
use Rattle.table.proofs.Standing.{all_in, next_within, prev_within, up_within}
use Rattle.table.proofs.Seen.{good_of, there_of}
use Rattle.table.proofs.Removed.{off_loose, off_room, gone, free_given}
use Rattle.table.proofs.table.Table.remove.Goals as goal

pub unlink-requires : goal.unlink-requires
unlink-requires c =
    let t = c.args.self.now in
    let xs = c.as_mut_slice-nodes.result.now in
    let e = c.as_mut_slice-nodes.ensures.value in
    let p = c.args.place in
    record {
      place_within = all_in xs _ _ (good_of t xs e).sound p (there_of t xs e p c.requires.there);
      next_within = next_within xs _ _ (good_of t xs e).sound p (there_of t xs e p c.requires.there);
      prev_within = prev_within xs _ _ (good_of t xs e).sound p (there_of t xs e p c.requires.there);
      parent_within = up_within xs _ _ (good_of t xs e).sound p (there_of t xs e p c.requires.there) c.requires.inner;
    }

pub release-requires : goal.release-requires
release-requires c =
    let t = c.args.self.now in
    let xs = c.as_mut_slice-nodes.result.now in
    let e = c.as_mut_slice-nodes.ensures.value in
    record {
      loose = off_loose t xs e c.args.place c.requires.there c.requires.inner c.unlink.new.nodes c.unlink.ensures c.to.result.0 c.to.ensures;
      room = off_room t xs e c.args.place c.requires.there c.requires.inner c.unlink.new.nodes c.unlink.ensures c.to.result.0 c.to.ensures;
    }

pub invariant_of-self : goal.invariant_of-self
invariant_of-self c = record {
  ok = ∣ (gone c.args.self.now c.as_mut_slice-nodes.result.now c.as_mut_slice-nodes.ensures.value c.args.place c.requires.there c.requires.inner
      c.unlink.new.nodes c.unlink.ensures c.release.new.nodes (vec_items c.release.new.spare)
      (subst (λ k. Released c.unlink.new.nodes (vec_items c.args.self.now.spare) (forest_at c.unlink.new.nodes k) c.release.new.nodes (vec_items c.release.new.spare))
      c.to.ensures c.release.ensures.released)
      (c.release.auto.nodes ∙ c.unlink.auto.nodes) (vec_capacity c.release.new.spare) c.release.ensures.capacity).0 ∣₁;
}

pub returns : goal.returns
unfolding tree free
returns c =
    let w =
    subst (λ k. Released c.unlink.new.nodes (vec_items c.args.self.now.spare) (forest_at c.unlink.new.nodes k) c.release.new.nodes (vec_items c.release.new.spare))
    c.to.ensures c.release.ensures.released in
    record {
      forest = (gone c.args.self.now c.as_mut_slice-nodes.result.now c.as_mut_slice-nodes.ensures.value c.args.place c.requires.there c.requires.inner
          c.unlink.new.nodes c.unlink.ensures c.release.new.nodes (vec_items c.release.new.spare) w
          (c.release.auto.nodes ∙ c.unlink.auto.nodes) (vec_capacity c.release.new.spare) c.release.ensures.capacity).1;
      given = free_given c.args.self.now c.as_mut_slice-nodes.result.now c.as_mut_slice-nodes.ensures.value c.args.place c.requires.there c.requires.inner
          c.unlink.new.nodes c.unlink.ensures c.release.new.nodes (vec_items c.release.new.spare) w (c.release.auto.nodes ∙ c.unlink.auto.nodes);
    }
