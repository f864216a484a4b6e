use Rattle.std.proofs.Common.{◌<◌, ◌≤◌, vec_items, vec_capacity, rules}
use Rattle.table.specs.Tables.{tree, free}
use Rattle.table.proofs.Fresh.{fresh_good}
use Rattle.table.proofs.table.Table.new.Goals as goal

pub invariant_of-result : goal.invariant_of-result
invariant_of-result c =
    let some : 0 < c.args.records = search rules in
    let few : c.args.records ≤ 65535 = search rules in
    record {
      ok = ∣ (fresh_good c.args.records c.args.root (vec_items c.in_ok-spare.spare) some few c.requires c.in_ok-spare.ensures.0
          (vec_items c.in_ok-nodes.nodes) (vec_capacity c.in_ok-spare.spare) c.in_ok-nodes.ensures c.in_ok-spare.ensures.1).0 ∣₁;
    }

pub returns : goal.returns
unfolding tree free
returns c =
    let some : 0 < c.args.records = search rules in
    let few : c.args.records ≤ 65535 = search rules in (
      (some, few),
      (
        (fresh_good c.args.records c.args.root (vec_items c.in_ok-spare.spare) some few c.requires c.in_ok-spare.ensures.0
            (vec_items c.in_ok-nodes.nodes) (vec_capacity c.in_ok-spare.spare) c.in_ok-nodes.ensures c.in_ok-spare.ensures.1).1,
        c.in_ok-spare.ensures.0,
      ),
    )
