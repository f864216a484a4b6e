use Rattle.std.proofs.Common.{◌≡◌, suc, ◌≤◌, [], ◌++◌, length, drop}
use Rattle.std.specs.Iterator.Adapters.{zip_first, zip_second, rev_source}
use Rattle.model.specs.Asks.{or_given}
use Rattle.tree.specs.Steps.{spot, ancestor_spots}
use Rattle.tree.specs.Walks.{ancestors_left}
use Rattle.paths.specs.Ways.{path_of}
use Rattle.paths.proofs.Ordinals.{ordinals}
use Rattle.paths.proofs.upward.write_path.Given as goal

-- the range counts down the ordinals that are left, and so many ancestors stand above the parent
abbrev pub invariant-loop-left : goal.invariant-loop-left
invariant-loop-left l =
    let left = (rev_source (zip_first l.left-iterator)).end in
    record {
      from_none : (rev_source (zip_first l.left-iterator)).start ≡ 0;
      above : length (spot l.at).ups ≡ suc left;
      climbing : ancestors_left (zip_second l.left-iterator) ≡ ancestor_spots (spot l.at);
      room : left ≤ length l.list;
      written : ordinals (spot l.at).here (spot l.at).ups ++ drop left l.list ≡ or_given (path_of l.fn.node) [] ++ drop l.fn.steps l.initial.list;
    }
