-- How many bytes the blanks before a node have at most.
use Rattle.std.proofs.Common.{◌≤◌, [], ◌++◌, length, arith, length-append}
use Rattle.std.proofs.lemmas.Bool.{cond_both}
use Rattle.forest.specs.Forest.{end, node}
use Rattle.model.specs.Nodes.{Nodes, class}
use Rattle.model.specs.Asks.{spelt, is_blank}
use Rattle.tree.specs.declared.node.Node.{Node}
use Rattle.tree.specs.Steps.{spot}
use Rattle.printing.proofs.Printed.{weight, spot_few}
use Rattle.indents.specs.Blanks.{blanks}

blanks_weight : (bs : Nodes) → length (blanks bs) ≤ weight bs
blanks_weight end = omega arith
blanks_weight (node p i ks bs) =
    let m = blanks_weight bs in
    cond_both (is_blank (class i.sort)) (blanks bs ++ spelt i.sort) [] (λ y. length y ≤ weight (node p i ks bs))
    (λ _. omega (arith, length-append (blanks bs) (spelt i.sort))) (λ _. omega arith)

pub blanks_few : (n : Node) → length (blanks (spot n).here.before) ≤ 68719476736
blanks_few n = omega (arith, blanks_weight (spot n).here.before, spot_few n)
