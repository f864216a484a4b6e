use Rattle.std.proofs.Common.{◌-◌, length, drop, arith, length-drop, take_all}
use Rattle.std.proofs.lemmas.Bool.Decides.{nat_tests}
use Rattle.text.proofs.gaps.behind_crlf.Goals as goal

pub returns-then-second-eq10 : goal.returns-then-second-eq10
returns-then-second-eq10 c =
    let s = c.args.text.now in
    (grind (arith, nat_tests), take_all (length s - 2) (drop 2 s) (omega (arith, length-drop 2 s)))
