use Rattle.std.proofs.Common.{ℕ, List, length}
use Rattle.grammar.specs.Reader.{run_p}
use Rattle.lexemes.specs.ByteClasses.{bytes_of}
use Rattle.lexemes.specs.Scan.{Passes}
use Rattle.lexemes.proofs.bytes.behind_run.Given as goal

abbrev pub invariant-loop-tail : goal.invariant-loop-tail
invariant-loop-tail l = (t : List ℕ) → Passes (run_p (bytes_of l.class)) l.rest t → Passes (run_p (bytes_of l.class)) l.text t

abbrev pub decreases-loop-tail : goal.decreases-loop-tail
decreases-loop-tail l = length l.rest
