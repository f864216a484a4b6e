use Rattle.std.proofs.Common.{◌≡◌, ◌+◌, ◌≤◌, take}
use Rattle.spot.specs.Spots.{counted, start}
use Rattle.spot.proofs.locate.Given as goal

abbrev pub invariant-loop-b : goal.invariant-loop-b
invariant-loop-b l =
    (l.cursor ≡ counted start (take l.b-index l.b-items)) × (l.cursor.line ≤ l.b-index + 1) × (l.cursor.column ≤ l.b-index + 1)
