use Rattle.std.proofs.Common.{◌+◌, ◌*◌, length}
use Rattle.grammar.specs.Reader.{items_p, value_p}
use Rattle.text.specs.Frames.{frame_for}
use Rattle.text.specs.Reports.{Rest, Makes}
use Rattle.text.proofs.values.+nesting.Given as goal

abbrev pub decreases-read_nested : goal.decreases-read_nested
decreases-read_nested g l = 8 * l.levels

abbrev pub decreases-read_value : goal.decreases-read_value
decreases-read_value g l = 8 * l.levels + 1

abbrev pub decreases-read_member : goal.decreases-read_member
decreases-read_member g l = 8 * l.levels + 2

abbrev pub decreases-read_item : goal.decreases-read_item
decreases-read_item g l = 8 * l.levels + 3

abbrev pub decreases-read_turn : goal.decreases-read_turn
decreases-read_turn g l = 8 * l.levels + 4

abbrev pub decreases-read_items : goal.decreases-read_items
decreases-read_items g l = 8 * l.levels + 5

abbrev pub decreases-read_container : goal.decreases-read_container
decreases-read_container g l = 8 * l.levels + 6

abbrev pub invariant-read_items-loop-next : goal.invariant-read_items-loop-next
invariant-read_items-loop-next g l =
    (r : Rest) (b : g.row.S.Denot) → Makes g.S.Sink.after (items_p (frame_for l.frame) (value_p l.levels)) l.rest l.sink r b → Makes g.S.Sink.after (items_p (frame_for l.frame) (value_p l.levels)) l.text l.initial.sink r b

abbrev pub decreases-read_items-loop-next : goal.decreases-read_items-loop-next
decreases-read_items-loop-next g l = length l.rest
