use Rattle.std.proofs.Common.{Ok, Err, sym, subst}
use Rattle.std.proofs.lemmas.Result.{err_from_is_err_and}
use Rattle.grammar.specs.Reader.{turn_p, value_p}
use Rattle.text.specs.Events.{box_for, token_for}
use Rattle.text.specs.Frames.{frame_for}
use Rattle.text.specs.Reports.{Turns}
use Rattle.text.proofs.Spells.{steps_turn, says_value}
use Rattle.text.proofs.Telling.{loop_more, loop_done, loop_stops, loop_moves}
use Rattle.text.proofs.Nests.{container_made, container_late, member_made, member_late, member_early, nested_deep, nested_array, nested_object, turn_close, turn_early, turn_late, turn_item}
use Rattle.text.proofs.values.+nesting.Goals as goal

pub read_container-returns-in_err-rest : goal.read_container-returns-in_err-rest
read_container-returns-in_err-rest g t c =
    let p = err_from_is_err_and c.from_residual-in_err-rest.result c.from_residual-in_err-rest.ensures.1 in
    let e = c.in_err-rest in
    rw (p.1, p.2) (container_late g.S.Sink.after g.S.Sink.idle g.S.Sink.joined c.args.text.now c.args.sink.now (frame_for c.args.frame) (value_p c.args.levels) (box_for c.container-container.result) c.container-container.ensures (token_for c.opener.result) c.opener.ensures
    c.enter.new.self c.in_ok-inside.inside c.read_token.new.sink c.in_ok-inside.ensures e.field-0.0 c.read_items.new.sink e.ensures)

pub read_container-returns : goal.read_container-returns
read_container-returns g t c =
    container_made g.S.Sink.after g.S.Sink.idle g.S.Sink.joined c.args.text.now c.args.sink.now (frame_for c.args.frame) (value_p c.args.levels) (box_for c.container-container.result) c.container-container.ensures (token_for c.opener.result) c.opener.ensures
    c.enter.new.self c.enter.ensures c.in_ok-inside.inside c.read_token.new.sink c.in_ok-inside.ensures
    c.in_ok-rest.rest c.read_items.new.sink c.in_ok-rest.ensures c.leave.new.self c.leave.ensures

pub read_items-returns-in_err-next : goal.read_items-returns-in_err-next
read_items-returns-in_err-next g t c =
    let p = err_from_is_err_and c.from_residual.result c.from_residual.ensures.1 in
    let e = c.in_err-next in
    rw (p.1, p.2) (c.loop-next.invariant (Err e.field-0.0) c.read_turn.new.sink (loop_stops g.S.Sink.after g.S.Sink.idle g.S.Sink.joined (turn_p (frame_for c.args.frame) (value_p c.args.levels)) (steps_turn (frame_for c.args.frame) (value_p c.args.levels) (says_value c.args.levels)) c.loop-next.rest.now e.field-0.0 e.ensures))

pub read_items-loop-next-smaller : goal.read_items-loop-next-smaller
read_items-loop-next-smaller g t c =
    let x = subst (λ z. Turns g.S.Sink.after (turn_p (frame_for c.args.frame) (value_p c.args.levels)) c.loop-next.rest.now c.loop-next.sink (Ok z) c.read_turn.new.sink) c.in-Continue.is c.in_ok-next.ensures in
    loop_moves g.S.Sink.after g.S.Sink.idle g.S.Sink.joined (turn_p (frame_for c.args.frame) (value_p c.args.levels)) (steps_turn (frame_for c.args.frame) (value_p c.args.levels) (says_value c.args.levels)) c.loop-next.rest.now c.loop-next.sink c.in-Continue.next c.read_turn.new.sink x

pub read_items-loop-next-preserved : goal.read_items-loop-next-preserved
read_items-loop-next-preserved g t c =
    let x = subst (λ z. Turns g.S.Sink.after (turn_p (frame_for c.args.frame) (value_p c.args.levels)) c.loop-next.rest.now c.loop-next.sink (Ok z) c.read_turn.new.sink) c.in-Continue.is c.in_ok-next.ensures in
    λ r b m. c.loop-next.invariant r b (loop_more g.S.Sink.after g.S.Sink.idle g.S.Sink.joined (turn_p (frame_for c.args.frame) (value_p c.args.levels)) (steps_turn (frame_for c.args.frame) (value_p c.args.levels) (says_value c.args.levels)) c.loop-next.rest.now c.loop-next.sink c.in-Continue.next c.read_turn.new.sink x r b m)

pub read_items-returns-in-Break : goal.read_items-returns-in-Break
read_items-returns-in-Break g t c =
    let x = subst (λ z. Turns g.S.Sink.after (turn_p (frame_for c.args.frame) (value_p c.args.levels)) c.loop-next.rest.now c.loop-next.sink (Ok z) c.read_turn.new.sink) c.in-Break.is c.in_ok-next.ensures in
    c.loop-next.invariant (Ok c.in-Break.end) c.read_turn.new.sink (loop_done g.S.Sink.after g.S.Sink.idle g.S.Sink.joined (turn_p (frame_for c.args.frame) (value_p c.args.levels)) (steps_turn (frame_for c.args.frame) (value_p c.args.levels) (says_value c.args.levels)) c.loop-next.rest.now c.loop-next.sink c.in-Break.end c.read_turn.new.sink x)

pub read_member-returns-in_err-value : goal.read_member-returns-in_err-value
read_member-returns-in_err-value g t c =
    let p = err_from_is_err_and c.from_residual.result c.from_residual.ensures.1 in
    rw (p.1, p.2) (member_early g.S.Sink.after g.S.Sink.idle g.S.Sink.joined c.args.text.now c.args.sink.now c.enter.new.self c.enter.ensures (value_p c.args.levels) c.in_err-value.field-0.0 c.read_label.new.sink c.in_err-value.ensures)

pub read_member-returns-in_err-rest : goal.read_member-returns-in_err-rest
read_member-returns-in_err-rest g t c =
    let p = err_from_is_err_and c.from_residual-in_err-rest.result c.from_residual-in_err-rest.ensures.1 in
    rw (p.1, p.2) (member_late g.S.Sink.after g.S.Sink.idle g.S.Sink.joined c.args.text.now c.args.sink.now c.enter.new.self c.enter.ensures (value_p c.args.levels) c.in_ok-value.value c.read_label.new.sink c.in_ok-value.ensures c.in_err-rest.field-0.0 c.in_err-rest.ensures)

pub read_member-returns : goal.read_member-returns
read_member-returns g t c =
    member_made g.S.Sink.after g.S.Sink.idle g.S.Sink.joined c.args.text.now c.args.sink.now c.enter.new.self c.enter.ensures (value_p c.args.levels) c.in_ok-value.value c.read_label.new.sink c.in_ok-value.ensures
    c.in_ok-rest.rest c.read_value.new.sink c.in_ok-rest.ensures c.leave.new.self c.leave.ensures

pub read_nested-returns-then-levels-eq0 : goal.read_nested-returns-then-levels-eq0
read_nested-returns-then-levels-eq0 g t c = nested_deep c.args.text.now c.args.levels c.if-levels-eq0.true

pub read_nested-returns-then-next_is_token : goal.read_nested-returns-then-next_is_token
read_nested-returns-then-next_is_token g t c =
    nested_array g.S.Sink.after g.S.Sink.idle g.S.Sink.joined c.args.text.now c.args.sink.now c.args.levels c.if-levels-eq0.false (sym c.if-next_is_token.ensures) c.read_container.result c.read_container.new.sink c.read_container.ensures

pub read_nested-returns : goal.read_nested-returns
read_nested-returns g t c =
    nested_object g.S.Sink.after g.S.Sink.idle g.S.Sink.joined c.args.text.now c.args.sink.now c.args.levels c.if-levels-eq0.false (sym c.if-next_is_token.ensures) c.read_container-2.result c.read_container-2.new.sink c.read_container-2.ensures

pub read_turn-returns-then-next_is_token : goal.read_turn-returns-then-next_is_token
read_turn-returns-then-next_is_token g t c =
    turn_close g.S.Sink.after g.S.Sink.idle g.S.Sink.joined c.args.text.now c.args.sink.now (frame_for c.args.frame) (value_p c.args.levels) c.in_ok-item.item c.read_trivia.new.sink c.in_ok-item.ensures (token_for c.closer-close.result) c.closer-close.ensures
    c.if-next_is_token.ensures c.in_ok-rest.rest c.read_token.new.sink c.in_ok-rest.ensures

pub read_turn-returns-in_err-gap : goal.read_turn-returns-in_err-gap
read_turn-returns-in_err-gap g t c =
    let p = err_from_is_err_and c.from_residual-in_err-gap.result c.from_residual-in_err-gap.ensures.1 in
    let e = c.in_err-gap in
    rw (p.1, p.2) (turn_early g.S.Sink.after g.S.Sink.idle g.S.Sink.joined c.args.text.now c.args.sink.now (frame_for c.args.frame) (value_p c.args.levels) c.in_ok-item.item c.read_trivia.new.sink c.in_ok-item.ensures (token_for c.closer-close.result) c.closer-close.ensures
    c.if-next_is_token.ensures e.field-0.0 e.ensures)

pub read_turn-returns-in_err-mark : goal.read_turn-returns-in_err-mark
read_turn-returns-in_err-mark g t c =
    let p = err_from_is_err_and c.from_residual-in_err-mark.result c.from_residual-in_err-mark.ensures.1 in
    let e = c.in_err-mark in
    rw (p.1, p.2) (turn_late g.S.Sink.after g.S.Sink.idle g.S.Sink.joined c.args.text.now c.args.sink.now (frame_for c.args.frame) (value_p c.args.levels) c.in_ok-item.item c.read_trivia.new.sink c.in_ok-item.ensures (token_for c.closer-close.result) c.closer-close.ensures
    c.if-next_is_token.ensures c.in_ok-gap.gap c.read_item.new.sink c.in_ok-gap.ensures e.field-0.0 e.ensures)

pub read_turn-returns : goal.read_turn-returns
read_turn-returns g t c =
    turn_item g.S.Sink.after g.S.Sink.idle g.S.Sink.joined c.args.text.now c.args.sink.now (frame_for c.args.frame) (value_p c.args.levels) c.in_ok-item.item c.read_trivia.new.sink c.in_ok-item.ensures (token_for c.closer-close.result) c.closer-close.ensures
    c.if-next_is_token.ensures c.in_ok-gap.gap c.read_item.new.sink c.in_ok-gap.ensures c.in_ok-mark.mark c.read_trivia-2.new.sink c.in_ok-mark.ensures
    c.read_end.result c.read_end.new.sink c.read_end.ensures
