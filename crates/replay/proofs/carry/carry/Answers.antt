use Rattle.std.proofs.Common.{◌≡◌, length, MatchResult, sym, ap, ◌∙◌, rules}
use Rattle.model.specs.State.{text_answer, path_answer, outcome, Clear}
use Rattle.tree.specs.Sorts.{handle_for}
use Rattle.document.specs.Documents.{state_of}
use Rattle.replay.specs.declared.answer.Answer.TheVariants.{Done, Refused}
use Rattle.replay.specs.Carried.{answer_to, carried, idle}
use Rattle.replay.specs.Buffers.{world_with}
use Rattle.replay.proofs.Recorded.{filled, pathed, edited}
use Rattle.replay.proofs.carry.carry.Goals as goal

pub returns-in-Path-clause-answer : goal.returns-in-Path-clause-answer
returns-in-Path-clause-answer c =
    let d = c.args.document.now in
    let b = c.args.buffers.now in
    pathed (path_answer (state_of d) (handle_for c.in-Path.handle) (length b.ordinals.now)) c.path.result c.noted-in-Path.result c.path.ensures.answer c.noted-in-Path.ensures
    ∙ ap (answer_to (world_with d b)) (sym c.in-Path.is)

pub returns-in-Text-clause-answer : goal.returns-in-Text-clause-answer
returns-in-Text-clause-answer c =
    let d = c.args.document.now in
    let b = c.args.buffers.now in
    filled (text_answer (state_of d) (handle_for c.in-Text.handle) (length b.bytes.now)) b.bytes.now c.text.new.out c.text.result c.noted-in-Text.result c.text.ensures c.noted-in-Text.ensures
    ∙ ap (answer_to (world_with d b)) (sym c.in-Text.is)

pub returns-in-Clear-clause-answer : goal.returns-in-Clear-clause-answer
returns-in-Clear-clause-answer c =
    let d = c.args.document.now in
    let h : MatchResult c.clear.result (λ _. c.noted-in-Clear.result ≡ Done) (λ e. c.noted-in-Clear.result ≡ Refused e) = search rules in
    edited (outcome (state_of d) idle Clear) c.clear.result c.noted-in-Clear.result (c.clear.ensures.answer idle) h
    ∙ ap (answer_to (world_with d c.args.buffers.now)) (sym c.in-Clear.is)

pub returns-in-Clear-clause-world : goal.returns-in-Clear-clause-world
returns-in-Clear-clause-world c =
    let b = c.args.buffers.now in
    ap (λ y. record { state = y; bytes = b.bytes.now; ordinals = b.ordinals.now; queue = length b.queue.now }) (c.clear.ensures.state idle)
    ∙ ap (carried (world_with c.args.document.now b)) (sym c.in-Clear.is)
