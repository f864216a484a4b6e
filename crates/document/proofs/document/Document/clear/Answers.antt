use Rattle.std.proofs.Common.{sym, ap, ◌∙◌}
use Rattle.std.specs.Option.{option_copied_mut}
use Rattle.model.specs.State.{Clear, outcome, after}
use Rattle.document.specs.Documents.{state_in}
use Rattle.document.proofs.document.Document.clear.Goals as goal

pub returns-clause-answer : goal.returns-clause-answer
returns-clause-answer c w =
    c.clear.ensures.answer w ∙ ap (λ o. outcome (state_in o) w Clear) (sym (ap option_copied_mut c.in_ok-ok_or.ensures.ok_part) ∙ c.as_mut.ensures.value)

pub returns-clause-state : goal.returns-clause-state
returns-clause-state c w =
    c.clear.ensures.state w ∙ ap (λ o. after (state_in o) w Clear) (sym (ap option_copied_mut c.in_ok-ok_or.ensures.ok_part) ∙ c.as_mut.ensures.value)
