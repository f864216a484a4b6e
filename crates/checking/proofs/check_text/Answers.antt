use Rattle.std.proofs.Common.{subst, rules, arith}
use Rattle.checking.specs.Counted.{Counted}
use Rattle.text.specs.Events.{events}
use Rattle.checking.proofs.Verdicts.{finished}
use Rattle.grammar.proofs.Whole.{right}
use Rattle.checking.proofs.check_text.Goals as goal

pub returns-in-Ok-empty-clause-answer : goal.returns-in-Ok-empty-clause-answer
returns-in-Ok-empty-clause-answer c =
    let m = c.in-Ok-empty.ensures in
    let b = c.read_text.new.sink in
    finished c.args.text.now c.if-text-gt-MAX_TEXT.false m.0 c.in-Ok-empty.field-0.now m.1 (omega arith) b (subst (λ z. Counted z (events m.0) b) c.new-counter.ensures m.2)

pub returns-in-Ok-empty-clause-reader : goal.returns-in-Ok-empty-clause-reader
returns-in-Ok-empty-clause-reader c = right 64

pub returns-in-Err-Deep-clause-reader : goal.returns-in-Err-Deep-clause-reader
returns-in-Err-Deep-clause-reader c = right 64

pub returns-in-Ok-clause-reader : goal.returns-in-Ok-clause-reader
returns-in-Ok-clause-reader c = right 64

pub returns-then-text-gt-MAX_TEXT : goal.returns-then-text-gt-MAX_TEXT
returns-then-text-gt-MAX_TEXT c = record { answer = search rules; reader = right 64 }
