use Rattle.std.proofs.Common.{sym, ap, ◌∙◌, arith}
use Rattle.model.specs.State.{Given, Clear, and_then, after_outcome, answers}
use Rattle.model.specs.Written.{Value}
use Rattle.tree.specs.Trees.{state}
use Rattle.tree.proofs.Emptied.{clear_worn, clear_goes, clear_sizes, cleared_well, cleared_state}
use Rattle.tree.proofs.tree.Tree.clear.Goals as goal

pub returns-then-self : goal.returns-then-self
returns-then-self c =
    let t = c.args.self.now in
    let z = clear_sizes t in
    record {
      answer = λ w. sym (ap (λ o. and_then o (λ x. Given (answers {S = Value} (state t) Clear x))) (clear_worn (state t) w z.0 z.1 z.2 c.if-self.true));
      state = λ w. sym (ap (after_outcome (state t)) (clear_worn (state t) w z.0 z.1 z.2 c.if-self.true));
    }

pub invariant_of-self : goal.invariant_of-self
invariant_of-self c = record { ok = ∣ cleared_well c.args.self.now c.cut_all.new.table c.cut_all.ensures.forest c.cut_all.ensures.given ∣₁ }

pub returns : goal.returns
returns c =
    let t = c.args.self.now in
    let z = clear_sizes t in
    record {
      answer = λ w. sym (ap (λ o. and_then o (λ x. Given (answers {S = Value} (state t) Clear x))) (clear_goes (state t) w z.0 z.1 z.2 (omega arith)));
      state = λ w. cleared_state t c.cut_all.new.table c.cut_all.ensures.forest c.cut_all.ensures.given
          ∙ sym (ap (after_outcome (state t)) (clear_goes (state t) w z.0 z.1 z.2 (omega arith)));
    }
