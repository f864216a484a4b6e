use Rattle.std.proofs.Common.{◌++◌, length, sym, ap, ◌∙◌, arith}
use Rattle.tree.specs.Walks.{before_left}
use Rattle.tree.proofs.Listed.{none_back}
use Rattle.printing.specs.Buffers.{over}
use Rattle.printing.proofs.Written.{over_none}
use Rattle.indents.specs.Blanks.{blanks}
use Rattle.indents.proofs.Gathered.{blanks_more, blanks_long, blanks_over}
use Rattle.indents.proofs.Backwards.{turn_back}
use Rattle.indents.proofs.blanks.write_blanks.Goals as goal

pub loop-sibling-preserved : goal.loop-sibling-preserved
loop-sibling-preserved c =
    let a = c.loop-sibling.sibling-iterator in
    let b = c.next.new.self in
    let n = c.in-Some.sibling in
    let t = c.in-Some.ensures.steps in
    let own = c.spelling-bytes.result.now in
    let e = sym c.is_blank.ensures ∙ c.if-not-is_blank.false in
    let m = blanks_long a b n t e in
    let s = c.spelling-bytes.ensures in (
      omega (arith, c.loop-sibling.invariant.0, m, ap length s),
      turn_back c.loop-sibling.out c.put.new.out (blanks (before_left a)) (blanks (before_left b)) own _ (blanks_more a b n t e ∙ ap (λ y. blanks (before_left b) ++ y) (sym s))
          (omega (arith, c.loop-sibling.invariant.0, m, ap length s)) c.put.ensures.out (omega (arith, c.loop-sibling.invariant.0, c.loop-sibling.invariant.2, c.loop-sibling.auto.out))
          ∙ c.loop-sibling.invariant.1,
      omega (arith, c.loop-sibling.invariant.2),
    )

pub returns-then-not-is_blank : goal.returns-then-not-is_blank
returns-then-not-is_blank c =
    let a = c.loop-sibling.sibling-iterator in
    let e = blanks_over a c.next.new.self c.in-Some.sibling c.in-Some.ensures.steps (sym c.is_blank.ensures ∙ c.if-not-is_blank.true) in
    sym (over_none c.loop-sibling.out 0) ∙ (ap (over c.loop-sibling.out 0) (sym e) ∙ c.loop-sibling.invariant.1)

pub overflow_sub-end : goal.overflow_sub-end
overflow_sub-end c =
    let e = sym c.is_blank.ensures ∙ c.if-not-is_blank.false in
    omega (arith, c.loop-sibling.invariant.0, blanks_long c.loop-sibling.sibling-iterator c.next.new.self c.in-Some.sibling c.in-Some.ensures.steps e, ap length c.spelling-bytes.ensures)

pub put-requires : goal.put-requires
put-requires c =
    let e = sym c.is_blank.ensures ∙ c.if-not-is_blank.false in
    omega (
      arith,
      c.loop-sibling.invariant.0,
      c.loop-sibling.invariant.2,
      c.loop-sibling.auto.out,
      blanks_long c.loop-sibling.sibling-iterator c.next.new.self c.in-Some.sibling c.in-Some.ensures.steps e,
      ap length c.spelling-bytes.ensures,
    )

pub returns : goal.returns
returns c =
    let e = ap (λ z. blanks z) (none_back c.loop-sibling.sibling-iterator c.in-None.ensures.steps.0) in
    sym (over_none c.loop-sibling.out 0) ∙ (ap (over c.loop-sibling.out 0) (sym e) ∙ c.loop-sibling.invariant.1)
