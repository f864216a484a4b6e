use Rattle.std.proofs.Common.{subst}
use Rattle.tree.specs.Steps.{spot}
use Rattle.tree.specs.Walks.{before_left}
use Rattle.tree.proofs.Classes.{is_blank_lem, is_break_lem, is_remark_lem}
use Rattle.indents.proofs.Gathered.{Going, left_before, or_first, or_kept, going_blank, going_remark, ends_break, ends_other, ends_all}
use Rattle.indents.proofs.blanks.indent_end.Goals as goal

pub loop-sibling-preserved-then-is_none : goal.loop-sibling-preserved-then-is_none
loop-sibling-preserved-then-is_none c =
    let a = c.loop-sibling.sibling-iterator in
    let b = c.next.new.self in
    let n = c.in-Some.sibling in
    let t = c.in-Some.ensures.steps in
    let all = (spot c.args.node).here.before in (
      left_before a b n t,
      subst (λ z. Going z (before_left b) all) (or_first c.loop-sibling.end c.loop-sibling.behind c.if-is_none.ensures)
          (going_blank a b n t c.loop-sibling.end c.loop-sibling.behind all (is_blank_lem _ c.in-Blank.ensures) c.loop-sibling.invariant.0 c.loop-sibling.invariant.1),
    )

pub loop-sibling-preserved-else-is_none : goal.loop-sibling-preserved-else-is_none
loop-sibling-preserved-else-is_none c =
    let a = c.loop-sibling.sibling-iterator in
    let b = c.next.new.self in
    let n = c.in-Some.sibling in
    let t = c.in-Some.ensures.steps in
    let all = (spot c.args.node).here.before in (
      left_before a b n t,
      subst (λ z. Going z (before_left b) all) (or_kept c.loop-sibling.end c.loop-sibling.behind c.if-is_none.ensures)
          (going_blank a b n t c.loop-sibling.end c.loop-sibling.behind all (is_blank_lem _ c.in-Blank.ensures) c.loop-sibling.invariant.0 c.loop-sibling.invariant.1),
    )

pub loop-sibling-preserved : goal.loop-sibling-preserved
loop-sibling-preserved c =
    let a = c.loop-sibling.sibling-iterator in
    let b = c.next.new.self in
    let n = c.in-Some.sibling in
    let t = c.in-Some.ensures.steps in
    let r = is_remark_lem _ c.in-Remark.ensures in
    (left_before a b n t, going_remark a b n t c.loop-sibling.end (spot c.args.node).here.before r.0 r.1 c.loop-sibling.invariant.1)

pub returns-in-Break : goal.returns-in-Break
returns-in-Break c =
    ends_break c.loop-sibling.sibling-iterator c.next.new.self c.in-Some.sibling c.in-Some.ensures.steps
    c.loop-sibling.end (spot c.args.node).here.before (is_break_lem _ c.in-Break.ensures) c.loop-sibling.invariant.1

pub returns-in-Comma : goal.returns-in-Comma
returns-in-Comma c =
    ends_other c.loop-sibling.sibling-iterator c.next.new.self c.in-Some.sibling c.in-Some.ensures.steps
    c.loop-sibling.end (spot c.args.node).here.before c.class.result c.class.ensures c.in-Comma.is c.loop-sibling.invariant.1

pub returns : goal.returns
returns c = ends_all c.loop-sibling.sibling-iterator c.loop-sibling.end (spot c.args.node).here.before c.in-None.ensures.steps.0 c.loop-sibling.invariant.1
