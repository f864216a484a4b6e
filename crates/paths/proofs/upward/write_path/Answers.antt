use Rattle.std.proofs.Common.{◌≡◌, suc, [], ◌++◌, drop, set, length, sym, ap, ◌∙◌, inl, inr, arith}
use Rattle.std.specs.Iterator.Adapters.{zip_first, zip_second, rev_source}
use Rattle.model.specs.Asks.{or_given}
use Rattle.tree.specs.Steps.{spot}
use Rattle.tree.specs.Walks.{ancestors_left}
use Rattle.paths.specs.Ways.{path_of}
use Rattle.paths.proofs.Ordinals.{ordinals}
use Rattle.paths.proofs.Climbs.{top, known, climbed, emptied}
use Rattle.paths.proofs.upward.write_path.Goals as goal

pub loop-left-init : goal.loop-left-init
loop-left-init c =
    let m = known c.args.node c.args.steps c.requires.known in
    let z = c.into_iter-left-iterator.ensures.into_iter_gives in
    let r = ap (λ i. rev_source (zip_first i)) z ∙ (ap rev_source c.zip-left-items.ensures.first ∙ c.rev.ensures.source) in
    record {
      from_none = ap (λ i. i.start) r;
      above = m.1 ∙ ap (λ i. suc i.end) (sym r);
      climbing = ap (λ i. ancestors_left (zip_second i)) z ∙ (ap ancestors_left c.zip-left-items.ensures.second ∙ c.ancestors.ensures.spots);
      room = omega (arith, ap (λ i. i.end) r);
      written = ap (λ i. ordinals (spot c.args.node).here (spot c.args.node).ups ++ drop i.end c.args.list.now) r ∙ ap (λ y. or_given y [] ++ drop c.args.steps c.args.list.now) (sym m.0);
    }

pub loop-left-preserved : goal.loop-left-preserved
loop-left-preserved c =
    let i = c.loop-left.invariant in
    let e = c.in-Some.ensures.steps in
    let s = spot c.loop-left.at in
    let p = spot c.in-Some.parent in
    let q = e.0.1.1 in
    let f : (rev_source (zip_first c.loop-left.left-iterator)).end ≡ suc c.in-Some.left = omega arith in
    let m = climbed s p (ancestors_left (zip_second c.next.new.self)) c.in-Some.left c.ordinal.result c.loop-left.list (or_given (path_of c.args.node) [] ++ drop c.args.steps c.args.list.now)
    (sym i.climbing ∙ e.1) (i.above ∙ ap suc f) (omega arith) (ap (λ k. ordinals s.here s.ups ++ drop k c.loop-left.list) (sym f) ∙ i.written) c.ordinal.ensures in
    record {
      from_none = e.0.0 ∙ i.from_none;
      above = m.0 ∙ ap suc q;
      climbing = m.3;
      room = omega arith;
      written = ap (λ k. ordinals p.here p.ups ++ drop k (set c.loop-left.list c.in-Some.left c.ordinal.result)) (sym q) ∙ m.2;
    }

pub returns : goal.returns
returns c =
    let i = c.loop-left.invariant in
    let s = spot c.loop-left.at in
    elim c.in-None.ensures.steps [
      | inl w ↦
          let f : (rev_source (zip_first c.loop-left.left-iterator)).end ≡ 0 = omega arith in
          emptied s c.loop-left.list _ (i.above ∙ ap suc f) (ap (λ k. ordinals s.here s.ups ++ drop k c.loop-left.list) (sym f) ∙ i.written)
      | inr w ↦ absurd (omega (arith, ap length (top s s.ups (sym i.climbing ∙ w.1.0))))
    ]
