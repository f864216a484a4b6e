use Rattle.std.proofs.Common.{◌≡◌, sym, ap, subst}
use Rattle.model.specs.State.{State}
use Rattle.model.specs.Promise.{Run, meant}
use Rattle.model.proofs.Promised.{the_promise}
use Rattle.document.specs.Documents.{state_of}
use Rattle.replay.specs.Carried.{World, carried_all, calls_for}
use Rattle.replay.specs.Buffers.{world_with}
use Rattle.replay.proofs.Carrying.{runs}
use Rattle.replay.proofs.replay.Goals as goal

pub returns-clause-replayed : goal.returns-clause-replayed
returns-clause-replayed c =
    let d : State = state_of c.load.new.self in
    let w : World = world_with c.load.new.self c.args.buffers.now in
    let l = c.in_ok-load.ensures.loaded in
    let s : state_of c.carry_all.new.document ≡ (carried_all w c.args.calls.now).state = ap (λ y. y.state) c.carry_all.ensures.world in
    let p = the_promise c.args.start.records c.args.start.store c.args.start.text.now d l (calls_for w c.args.calls.now) (state_of c.carry_all.new.document)
    (subst (λ y. Run meant d (calls_for w c.args.calls.now) y) (sym s) (runs w c.args.calls.now)) in
    record {
      room = c.if-answers-calls.false;
      loaded = d;
      loads = l;
      world = c.carry_all.ensures.world;
      recorded = c.carry_all.ensures.recorded;
      promise = p.0;
      lasting = p.1;
    }
