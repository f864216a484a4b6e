-- The first answer is the first in the queue.
use Rattle.std.proofs.Common.{◌≡◌, ◌+◌, ◌≤◌, List, [], ◌∷◌, length, Some, None, Option, sym, ap, ◌∙◌, subst, arith}
use Rattle.forest.specs.Forest.{size}
use Rattle.model.specs.Nodes.{Nodes, Sort}
use Rattle.model.specs.Asks.{Spot, layers, first_of}
use Rattle.tree.specs.Places.{Stands, spot_of}
use Rattle.tree.specs.Steps.{spot}
use Rattle.tree.specs.Trees.{kids}
use Rattle.worklist.specs.Listed.{room}
use Rattle.worklist.proofs.Room.{room_is}
use Rattle.style.specs.Standing.{Filled}
use Rattle.style.proofs.Queues.{Seeks, seeks_level, seeks_none}
use Rattle.style.proofs.Rooms.{below_records}
use Rattle.style.proofs.Waiting.{waiting_start, one_listed, waiting_stands, waiting_room, waiting_turn, waiting_less, found_here, found_later}
use Rattle.style.proofs.levels.first_by_level.Goals as goal

-- what is found first at a node and below it
abbrev first : {X : Type 0} → (Sort → Nodes → List X) → Spot → Option X
first h s = first_of (h s.here.own.sort s.kids ∷ layers h s.kids)

pub loop-place-init : goal.loop-place-init
loop-place-init g c =
    let t = c.tree-tree.result.now in
    let ks = kids t in
    let k = c.place.result in
    let n = c.args.node in
    let v = c.new-waiting.result in
    let w = c.push.new.self in
    let e : room v ≡ length c.args.queue.now = room_is v ∙ ap length c.new-waiting.ensures.place in
    let at : spot_of k ks ≡ spot n = ap (λ y. spot_of y ks) c.place.ensures ∙ ap (λ u. spot_of n.place (kids u)) c.tree-tree.ensures in
    let s : 1 + size (spot_of k ks).kids ≤ room v = omega (arith, e, below_records n, ap (λ u. size u.kids) at, c.requires.space) in
    let there : Stands k ks = subst (λ y. Stands y ks) (sym c.place.ensures) (subst (λ u. Stands n.place (kids u)) (sym c.tree-tree.ensures) n.stands) in
    let m = c.new-waiting.ensures in
    let p = c.push.ensures in (
      waiting_start ks k v w c.push.result m.list m.start s p.test p.list there,
      λ h a. subst (λ y. Seeks ks h y (first h (spot n))) (sym (one_listed ks k v w c.push.result m.list m.start s p.test p.list)) (seeks_level ks h (k ∷ []) (first h (spot n)) (ap (first h) at)),
    )

pub node-asked-requires : goal.node-asked-requires
node-asked-requires g c = waiting_stands (kids c.tree-tree.result.now) c.in-Some.place c.loop-place.waiting c.pop_front.new.self c.in-Some.ensures c.loop-place.invariant.0

pub returns-in-Some-ask : goal.returns-in-Some-ask
returns-in-Some-ask g c h a =
    found_here (kids c.tree-tree.result.now) c.in-Some.place c.loop-place.waiting c.pop_front.new.self c.in-Some.ensures (spot c.node-asked.result) c.node-asked.ensures.spot
    h (first h (spot c.args.node)) (c.loop-place.invariant.1 h a) c.in-Some-ask.answer (a c.node-asked.result (Some c.in-Some-ask.answer) c.in-Some-ask.ensures)

pub push_children-requires : goal.push_children-requires
push_children-requires g c =
    waiting_room (kids c.tree-tree.result.now) c.in-Some.place c.loop-place.waiting c.pop_front.new.self c.in-Some.ensures (spot c.node-asked.result) c.node-asked.ensures.spot c.loop-place.invariant.0

pub loop-place-smaller : goal.loop-place-smaller
loop-place-smaller g c =
    let s = spot c.node-asked.result in
    waiting_less (kids c.tree-tree.result.now) c.in-Some.place c.loop-place.waiting c.pop_front.new.self c.in-Some.ensures s c.node-asked.ensures.spot c.loop-place.invariant.0
    c.push_children.new.queue (subst (λ t. Filled (kids t) s.kids c.pop_front.new.self c.push_children.new.queue) c.node-asked.ensures.tree c.push_children.ensures)

pub loop-place-preserved : goal.loop-place-preserved
loop-place-preserved g c =
    let ks = kids c.tree-tree.result.now in
    let v = c.loop-place.waiting in
    let w = c.pop_front.new.self in
    let u = c.push_children.new.queue in
    let n = c.node-asked.result in
    let m : Filled ks (spot n).kids w u = subst (λ t. Filled (kids t) (spot n).kids w u) c.node-asked.ensures.tree c.push_children.ensures in (
      waiting_turn ks c.in-Some.place v w c.in-Some.ensures (spot n) c.node-asked.ensures.spot c.loop-place.invariant.0 u m,
      λ h a. found_later ks c.in-Some.place v w c.in-Some.ensures (spot n) c.node-asked.ensures.spot h (first h (spot c.args.node)) (c.loop-place.invariant.1 h a) u m
          (a n None c.in_default-ask.ensures),
    )

pub returns : goal.returns
returns g c h a =
    let ks = kids c.tree-tree.result.now in
    let r = first h (spot c.args.node) in
    sym (seeks_none ks h r (subst (λ y. Seeks ks h y r) c.in_default.ensures.0 (c.loop-place.invariant.1 h a)))
