use Rattle.std.proofs.Common.{◌<◌, arith}
use Rattle.std.proofs.lemmas.List.Sorted.{length_permutation}
use Rattle.plain_graph.specs.Walks.{LeadsOut}
use Rattle.plain_graph.proofs.Spreads.{room_left, spreading_on, spread_lists}
use Rattle.plain_graph.proofs.walk.spread.Goals as goal

pub push-requires : goal.push-requires
push-requires c =
    let out : LeadsOut c.args.way c.args.pairs.now c.loop-id.found.ids c.in-Some.id = rw (← c.ids.ensures) c.in-Some.ensures in
    room_left c.args.way c.args.pairs.now c.args.found.now c.loop-id.found c.in-Some.id c.loop-id.invariant out

pub loop-id-smaller : goal.loop-id-smaller
loop-id-smaller c =
    let out : LeadsOut c.args.way c.args.pairs.now c.loop-id.found.ids c.in-Some.id = rw (← c.ids.ensures) c.in-Some.ensures in
    let left : 0 < c.loop-id.found.room = room_left c.args.way c.args.pairs.now c.args.found.now c.loop-id.found c.in-Some.id c.loop-id.invariant out in
    rw c.push.ensures (omega arith)

pub loop-id-preserved : goal.loop-id-preserved
loop-id-preserved c =
    let out : LeadsOut c.args.way c.args.pairs.now c.loop-id.found.ids c.in-Some.id = rw (← c.ids.ensures) c.in-Some.ensures in
    rw c.push.ensures (spreading_on c.args.way c.args.pairs.now c.args.found.now c.loop-id.found c.in-Some.id c.loop-id.invariant out)

pub returns-clause-lists : goal.returns-clause-lists
returns-clause-lists c =
    spread_lists c.args.way c.args.pairs.now c.args.found.now c.loop-id.found c.sort.new.self.ids c.loop-id.invariant
    (rw (← c.ids.ensures) c.in_default.ensures) c.sort.ensures.permutation c.sort.ensures.sorted

pub returns-clause-room : goal.returns-clause-room
returns-clause-room c =
    omega (arith, c.loop-id.invariant.same_room, c.sort.ensures.room, length_permutation c.loop-id.found.ids c.sort.new.self.ids c.sort.ensures.permutation)
