use Rattle.std.proofs.Common.{◌<◌, length, slice_index, slice_index_or, rules}
use Rattle.std.proofs.lemmas.List.Elements.{Contains-get_or}
use Rattle.lists.proofs.Entries.{Contains-map}
use Rattle.cluster.specs.Orders.{at_positions}
use Rattle.cluster.proofs.Rising.{no_flow}
use Rattle.cluster.proofs.order.name_risen.Goals as goal

pub bounds-positions-flow : goal.bounds-positions-flow
bounds-positions-flow c = (c.requires.there _ (Contains-get_or c.args.own.now c.loop-at.at no_flow c.loop-at-test.true)).0

pub offset_bounds-positions-flow : goal.offset_bounds-positions-flow
offset_bounds-positions-flow c =
    let low : (slice_index_or c.args.own.now c.loop-at.at no_flow).child < length c.args.positions.now =
    (c.requires.there _ (Contains-get_or c.args.own.now c.loop-at.at no_flow c.loop-at-test.true)).0 in
    search rules

pub bounds-order-positions : goal.bounds-order-positions
bounds-order-positions c =
    (c.requires.within _ (Contains-map (at_positions c.args.positions.now) c.args.own.now (slice_index_or c.args.own.now c.loop-at.at no_flow)
    (Contains-get_or c.args.own.now c.loop-at.at no_flow c.loop-at-test.true))).0

pub offset_bounds-order-positions : goal.offset_bounds-order-positions
offset_bounds-order-positions c =
    let low : slice_index c.args.positions.now (slice_index_or c.args.own.now c.loop-at.at no_flow).child < length c.args.order.now =
    (c.requires.within _ (Contains-map (at_positions c.args.positions.now) c.args.own.now (slice_index_or c.args.own.now c.loop-at.at no_flow)
    (Contains-get_or c.args.own.now c.loop-at.at no_flow c.loop-at-test.true))).0 in
    search rules

pub bounds-positions-flow-in-loop-at : goal.bounds-positions-flow-in-loop-at
bounds-positions-flow-in-loop-at c = (c.requires.there _ (Contains-get_or c.args.own.now c.loop-at.at no_flow c.loop-at-test.true)).1

pub offset_bounds-positions-flow-in-loop-at : goal.offset_bounds-positions-flow-in-loop-at
offset_bounds-positions-flow-in-loop-at c =
    let low : (slice_index_or c.args.own.now c.loop-at.at no_flow).parent < length c.args.positions.now =
    (c.requires.there _ (Contains-get_or c.args.own.now c.loop-at.at no_flow c.loop-at-test.true)).1 in
    search rules

pub bounds-order-positions-in-loop-at : goal.bounds-order-positions-in-loop-at
bounds-order-positions-in-loop-at c =
    (c.requires.within _ (Contains-map (at_positions c.args.positions.now) c.args.own.now (slice_index_or c.args.own.now c.loop-at.at no_flow)
    (Contains-get_or c.args.own.now c.loop-at.at no_flow c.loop-at-test.true))).1

pub offset_bounds-order-positions-in-loop-at : goal.offset_bounds-order-positions-in-loop-at
offset_bounds-order-positions-in-loop-at c =
    let low : slice_index c.args.positions.now (slice_index_or c.args.own.now c.loop-at.at no_flow).parent < length c.args.order.now =
    (c.requires.within _ (Contains-map (at_positions c.args.positions.now) c.args.own.now (slice_index_or c.args.own.now c.loop-at.at no_flow)
    (Contains-get_or c.args.own.now c.loop-at.at no_flow c.loop-at-test.true))).1 in
    search rules
