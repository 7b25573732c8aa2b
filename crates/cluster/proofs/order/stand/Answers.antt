use Rattle.std.proofs.Common.{◌<◌, length, slice_index, rules}
use Rattle.std.proofs.lemmas.List.Elements.{Contains-get_or}
use Rattle.cluster.proofs.Standing.{stand_more}
use Rattle.cluster.proofs.order.stand.Goals as goal

pub offset_bounds-positions-order : goal.offset_bounds-positions-order
offset_bounds-positions-order c =
    let low : slice_index c.args.order.now c.loop-at.at < length c.args.positions.now =
    c.requires.within (slice_index c.args.order.now c.loop-at.at) (Contains-get_or c.args.order.now c.loop-at.at 0 c.loop-at-test.true) in
    search rules

pub bounds-positions-order : goal.bounds-positions-order
bounds-positions-order c =
    let low : slice_index c.args.order.now c.loop-at.at < length c.args.positions.now =
    c.requires.within (slice_index c.args.order.now c.loop-at.at) (Contains-get_or c.args.order.now c.loop-at.at 0 c.loop-at-test.true) in
    search rules

pub loop-at-preserved : goal.loop-at-preserved
loop-at-preserved c =
    stand_more c.args.order.now c.loop-at.positions c.loop-at.at c.requires.once c.loop-at-test.true (bounds-positions-order c) c.loop-at.invariant
