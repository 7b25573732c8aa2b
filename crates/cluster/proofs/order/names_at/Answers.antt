use Rattle.std.proofs.Common.{◌<◌, length, slice_index, rules}
use Rattle.std.proofs.lemmas.List.Elements.{Contains-get_or}
use Rattle.cluster.proofs.order.names_at.Goals as goal

pub offset_bounds-names-places : goal.offset_bounds-names-places
offset_bounds-names-places c =
    let low : slice_index c.args.places.now c.loop-at.at < length c.args.names.now =
    c.requires (slice_index c.args.places.now c.loop-at.at) (Contains-get_or c.args.places.now c.loop-at.at 0 c.loop-at-test.true) in
    search rules

pub bounds-names-places : goal.bounds-names-places
bounds-names-places c = c.requires (slice_index c.args.places.now c.loop-at.at) (Contains-get_or c.args.places.now c.loop-at.at 0 c.loop-at-test.true)
