use Rattle.std.proofs.Common.{rules, ◌<◌, ℕ, length, get_or}
use Rattle.std.proofs.lemmas.List.Elements.{Contains-get_or}
use Rattle.links.proofs.gathering.txs_at.Goals as goal

pub bounds-txs-place : goal.bounds-txs-place
bounds-txs-place c = c.requires _ (Contains-get_or c.args.places.now c.loop-place.place-index 0 c.loop-place-test.true)

pub offset_bounds-txs-place : goal.offset_bounds-txs-place
offset_bounds-txs-place c =
    let place : ℕ = get_or c.args.places.now c.loop-place.place-index 0 in
    let within : place < length c.args.txs.now =
    c.requires place (Contains-get_or c.args.places.now c.loop-place.place-index 0 c.loop-place-test.true) in
    search rules
