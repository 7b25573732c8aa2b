use Rattle.std.proofs.Common.{rules, FitsSigned, ℕ, List, get_or, sym, ◌∙◌}
use Rattle.std.specs.Int.{w64}
use Rattle.std.proofs.lemmas.Int.{to_z-of_z}
use Rattle.std.proofs.lemmas.List.Elements.{Contains-get_or}
use Rattle.dump.proofs.Listed.{listed_next}
use Rattle.component.proofs.Rooms.{covers_fits}
use Rattle.dump.proofs.listing.add_part.Goals as goal

pub rate-rate-requires : goal.rate-rate-requires
rate-rate-requires g c = (assumption, c.requires.names _ (Contains-get_or c.args.ids.now c.loop-id.id-index 0 c.loop-id-test.true))

pub covers-requires : goal.covers-requires
covers-requires g c =
    (assumption, (covers_fits g.row.W c.requires.narrow, c.requires.names _ (Contains-get_or c.args.ids.now c.loop-id.id-index 0 c.loop-id-test.true)))

pub loop-id-preserved : goal.loop-id-preserved
loop-id-preserved g c level before tells order_once once listed =
    let ids = c.args.ids.now in
    let id = get_or ids c.loop-id.id-index 0 in
    let inside = c.requires.names id (Contains-get_or ids c.loop-id.id-index 0 c.loop-id-test.true) in
    let parents : List ℕ = c.covers.result in
    let fits : FitsSigned w64 c.rate-rate.result.fee = search rules in
    listed_next level before ids c.loop-id.id-index c.loop-id.lists.txs.items c.push.new.self.items c.loop-id.lists.edges.items c.add_parents.new.edges.items
    c.rate-rate.result parents c.loop-id-test.true order_once once (tells.covers id parents inside c.covers.ensures)
    (tells.rates id inside ∙ sym c.rate-rate.ensures) (rw (to_z-of_z w64 c.rate-rate.result.fee fits) at c.in_ok-push.ensures.items) c.in_ok-add_parents.ensures
    (c.loop-id.invariant level before tells order_once once listed)
