use Rattle.std.proofs.Common.{rules, sym, ◌∙◌, length, ◌<◌}
use Rattle.certificate.proofs.Seats.{place_in, seats_more, unknown, seated_again}
use Rattle.certificate.proofs.order.take_seats.Goals as goal

pub returns-in_default : goal.returns-in_default
returns-in_default c =
    unknown _ c.args.order.now _ c.loop-rank.rank c.loop-rank-test.true c.requires.places (sym c.find.ensures ∙ c.in_default.is)

pub offset_bounds-seats-place : goal.offset_bounds-seats-place
offset_bounds-seats-place c =
    let in' : c.in-Some.place < length c.loop-rank.seats =
    place_in _ _ c.loop-rank.seats _ _ _ c.requires.places c.loop-rank.invariant (sym c.find.ensures ∙ c.in-Some.is) in
    search rules

pub bounds : goal.bounds
bounds c = place_in _ _ c.loop-rank.seats _ _ _ c.requires.places c.loop-rank.invariant (sym c.find.ensures ∙ c.in-Some.is)

pub returns-in-Some-seats : goal.returns-in-Some-seats
returns-in-Some-seats c =
    seated_again _ c.args.order.now _ c.loop-rank.seats c.loop-rank.rank c.in-Some.place _
    c.loop-rank-test.true c.requires.places (sym c.find.ensures ∙ c.in-Some.is) c.loop-rank.invariant c.in-Some-seats.is

pub offset_bounds-seats-place-in-loop-rank : goal.offset_bounds-seats-place-in-loop-rank
offset_bounds-seats-place-in-loop-rank c =
    let in' : c.in-Some.place < length c.loop-rank.seats =
    place_in _ _ c.loop-rank.seats _ _ _ c.requires.places c.loop-rank.invariant (sym c.find.ensures ∙ c.in-Some.is) in
    search rules

pub bounds-seats-place : goal.bounds-seats-place
bounds-seats-place c = place_in _ _ c.loop-rank.seats _ _ _ c.requires.places c.loop-rank.invariant (sym c.find.ensures ∙ c.in-Some.is)

pub loop-rank-preserved : goal.loop-rank-preserved
loop-rank-preserved c = seats_more _ c.args.order.now _ c.loop-rank.seats c.loop-rank.rank c.in-Some.place c.loop-rank-test.true c.requires.places
    (sym c.find.ensures ∙ c.in-Some.is) c.loop-rank.invariant c.in_default-seats.is
