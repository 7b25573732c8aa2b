use Rattle.std.proofs.Common.{rules, ◌≡◌, ◌<◌, ◌*◌, ◌∙◌, arith, true}
use Rattle.std.specs.FinSet as fin
use Rattle.linearize.proofs.Places.{goes_here, linked_start, linked_more, linked_all}
use Rattle.linearize.proofs.Sizes.{words_fit, offset_fits}
use Rattle.linearize.proofs.linear.link.Goals as goal

pub loop-place-init : goal.loop-place-init
loop-place-init g c = linked_start (64 * g.row.W) _ _ _ _
    (c.into_iter-place-iterator.ensures.into_iter_gives ∙ c.iter-place-items.ensures.places)

pub covers-requires : goal.covers-requires
covers-requires g c = (
  search rules,
  (
    words_fit g.row.W c.requires.narrow,
    c.requires.members c.in-Some.place
        (goes_here (64 * g.row.W) _ _ _ _ c.in-Some.place c.loop-place.invariant.goes c.in-Some.ensures.steps).1,
  ),
)

pub offset_bounds-parents-place : goal.offset_bounds-parents-place
offset_bounds-parents-place g c =
    let here : (c.in-Some.place < 64 * g.row.W) × (fin.contains c.args.members.now c.in-Some.place ≡ true) =
    goes_here (64 * g.row.W) _ _ _ _ c.in-Some.place c.loop-place.invariant.goes c.in-Some.ensures.steps in
    omega (arith, offset_fits g.row.W c.in-Some.place c.requires.narrow here.0)

pub bounds-parents-place : goal.bounds-parents-place
bounds-parents-place g c =
    let here : (c.in-Some.place < 64 * g.row.W) × (fin.contains c.args.members.now c.in-Some.place ≡ true) =
    goes_here (64 * g.row.W) _ _ _ _ c.in-Some.place c.loop-place.invariant.goes c.in-Some.ensures.steps in
    omega (arith, here.0, c.loop-place.auto.parents, c.requires.room)

pub loop-place-preserved : goal.loop-place-preserved
loop-place-preserved g c =
    let here : (c.in-Some.place < 64 * g.row.W) × (fin.contains c.args.members.now c.in-Some.place ≡ true) =
    goes_here (64 * g.row.W) _ _ _ _ c.in-Some.place c.loop-place.invariant.goes c.in-Some.ensures.steps in
    linked_more (64 * g.row.W) _ _ _ _ _ _ c.in-Some.place _ c.loop-place.invariant c.in-Some.ensures.steps
    (omega (arith, here.0, c.loop-place.auto.parents, c.requires.room)) c.covers.ensures

pub returns : goal.returns
returns g c =
    linked_all (64 * g.row.W) _ _ _ _ _ c.iter-place-items.ensures.within
    (omega (arith, c.loop-place.auto.parents, c.requires.room)) c.loop-place.invariant c.in-None.ensures.steps.0
