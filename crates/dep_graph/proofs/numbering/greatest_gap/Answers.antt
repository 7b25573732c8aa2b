use Rattle.std.proofs.Common.{rules, ◌∙◌, ◌+◌, ◌*◌, ◌^◌, ◌<◌, arith}
use Rattle.bitset.specs.Places.{places}
use Rattle.bitset.specs.Sets.{IsRising-places, len-places}
use Rattle.dep_graph.proofs.Moving.{Counting-start, Counting-more, Counting-all, next_within, next_low, next_gap, greatest_more}
use Rattle.dep_graph.proofs.numbering.greatest_gap.Goals as goal

pub loop-place-init : goal.loop-place-init
loop-place-init g c = (
  Counting-start (places (64 * g.row.W) c.args.within.now) _ (c.into_iter-place-iterator.ensures.into_iter_gives ∙ c.iter-place-items.ensures.places),
  λ i before. absurd (omega arith),
)

pub overflow_sub-greatest : goal.overflow_sub-greatest
overflow_sub-greatest g c = next_low c.loop-place.invariant.0 c.in-Some.ensures.steps (IsRising-places (64 * g.row.W) c.args.within.now)

pub overflow_add-number : goal.overflow_add-number
overflow_add-number g c =
    let within = next_within c.loop-place.invariant.0 c.in-Some.ensures.steps in
    let few : c.loop-place.number + 1 < 2 ^ 64 =
    omega (arith, within, len-places (64 * g.row.W) c.args.within.now c.iter-place-items.ensures.within, c.requires) in
    search rules

pub loop-place-preserved : goal.loop-place-preserved
loop-place-preserved g c =
    let rise = IsRising-places (64 * g.row.W) c.args.within.now in (
      Counting-more c.loop-place.invariant.0 c.in-Some.ensures.steps _ (omega arith),
      greatest_more (places (64 * g.row.W) c.args.within.now) rise c.loop-place.number _ c.loop-place.yielded c.in-Some.place
          c.loop-place.invariant.0.number_is (next_within c.loop-place.invariant.0 c.in-Some.ensures.steps)
          (next_gap c.loop-place.invariant.0 c.in-Some.ensures.steps rise),
    )

pub returns-clause-most : goal.returns-clause-most
returns-clause-most g c i low = c.loop-place.invariant.1 i (omega (arith, Counting-all c.loop-place.invariant.0 c.in-None.ensures.steps.0))
