use Rattle.std.proofs.Common.{rules, ◌≡◌, ◌∙◌, ◌+◌, ◌*◌, ◌^◌, ◌<◌, cond, sym, ap, arith, eq-eqb, ne_eqb}
use Rattle.std.specs.FinSet as fin
use Rattle.bitset.specs.Places.{places}
use Rattle.bitset.specs.Sets.{IsRising-places, len-places, places-here}
use Rattle.dep_graph.specs.Moves.{standing, has_power}
use Rattle.dep_graph.proofs.Moving.{Counting-start, Counting-more, Counting-all, Choosing-start, Choosing-more}
use Rattle.dep_graph.proofs.Moving.{next_split, next_within, next_low, next_standing, next_stands_below, next_has_power}
use Rattle.dep_graph.proofs.numbering.moving.Goals as goal
use Rattle.dep_graph.proofs.numbering.moving.Goals.{then-left-eq1, else-left-eq1}

pub loop-place-init : goal.loop-place-init
loop-place-init g c =
    let ps = places (64 * g.row.W) c.args.within.now in (
      Counting-start ps _ (c.into_iter-place-iterator.ensures.into_iter_gives ∙ c.iter-place-items.ensures.places),
      Choosing-start ps (IsRising-places (64 * g.row.W) c.args.within.now) c.args.power _ c.empty-moving.ensures,
    )

pub overflow_sub-left : goal.overflow_sub-left
overflow_sub-left g c = next_low c.loop-place.invariant.0 c.in-Some.ensures.steps (IsRising-places (64 * g.row.W) c.args.within.now)

pub insert-requires : goal.insert-requires
insert-requires g c =
    let n = 64 * g.row.W in
    let rise = IsRising-places n c.args.within.now in
    let inside : c.in-Some.place < 64 * g.row.W =
    (places-here n c.args.within.now _ _ c.in-Some.place (sym (next_split c.loop-place.invariant.0 c.in-Some.ensures.steps))).0 in
    let is = next_standing c.loop-place.invariant.0 c.in-Some.ensures.steps rise c.args.power (search rules) in
    (search rules, omega (arith, is, next_stands_below c.loop-place.invariant.0 c.in-Some.ensures.steps rise c.args.power))

pub overflow_add-number-in-loop-place : goal.overflow_add-number-in-loop-place
overflow_add-number-in-loop-place g c =
    let within = next_within c.loop-place.invariant.0 c.in-Some.ensures.steps in
    let few : c.loop-place.number + 1 < 2 ^ 64 =
    omega (arith, within, len-places (64 * g.row.W) c.args.within.now c.iter-place-items.ensures.within, c.requires.fits) in
    search rules

pub loop-place-preserved : goal.loop-place-preserved
loop-place-preserved g c =
    let ps = places (64 * g.row.W) c.args.within.now in
    let rise = IsRising-places (64 * g.row.W) c.args.within.now in
    let number = c.loop-place.number in
    let more = fin.insert c.loop-place.moving (standing ps c.args.power number) in
    let has = next_has_power c.loop-place.invariant.0 c.in-Some.ensures.steps rise c.args.power in (
      Counting-more c.loop-place.invariant.0 c.in-Some.ensures.steps _ (omega arith),
      Choosing-more ps rise c.args.power _ _ number (next_within c.loop-place.invariant.0 c.in-Some.ensures.steps) c.loop-place.invariant.1
          (elim c.if-left-eq1.branch as (λ _. c.if-left-eq1.moving ≡ cond (has_power ps c.args.power number) more c.loop-place.moving) [
            | then-left-eq1 w ↦
                w.moving-is ∙ w.insert.ensures
                ∙ ap (fin.insert c.loop-place.moving) (next_standing c.loop-place.invariant.0 c.in-Some.ensures.steps rise c.args.power (search rules))
                ∙ sym (ap (λ b. cond b more c.loop-place.moving) (has ∙ eq-eqb _ 1 w.if-left-eq1.true))
            | else-left-eq1 w ↦ w.moving-is ∙ sym (ap (λ b. cond b more c.loop-place.moving) (has ∙ ne_eqb _ 1 w.if-left-eq1.false))
          ]),
    )

pub returns : goal.returns
returns g c i low =
    c.loop-place.invariant.1.here i (omega (arith, c.loop-place.invariant.0.number_is, Counting-all c.loop-place.invariant.0 c.in-None.ensures.steps.0))
