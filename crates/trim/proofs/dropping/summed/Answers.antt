-- One more of the names.
use Rattle.std.proofs.Common.{◌+◌, ◌+ℤ◌, ◌∙◌, ap, refl, arith}
use Rattle.fee_rate.specs.declared.rates.FeeRate.{FeeRate}
use Rattle.fee_rate.specs.declared.rates.Sum.{Sum}
use Rattle.trim.proofs.Summing.{front_in_range, sum_next}
use Rattle.trim.proofs.dropping.summed.Goals as goal

pub add-sum-requires-clause-a_in : goal.add-sum-requires-clause-a_in
add-sum-requires-clause-a_in g c =
    front_in_range _ c.args.ids.now c.requires.rates c.requires.few c.loop-id.id-index c.loop-id.sum (omega arith) c.loop-id.invariant

pub add-sum-requires-clause-in_range : goal.add-sum-requires-clause-in_range
add-sum-requires-clause-in_range g c =
    let new : Sum = record { fee = c.loop-id.sum.fee +ℤ c.from.result.fee; size = c.loop-id.sum.size + c.from.result.size } in
    front_in_range _ c.args.ids.now c.requires.rates c.requires.few (c.loop-id.id-index + 1) new (omega arith)
    (sum_next _ c.args.ids.now c.requires.rates c.requires.few c.loop-id.id-index c.loop-id.sum new c.from.result.fee c.from.result.size
    c.loop-id-test.true c.loop-id.invariant (c.from.ensures.0 ∙ ap (λ (r : FeeRate). r.fee) c.rate.ensures)
    (c.from.ensures.1 ∙ ap (λ (r : FeeRate). r.size) c.rate.ensures) refl refl)

pub loop-id-preserved : goal.loop-id-preserved
loop-id-preserved g c =
    sum_next _ c.args.ids.now c.requires.rates c.requires.few c.loop-id.id-index c.loop-id.sum c.add-sum.result c.from.result.fee c.from.result.size
    c.loop-id-test.true c.loop-id.invariant (c.from.ensures.0 ∙ ap (λ (r : FeeRate). r.fee) c.rate.ensures)
    (c.from.ensures.1 ∙ ap (λ (r : FeeRate). r.size) c.rate.ensures) c.add-sum.ensures.fee c.add-sum.ensures.size
