use Rattle.std.proofs.Common.{arith, ◌+◌, ◌∙◌, ◌+ℤ◌, refl}
use Rattle.fee_rate.specs.declared.rates.Sum.{Sum}
use Rattle.certificate.proofs.RateLemmas.{all_within, sum_range, sum_next}
use Rattle.certificate.proofs.falling.total.Goals as goal

pub add-sum-requires-clause-a_in : goal.add-sum-requires-clause-a_in
add-sum-requires-clause-a_in c =
    let w = all_within c.args.txs.now _ c.args.ids.now c.requires.places c.requires.limits c.requires.members in
    sum_range _ c.args.ids.now c.loop-id.id-index c.loop-id.sum w c.requires.few (omega arith) c.loop-id.invariant

pub add-sum-requires-clause-in_range : goal.add-sum-requires-clause-in_range
add-sum-requires-clause-in_range c =
    let w = all_within c.args.txs.now _ c.args.ids.now c.requires.places c.requires.limits c.requires.members in
    let new : Sum = record { fee = c.loop-id.sum.fee +ℤ c.from.result.fee; size = c.loop-id.sum.size + c.from.result.size } in
    sum_range _ c.args.ids.now (c.loop-id.id-index + 1) new w c.requires.few (omega arith)
    (sum_next _ c.args.ids.now c.loop-id.id-index c.loop-id.sum new _ _ c.loop-id-test.true c.loop-id.invariant
    (c.from.ensures.0 ∙ c.rate_of.ensures.fee) (c.from.ensures.1 ∙ c.rate_of.ensures.size) refl refl)

pub loop-id-preserved : goal.loop-id-preserved
loop-id-preserved c =
    sum_next _ c.args.ids.now c.loop-id.id-index c.loop-id.sum c.add-sum.result _ _ c.loop-id-test.true c.loop-id.invariant
    (c.from.ensures.0 ∙ c.rate_of.ensures.fee) (c.from.ensures.1 ∙ c.rate_of.ensures.size) c.add-sum.ensures.fee c.add-sum.ensures.size
