-- One size more is counted.
use Rattle.std.proofs.Common.{◌≡◌, ◌<◌, ℕ, suc, List, length, drop, get_or, min, sym, ap, ◌∙◌, arith, add-one, drop-cons}
use Rattle.graphs.specs.Closures.{rate_of}
use Rattle.fee_rate.specs.declared.rates.FeeRate.{FeeRate}
use Rattle.cluster_store.specs.Changes.{lowest}
use Rattle.cluster_store.proofs.least.lowest_of.Goals as goal

pub loop-at-preserved : goal.loop-at-preserved
loop-at-preserved g c =
    let names = c.args.cluster.now.names in
    let f = λ (id : ℕ). (rate_of c.args.cluster.now.graph id).size in
    let same : c.names-names.result.now ≡ names = c.names-names.ensures.names in
    let below : c.loop-at.at < length names = omega (arith, ap length same) in
    let size : c.rate_at.result.size ≡ f (get_or names c.loop-at.at 0) = ap (λ (r : FeeRate). r.size) c.rate_at.ensures in
    ap (λ n. lowest f (drop n names) c.min-lowest.result) (add-one c.loop-at.at)
    ∙ ap (lowest f (drop (suc c.loop-at.at) names)) (c.min-lowest.ensures ∙ ap (min c.loop-at.lowest) size)
    ∙ sym (ap (λ (xs : List ℕ). lowest f xs c.loop-at.lowest) (drop-cons names c.loop-at.at 0 below)) ∙ c.loop-at.invariant
