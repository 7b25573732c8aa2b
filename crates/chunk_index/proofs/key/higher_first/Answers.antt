use Rattle.std.proofs.Common.{◌≡◌, pos, ◌*ℤ◌, max, ap, ◌∙◌}
use Rattle.std.specs.declared.cmp.Ordering.{Ordering}
use Rattle.std.specs.declared.cmp.Ordering.TheVariants.{Less, Equal, Greater}
use Rattle.std.specs.Ordering.{int_cmp}
use Rattle.std.specs.Cmp.{int_cmp_is}
use Rattle.fee_rate.specs.declared.rates.FeeRate.{FeeRate}
use Rattle.fee_rate.specs.Rates.{sum_from, ComparesRates}
use Rattle.chunk_index.proofs.key.higher_first.Goals as goal

-- which of two rates is the lower one is how their products compare
by_products : (a b : FeeRate) (o : Ordering) → ComparesRates (sum_from a) (sum_from b) o → o ≡ int_cmp (a.fee *ℤ pos b.size) (b.fee *ℤ pos a.size)
by_products a b Less h = int_cmp_is (a.fee *ℤ pos b.size) (b.fee *ℤ pos a.size) Less h.crossed
by_products a b Equal h = int_cmp_is (a.fee *ℤ pos b.size) (b.fee *ℤ pos a.size) Equal h.crossed
by_products a b Greater h = int_cmp_is (a.fee *ℤ pos b.size) (b.fee *ℤ pos a.size) Greater h.crossed

pub returns : goal.returns
returns c =
    let x = c.counted.result in
    let y = c.counted-2.result in
    by_products x y c.cmp_rates.result c.cmp_rates.ensures
    ∙ ap (λ (r : FeeRate). int_cmp (r.fee *ℤ pos y.size) (y.fee *ℤ pos r.size)) c.counted.ensures
    ∙ ap (λ (r : FeeRate). int_cmp (c.args.b.fee *ℤ pos r.size) (r.fee *ℤ pos (max 1 c.args.b.size))) c.counted-2.ensures
