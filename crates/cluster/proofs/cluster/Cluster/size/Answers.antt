use Rattle.std.proofs.Common.{◌≡◌, ◌*◌, ◌<◌, ◌≤◌, length, arith, ap, subst, ◌∙◌}
use Rattle.fee_rate.specs.declared.limits.TheConstants.{MAX_SIZE}
use Rattle.graphs.specs.Closures.{rate_of}
use Rattle.fee_rate.specs.declared.rates.FeeRate.{FeeRate}
use Rattle.cluster.proofs.Listings.{sizes_more, size_small}
use Rattle.cluster.proofs.Rooms.{cluster_room, dep_in_cluster}
use Rattle.cluster.proofs.Kept.{place_member}
use Rattle.std.specs.Prelude.{sum_by}
use Rattle.std.proofs.lemmas.List.{take_all}
use Rattle.cluster.specs.Clusters.{Cluster}
use Rattle.cluster.specs.Named.{named}
use Rattle.cluster.proofs.cluster.Cluster.size.Goals as goal

pub loop-place-preserved : goal.loop-place-preserved
loop-place-preserved g c =
    let end : c.len-place-end.result ≡ length c.self.inside.names.items = c.len-place-end.ensures.value in
    let low : c.loop-place.place < length c.self.inside.names.items = omega arith in
    let is : c.rate-total.result.size ≡ (rate_of c.self.inside.dep c.loop-place.place).size = ap (λ (rate : FeeRate). rate.size) c.rate-total.ensures in
    let small : c.rate-total.result.size ≤ MAX_SIZE =
    size_small (64 * g.row.W) c.self.inside.names.items c.self.inside.dep c.self.invariant.place c.loop-place.place c.rate-total.result.size low is in
    let so : c.loop-place.total ≤ MAX_SIZE * c.loop-place.place = c.loop-place.invariant.small in
    record {
      sum = sizes_more (64 * g.row.W) c.self.inside.names.items c.self.inside.dep c.self.invariant.place
          c.loop-place.place c.loop-place.total c.rate-total.result.size low is c.loop-place.invariant.sum;
      small = omega arith;
    }

pub rate-total-requires : goal.rate-total-requires
rate-total-requires g c =
    let fits : cluster_room g.row.W < 9223372036854775808 = search in (
      dep_in_cluster g.row.W fits,
      place_member (64 * g.row.W) c.self.inside.names.items c.self.inside.dep c.self.invariant.place c.loop-place.place
          (subst (λ n. c.loop-place.place < n) c.len-place-end.ensures.value c.loop-place-test.true),
    )

pub returns-clause-sum : goal.returns-clause-sum
returns-clause-sum g c =
    let names = c.self.inside.names.items in
    subst (λ (s : Cluster). c.loop-place.total ≡ sum_by (λ id. (rate_of s.graph id).size) s.names) c.self.view_is
    (c.loop-place.invariant.sum
    ∙ ap (sum_by (λ id. (rate_of (named names c.self.inside.dep) id).size))
    (take_all c.loop-place.place names (subst (λ n. n ≤ c.loop-place.place) c.len-place-end.ensures.value c.loop-place-test.false)))
