use Rattle.std.proofs.Common.{◌*◌, ap, ◌∙◌, subst}
use Rattle.graphs.specs.Closures.{rate_of}
use Rattle.cluster.specs.Clusters.{Cluster}
use Rattle.record.specs.Records.{IsRecord}
use Rattle.cluster_store.specs.Stores.{Exchange}
use Rattle.cluster_store.specs.Changes.{lowest}
use Rattle.cluster_store.proofs.Counted.{counted-none, counted-more, counted-least, counted-whole}
use Rattle.cluster_store.proofs.Sizes.{cluster_in_exchange}
use Rattle.cluster_store.proofs.least.lowest_exchanged.Goals as goal

pub loop-at-init : goal.loop-at-init
loop-at-init g c = counted-none (64 * g.row.W) (λ (s : Exchange). s.cluster) c.args.exchanged.now c.args.least

pub loop-at-preserved : goal.loop-at-preserved
loop-at-preserved g c =
    let counted = c.lowest_of-lowest in
    let most = λ (d : Cluster). lowest (λ id. (rate_of d.graph id).size) d.names c.loop-at.lowest in
    counted-more (64 * g.row.W) (λ (s : Exchange). s.cluster) c.args.exchanged.now c.args.least c.loop-at.at c.loop-at.lowest counted.result
    c.index-exchanged-at.result c.loop-at-test.true c.index-exchanged-at.is (counted.ensures.least ∙ ap most c.cluster.ensures)
    (subst (IsRecord (64 * g.row.W)) c.cluster.ensures counted.ensures.whole) c.loop-at.invariant

pub returns-clause-least : goal.returns-clause-least
returns-clause-least g c =
    counted-least (64 * g.row.W) (λ (s : Exchange). s.cluster) c.args.exchanged.now c.args.least c.loop-at.at c.loop-at.lowest
    c.loop-at-test.false c.loop-at.invariant

pub returns-clause-whole : goal.returns-clause-whole
returns-clause-whole g c =
    counted-whole (64 * g.row.W) (λ (s : Exchange). s.cluster) c.args.exchanged.now c.args.least c.loop-at.at c.loop-at.lowest
    c.loop-at-test.false c.loop-at.invariant

pub cluster-requires : goal.cluster-requires
cluster-requires g c = (search, search cluster_in_exchange)

pub lowest_of-lowest-requires : goal.lowest_of-lowest-requires
lowest_of-lowest-requires g c = search cluster_in_exchange
