use Rattle.std.proofs.Common.{◌*◌, List, ap, ◌∙◌}
use Rattle.std.proofs.lemmas.List.{map-id}
use Rattle.cluster.specs.Clusters.{Cluster}
use Rattle.cluster_store.specs.Changes.{lowest_in}
use Rattle.cluster_store.proofs.Counted.{counted-none, counted-more, counted-least, counted-whole}
use Rattle.cluster_store.proofs.least.lowest_of_all.Goals as goal

pub loop-at-init : goal.loop-at-init
loop-at-init g c = counted-none (64 * g.row.W) (λ (d : Cluster). d) c.args.clusters.now c.args.least

pub loop-at-preserved : goal.loop-at-preserved
loop-at-preserved g c =
    let counted = c.lowest_of-lowest in
    counted-more (64 * g.row.W) (λ (d : Cluster). d) c.args.clusters.now c.args.least c.loop-at.at c.loop-at.lowest counted.result
    c.index-clusters-at.result c.loop-at-test.true c.index-clusters-at.is counted.ensures.least counted.ensures.whole c.loop-at.invariant

pub returns-clause-least : goal.returns-clause-least
returns-clause-least g c =
    counted-least (64 * g.row.W) (λ (d : Cluster). d) c.args.clusters.now c.args.least c.loop-at.at c.loop-at.lowest c.loop-at-test.false c.loop-at.invariant
    ∙ ap (λ (xs : List Cluster). lowest_in xs c.args.least) (map-id c.args.clusters.now)

pub returns-clause-whole : goal.returns-clause-whole
returns-clause-whole g c =
    counted-whole (64 * g.row.W) (λ (d : Cluster). d) c.args.clusters.now c.args.least c.loop-at.at c.loop-at.lowest c.loop-at-test.false c.loop-at.invariant
