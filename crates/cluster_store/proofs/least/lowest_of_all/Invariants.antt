use Rattle.std.proofs.Common.{◌*◌}
use Rattle.cluster.specs.Clusters.{Cluster}
use Rattle.cluster_store.proofs.Counted.{AreCounted}
use Rattle.cluster_store.proofs.least.lowest_of_all.Given as goal

abbrev pub invariant-loop-at : goal.invariant-loop-at
invariant-loop-at g l = AreCounted (64 * g.row.W) (λ (c : Cluster). c) l.clusters l.fn.least l.at l.lowest
