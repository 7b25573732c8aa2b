use Rattle.std.proofs.Common.{◌*◌, sym, subst}
use Rattle.cluster.specs.Clusters.{Cluster, IsCluster}
use Rattle.component.proofs.Wider.{IsCluster-widened}
use Rattle.component.proofs.component.Component.single.Goals as goal

pub returns-clause-whole : goal.returns-clause-whole
returns-clause-whole g c =
    subst (λ (s : Cluster). IsCluster (64 * g.row.W) s) (sym c.narrow.ensures)
    (IsCluster-widened g.row.W c.in_ok-cluster.cluster c.work.invariant.0 c.in_ok-cluster.ensures.whole)
