use Rattle.std.proofs.Common.{◌*◌, sym, subst}
use Rattle.cluster.specs.Clusters.{Cluster, IsCluster}
use Rattle.component.proofs.Wider.{IsCluster-widened}
use Rattle.component.proofs.component.Component.with_fee.Goals as goal

pub returns-in_ok-changed-in-Narrow-clause-whole : goal.returns-in_ok-changed-in-Narrow-clause-whole
returns-in_ok-changed-in-Narrow-clause-whole g c =
    subst (λ (s : Cluster). IsCluster (64 * g.row.W) s) (sym c.narrow.ensures)
    (IsCluster-widened g.row.W c.in_ok-changed-in-Narrow.changed c.self.invariant.0 c.in_ok-changed-in-Narrow.ensures.whole)
