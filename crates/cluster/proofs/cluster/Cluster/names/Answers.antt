use Rattle.std.proofs.Common.{◌*◌, subst}
use Rattle.cluster.specs.Clusters.{Cluster, IsCluster}
use Rattle.cluster.specs.Kept.{cut}
use Rattle.cluster.proofs.Kept.{IsCluster-named}
use Rattle.cluster.proofs.cluster.Cluster.names.Goals as goal

pub returns-clause-whole : goal.returns-clause-whole
returns-clause-whole g c =
    subst (λ (s : Cluster). IsCluster (64 * g.row.W) s) c.self.view_is
    (IsCluster-named (64 * g.row.W) c.self.inside.names.items c.self.inside.dep c.self.invariant.place (cut c.self.inside.order.parts.items
    c.self.inside.order.names.items c.self.inside.order.flows.items) c.self.invariant.ordered.picked c.self.invariant.ordered.uncut)
