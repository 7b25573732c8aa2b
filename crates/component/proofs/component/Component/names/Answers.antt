use Rattle.std.proofs.Common.{◌*◌, subst}
use Rattle.cluster.specs.Clusters.{Cluster, IsCluster}
use Rattle.component.proofs.Kept.{narrow_is}
use Rattle.component.proofs.Wider.{IsCluster-widened}
use Rattle.component.proofs.component.Component.names.Goals as goal

pub returns-in-Narrow-clause-whole : goal.returns-in-Narrow-clause-whole
returns-in-Narrow-clause-whole g c =
    subst (λ (s : Cluster). IsCluster (64 * g.row.W) s) (narrow_is c.self.inside.kept c.in-Narrow.cluster c.args.self.now c.in-Narrow.is c.self.view_is)
    (IsCluster-widened g.row.W c.in-Narrow.cluster c.self.invariant.0 c.names.ensures.whole)
