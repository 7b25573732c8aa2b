use Rattle.std.proofs.Common.{◌*◌, subst}
use Rattle.cluster.specs.Clusters.{Cluster}
use Rattle.cluster.specs.Named.{IsNamed}
use Rattle.cluster.proofs.cluster.Cluster.dep.Goals as goal

pub returns-clause-places : goal.returns-clause-places
returns-clause-places g c = subst (λ (s : Cluster). IsNamed (64 * g.row.W) s.names c.self.inside.dep) c.self.view_is c.self.invariant.place
