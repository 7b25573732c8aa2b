use Rattle.std.proofs.Common.{◌*◌, ◌<◌, length, sym, subst, arith}
use Rattle.graphs.specs.Closures.{Closure}
use Rattle.cluster.specs.Changes.{TakesNames}
use Rattle.cluster.specs.Clusters.{Cluster, IsCluster}
use Rattle.component.proofs.Packed.{TakesNames-wider}
use Rattle.component.proofs.Wider.{IsCluster-widened, one_word_within}
use Rattle.component.proofs.component.Component.whole.Goals as goal

pub returns-then-names-le-NARROW-clause-graph : goal.returns-then-names-le-NARROW-clause-graph
returns-then-names-le-NARROW-clause-graph g c =
    subst (λ (s : Cluster). TakesNames (64 * g.row.W) c.args.dep.now c.args.names.now s) (sym c.narrow-then-names-le-NARROW.ensures)
    (TakesNames-wider 64 (64 * g.row.W) c.args.dep.now c.args.names.now c.in_ok-cluster.cluster (one_word_within g.row.W c.work.invariant.0)
    (λ p here. let low : p < length c.args.names.now = c.requires.packed p here in omega (arith, low, c.if-names-le-NARROW.true))
    (subst (λ (dep : Closure). TakesNames 64 dep c.args.names.now c.in_ok-cluster.cluster) c.in_ok-narrow.ensures.same c.in_ok-cluster.ensures.graph))

pub returns-then-names-le-NARROW-clause-whole : goal.returns-then-names-le-NARROW-clause-whole
returns-then-names-le-NARROW-clause-whole g c =
    subst (λ (s : Cluster). IsCluster (64 * g.row.W) s) (sym c.narrow-then-names-le-NARROW.ensures)
    (IsCluster-widened g.row.W c.in_ok-cluster.cluster c.work.invariant.0 c.in_ok-cluster.ensures.whole)
