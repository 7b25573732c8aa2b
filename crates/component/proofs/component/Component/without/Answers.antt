use Rattle.std.proofs.Common.{◌*◌, List, lit<, sym, subst}
use Rattle.std.specs.Prelude.{All, Contains}
use Rattle.cluster.specs.Clusters.{Cluster, IsCluster}
use Rattle.component.proofs.Kept.{handed, narrow_is, wide_is}
use Rattle.component.proofs.Sizes.{cluster_fits, work_fits}
use Rattle.component.proofs.Wider.{AreClusters-widened}
use Rattle.component.proofs.component.Component.without.Goals as goal

pub without-requires : goal.without-requires
without-requires g c = (
  lit< tt,
  (
    lit< tt,
    (
      search,
      λ id here. subst (λ (s : Cluster). Contains s.names id)
          (sym (narrow_is c.self.inside.kept c.in-Narrow.cluster c.args.self.now c.in-Narrow.is c.self.view_is)) (c.requires id here),
    ),
  ),
)

pub without-requires-in-Wide : goal.without-requires-in-Wide
without-requires-in-Wide g c = (
  cluster_fits g.row.W c.self.invariant.1,
  (
    work_fits g.row.W c.self.invariant.1,
    (
      search,
      λ id here. subst (λ (s : Cluster). Contains s.names id)
          (sym (wide_is c.self.inside.kept c.in-Wide.wide c.deref.result.now c.args.self.now c.in-Wide.is c.self.view_is c.deref.ensures))
          (c.requires id here),
    ),
  ),
)

pub returns-in_ok-left-in-Narrow-clause-whole : goal.returns-in_ok-left-in-Narrow-clause-whole
returns-in_ok-left-in-Narrow-clause-whole g c =
    handed (λ (all : List Cluster). All (IsCluster (64 * g.row.W)) all) c.into_vec.result.items c.narrow_all.result c.narrow_all.ensures
    (subst (λ (all : List Cluster). All (IsCluster (64 * g.row.W)) all) (sym c.into_vec.ensures)
    (AreClusters-widened g.row.W c.in_ok-left-in-Narrow.left c.self.invariant.0 c.in_ok-left-in-Narrow.ensures.whole))
