use Rattle.std.proofs.Common.{◌≡◌, ◌≤◌, length, lit<, sym, subst}
use Rattle.std.specs.Prelude.{Contains}
use Rattle.cluster.specs.Clusters.{Cluster}
use Rattle.component.proofs.Kept.{narrow_is, wide_is}
use Rattle.component.proofs.Sizes.{cluster_fits}
use Rattle.component.proofs.component.Component.add_kin.Goals as goal

pub add_kin-requires : goal.add_kin-requires
add_kin-requires g c =
    let same : c.args.self.now ≡ c.in-Narrow.cluster = sym (narrow_is c.self.inside.kept c.in-Narrow.cluster c.args.self.now c.in-Narrow.is c.self.view_is) in (
      lit< tt,
      (
        λ id here. subst (λ (s : Cluster). Contains s.names id) same (c.requires.ids id here),
        subst (λ (s : Cluster). length s.names ≤ c.args.out.now.room) same c.requires.room,
      ),
    )

pub add_kin-requires-in-Wide : goal.add_kin-requires-in-Wide
add_kin-requires-in-Wide g c =
    let same : c.args.self.now ≡ c.deref.result.now =
    sym (wide_is c.self.inside.kept c.in-Wide.wide c.deref.result.now c.args.self.now c.in-Wide.is c.self.view_is c.deref.ensures) in (
      cluster_fits g.row.W c.self.invariant.1,
      (
        λ id here. subst (λ (s : Cluster). Contains s.names id) same (c.requires.ids id here),
        subst (λ (s : Cluster). length s.names ≤ c.args.out.now.room) same c.requires.room,
      ),
    )
