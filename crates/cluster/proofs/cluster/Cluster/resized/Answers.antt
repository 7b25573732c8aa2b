use Rattle.std.proofs.Common.{◌*◌, ◌<◌, ◌≤◌, ◌∙◌, length, sym, subst}
use Rattle.cluster.specs.Clusters.{Cluster}
use Rattle.cluster.specs.Kept.{cut}
use Rattle.cluster.proofs.Kept.{IsCluster-named}
use Rattle.cluster.proofs.Resizing.{members_within, kept_copied}
use Rattle.cluster.proofs.Rooms.{cluster_room, dep_in_cluster}
use Rattle.cluster.proofs.cluster.Cluster.resized.Goals as goal

pub resized-requires : goal.resized-requires
resized-requires g c =
    let few : length c.self.inside.names.items ≤ 64 * g.row.V = subst (λ (s : Cluster). length s.names ≤ 64 * g.row.V) (sym c.self.view_is) c.requires in (
      (let fits : cluster_room g.row.W < 9223372036854775808 = search in dep_in_cluster g.row.W fits),
      (
        (let fits : cluster_room g.row.V < 9223372036854775808 = search in dep_in_cluster g.row.V fits),
        members_within (64 * g.row.W) (64 * g.row.V) c.self.inside.names.items c.self.inside.dep c.self.invariant.place few,
      ),
    )

pub invariant_of-result : goal.invariant_of-result
invariant_of-result g c =
    let few : length c.self.inside.names.items ≤ 64 * g.row.V = subst (λ (s : Cluster). length s.names ≤ 64 * g.row.V) (sym c.self.view_is) c.requires in
    kept_copied (c.in_ok-names.ensures.ok ∙ c.as_slice.ensures) c.in_ok-dep.ensures.same c.in_ok-order.ensures.parts c.in_ok-order.ensures.names
    c.in_ok-order.ensures.flows (64 * g.row.W) (64 * g.row.V) c.self.invariant few

pub returns-clause-whole : goal.returns-clause-whole
returns-clause-whole g c =
    let kept = invariant_of-result g c in
    IsCluster-named (64 * g.row.V) c.in_ok-names.names.items c.in_ok-dep.dep kept.place (cut c.in_ok-order.order.parts.items
    c.in_ok-order.order.names.items c.in_ok-order.order.flows.items) kept.ordered.picked kept.ordered.uncut
