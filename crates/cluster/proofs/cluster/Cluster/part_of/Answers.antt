use Rattle.std.proofs.Common.{◌*◌, ◌<◌, arith, subst}
use Rattle.std.proofs.lemmas.Option.{slice_get-get_or}
use Rattle.std.proofs.Common.{ap, ◌∙◌, Some}
use Rattle.cluster.specs.Clusters.{IsCluster}
use Rattle.cluster.specs.Kept.{cut}
use Rattle.cluster.proofs.Kept.{IsCluster-named}
use Rattle.cluster.proofs.Placed.{in_order, in_a_part}
use Rattle.cluster.proofs.Rooms.{cluster_room}
use Rattle.cluster.proofs.cluster.Cluster.part_of.Goals as goal

pub unreachable-requires : goal.unreachable-requires
unreachable-requires g c =
    let whole : IsCluster (64 * g.row.W) c.args.self.now =
    subst (IsCluster (64 * g.row.W)) c.self.view_is
    (IsCluster-named (64 * g.row.W) c.self.inside.names.items c.self.inside.dep c.self.invariant.place
    (cut c.self.inside.order.parts.items c.self.inside.order.names.items c.self.inside.order.flows.items)
    c.self.invariant.ordered.picked c.self.invariant.ordered.uncut) in
    let found = in_a_part c.args.self.now.parts c.args.id (in_order (64 * g.row.W) c.args.self.now whole c.args.id c.requires) in
    let low = found.1 in
    let count = c.part_count-at-end.ensures in
    let end = c.loop-at-test.false in
    c.loop-at.invariant low.0 found.0 (omega (arith, low.1, count, end))
    (slice_get-get_or c.args.self.now.parts low.0 found.0 low.1 ∙ ap (λ (p : Rattle.graphs.specs.Certificates.Part). Some p) low.2) found.2

pub part_count-at-end-requires : goal.part_count-at-end-requires
part_count-at-end-requires g c = let fits : cluster_room g.row.W < 9223372036854775808 = search in fits

pub part-requires : goal.part-requires
part-requires g c =
    let fits : cluster_room g.row.W < 9223372036854775808 = search in
    (fits, subst (λ n. c.loop-at.at < n) c.part_count-at-end.ensures c.loop-at-test.true)
