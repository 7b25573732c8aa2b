-- The rate at a place is that of the name that stands there.
use Rattle.std.proofs.Common.{◌≡◌, ◌<◌, ◌*◌, ◌∙◌, refl, sym, subst, length, slice_index}
use Rattle.graphs.specs.Closures.{rate_of}
use Rattle.cluster.specs.Clusters.{Cluster}
use Rattle.cluster.proofs.At.{rate_at}
use Rattle.cluster.proofs.Rooms.{cluster_room, dep_in_cluster}
use Rattle.cluster.proofs.Kept.{place_member}
use Rattle.cluster.proofs.cluster.Cluster.rate_at.Goals as goal

pub rate-requires : goal.rate-requires
rate-requires g c =
    let fits : cluster_room g.row.W < 9223372036854775808 = search in
    let low : c.args.at < length c.self.inside.names.items = subst (λ (s : Cluster). c.args.at < length s.names) (sym c.self.view_is) c.requires in (
      dep_in_cluster g.row.W fits,
      place_member (64 * g.row.W) c.self.inside.names.items c.self.inside.dep c.self.invariant.place c.args.at low,
    )

pub returns : goal.returns
returns g c =
    let low : c.args.at < length c.self.inside.names.items = subst (λ (s : Cluster). c.args.at < length s.names) (sym c.self.view_is) c.requires in
    c.rate.ensures
    ∙ sym (subst (λ (s : Cluster). rate_of s.graph (slice_index s.names c.args.at) ≡ rate_of c.self.inside.dep c.args.at) c.self.view_is
    (rate_at c.self.inside.names.items c.self.inside.dep c.self.invariant.place.once c.args.at (slice_index c.self.inside.names.items c.args.at)
    (record { low = low; here = refl })))
