use Rattle.std.proofs.Common.{◌≡◌, ◌∙◌, sym, subst, ℕ, ◌*◌, ◌<◌, List, length}
use Rattle.graphs.specs.Closures.{rate_of}
use Rattle.cluster.specs.Clusters.{Cluster}
use Rattle.cluster.proofs.At.{at_in, rate_at}
use Rattle.cluster.proofs.Rooms.{cluster_room, dep_in_cluster}
use Rattle.cluster.proofs.Kept.{place_member}
use Rattle.cluster.proofs.cluster.Cluster.rate.Goals as goal

pub returns : goal.returns
returns g c =
    c.rate.ensures
    ∙ sym (subst (λ (s : Cluster). rate_of s.graph c.args.id ≡ rate_of c.self.inside.dep c.place_of.result) c.self.view_is
    (rate_at c.self.inside.names.items c.self.inside.dep c.self.invariant.place.once c.place_of.result c.args.id
    (at_in c.as_slice.result.now c.self.inside.names.items c.place_of.result c.args.id c.as_slice.ensures c.place_of.ensures.within c.place_of.ensures.here)))

pub rate-requires : goal.rate-requires
rate-requires g c =
    let fits : cluster_room g.row.W < 9223372036854775808 = search in (
      dep_in_cluster g.row.W fits,
      (place_member (64 * g.row.W) c.self.inside.names.items c.self.inside.dep c.self.invariant.place c.place_of.result
          (subst (λ (xs : List ℕ). c.place_of.result < length xs) c.as_slice.ensures c.place_of.ensures.within)),
    )
