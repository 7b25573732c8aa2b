use Rattle.std.proofs.Common.{◌≡◌, ◌∙◌, sym, subst, ℕ, ◌*◌, ◌<◌, List, length}
use Rattle.graphs.specs.Closures.{is_ancestor}
use Rattle.cluster.specs.Clusters.{Cluster}
use Rattle.cluster.proofs.At.{at_in, above_at}
use Rattle.cluster.proofs.Rooms.{cluster_room, dep_in_cluster}
use Rattle.cluster.proofs.Kept.{place_member}
use Rattle.cluster.proofs.cluster.Cluster.reaches.Goals as goal

pub returns : goal.returns
returns g c =
    c.would_cycle.ensures
    ∙ sym (subst
    (λ (s : Cluster). is_ancestor s.graph c.args.a c.args.b ≡ is_ancestor c.self.inside.dep c.place_of-above.result c.place_of-below.result) c.self.view_is
    (above_at c.self.inside.names.items c.self.inside.dep c.self.invariant.place.once c.place_of-above.result c.place_of-below.result c.args.a c.args.b
    (at_in c.as_slice.result.now c.self.inside.names.items c.place_of-above.result c.args.a
    c.as_slice.ensures c.place_of-above.ensures.within c.place_of-above.ensures.here)
    (at_in c.as_slice-2.result.now c.self.inside.names.items c.place_of-below.result c.args.b
    c.as_slice-2.ensures c.place_of-below.ensures.within c.place_of-below.ensures.here)))

pub would_cycle-requires : goal.would_cycle-requires
would_cycle-requires g c =
    let fits : cluster_room g.row.W < 9223372036854775808 = search in
    let member = place_member (64 * g.row.W) c.self.inside.names.items c.self.inside.dep c.self.invariant.place in
    let above = subst (λ (xs : List ℕ). c.place_of-above.result < length xs) c.as_slice.ensures c.place_of-above.ensures.within in
    let below = subst (λ (xs : List ℕ). c.place_of-below.result < length xs) c.as_slice-2.ensures c.place_of-below.ensures.within in
    (dep_in_cluster g.row.W fits, (member c.place_of-below.result below, member c.place_of-above.result above))
