use Rattle.std.proofs.Common.{rules, ◌≡◌, ℕ, ◌*◌, List, flat_map, length, sym, ap₂, ◌∙◌, subst, subst₂, ◌<◌}
use Rattle.std.specs.List.{filter}
use Rattle.graphs.specs.Closures.{IsCover}
use Rattle.graphs.specs.Certificates.{Part}
use Rattle.cluster.specs.Clusters.{Cluster}
use Rattle.cluster.specs.Kept.{cut}
use Rattle.cluster.specs.Named.{named}
use Rattle.cluster.specs.Covers.{has_chosen, AreToCome, ListsInOrder}
use Rattle.cluster.proofs.At.{IsAt, at_in}
use Rattle.cluster.proofs.Nearest.{order_to_come, order_covers}
use Rattle.cluster.proofs.Rooms.{cluster_room, dep_in_cluster, words_in_cluster}
use Rattle.cluster.proofs.Kept.{place_member}
use Rattle.cluster.proofs.cluster.Cluster.covers.Goals as goal

pub new-requires : goal.new-requires
new-requires g c =
    let come : AreToCome (64 * g.row.W) c.self.inside.names.items c.self.inside.order.names.items c.covers.result =
    order_to_come (64 * g.row.W) c.self.inside.names.items c.self.inside.dep c.self.inside.order.parts.items
    c.self.inside.order.names.items c.self.inside.order.flows.items c.self.invariant c.covers.result c.place_of.result c.covers.ensures in
    let here : AreToCome (64 * g.row.W) c.as_slice-names.result.now c.as_slice.result.now c.covers.result =
    subst₂ (λ (names ids : List ℕ). AreToCome (64 * g.row.W) names ids c.covers.result) (sym c.as_slice-names.ensures) (sym c.as_slice.ensures) come in
    (search rules, (search rules, here))

pub returns : goal.returns
returns g c =
    let at : IsAt c.self.inside.names.items c.place_of.result c.args.id =
    at_in c.as_slice-names.result.now c.self.inside.names.items c.place_of.result c.args.id
    c.as_slice-names.ensures c.place_of.ensures.within c.place_of.ensures.here in
    let same : c.new.result ≡ filter (has_chosen c.self.inside.names.items c.covers.result) c.self.inside.order.names.items =
    c.new.ensures ∙ ap₂ (λ (names order : List ℕ). filter (has_chosen names c.covers.result) order) c.as_slice-names.ensures c.as_slice.ensures in
    subst (λ (s : Cluster). ListsInOrder (λ a. IsCover s.graph a c.args.id) (flat_map (λ part. part.ids) s.parts) c.new.result) c.self.view_is
    (subst (λ (ids : List ℕ). ListsInOrder (λ a. IsCover (named c.self.inside.names.items c.self.inside.dep) a c.args.id) (flat_map (λ (part : Part). part.ids)
    (cut c.self.inside.order.parts.items c.self.inside.order.names.items c.self.inside.order.flows.items)) ids) (sym same)
    (order_covers (64 * g.row.W) c.self.inside.names.items c.self.inside.dep c.self.inside.order.parts.items
    c.self.inside.order.names.items c.self.inside.order.flows.items c.self.invariant
    c.covers.result c.place_of.result c.args.id at.low at.here c.covers.ensures))

pub covers-requires : goal.covers-requires
covers-requires g c =
    let fits : cluster_room g.row.W < 9223372036854775808 = search in (
      dep_in_cluster g.row.W fits,
      (
        words_in_cluster g.row.W fits,
        (place_member (64 * g.row.W) c.self.inside.names.items c.self.inside.dep c.self.invariant.place c.place_of.result
            (subst (λ (xs : List ℕ). c.place_of.result < length xs) c.as_slice-names.ensures c.place_of.ensures.within)),
      ),
    )
