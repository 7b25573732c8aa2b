-- The names of the places of the ancestors are those of the ancestors by names.
use Rattle.std.proofs.Common.{rules, ◌≡◌, ◌↔◌, ℕ, true, ◌*◌, ◌<◌, List, length, map, slice_index, Contains, sym, ap, ◌∙◌, subst}
use Rattle.graphs.specs.Closures.{is_ancestor}
use Rattle.bitset.specs.Places.{IsWithin, places}
use Rattle.cluster.specs.Clusters.{Cluster}
use Rattle.cluster.specs.Named.{named}
use Rattle.cluster.proofs.At.{at_in, IsAt}
use Rattle.cluster.proofs.Listings.{above_within, above_named}
use Rattle.cluster.proofs.Rooms.{cluster_room, dep_in_cluster, words_in_cluster}
use Rattle.cluster.proofs.Kept.{place_member}
use Rattle.cluster.proofs.cluster.Cluster.ancestors.Goals as goal

pub ancestors-requires : goal.ancestors-requires
ancestors-requires g c =
    let fits : cluster_room g.row.W < 9223372036854775808 = search in (
      dep_in_cluster g.row.W fits,
      (
        words_in_cluster g.row.W fits,
        (place_member (64 * g.row.W) c.self.inside.names.items c.self.inside.dep c.self.invariant.place c.place_of.result
            (subst (λ (xs : List ℕ). c.place_of.result < length xs) c.as_slice-names.ensures c.place_of.ensures.within)),
      ),
    )

pub new-requires : goal.new-requires
new-requires g c =
    let within : IsWithin (length c.self.inside.names.items) c.ancestors.result = above_within (64 * g.row.W) c.self.inside.names.items
    c.self.inside.dep c.self.invariant.place c.place_of.result c.ancestors.result c.ancestors.ensures in
    (search rules, (search rules, subst (λ (xs : List ℕ). IsWithin (length xs) c.ancestors.result) (sym c.as_slice-names.ensures) within))

pub returns : goal.returns
returns g c =
    let at : IsAt c.self.inside.names.items c.place_of.result c.args.id =
    at_in c.as_slice-names.result.now c.self.inside.names.items c.place_of.result c.args.id
    c.as_slice-names.ensures c.place_of.ensures.within c.place_of.ensures.here in
    let same : c.new.result ≡ map (slice_index c.self.inside.names.items) (places (64 * g.row.W) c.ancestors.result) =
    c.new.ensures ∙ ap (λ (xs : List ℕ). map (slice_index xs) (places (64 * g.row.W) c.ancestors.result)) c.as_slice-names.ensures in
    subst (λ (s : Cluster). (a : ℕ) → Contains c.new.result a ↔ (is_ancestor s.graph a c.args.id ≡ true)) c.self.view_is
    (subst (λ (ids : List ℕ). (a : ℕ) → Contains ids a ↔ (is_ancestor (named c.self.inside.names.items c.self.inside.dep) a c.args.id ≡ true)) (sym same)
    (subst (λ (x : ℕ). (a : ℕ) → Contains (map (slice_index c.self.inside.names.items) (places (64 * g.row.W) c.ancestors.result)) a
    ↔ (is_ancestor (named c.self.inside.names.items c.self.inside.dep) a x ≡ true)) at.here
    (above_named (64 * g.row.W) c.self.inside.names.items c.self.inside.dep c.self.invariant.place c.place_of.result c.ancestors.result at.low c.ancestors.ensures)))
