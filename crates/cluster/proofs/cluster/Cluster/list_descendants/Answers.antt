use Rattle.std.proofs.Common.{◌≡◌, ℕ, true, ◌*◌, ◌≤◌, ◌+◌, List, length, arith, rules, sym, ap, subst, ◌<◌}
use Rattle.lists.specs.Distinct.{AreDistinct}
use Rattle.graphs.specs.Closures.{is_ancestor}
use Rattle.bitset.specs.Places.{IsWithin}
use Rattle.graphs.specs.Graphs.{Lists}
use Rattle.cluster.specs.Clusters.{Cluster}
use Rattle.cluster.specs.Named.{named}
use Rattle.cluster.specs.Changes.{IsChosen}
use Rattle.cluster.proofs.At.{at_in, IsAt}
use Rattle.cluster.proofs.Listings.{below_within, below_listed}
use Rattle.cluster.proofs.Rooms.{cluster_room, dep_in_cluster, words_in_cluster}
use Rattle.cluster.proofs.Kept.{place_member}
use Rattle.cluster.proofs.cluster.Cluster.list_descendants.Goals as goal

pub list_chosen-requires : goal.list_chosen-requires
list_chosen-requires g c =
    let within : IsWithin (length c.self.inside.names.items) c.descendants.result = below_within (64 * g.row.W) c.self.inside.names.items
    c.self.inside.dep c.self.invariant.place c.place_of-place.result c.descendants.result c.descendants.ensures in
    let few : length c.self.inside.names.items ≤ 64 * g.row.W = c.self.invariant.place.few in
    let same : length c.as_slice-2.result.now ≡ length c.self.inside.names.items = ap length c.as_slice-2.ensures in
    let room : 64 * g.row.W ≤ length c.args.out.now.ids + c.args.out.now.room = c.requires.room in (
      search rules,
      (
        subst (λ (xs : List ℕ). IsWithin (length xs) c.descendants.result) (sym c.as_slice-2.ensures) within,
        (subst AreDistinct (sym c.as_slice-2.ensures) c.self.invariant.place.once, omega arith),
      ),
    )

pub returns-clause-lists : goal.returns-clause-lists
returns-clause-lists g c =
    let at : IsAt c.self.inside.names.items c.place_of-place.result c.args.id =
    at_in c.as_slice.result.now c.self.inside.names.items c.place_of-place.result c.args.id
    c.as_slice.ensures c.place_of-place.ensures.within c.place_of-place.ensures.here in
    subst (λ (s : Cluster). Lists (λ other. is_ancestor s.graph c.args.id other ≡ true) c.list_chosen.new.out.ids) c.self.view_is
    (subst (λ (x : ℕ). Lists (λ other. is_ancestor (named c.self.inside.names.items c.self.inside.dep) x other ≡ true) c.list_chosen.new.out.ids) at.here
    (below_listed (64 * g.row.W) c.self.inside.names.items c.self.inside.dep c.self.invariant.place
    c.place_of-place.result c.descendants.result c.list_chosen.new.out.ids at.low c.descendants.ensures
    (subst (λ (xs : List ℕ). Lists (IsChosen xs c.descendants.result) c.list_chosen.new.out.ids) c.as_slice-2.ensures c.list_chosen.ensures.lists)))

pub descendants-requires : goal.descendants-requires
descendants-requires g c =
    let fits : cluster_room g.row.W < 9223372036854775808 = search in (
      dep_in_cluster g.row.W fits,
      (
        words_in_cluster g.row.W fits,
        (place_member (64 * g.row.W) c.self.inside.names.items c.self.inside.dep c.self.invariant.place c.place_of-place.result
            (subst (λ (xs : List ℕ). c.place_of-place.result < length xs) c.as_slice.ensures c.place_of-place.ensures.within)),
      ),
    )

pub returns-clause-room : goal.returns-clause-room
returns-clause-room g c = c.list_chosen.ensures.room
