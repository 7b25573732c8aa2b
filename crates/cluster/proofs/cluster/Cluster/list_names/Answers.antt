use Rattle.std.proofs.Common.{◌≡◌, ℕ, ◌*◌, ◌≤◌, ◌+◌, List, length, arith, rules, ◌∙◌, sym, ap, subst, Contains, ◌<◌}
use Rattle.lists.specs.Distinct.{AreDistinct}
use Rattle.bitset.specs.Places.{first_places, IsWithin}
use Rattle.graphs.specs.Graphs.{Lists}
use Rattle.cluster.specs.Clusters.{Cluster}
use Rattle.cluster.specs.Changes.{IsChosen}
use Rattle.cluster.proofs.Listings.{all_within, all_listed}
use Rattle.cluster.proofs.Rooms.{cluster_room, words_in_cluster}
use Rattle.cluster.proofs.cluster.Cluster.list_names.Goals as goal

pub list_chosen-requires : goal.list_chosen-requires
list_chosen-requires g c =
    let within : IsWithin (length c.self.inside.names.items) c.first_n-all.result =
    all_within (64 * g.row.W) c.self.inside.names.items c.self.inside.dep c.self.invariant.place c.first_n-all.result
    (c.first_n-all.ensures ∙ ap first_places c.len.ensures.value) in
    let few : length c.self.inside.names.items ≤ 64 * g.row.W = c.self.invariant.place.few in
    let same : length c.as_slice.result.now ≡ length c.self.inside.names.items = ap length c.as_slice.ensures in
    let room : 64 * g.row.W ≤ length c.args.out.now.ids + c.args.out.now.room = c.requires in (
      search rules,
      (
        subst (λ (xs : List ℕ). IsWithin (length xs) c.first_n-all.result) (sym c.as_slice.ensures) within,
        (subst AreDistinct (sym c.as_slice.ensures) c.self.invariant.place.once, omega arith),
      ),
    )

pub returns-clause-lists : goal.returns-clause-lists
returns-clause-lists g c =
    subst (λ (s : Cluster). Lists (λ id. Contains s.names id) c.list_chosen.new.out.ids) c.self.view_is
    (all_listed (64 * g.row.W) c.self.inside.names.items c.self.inside.dep c.self.invariant.place c.first_n-all.result c.list_chosen.new.out.ids
    (c.first_n-all.ensures ∙ ap first_places c.len.ensures.value)
    (subst (λ (xs : List ℕ). Lists (IsChosen xs c.first_n-all.result) c.list_chosen.new.out.ids) c.as_slice.ensures c.list_chosen.ensures.lists))

pub first_n-all-requires : goal.first_n-all-requires
first_n-all-requires g c =
    let fits : cluster_room g.row.W < 9223372036854775808 = search in
    let few : length c.self.inside.names.items ≤ 64 * g.row.W = c.self.invariant.place.few in
    (words_in_cluster g.row.W fits, subst (λ n. n ≤ 64 * g.row.W) (sym c.len.ensures.value) few)

pub returns-clause-room : goal.returns-clause-room
returns-clause-room g c = c.list_chosen.ensures.room
