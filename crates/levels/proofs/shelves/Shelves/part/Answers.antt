-- What a cluster has at a position stands there.
use Rattle.graphs.specs.declared.names.Level.TheVariants.{Main}
use Rattle.cluster_store.specs.Lent.{lent}
use Rattle.levels.proofs.Places.{part_ordered, part_there, seen_there}
use Rattle.levels.proofs.Rooms.{cluster_fits}
use Rattle.std.proofs.Common.{◌≡◌, arith, Some, sym, ◌∙◌, subst}
use Rattle.std.specs.Prelude.{slice_get}
use Rattle.std.proofs.lemmas.Option.{same_Some, slice_get_within}
use Rattle.cluster.specs.Clusters.{Cluster}
use Rattle.levels.specs.Shelves.{seen_at}
use Rattle.levels.proofs.Shelved.{stands_seen}
use Rattle.levels.proofs.shelves.Shelves.part.Goals as goal

pub returns : goal.returns
returns g c =
    part_there g.row.W c.args.self.now c.requires.order Main c.args.place c.ordered_at.result.now (lent c.part.result)
    (seen_there Main c.args.self.now.store.clusters c.args.place c.requires.there.0 c.ordered_at.result.now c.requires.there.1 c.ordered_at.ensures) c.part.ensures

pub part-requires : goal.part-requires
part-requires g c =
    let old = c.args.self.now.store.clusters in
    let stands = c.requires.there.1 in
    let is : seen_at Main old c.args.place.0 ≡ Some stands.0 = (stands_seen Main old c.args.place.0 stands.0).0 stands.1 in
    let at = seen_there Main old c.args.place c.requires.there.0 c.ordered_at.result.now c.requires.there.1 c.ordered_at.ensures in
    let part =
    subst (λ (d : Cluster). slice_get d.parts c.args.place.1 ≡ Some c.requires.there.0) (same_Some stands.0 c.ordered_at.result.now (sym is ∙ at)) stands.2 in
    (cluster_fits g.row.W c.requires.order.narrow, slice_get_within c.ordered_at.result.now.parts c.args.place.1 c.requires.there.0 part)

pub ordered_at-requires : goal.ordered_at-requires
ordered_at-requires g c = (
  omega arith,
  (cluster_fits g.row.W c.requires.order.narrow, part_ordered Main c.args.self.now.store.clusters c.args.place c.requires.there.0 c.requires.there.1),
)
