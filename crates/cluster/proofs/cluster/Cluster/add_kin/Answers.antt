use Rattle.std.proofs.Common.{ℕ, ◌*◌, ◌<◌, List, Contains, sym, subst}
use Rattle.graphs.specs.Unions.{IsKinOfSome, PutsBehind}
use Rattle.cluster.specs.Clusters.{Cluster}
use Rattle.cluster.specs.Named.{named, IsNamed}
use Rattle.cluster.specs.Changes.{IsChosen}
use Rattle.cluster.proofs.Kins.{puts_for}
use Rattle.cluster.proofs.Rooms.{cluster_room, dep_in_cluster, words_in_cluster}
use Rattle.cluster.proofs.cluster.Cluster.add_kin.Goals as goal

pub kin_places-requires : goal.kin_places-requires
kin_places-requires g c =
    let fits : cluster_room g.row.W < 9223372036854775808 = search in (
      dep_in_cluster g.row.W fits,
      (
        words_in_cluster g.row.W fits,
        (
          subst (λ (xs : List ℕ). IsNamed (64 * g.row.W) xs c.self.inside.dep) (sym c.as_slice-names.ensures) c.self.invariant.place,
          λ id here. subst (λ (xs : List ℕ). Contains xs id) (sym c.as_slice-names.ensures)
              (subst (λ (s : Cluster). Contains s.names id) (sym c.self.view_is) (c.requires.ids id here)),
        ),
      ),
    )

pub returns-clause-adds : goal.returns-clause-adds
returns-clause-adds g c =
    subst (λ (s : Cluster). PutsBehind (IsKinOfSome c.args.kin s.graph c.args.ids.now) c.args.out.now.ids c.add_chosen.new.out.ids) c.self.view_is
    (subst (λ (xs : List ℕ). PutsBehind (IsKinOfSome c.args.kin (named xs c.self.inside.dep) c.args.ids.now) c.args.out.now.ids c.add_chosen.new.out.ids)
    c.as_slice-names.ensures
    (puts_for (IsChosen c.as_slice-names.result.now c.kin_places.result) (IsKinOfSome c.args.kin (named c.as_slice-names.result.now c.self.inside.dep) c.args.ids.now)
    c.args.out.now.ids c.add_chosen.new.out.ids c.kin_places.ensures.exact c.add_chosen.ensures.adds))
