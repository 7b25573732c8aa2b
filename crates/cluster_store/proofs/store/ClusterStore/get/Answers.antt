-- What is shelved under the number is what its slot has.
use Rattle.std.proofs.Common.{◌*◌, ap}
use Rattle.cluster_store.specs.Stores.{Store}
use Rattle.cluster_store.proofs.Found.{read_by, whole_by}
use Rattle.cluster_store.proofs.Sizes.{cluster_fits, stored_fits}
use Rattle.cluster_store.proofs.store.ClusterStore.get.Goals as goal

pub cluster_of-requires : goal.cluster_of-requires
cluster_of-requires g c = (stored_fits g.row.W c.self.invariant.kept.narrow, cluster_fits g.row.W c.self.invariant.kept.narrow)

pub returns-clause-cluster : goal.returns-clause-cluster
returns-clause-cluster g c =
    read_by c.cluster_of.result (λ x. x.now) (λ s. s.cluster) c.self.inside.slots.slots c.args.number c.args.self.now.clusters
    (ap (λ (s : Store). s.clusters) c.self.view_is) c.cluster_of.ensures

pub returns-clause-whole : goal.returns-clause-whole
returns-clause-whole g c =
    whole_by c.cluster_of.result (λ x. x.now) (64 * g.row.W) c.self.inside.slots.slots c.args.number c.self.invariant.kept.whole c.cluster_of.ensures
