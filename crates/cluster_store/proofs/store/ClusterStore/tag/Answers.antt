-- What is shelved under the number is what its slot has.
use Rattle.std.proofs.Common.{ap}
use Rattle.cluster_store.specs.Stores.{Store}
use Rattle.cluster_store.proofs.Found.{read_by}
use Rattle.cluster_store.proofs.Sizes.{stored_fits}
use Rattle.cluster_store.proofs.store.ClusterStore.tag.Goals as goal

pub tag_of-requires : goal.tag_of-requires
tag_of-requires g c = stored_fits g.row.W c.self.invariant.kept.narrow

pub returns : goal.returns
returns g c =
    read_by c.tag_of.result (λ t. t) (λ s. s.tag) c.self.inside.slots.slots c.args.number c.args.self.now.clusters
    (ap (λ (s : Store). s.clusters) c.self.view_is) c.tag_of.ensures
