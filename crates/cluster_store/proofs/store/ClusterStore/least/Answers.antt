-- What is kept of the slots holds of the clusters by their numbers.
use Rattle.std.proofs.Common.{◌*◌, subst}
use Rattle.cluster_store.specs.Stores.{Store, AreWhole, IsLeast}
use Rattle.cluster_store.proofs.Kept.{shelved_least, shelved_whole}
use Rattle.cluster_store.proofs.store.ClusterStore.least.Goals as goal

pub returns-clause-least : goal.returns-clause-least
returns-clause-least g c =
    subst (λ (s : Store). IsLeast s.clusters c.self.inside.least) c.self.view_is
    (shelved_least g.row.W c.self.inside.slots.slots c.self.inside.index c.self.inside.least c.self.invariant.kept)

pub returns-clause-whole : goal.returns-clause-whole
returns-clause-whole g c =
    subst (λ (s : Store). AreWhole (64 * g.row.W) s.clusters) c.self.view_is
    (shelved_whole g.row.W c.self.inside.slots.slots c.self.inside.index c.self.inside.least c.self.invariant.kept)
