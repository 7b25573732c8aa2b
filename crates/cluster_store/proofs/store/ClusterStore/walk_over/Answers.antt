-- The numbers that are listed are those of the clusters without an order, and some more.
use Rattle.std.proofs.Common.{ap, ◌∙◌}
use Rattle.cluster_store.specs.Stores.{Store}
use Rattle.cluster_store.specs.Overs.{lacking_in, lacking_of}
use Rattle.cluster_store.proofs.Kept.{shelved_at}
use Rattle.cluster_store.proofs.Overs.{are_lacking}
use Rattle.cluster_store.proofs.store.ClusterStore.walk_over.Goals as goal

pub returns : goal.returns
returns g c =
    are_lacking c.args.level c.self.inside.slots.slots c.self.inside.over.keys c.args.self.now.clusters c.new.result
    (λ n. shelved_at c.self.inside.slots.slots n c.args.self.now.clusters (ap (λ (s : Store). s.clusters) c.self.view_is))
    c.as_slice.ensures.unique c.self.invariant.unordered
    (c.new.ensures ∙ ap (lacking_of (lacking_in c.args.level) c.self.inside.slots.slots) c.as_slice.ensures.keys)
