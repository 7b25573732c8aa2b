-- The slots are those of the clusters under their numbers.
use Rattle.std.proofs.Common.{ℕ, flat_map, ap, ◌∙◌}
use Rattle.cluster_store.specs.Stores.{Store, Stored}
use Rattle.cluster_store.specs.Names.{clusters_in}
use Rattle.cluster_store.proofs.Kept.{shelved_at}
use Rattle.cluster_store.proofs.Names.{are_clusters}
use Rattle.cluster_store.proofs.store.ClusterStore.walk_records.Goals as goal

pub returns : goal.returns
returns g c =
    are_clusters c.args.level c.self.inside.slots c.args.self.now.clusters c.new.result
    (λ n. shelved_at c.self.inside.slots.slots n c.args.self.now.clusters (ap (λ (s : Store). s.clusters) c.self.view_is))
    (c.new.ensures ∙ ap (flat_map (λ (e : ℕ × Stored). clusters_in c.args.level e.1)) c.iter.ensures.rest)
