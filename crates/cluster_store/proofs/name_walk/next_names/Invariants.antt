-- the clusters that were passed over have no names in the level
use Rattle.std.proofs.Common.{◌≡◌, flat_map}
use Rattle.cluster_store.proofs.name_walk.next_names.Given as goal

abbrev pub invariant-loop-cluster : goal.invariant-loop-cluster
invariant-loop-cluster g l =
    (goal.iterator-loop-cluster g).can_next l.clusters
    × (goal.iterator-loop-cluster g).is_finite l.clusters
    × (flat_map (λ e. g.T.HasNames.names l.level e.1) l.fn.clusters ≡ flat_map (λ e. g.T.HasNames.names l.level e.1) l.clusters)
