-- the clusters that were passed over don't stand in the level
use Rattle.std.proofs.Common.{◌≡◌, flat_map, length}
use Rattle.cluster_store.specs.Names.{clusters_in}
use Rattle.cluster_store.proofs.record_walk.RecordWalkIterator.next.Given as goal

abbrev pub invariant-loop-stored : goal.invariant-loop-stored
invariant-loop-stored g l = flat_map (λ e. clusters_in l.self-inside.level e.1) l.self-inside.clusters ≡ l.fn.self

abbrev pub decreases-loop-stored : goal.decreases-loop-stored
decreases-loop-stored g l = length l.self-inside.clusters
