-- the first ones have an order
use Rattle.std.proofs.Common.{◌≡◌, take, [], Contains}
use Rattle.cluster.specs.Clusters.{Cluster}
use Rattle.cluster_store.proofs.unordered.has_unordered.Given as goal

abbrev pub invariant-loop-at : goal.invariant-loop-at
invariant-loop-at g l = (c : Cluster) → Contains (take l.at l.clusters) c → c.parts ≡ [] → ⊥
