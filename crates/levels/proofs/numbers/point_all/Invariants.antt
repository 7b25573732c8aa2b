-- the names of the clusters so far have their numbers
use Rattle.std.proofs.Common.{◌≡◌, ◌+◌, ◌≤◌, List, is_some, length, drop}
use Rattle.std.specs.Prelude.{sum_by, OnSome}
use Rattle.std.specs.List.{AllPairs}
use Rattle.cluster.specs.Clusters.{Cluster, AreApart}
use Rattle.staging.specs.Maps.{top_of}
use Rattle.levels.specs.Changes.{AreAt}
use Rattle.levels.specs.Shelves.{stored_at}
use Rattle.levels.proofs.Pointing.{PointsAllTo}
use Rattle.levels.proofs.numbers.point_all.Given as goal

abbrev pub invariant-loop-i : goal.invariant-loop-i
invariant-loop-i g l = record {
  points : (clusters : List Cluster) → AreAt (stored_at l.store.clusters) l.list clusters → AllPairs AreApart clusters
      → PointsAllTo l.i l.list clusters (top_of l.fn.numbers) (top_of l.numbers);
  staged : is_some l.numbers.top ≡ is_some l.fn.numbers.top;
  base : OnSome l.fn.numbers.top (l.numbers.base ≡ l.fn.numbers.base);
  room : (clusters : List Cluster) → AreAt (stored_at l.store.clusters) l.list clusters
      → l.fn.numbers.spare + sum_by (λ c. length c.names) (drop l.i clusters) ≤ l.numbers.spare + sum_by (λ c. length c.names) clusters;
}
