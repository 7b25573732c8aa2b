-- none so far has more names
use Rattle.std.proofs.Common.{◌<◌, ◌≤◌, ℕ, length, get_or}
use Rattle.cluster.specs.Clusters.{Cluster}
use Rattle.levels.proofs.left.largest.Given as goal

abbrev pub invariant-loop-i : goal.invariant-loop-i
invariant-loop-i g l = record {
  place : l.best < length l.clusters;
  most : (k : ℕ) (d : Cluster) → k < l.i → length (get_or l.clusters k d).names ≤ length (get_or l.clusters l.best d).names;
}
