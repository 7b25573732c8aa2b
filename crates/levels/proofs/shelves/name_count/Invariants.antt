-- the names so far, and so many more
use Rattle.std.proofs.Common.{◌≡◌, ◌+◌, length, take}
use Rattle.std.specs.Prelude.{sum_by}
use Rattle.levels.proofs.shelves.name_count.Given as goal

abbrev pub invariant-loop-cluster : goal.invariant-loop-cluster
invariant-loop-cluster g l = l.count ≡ sum_by (λ c. length c.names) (take l.cluster-index l.clusters) + l.more
