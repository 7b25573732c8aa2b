-- A cluster, and the room in which clusters are made, fit in memory at each width that there is.
use Rattle.std.proofs.Common.{rules, ℕ, ◌≤◌}
use Rattle.std.specs.Mem.{FitsInMemory}
use Rattle.cluster.specs.contracts.cluster.Cluster as cluster
use Rattle.cluster.specs.contracts.work.Work as work
use denote.Param.{param, number}

pub cluster_fits : (w : ℕ) → w ≤ 64 → FitsInMemory (cluster.the_row (param 0 (number w)))
cluster_fits w narrow = search rules

pub work_fits : (w : ℕ) → w ≤ 64 → FitsInMemory (work.the_row (param 0 (number w)))
work_fits w narrow = search rules
