use Rattle.std.proofs.Common.{◌≡◌, ℕ, ◌<◌, Some, Contains}
use Rattle.std.specs.Prelude.{slice_get}
use Rattle.graphs.specs.Certificates.{Part}
use Rattle.cluster.proofs.cluster.Cluster.part_of.Given as goal

abbrev pub invariant-loop-at : goal.invariant-loop-at
invariant-loop-at g l = (k : ℕ) (part : Part) → k < l.at → slice_get l.self.parts k ≡ Some part → Contains part.ids l.id → ⊥
