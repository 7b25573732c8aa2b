use Rattle.std.proofs.Common.{◌↔◌, ℕ, ◌<◌}
use Rattle.std.specs.Prelude.{Contains}
use Rattle.trimming.specs.Nets.{IsParent}
use Rattle.trimming.proofs.counts.first_counts.Given as goal

abbrev pub invariant-loop-place : goal.invariant-loop-place
invariant-loop-place l = (p : ℕ) → Contains l.ready.keys p ↔ ((p < l.place) × ((a : ℕ) → IsParent l.net a p → ⊥))
