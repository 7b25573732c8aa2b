use Rattle.std.proofs.Common.{◌≡◌, ℕ, ◌<◌, true, length, slice_index, take, Contains}
use Rattle.std.specs.FinSet as set
use Rattle.cluster.proofs.guess.has_some.Given as goal

abbrev pub invariant-loop-at : goal.invariant-loop-at
invariant-loop-at g l = (p : ℕ) → p < length l.names → Contains (take l.at l.ids) (slice_index l.names p) → set.contains l.chosen p ≡ true → ⊥
