use Rattle.std.proofs.Common.{◌≡◌, ℕ, ◌<◌, slice_index}
use Rattle.bitset.proofs.Operations.{without}
use Rattle.bitset.proofs.bits.Bits.is_subset.Given as goal

abbrev pub invariant-loop-i : goal.invariant-loop-i
invariant-loop-i g l = (k : ℕ) → k < l.i → without (slice_index l.self-inside.words k) (slice_index l.other-inside.words k) ≡ 0
