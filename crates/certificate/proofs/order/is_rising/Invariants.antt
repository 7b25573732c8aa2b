use Rattle.std.proofs.Common.{ℕ, ◌<◌, slice_index}
use Rattle.places.specs.Chains.{pair_at}
use Rattle.certificate.proofs.order.is_rising.Given as goal

abbrev pub invariant-loop-pair : goal.invariant-loop-pair
invariant-loop-pair l = (k : ℕ) → k < l.pair-index → slice_index l.ranks (pair_at l.pairs k).0 < slice_index l.ranks (pair_at l.pairs k).1
