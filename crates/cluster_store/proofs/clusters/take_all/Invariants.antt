-- what is past of the numbers is out
use Rattle.std.proofs.Common.{ℕ, None, vec_len}
use Rattle.cluster_store.specs.Kept.{IsShown}
use Rattle.cluster_store.proofs.Done.{IsHalf}
use Rattle.cluster_store.proofs.clusters.take_all.Given as goal

abbrev pub invariant-loop-number : goal.invariant-loop-number
invariant-loop-number g l = record {
  half : IsHalf (λ (n : ℕ). n) (λ n o. None) l.fn.numbers.items l.numbers.items l.fn.slots.slots l.slots.slots;
  shown : IsShown l.slots.slots l.index;
}

abbrev pub decreases-loop-number : goal.decreases-loop-number
decreases-loop-number g l = vec_len l.numbers
