-- what is past is exchanged, and what is left waits
use Rattle.std.proofs.Common.{vec_len}
use Rattle.cluster_store.specs.Stores.{Exchange}
use Rattle.cluster_store.specs.Kept.{IsWide}
use Rattle.cluster_store.specs.Changes.{with_cluster}
use Rattle.cluster_store.proofs.Done.{IsHalf}
use Rattle.cluster_store.proofs.clusters.finish.Given as goal

abbrev pub invariant-loop-exchange : goal.invariant-loop-exchange
invariant-loop-exchange g l = record {
  half : IsHalf (λ (x : Exchange). x.number) (λ x. with_cluster x.cluster) l.fn.exchanged.items l.exchanged.items l.fn.slots.slots l.slots.slots;
  wide : IsWide l.slots.slots l.exchanged.items l.index;
}

abbrev pub decreases-loop-exchange : goal.decreases-loop-exchange
decreases-loop-exchange g l = vec_len l.exchanged
