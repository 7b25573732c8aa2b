-- what went in for those that are left is in
use Rattle.std.proofs.Common.{map, vec_len}
use Rattle.cluster_store.specs.Stores.{Exchange}
use Rattle.cluster_store.specs.Kept.{IsWide}
use Rattle.cluster_store.specs.Slots.{AreStored}
use Rattle.cluster_store.proofs.clusters.leave_all.Given as goal

abbrev pub invariant-loop-exchange : goal.invariant-loop-exchange
invariant-loop-exchange g l = record {
  there : AreStored (map (λ (x : Exchange). x.number) l.exchanged.items) l.slots.slots;
  wide : IsWide l.slots.slots l.exchanged.items l.index;
}

abbrev pub decreases-loop-exchange : goal.decreases-loop-exchange
decreases-loop-exchange g l = vec_len l.exchanged
