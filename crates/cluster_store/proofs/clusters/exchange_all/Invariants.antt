-- what the first ones have beside the old ones is in
use Rattle.std.proofs.Common.{take}
use Rattle.cluster_store.specs.Kept.{IsWide}
use Rattle.cluster_store.proofs.clusters.exchange_all.Given as goal

abbrev pub invariant-loop-at : goal.invariant-loop-at
invariant-loop-at g l = IsWide l.slots.slots (take l.at l.exchanged.items) l.index
