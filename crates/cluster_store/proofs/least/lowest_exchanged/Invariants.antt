use Rattle.std.proofs.Common.{◌*◌}
use Rattle.cluster_store.specs.Stores.{Exchange}
use Rattle.cluster_store.proofs.Counted.{AreCounted}
use Rattle.cluster_store.proofs.least.lowest_exchanged.Given as goal

abbrev pub invariant-loop-at : goal.invariant-loop-at
invariant-loop-at g l = AreCounted (64 * g.row.W) (λ (s : Exchange). s.cluster) l.exchanged l.fn.least l.at l.lowest
