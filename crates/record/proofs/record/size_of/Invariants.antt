-- the sizes so far
use Rattle.std.proofs.Common.{◌≡◌, take}
use Rattle.std.specs.Prelude.{sum_by}
use Rattle.record.proofs.record.size_of.Given as goal

abbrev pub invariant-loop-tx : goal.invariant-loop-tx
invariant-loop-tx l = l.total ≡ sum_by (λ tx. tx.2) (take l.tx-index l.txs)
