use Rattle.std.proofs.Common.{ℕ, ◌<◌}
use Rattle.fee_rate.specs.Limits.{IsFee, IsSize}
use Rattle.dump_text.proofs.Neighbours.{tx_at}
use Rattle.dump_text.proofs.testing.are_in_range.Given as goal

abbrev pub invariant-loop-tx : goal.invariant-loop-tx
invariant-loop-tx l = (k : ℕ) → k < l.tx-index → IsFee (tx_at l.txs k).1 × IsSize (tx_at l.txs k).2
