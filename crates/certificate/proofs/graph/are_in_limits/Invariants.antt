use Rattle.std.proofs.Common.{ℕ, ◌<◌, get_or, pos}
use Rattle.fee_rate.specs.Limits.{IsFee, IsSize}
use Rattle.certificate.proofs.graph.are_in_limits.Given as goal

abbrev pub invariant-loop-tx : goal.invariant-loop-tx
invariant-loop-tx l = (k : ℕ) → k < l.tx-index → IsFee (get_or l.txs k (0, pos 0, 0)).1 × IsSize (get_or l.txs k (0, pos 0, 0)).2
