use Rattle.std.proofs.Common.{ℕ, ◌<◌, ◌≤◌}
use Rattle.dump.proofs.Filled.{tx_at}
use Rattle.dump.proofs.loading.are_small.Given as goal

-- the transactions so far are no larger than a cluster may be
abbrev pub invariant-loop-tx : goal.invariant-loop-tx
invariant-loop-tx l = (k : ℕ) → k < l.tx-index → (tx_at l.txs k).2 ≤ l.limits.size
