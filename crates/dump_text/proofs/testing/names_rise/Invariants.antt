use Rattle.std.proofs.Common.{ℕ, ◌+◌, ◌<◌}
use Rattle.dump_text.proofs.Neighbours.{tx_at}
use Rattle.dump_text.proofs.testing.names_rise.Given as goal

abbrev pub invariant-loop-at : goal.invariant-loop-at
invariant-loop-at l = (k : ℕ) → k + 1 < l.at → (tx_at l.txs k).0 < (tx_at l.txs (k + 1)).0
