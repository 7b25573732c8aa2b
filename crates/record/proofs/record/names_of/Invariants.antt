-- the names so far, with room for the others
use Rattle.std.proofs.Common.{◌≡◌, ◌≤◌, ◌+◌, ◌-◌, length, map, take}
use Rattle.record.proofs.record.names_of.Given as goal

abbrev pub invariant-loop-tx : goal.invariant-loop-tx
invariant-loop-tx l = record {
  names : l.names.items ≡ map (λ tx. tx.0) (take l.tx-index l.txs);
  room : l.names.len + (length l.txs - l.tx-index) ≤ l.names.cap;
}
