-- the transactions so far, with room for the others
use Rattle.std.proofs.Common.{◌≡◌, ◌≤◌, ◌+◌, ◌-◌, length, map, take}
use Rattle.record.specs.Parents.{tx_of}
use Rattle.record.proofs.over.txs_of.Given as goal

abbrev pub invariant-loop-at : goal.invariant-loop-at
invariant-loop-at g l = record {
  txs : l.txs.items ≡ map (tx_of l.component.graph) (take l.at l.names);
  room : l.txs.len + (length l.names - l.at) ≤ l.txs.cap;
}
