use Rattle.std.proofs.Common.{◌≡◌, drop}
use Rattle.plain_graph.specs.Plain.{entry_in}
use Rattle.plain_graph.proofs.txs.is_live.Given as goal

abbrev pub invariant-loop-tx : goal.invariant-loop-tx
invariant-loop-tx l = entry_in (drop l.tx-index l.txs) l.id ≡ entry_in l.txs l.id
