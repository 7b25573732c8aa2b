use Rattle.std.proofs.Common.{◌≡◌, ◌++◌, take, drop, map}
use Rattle.plain_graph.specs.Rests.{paying}
use Rattle.plain_graph.proofs.txs.set_fee.Given as goal

abbrev pub invariant-loop-tx : goal.invariant-loop-tx
invariant-loop-tx l = l.tx-items ≡ map (paying l.id l.fee) (take l.tx-index l.fn.txs.items) ++ drop l.tx-index l.fn.txs.items
