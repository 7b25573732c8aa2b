use Rattle.std.proofs.Common.{◌≡◌, ◌+◌, length}
use Rattle.plain_graph.proofs.OverLemmas.{AreInNone}
use Rattle.plain_graph.proofs.over.is_over.Given as goal

abbrev pub invariant-loop-tx : goal.invariant-loop-tx
invariant-loop-tx l =
    AreInNone l.limits l.txs l.pairs l.tx-index × (length l.found.ids + l.found.room ≡ length l.fn.found.ids + l.fn.found.room)
