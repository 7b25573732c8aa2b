-- the graph of the pairs so far
use Rattle.std.proofs.Common.{take}
use Rattle.record.specs.Solving.{StandsFor}
use Rattle.record.proofs.solving.ordered.Given as goal

abbrev pub invariant-loop-at : goal.invariant-loop-at
invariant-loop-at g l = StandsFor l.txs (take l.at l.pairs) l.dep
