-- the members so far
use Rattle.record.specs.Solving.{AreAlone}
use Rattle.record.proofs.solving.members.Given as goal

abbrev pub invariant-loop-at : goal.invariant-loop-at
invariant-loop-at g l = AreAlone l.txs l.at l.dep
