-- none so far is over the limits
use Rattle.record.specs.Restoring.{NoneOver}
use Rattle.record.proofs.restoring.refused_over.Given as goal

abbrev pub invariant-loop-at : goal.invariant-loop-at
invariant-loop-at l = NoneOver l.limits l.parts l.at
