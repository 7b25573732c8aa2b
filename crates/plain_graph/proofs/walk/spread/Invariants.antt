use Rattle.plain_graph.proofs.Spreads.{Spreading}
use Rattle.plain_graph.proofs.walk.spread.Given as goal

abbrev pub invariant-loop-id : goal.invariant-loop-id
invariant-loop-id l = Spreading l.way l.pairs l.initial.found l.found

abbrev pub decreases-loop-id : goal.decreases-loop-id
decreases-loop-id l = l.found.room
