use Rattle.links.proofs.Chosen.{IsPut}
use Rattle.links.proofs.gathering.put_pairs.Given as goal

abbrev pub invariant-loop-left : goal.invariant-loop-left
invariant-loop-left l = IsPut l.ways.steps.items l.pairs l.place l.left l.fn.list.items l.list.items

abbrev pub decreases-loop-left : goal.decreases-loop-left
decreases-loop-left l = l.left
