-- those without an order are listed still, and those that are left stand there
use Rattle.cluster_store.specs.Unordered.{ListsUnordered}
use Rattle.cluster_store.proofs.unordered.tidy.Given as goal

abbrev pub invariant-loop-left : goal.invariant-loop-left
invariant-loop-left g l = ListsUnordered l.over l.slots.slots

abbrev pub decreases-loop-left : goal.decreases-loop-left
decreases-loop-left g l = l.left
