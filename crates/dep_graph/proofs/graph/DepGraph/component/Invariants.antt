use Rattle.std.specs.FinSet as fin
use Rattle.graphs.specs.Closures.{IsNear}
use Rattle.dep_graph.proofs.Components.{Searched}
use Rattle.dep_graph.proofs.graph.DepGraph.component.Given as goal

abbrev pub invariant-loop-next : goal.invariant-loop-next
invariant-loop-next g l = Searched (IsNear l.self l.within) l.within l.fn.place l.reached l.done

abbrev pub decreases-loop-next : goal.decreases-loop-next
decreases-loop-next g l = fin.len (fin.difference l.within l.done)
