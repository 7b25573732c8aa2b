use Rattle.std.specs.FinSet as fin
use Rattle.dep_graph.proofs.Covers.{CoversSoFar}
use Rattle.dep_graph.proofs.graph.DepGraph.covers.Given as goal

abbrev pub invariant-loop-middle : goal.invariant-loop-middle
invariant-loop-middle g l = CoversSoFar l.self l.initial.covers l.covers l.to_come

abbrev pub decreases-loop-middle : goal.decreases-loop-middle
decreases-loop-middle g l = fin.len l.to_come
