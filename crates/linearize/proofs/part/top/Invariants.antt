use Rattle.std.proofs.Common.{◌≡◌, true}
use Rattle.std.specs.FinSet as fin
use Rattle.graphs.specs.Closures.{ancestors_of}
use Rattle.linearize.proofs.part.top.Given as goal

abbrev pub invariant-loop-next : goal.invariant-loop-next
invariant-loop-next g l = fin.contains l.left l.place ≡ true

abbrev pub decreases-loop-next : goal.decreases-loop-next
decreases-loop-next g l = fin.len (fin.intersection (ancestors_of l.dep l.place) l.left)
