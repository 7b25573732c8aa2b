use Rattle.std.proofs.Common.{◌*◌}
use Rattle.linearize.specs.Graphs.{sum_from}
use Rattle.linearize.proofs.Totals.{Weighed}
use Rattle.linearize.proofs.split.weigh.Given as goal

abbrev pub invariant-loop-place : goal.invariant-loop-place
invariant-loop-place g l = Weighed (64 * g.row.W) l.dep l.within (sum_from l.whole) l.weights l.yielded l.place-iterator
