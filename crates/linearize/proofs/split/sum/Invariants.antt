use Rattle.std.proofs.Common.{◌*◌}
use Rattle.linearize.proofs.Totals.{Summed}
use Rattle.linearize.proofs.split.sum.Given as goal

abbrev pub invariant-loop-place : goal.invariant-loop-place
invariant-loop-place g l = Summed (64 * g.row.W) l.dep l.within l.yielded l.place-iterator l.fee l.size
