use Rattle.std.proofs.Common.{◌*◌}
use Rattle.linearize.proofs.Places.{Linked}
use Rattle.linearize.proofs.linear.link.Given as goal

abbrev pub invariant-loop-place : goal.invariant-loop-place
invariant-loop-place g l = Linked (64 * g.row.W) l.dep l.members l.parents l.yielded l.place-iterator
