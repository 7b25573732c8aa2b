use Rattle.std.proofs.Common.{◌*◌, ◌≤◌, vec_capacity}
use Rattle.graphs.specs.Closures.{HoldsMembers}
use Rattle.linearize.proofs.guess.arrange.Given as goal

abbrev pub invariant-loop-at : goal.invariant-loop-at
invariant-loop-at g l = HoldsMembers l.dep l.left × (64 * g.row.W ≤ vec_capacity l.groups)
