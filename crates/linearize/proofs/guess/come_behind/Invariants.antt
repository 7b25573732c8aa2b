use Rattle.std.proofs.Common.{◌*◌, ◌≤◌, vec_capacity}
use Rattle.std.specs.FinSet as set
use Rattle.graphs.specs.Closures.{HoldsMembers}
use Rattle.linearize.proofs.guess.come_behind.Given as goal

abbrev pub invariant-loop-first : goal.invariant-loop-first
invariant-loop-first g l =
    HoldsMembers l.dep l.left
    × HoldsMembers l.dep l.above
    × (64 * g.row.W ≤ vec_capacity l.groups)

abbrev pub decreases-loop-first : goal.decreases-loop-first
decreases-loop-first g l = set.len l.above
