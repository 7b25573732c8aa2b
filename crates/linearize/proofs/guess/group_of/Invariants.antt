use Rattle.graphs.specs.Closures.{HoldsMembers}
use Rattle.std.specs.FinSet as set
use Rattle.linearize.proofs.guess.group_of.Given as goal

abbrev pub invariant-loop-place : goal.invariant-loop-place
invariant-loop-place g l = HoldsMembers l.dep l.left

abbrev pub decreases-loop-place : goal.decreases-loop-place
decreases-loop-place g l = set.len l.left
