use Rattle.std.proofs.Common.{◌*◌, ◌≤◌, vec_capacity, vec_len}
use Rattle.linearize.proofs.guess.settle_among.Given as goal

abbrev pub invariant-loop-at : goal.invariant-loop-at
invariant-loop-at g l = (l.at ≤ vec_len l.groups) × (64 * g.row.W ≤ vec_capacity l.groups)

abbrev pub decreases-loop-at : goal.decreases-loop-at
decreases-loop-at g l = l.at
