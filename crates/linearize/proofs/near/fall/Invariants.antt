use Rattle.std.proofs.Common.{◌≤◌, ◌-◌, length}
use Rattle.linearize.proofs.Falling.{AreBelow}
use Rattle.linearize.proofs.near.fall.Given as goal

abbrev pub invariant-loop-at : goal.invariant-loop-at
invariant-loop-at l = (1 ≤ l.at) × AreBelow l.parts l.at

abbrev pub decreases-loop-at : goal.decreases-loop-at
decreases-loop-at l = length l.parts - l.at
