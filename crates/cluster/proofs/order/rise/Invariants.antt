use Rattle.std.proofs.Common.{◌≤◌}
use Rattle.cluster.proofs.Rising.{RiseTo}
use Rattle.cluster.proofs.order.rise.Given as goal

abbrev pub invariant-loop-at : goal.invariant-loop-at
invariant-loop-at l = (1 ≤ l.at) × RiseTo l.positions l.own l.at
