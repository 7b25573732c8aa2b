use Rattle.std.proofs.Common.{◌≡◌, map, take}
use Rattle.cluster.specs.Orders.{at_positions}
use Rattle.cluster.proofs.order.move_flows.Given as goal

abbrev pub invariant-loop-at : goal.invariant-loop-at
invariant-loop-at l = l.moved.items ≡ map (at_positions l.positions) (take l.at l.own)
