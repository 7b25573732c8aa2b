use Rattle.std.proofs.Common.{◌≡◌, ◌++◌, map, take}
use Rattle.cluster.specs.Orders.{at_positions, named_at}
use Rattle.cluster.proofs.order.name_risen.Given as goal

abbrev pub invariant-loop-at : goal.invariant-loop-at
invariant-loop-at l =
    l.flows.items ≡ l.initial.flows.items ++ map (named_at l.order) (map (at_positions l.positions) (take l.at l.own))
