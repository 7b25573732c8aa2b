use Rattle.std.proofs.Common.{◌≤◌, length}
use Rattle.cluster.proofs.Reading.{Reading}
use Rattle.cluster.proofs.order.read.Given as goal

abbrev pub invariant-loop-at : goal.invariant-loop-at
invariant-loop-at g l = Reading l.names l.own_names l.linear l.froms l.known l.shown l.at l.from l.parts.items l.flows.items
    × (length l.shown ≤ l.parts.capacity)
