use Rattle.std.proofs.Common.{◌≡◌, ◌≤◌, length, map, take, slice_index}
use Rattle.cluster.proofs.order.names_at.Given as goal

abbrev pub invariant-loop-at : goal.invariant-loop-at
invariant-loop-at l = (l.order.items ≡ map (slice_index l.names) (take l.at l.places)) × (length l.places ≤ l.order.capacity)
