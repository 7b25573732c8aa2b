use Rattle.std.proofs.Common.{◌≡◌, ◌+◌, take, length}
use Rattle.plain_graph.proofs.walk.reach.Given as goal

abbrev pub invariant-loop-id : goal.invariant-loop-id
invariant-loop-id l = (l.found.ids ≡ take l.id-index l.starts) × (l.id-index + l.found.room ≡ length l.fn.found.ids + l.fn.found.room)
