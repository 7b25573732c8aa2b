use Rattle.std.proofs.Common.{take}
use Rattle.plain_graph.specs.Walks.{IsClosed}
use Rattle.plain_graph.proofs.walk.next_name.Given as goal

abbrev pub invariant-loop-parent : goal.invariant-loop-parent
invariant-loop-parent l = IsClosed l.way (take l.parent-index l.pairs) l.ids
