use Rattle.std.proofs.Common.{take, []}
use Rattle.plain_graph.specs.Rests.{Puts, IsLeft}
use Rattle.plain_graph.proofs.pairs.without.Given as goal

abbrev pub invariant-loop-parent : goal.invariant-loop-parent
invariant-loop-parent l = Puts (IsLeft (take l.parent-index l.pairs) l.pairs l.id) [] l.list.items
