use Rattle.std.proofs.Common.{take}
use Rattle.plain_graph.specs.Rests.{Puts, IsToChild}
use Rattle.plain_graph.proofs.pairs.join.Given as goal

abbrev pub invariant-loop-from : goal.invariant-loop-from
invariant-loop-from l = Puts (IsToChild (take l.from-index l.pairs) l.id l.parent) l.fn.list.items l.list.items
