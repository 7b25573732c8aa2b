-- the pairs of the names so far
use Rattle.std.proofs.Common.{take}
use Rattle.record.specs.Parents.{ArePairsAbove}
use Rattle.record.proofs.over.pairs_of.Given as goal

abbrev pub invariant-loop-at : goal.invariant-loop-at
invariant-loop-at g l = ArePairsAbove l.component.graph (take l.at l.names) l.pairs.items
