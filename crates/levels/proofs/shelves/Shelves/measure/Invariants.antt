-- the clusters of the names before the cut were counted, with their names
use Rattle.levels.proofs.Kins.{IsMeasured}
use Rattle.levels.proofs.shelves.Shelves.measure.Given as goal

abbrev pub invariant-loop-left : goal.invariant-loop-left
invariant-loop-left g l = record { way : IsMeasured l.fn.level l.fn.self l.fn.ids l.left l.clusters l.names }

abbrev pub decreases-loop-left : goal.decreases-loop-left
decreases-loop-left g l = Rattle.std.proofs.Common.length l.left
