-- the clusters of the names so far lost them
use Rattle.std.proofs.Common.{length}
use Rattle.levels.proofs.Partway.{IsPartway}
use Rattle.levels.proofs.shelves.Shelves.leave.Given as goal

abbrev pub invariant-loop-coming : goal.invariant-loop-coming
invariant-loop-coming g l = IsPartway g.row.W l.self l.initial.coming l.coming l.left.outs.items l.left.rest.items l.left.last l.fn.steps l.steps

abbrev pub decreases-loop-coming : goal.decreases-loop-coming
decreases-loop-coming g l = length l.coming
