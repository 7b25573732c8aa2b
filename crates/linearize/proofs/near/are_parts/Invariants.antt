use Rattle.std.proofs.Common.{◌*◌}
use Rattle.linearize.specs.Steps.{AreAtLeast}
use Rattle.linearize.proofs.Trials.{Stands}
use Rattle.linearize.proofs.near.are_parts.Given as goal

abbrev pub invariant-loop-group : goal.invariant-loop-group
invariant-loop-group g l =
    Stands (64 * g.row.W) l.dep l.guess.parts.items l.guess.places.items l.members l.done l.draft l.froms.items l.fn.steps l.steps
    × AreAtLeast 0 l.fn.scratch l.scratch l.fn.steps l.steps
