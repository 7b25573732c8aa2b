use Rattle.std.proofs.Common.{length}
use Rattle.links.specs.Walkers.{IsWalking}
use Rattle.links.proofs.Around.{IsAround}
use Rattle.links.proofs.walker.look_around.Given as goal

abbrev pub invariant-loop-left : goal.invariant-loop-left
invariant-loop-left l = record {
  walking : IsWalking (length l.fn.walker.marks.items) l.walker;
  around : IsAround l.ways.steps.items l.from l.left l.fn.walker.found.items l.walker.found.items;
}

abbrev pub decreases-loop-left : goal.decreases-loop-left
decreases-loop-left l = l.left
