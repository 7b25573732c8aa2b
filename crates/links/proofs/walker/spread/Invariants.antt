use Rattle.std.proofs.Common.{◌-◌, length}
use Rattle.links.specs.Walkers.{IsWalking}
use Rattle.links.proofs.Marks.{IsOnWay}
use Rattle.links.proofs.walker.spread.Given as goal

abbrev pub invariant-loop-done : goal.invariant-loop-done
invariant-loop-done l = record {
  walking : IsWalking (length l.fn.walker.marks.items) l.walker;
  way : IsOnWay l.ways.steps.items l.fn.walker.found.items l.done l.walker.found.items;
}

abbrev pub decreases-loop-done : goal.decreases-loop-done
decreases-loop-done l = length l.fn.walker.marks.items - l.done
