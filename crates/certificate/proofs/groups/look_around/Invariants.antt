use Rattle.std.proofs.Common.{length}
use Rattle.certificate.proofs.Grouping.{IsAround}
use Rattle.certificate.proofs.groups.look_around.Given as goal

abbrev pub invariant-loop-left : goal.invariant-loop-left
invariant-loop-left l =
    IsAround l.steps (length l.fn.walk.groups.items) l.from l.group l.left l.fn.walk.groups.items
    l.fn.walk.waiting.items l.walk.groups.items l.walk.waiting.items

abbrev pub decreases-loop-left : goal.decreases-loop-left
decreases-loop-left l = l.left
