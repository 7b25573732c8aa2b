use Rattle.std.proofs.Common.{length}
use Rattle.certificate.specs.Groups.{GoesOn, HasGroup, work_of}
use Rattle.certificate.proofs.groups.walk_from.Given as goal

abbrev pub invariant-loop-from : goal.invariant-loop-from
invariant-loop-from l =
    GoesOn l.steps (length l.fn.walk.groups.items) l.place l.fn.walk.groups.items l.walk.groups.items
    l.walk.waiting.items
    × HasGroup (length l.fn.walk.groups.items) l.walk.groups.items l.place

abbrev pub decreases-loop-from : goal.decreases-loop-from
decreases-loop-from l = work_of (length l.fn.walk.groups.items) l.walk.groups.items l.walk.waiting.items
