use Rattle.std.proofs.Common.{take}
use Rattle.linearize.specs.Near.{Follow}
use Rattle.linearize.proofs.known.followed.Given as goal

abbrev pub invariant-loop-at : goal.invariant-loop-at
invariant-loop-at g l = Follow l.dep l.members l.done (take l.at l.places) l.all
