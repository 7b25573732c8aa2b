use Rattle.std.proofs.Common.{take, nat_eq}
use Rattle.std.specs.HashMap as hash
use Rattle.places.specs.Places.{AreSteps}
use Rattle.places.proofs.names.steps_of.Given as goal

abbrev pub invariant-loop-pair : goal.invariant-loop-pair
invariant-loop-pair l = AreSteps (hash.get nat_eq l.places) (take l.pair-index l.pairs) l.steps.items
