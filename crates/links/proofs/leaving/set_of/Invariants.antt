use Rattle.std.proofs.Common.{take, nat_eq}
use Rattle.std.specs.HashSet as bag
use Rattle.links.specs.Leaving.{Tells}
use Rattle.links.proofs.leaving.set_of.Given as goal

abbrev pub invariant-loop-id : goal.invariant-loop-id
invariant-loop-id l = Tells (bag.contains nat_eq l.gone) (take l.id-index l.names)
