use Rattle.std.proofs.Common.{take, nat_eq}
use Rattle.std.specs.HashSet as bag
use Rattle.links.specs.Leaving.{NoneEnters}
use Rattle.links.proofs.leaving.some_enter.Given as goal

abbrev pub invariant-loop-pair : goal.invariant-loop-pair
invariant-loop-pair l = NoneEnters (bag.contains nat_eq l.gone) (take l.pair-index l.pairs)
