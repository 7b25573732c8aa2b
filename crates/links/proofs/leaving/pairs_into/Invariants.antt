use Rattle.std.proofs.Common.{◌≡◌, take, nat_eq}
use Rattle.std.specs.List.{filter}
use Rattle.std.specs.HashSet as bag
use Rattle.links.proofs.leaving.pairs_into.Given as goal

abbrev pub invariant-loop-pair : goal.invariant-loop-pair
invariant-loop-pair l = l.list.items ≡ filter (λ pair. bag.contains nat_eq l.gone pair.1) (take l.pair-index l.pairs)
