-- the pairs with the names so far stand behind the list
use Rattle.std.proofs.Common.{take}
use Rattle.links.specs.Leaving.{Adds}
use Rattle.reorg.proofs.Pairing.{Others}
use Rattle.reorg.proofs.making.put_others.Given as goal

abbrev pub invariant-loop-d : goal.invariant-loop-d
invariant-loop-d l = Adds (Others l.id (take l.d-index l.below)) l.fn.list.items l.list.items
