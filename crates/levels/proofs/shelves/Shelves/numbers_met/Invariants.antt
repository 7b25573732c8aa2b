-- the numbers that the pairs so far met
use Rattle.std.proofs.Common.{take, nat_eq}
use Rattle.std.specs.HashSet as bag
use Rattle.levels.specs.Gathered.{ListsSet}
use Rattle.levels.proofs.Listing.{Met}
use Rattle.levels.proofs.shelves.Shelves.numbers_met.Given as goal

abbrev pub invariant-loop-pair : goal.invariant-loop-pair
invariant-loop-pair g l = record {
  lists : ListsSet (bag.contains nat_eq l.seen) l.outs.items;
  met : Met l.self (take l.pair-index l.pairs) l.outs.items;
}
