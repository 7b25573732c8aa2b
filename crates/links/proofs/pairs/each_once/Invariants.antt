use Rattle.std.proofs.Common.{ℕ, take}
use Rattle.std.specs.Prelude.{Contains, ◌↔◌}
use Rattle.std.specs.HashSet as bag
use Rattle.links.specs.Pairs.{ListsSet}
use Rattle.links.proofs.pairs.each_once.Given as goal
use Rattle.lists.specs.Pairs.{same_pair}

abbrev pub invariant-loop-pair : goal.invariant-loop-pair
invariant-loop-pair l = record {
  lists : ListsSet (bag.contains same_pair l.seen) l.list.items;
  first : (q : ℕ × ℕ) → Contains l.list.items q ↔ Contains (take l.pair-index l.pairs) q;
}
