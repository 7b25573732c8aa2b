use Rattle.std.proofs.Common.{◌≡◌, nat_eq, take, []}
use Rattle.std.specs.HashSet as bag
use Rattle.links.specs.Leaving.{Adds, CrossesOne}
use Rattle.links.proofs.leaving.bridged.Given as goal

abbrev pub invariant-loop-pair : goal.invariant-loop-pair
invariant-loop-pair l = record {
  same : l.inner ≡ l.fn.inner;
  adds : Adds (CrossesOne (bag.contains nat_eq l.gone) l.fn.inner.pairs (take l.pair-index l.pairs)) [] l.list.items;
}
