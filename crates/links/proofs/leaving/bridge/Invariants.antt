-- the names that were found stand behind the list, and what is left are the others
use Rattle.std.proofs.Common.{◌≡◌, ◌↔◌, ℕ, false, nat_eq, ◌++◌, Contains}
use Rattle.std.specs.HashSet as bag
use Rattle.graphs.specs.Graphs.{IsAncestor}
use Rattle.links.specs.Kept.{coming}
use Rattle.links.specs.Leaving.{Adds}
use Rattle.links.proofs.leaving.bridge.Given as goal

abbrev pub invariant-loop-above : goal.invariant-loop-above
invariant-loop-above l = record {
  all : (a : ℕ) → Contains (l.yielded ++ coming l.above-iterator) a ↔ IsAncestor l.fn.inner.pairs a l.parent;
  adds : Adds (λ a b. Contains l.yielded a × (b ≡ l.child) × (bag.contains nat_eq l.gone a ≡ false)) l.fn.list.items l.list.items;
}
