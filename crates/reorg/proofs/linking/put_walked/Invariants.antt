-- the pairs with the names that were found stand behind the list, and what is left are the others
use Rattle.std.proofs.Common.{◌↔◌, ℕ, ◌++◌, Contains}
use Rattle.graphs.specs.Graphs.{IsAncestor}
use Rattle.links.specs.Kept.{coming}
use Rattle.links.specs.Leaving.{Adds}
use Rattle.reorg.proofs.Pairing.{Others}
use Rattle.reorg.proofs.linking.put_walked.Given as goal

abbrev pub invariant-loop-d : goal.invariant-loop-d
invariant-loop-d l = record {
  all : (d : ℕ) → Contains (l.yielded ++ coming l.d-iterator) d ↔ IsAncestor l.fn.links.pairs l.id d;
  adds : Adds (Others l.id l.yielded) l.fn.list.items l.list.items;
}
