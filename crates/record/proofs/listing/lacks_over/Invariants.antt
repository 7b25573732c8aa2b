-- the ancestors so far are listed, and what is left are the others
use Rattle.std.proofs.Common.{◌↔◌, ℕ, ◌++◌, Contains}
use Rattle.graphs.specs.Graphs.{IsAncestor}
use Rattle.links.specs.Kept.{coming}
use Rattle.record.proofs.listing.lacks_over.Given as goal

abbrev pub invariant-loop-above : goal.invariant-loop-above
invariant-loop-above g l = record {
  all : (a : ℕ) → Contains (l.yielded ++ coming l.above-iterator) a ↔ IsAncestor l.fn.links.pairs a l.id;
  listed : (a : ℕ) → Contains l.yielded a → g.T.Listing.listed l.listing a;
}
