-- the ancestors so far are listed, and what is left are the others
use Rattle.std.proofs.Common.{◌≡◌, ◌↔◌, ℕ, true, ◌++◌, Contains}
use Rattle.graphs.specs.Closures.{is_ancestor}
use Rattle.record.proofs.listing.lacks_within.Given as goal

abbrev pub invariant-loop-above : goal.invariant-loop-above
invariant-loop-above g l = record {
  all : (a : ℕ) → Contains (l.yielded ++ l.above-iterator) a ↔ (is_ancestor l.component.graph a l.id ≡ true);
  listed : (a : ℕ) → Contains l.yielded a → g.T.Listing.listed l.listing a;
}
