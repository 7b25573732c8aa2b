-- the parents so far have their pairs, and what is left are the others
use Rattle.std.proofs.Common.{◌↔◌, ℕ, ◌++◌}
use Rattle.std.specs.Prelude.{Contains}
use Rattle.graphs.specs.Closures.{IsCover}
use Rattle.record.proofs.Parenting.{AreSoFar}
use Rattle.record.proofs.over.add_parents.Given as goal

abbrev pub invariant-loop-parent : goal.invariant-loop-parent
invariant-loop-parent g l = record {
  all : (a : ℕ) → Contains (l.yielded ++ l.parent-iterator) a ↔ IsCover l.component.graph a l.id;
  pairs : AreSoFar l.id l.fn.pairs.items l.pairs.items l.yielded;
}
