-- the ancestors so far don't lead past the edge, and what is left are the others
use Rattle.std.proofs.Common.{◌≡◌, ◌↔◌, ℕ, ◌++◌}
use Rattle.std.specs.Prelude.{Contains}
use Rattle.graphs.specs.Graphs.{IsAncestor}
use Rattle.links.specs.Kept.{coming}
use Rattle.dump_text.proofs.testing.stands_alone.Given as goal

abbrev pub invariant-loop-above : goal.invariant-loop-above
invariant-loop-above l = record {
  all : (a : ℕ) → Contains (l.yielded ++ coming l.above-iterator) a ↔ IsAncestor l.fn.links.pairs a l.edge.0;
  seen : (a : ℕ) → Contains l.yielded a → Contains {X = ℕ × ℕ} l.edges (a, l.edge.1) → a ≡ l.edge.0;
}
