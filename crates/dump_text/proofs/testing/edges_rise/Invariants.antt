use Rattle.std.proofs.Common.{ℕ, ◌+◌, ◌<◌}
use Rattle.dump_text.specs.Testing.{IsBefore}
use Rattle.dump_text.proofs.Covering.{edge_at}
use Rattle.dump_text.proofs.testing.edges_rise.Given as goal

abbrev pub invariant-loop-at : goal.invariant-loop-at
invariant-loop-at l = (k : ℕ) → k + 1 < l.at → IsBefore (edge_at l.edges k) (edge_at l.edges (k + 1))
