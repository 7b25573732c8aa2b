use Rattle.std.proofs.Common.{ℕ, ◌<◌}
use Rattle.dump_text.specs.Testing.{AreLinksOf, StandsAlone}
use Rattle.dump_text.proofs.Covering.{edge_at}
use Rattle.dump_text.proofs.testing.are_covers.Given as goal

abbrev pub invariant-loop-at : goal.invariant-loop-at
invariant-loop-at l = record {
  links : AreLinksOf l.edges l.links;
  alone : (k : ℕ) → k < l.at → StandsAlone l.edges (edge_at l.edges k);
}
