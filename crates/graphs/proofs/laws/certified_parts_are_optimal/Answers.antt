use Rattle.std.specs.Prelude.{Contains}
use Rattle.graphs.specs.Graphs.{IsCover}
use Rattle.graphs.proofs.BestLemmas.{certified_optimal, covers_are_pairs}
use Rattle.graphs.proofs.laws.certified_parts_are_optimal.Goals as goal

pub returns : goal.returns
returns c = record {
  by_pairs = λ rate graph parts some certificate.
      certified_optimal rate graph (λ parent child. Contains graph.pairs (parent, child)) parts some (λ parent child pair. pair) certificate;
  by_covers = λ rate graph parts some certificate. certified_optimal rate graph (IsCover graph.pairs) parts some (covers_are_pairs graph.pairs) certificate;
}
