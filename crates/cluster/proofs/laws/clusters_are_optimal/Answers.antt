use Rattle.graphs.proofs.ClosureGraphs.{closures_have_graphs}
use Rattle.graphs.proofs.PickLemmas.{picks_are_kept}
use Rattle.cluster.specs.Clusters.{sum_at}
use Rattle.cluster.proofs.Placed.{beyond, closed}
use Rattle.cluster.proofs.laws.clusters_are_optimal.Goals as goal

pub returns : goal.returns
returns c = record {
  stands = λ most k is. closures_have_graphs (beyond k.names) k.graph (closed most k is);
  picked = λ most k is graph closes. is.picked graph closes;
  optimal = λ most k is graph closes.
      picks_are_kept.optimal (sum_at k.graph) graph k.parts (λ id here. (is.rates id ((closes.names id).0 here)).some) (is.picked graph closes);
}
