-- What a reader would expect of the definitions.
use Rattle.std.specs.Prelude.{ℕ, map}
use Rattle.graphs.specs.Graphs.{Graph, IsGraph}
use Rattle.graphs.specs.Closing.{IsClosureOf}
use Rattle.graphs.specs.Linearizations.{IsOptimal}
use Rattle.graphs.specs.Picks.{IsPick}
use Rattle.cluster.specs.Clusters.{Cluster, IsCluster, sum_at}

-- A cluster stands for a plain graph. Its parts are a pick of each one that it stands for, and so an optimal order of it.
pub record ClustersAreOptimal : Type 0 where
  pub stands : (most : ℕ) (c : Cluster) → IsCluster most c → (graph : Graph) × IsGraph graph × IsClosureOf c.graph graph
  pub picked : (most : ℕ) (c : Cluster) → IsCluster most c → (graph : Graph) → IsClosureOf c.graph graph → IsPick (sum_at c.graph) graph c.parts
  pub optimal : (most : ℕ) (c : Cluster) → IsCluster most c → (graph : Graph) → IsClosureOf c.graph graph
      → IsOptimal (sum_at c.graph) graph (map (λ part. part.ids) c.parts)
