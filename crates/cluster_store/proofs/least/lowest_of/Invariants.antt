-- the sizes so far are below those to come
use Rattle.std.proofs.Common.{◌≡◌, drop}
use Rattle.graphs.specs.Closures.{rate_of}
use Rattle.cluster_store.specs.Changes.{lowest}
use Rattle.cluster_store.proofs.least.lowest_of.Given as goal

abbrev pub invariant-loop-at : goal.invariant-loop-at
invariant-loop-at g l =
    lowest (λ id. (rate_of l.cluster.graph id).size) (drop l.at l.cluster.names) l.lowest
    ≡ lowest (λ id. (rate_of l.cluster.graph id).size) l.cluster.names l.fn.least
