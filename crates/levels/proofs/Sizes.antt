-- How many names the cluster of a name has, and how large they are together.
use Rattle.std.proofs.Common.{◌≡◌, ℕ, ◌+◌, ◌++◌, List, length, ap, ◌∙◌}
use Rattle.arithmetic.proofs.Sums.{sum_by_along}
use Rattle.fee_rate.specs.declared.rates.FeeRate.{FeeRate}
use Rattle.graphs.specs.Closures.{Closure, rate_of, AreLinked}
use Rattle.record.specs.Steps.{total_size}
use Rattle.graphs.specs.Graphs.{Lists}
use Rattle.graphs.proofs.ListLemmas.{Lists-same}
use Rattle.lists.specs.Distinct.{AreDistinct}
use Rattle.cluster.specs.Clusters.{Cluster}
use Rattle.levels.specs.Views.{IsClusterOf}
use Rattle.levels.proofs.Pairs.{IsLinkedToEither, AreTogether, AreBetween, either_listed, both_listed, count_is, size_is}
use Rattle.levels.proofs.Arranged.{arranged, arranged_is, arranged_increasing, arranged_length, arranged_sum}

size_along : (g : Closure) (id : ℕ) (c : Cluster) → IsClusterOf g id c → total_size g c.names ≡ total_size c.graph c.names
size_along g id c cluster =
    sum_by_along (λ q. (rate_of g q).size) (λ q. (rate_of c.graph q).size) c.names (λ q here. ap (λ (r : FeeRate). r.size) (cluster.rates q here))

-- the names that are linked to a name are as many as its cluster has
pub linked_count : (g : Closure) (id : ℕ) (c : Cluster) (ids : List ℕ) → IsClusterOf g id c
    → AreDistinct c.names → Lists (AreLinked g id) ids → length ids ≡ length c.names
linked_count g id c ids cluster once lists =
    ap length (Lists-same (AreLinked g id) ids (arranged c.names) lists (record {
      rising = arranged_increasing c.names once;
      exact = λ q. (λ here. cluster.linked q ((arranged_is c.names q).0 here), λ linked. (arranged_is c.names q).1 (cluster.alone q linked));
    }))
    ∙ arranged_length c.names

-- and as large together
pub linked_size : (g : Closure) (id : ℕ) (c : Cluster) (ids : List ℕ) → IsClusterOf g id c
    → AreDistinct c.names → Lists (AreLinked g id) ids → total_size g ids ≡ total_size c.graph c.names
linked_size g id c ids cluster once lists =
    ap (total_size g) (Lists-same (AreLinked g id) ids (arranged c.names) lists (record {
      rising = arranged_increasing c.names once;
      exact = λ q. (λ here. cluster.linked q ((arranged_is c.names q).0 here), λ linked. (arranged_is c.names q).1 (cluster.alone q linked));
    }))
    ∙ arranged_sum (λ q. (rate_of g q).size) c.names ∙ size_along g id c cluster

-- the names that are linked to one of two names of a cluster are as many as it has
pub either_count : (g : Closure) (p q : ℕ) (c : Cluster) (ids : List ℕ) → AreTogether g p q c → AreDistinct c.names → Lists (IsLinkedToEither g p q) ids
    → length ids ≡ length c.names
either_count g p q c ids together once lists =
    ap length (Lists-same (IsLinkedToEither g p q) ids (arranged c.names) lists (either_listed g p q c together once)) ∙ arranged_length c.names

pub either_size : (g : Closure) (p q : ℕ) (c : Cluster) (ids : List ℕ) → AreTogether g p q c → AreDistinct c.names → Lists (IsLinkedToEither g p q) ids
    → total_size g ids ≡ total_size c.graph c.names
either_size g p q c ids together once lists =
    ap (total_size g) (Lists-same (IsLinkedToEither g p q) ids (arranged c.names) lists (either_listed g p q c together once))
    ∙ arranged_sum (λ x. (rate_of g x).size) c.names ∙ size_along g p c together.cluster

-- and of two names of two clusters, as many as both have
pub both_count : (g : Closure) (p q : ℕ) (a b : Cluster) (ids : List ℕ) → AreBetween g p q a b → Lists (IsLinkedToEither g p q) ids
    → length ids ≡ length a.names + length b.names
both_count g p q a b ids between lists =
    ap length (Lists-same (IsLinkedToEither g p q) ids (arranged (a.names ++ b.names)) lists (both_listed g p q a b between)) ∙ count_is g p q a b between

pub both_size : (g : Closure) (p q : ℕ) (a b : Cluster) (ids : List ℕ) → AreBetween g p q a b → Lists (IsLinkedToEither g p q) ids
    → total_size g ids ≡ total_size a.graph a.names + total_size b.graph b.names
both_size g p q a b ids between lists =
    ap (total_size g) (Lists-same (IsLinkedToEither g p q) ids (arranged (a.names ++ b.names)) lists (both_listed g p q a b between)) ∙ size_is g p q a b between
