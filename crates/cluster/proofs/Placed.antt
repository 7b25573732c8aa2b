-- The names of a cluster are those of its order.
use Rattle.std.proofs.Common.{ℕ, suc, ◌+◌, ◌<◌, List, [], ◌∷◌, flat_map, Contains, inl, inr, arith}
use Rattle.lists.proofs.Entries.{Contains-cases, none_in_empty}
use Rattle.lists.proofs.Flats.{flat_of}
use Rattle.lists.specs.Distinct.{AreDistinct}
use Rattle.graphs.specs.Closures.{IsClosed}
use Rattle.graphs.specs.Certificates.{Part}
use Rattle.graphs.proofs.ClosureGraphs.{closures_have_graphs}
use Rattle.cluster.specs.Clusters.{Cluster, IsCluster}

-- a number that no entry reaches
pub beyond : List ℕ → ℕ
beyond [] = 0
beyond (x ∷ xs) = suc x + beyond xs

below : (xs : List ℕ) (x : ℕ) → Contains xs x → x < beyond xs
unfolding beyond
below [] x here = absurd (none_in_empty x here)
below (y ∷ xs) x here = elim (Contains-cases y x xs here) [
  | inl same ↦ omega arith
  | inr later ↦ let rest : x < beyond xs = below xs x later in omega arith
]

pub closed : (most : ℕ) (k : Cluster) → IsCluster most k → IsClosed (beyond k.names) k.graph
closed most k is = record { within = λ p member. below k.names p ((is.members p).0 member); order = is.order }

pub in_order : (most : ℕ) (k : Cluster) → IsCluster most k → (id : ℕ) → Contains k.names id → Contains (flat_map (λ part. part.ids) k.parts) id
in_order most k is id here =
    let graph = closures_have_graphs (beyond k.names) k.graph (closed most k is) in
    ((is.picked graph.0 graph.2).certificate.order.topological.names id).1 ((graph.2.names id).1 ((is.members id).1 here))

pub in_names : (most : ℕ) (k : Cluster) → IsCluster most k → (id : ℕ) → Contains (flat_map (λ part. part.ids) k.parts) id → Contains k.names id
in_names most k is id here =
    let graph = closures_have_graphs (beyond k.names) k.graph (closed most k is) in
    (is.members id).0 ((graph.2.names id).0 (((is.picked graph.0 graph.2).certificate.order.topological.names id).0 here))

pub order_once : (most : ℕ) (k : Cluster) → IsCluster most k → AreDistinct (flat_map (λ part. part.ids) k.parts)
order_once most k is =
    let graph = closures_have_graphs (beyond k.names) k.graph (closed most k is) in
    (is.picked graph.0 graph.2).certificate.order.topological.once

-- a name of some parts is of one of them
pub in_a_part : (parts : List Part) (id : ℕ) → Contains (flat_map (λ part. part.ids) parts) id → (part : Part) × Contains parts part × Contains part.ids id
in_a_part = flat_of (λ part. part.ids)
