-- Components of a transaction graph, told as clusters are: names, closure and parts. One over the limits has no parts.
use Rattle.std.specs.Prelude.{◌≡◌, ℕ, ◌≤◌, ◌↔◌, true, [], length, Contains}
use Rattle.lists.specs.Distinct.{AreDistinct}
use Rattle.fee_rate.specs.Limits.{IsRate}
use Rattle.graphs.specs.Closures.{is_member, is_ancestor, rate_of, IsOrder, AreLinked}
use Rattle.graph_model.specs.declared.names.Limits.{Limits}
use Rattle.graph_model.specs.Limits.{AreOver, bounds_of}
use Rattle.cluster.specs.Clusters.{Cluster, IsCluster}

-- What holds of every component, with an order or without: it has a name, each name stands once, ancestry is an order on the names, steps
-- to ancestors and descendants lead from each name to each other, and fees and sizes are in range.
pub record IsConnected (c : Cluster) : Type 0 where
  pub some : 1 ≤ length c.names
  pub once : AreDistinct c.names
  pub members : (id : ℕ) → (is_member c.graph id ≡ true) ↔ Contains c.names id
  pub order : IsOrder (is_member c.graph) (is_ancestor c.graph)
  pub whole : (a b : ℕ) → is_member c.graph a ≡ true → is_member c.graph b ≡ true → AreLinked c.graph a b
  pub rates : (id : ℕ) → is_member c.graph id ≡ true → IsRate (rate_of c.graph id)

-- A component that has no parts, or is a cluster of at most so many names, whose parts are its order.
pub record IsRecord (most : ℕ) (c : Cluster) : Type 0 where
  pub connected : IsConnected c
  pub ordered : (c.parts ≡ [] → ⊥) → IsCluster most c

-- it has more names than a cluster may have, or they are larger together
abbrev pub IsOver : Limits → Cluster → Type 0
IsOver limits c = AreOver (bounds_of limits) (λ id. (rate_of c.graph id).size) c.names

-- Within the limits a component has its order, and over them it has none.
pub record IsFitted (most : ℕ) (limits : Limits) (c : Cluster) : Type 0 where
  pub connected : IsConnected c
  pub within : (IsOver limits c → ⊥) → IsCluster most c
  pub over : IsOver limits c → c.parts ≡ []

-- Where the one suits some limits, the other does: neither comes over them, nor back within them.
abbrev pub StaysFitted : ℕ → Cluster → Cluster → Type 0
StaysFitted most old new = (limits : Limits) → IsFitted most limits old → IsFitted most limits new

-- The same names and the same graph, whatever the parts are.
abbrev pub IsLike : Cluster → Cluster → Type 0
IsLike c d = (c.names ≡ d.names) × (c.graph ≡ d.graph)
