-- Two components that become one.
use Rattle.std.specs.Prelude.{◌≡◌, ℕ, ◌+◌, ◌≤◌, ◌++◌, [], length}
use Rattle.fee_rate.specs.declared.limits.TheConstants.{MAX_TOTAL}
use Rattle.graph_model.specs.declared.names.Limits.{Limits}
use Rattle.cluster.specs.Clusters.{Cluster, AreApart}
use Rattle.cluster.specs.Changes.{AreAcross, Joins}
use Rattle.record.specs.Records.{IsConnected, IsFitted}

-- Two components of no common name that suit limits which a cluster can have, together of at most as many names as may be live: a name of
-- the one may become a parent of a name of the other.
pub record MayJoin (most : ℕ) (limits : Limits) (one other : Cluster) (parent child : ℕ) : Type 0 where
  pub few : limits.count ≤ most
  pub one_fits : IsFitted most limits one
  pub other_fits : IsFitted most limits other
  pub total : length one.names + length other.names ≤ MAX_TOTAL
  pub apart : AreApart one other
  pub across : AreAcross one.names other.names parent child

-- The component of both, in which the child depends on the parent, without an order.
pub record AreJoined (one other : Cluster) (parent child : ℕ) (r : Cluster) : Type 0 where
  pub names : r.names ≡ one.names ++ other.names
  pub graph : Joins one.graph other.graph parent child r.graph
  pub connected : IsConnected r
  pub none : r.parts ≡ []
