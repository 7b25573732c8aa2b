-- The transactions and the edges of a level, as they are collected for its text.
use Rattle.std.specs.Prelude.{◌≡◌, ◌↔◌, ℕ, ℤ, List, map, flat_map, Contains}
use Rattle.lists.specs.Distinct.{AreDistinct}
use Rattle.graphs.specs.Certificates.{Txs}
use Rattle.graphs.specs.Closures.{Closure, rate_of, IsCover}
use Rattle.graph_model.specs.Answers.{order_of}
use Rattle.cluster.specs.Clusters.{Cluster}
use Rattle.cluster.specs.Covers.{ListsInOrder}
use Rattle.levels.specs.Levels.{OneLevel}
use Rattle.levels.specs.Orders.{ListsCovers}

-- a name with its fee and its size
abbrev pub tx_at : Closure → ℕ → ℕ × ℤ × ℕ
tx_at graph id = (id, (rate_of graph id).fee, (rate_of graph id).size)

-- Of each name of a cluster the cluster has the fee and the size that a level's graph has, and tells the parents with nothing between that the
-- name has there.
pub record Tells (level : OneLevel) (cluster : Cluster) : Type 0 where
  pub rates : (id : ℕ) → Contains cluster.names id → rate_of level.graph id ≡ rate_of cluster.graph id
  pub covers : (id : ℕ) (covers : List ℕ) → Contains cluster.names id
      → ListsInOrder (λ a. IsCover cluster.graph a id) (flat_map (λ part. part.ids) cluster.parts) covers
      → ListsCovers level.graph (order_of level.parts) id covers

-- The transactions of some names of a level, in the order of these names, and the edges (parent, child) to them from their parents with nothing
-- between, each edge once.
pub record AreListed (level : OneLevel) (ids : List ℕ) (txs : Txs) (edges : List (ℕ × ℕ)) : Type 0 where
  pub txs_are : txs ≡ map (tx_at level.graph) ids
  pub covers : (a d : ℕ) → Contains edges (a, d) ↔ (Contains ids d × IsCover level.graph a d)
  pub once : AreDistinct edges
