-- What a level's graph says of a part, by the part's cluster.
use Rattle.std.specs.Prelude.{◌≡◌, ℕ, List, flat_map, Contains}
use Rattle.graphs.specs.Closures.{rate_of, IsCover}
use Rattle.graph_model.specs.Answers.{order_of}
use Rattle.cluster.specs.Covers.{ListsInOrder}
use Rattle.cluster_store.specs.Held.{Held}
use Rattle.levels.specs.Levels.{OneLevel}
use Rattle.levels.specs.Orders.{ListsCovers}

-- The cluster has the names of the part. Of each name that it has, fee and size are those in the level's graph, and the parents with nothing
-- between, as they stand in the cluster's order, are those in the level's graph, as they stand in the level's order.
pub record IsHeldIn (level : OneLevel) (h : Held) : Type 0 where
  pub names : (id : ℕ) → Contains h.part.ids id → Contains h.cluster.names id
  pub rates : (id : ℕ) → Contains h.cluster.names id → rate_of level.graph id ≡ rate_of h.cluster.graph id
  pub covers : (id : ℕ) (covers : List ℕ) → Contains h.cluster.names id
      → ListsInOrder (λ a. IsCover h.cluster.graph a id) (flat_map (λ part. part.ids) h.cluster.parts) covers
      → ListsCovers level.graph (order_of level.parts) id covers
