-- The components of a level that are over the limits, each as links.
use Rattle.std.specs.Prelude.{◌≡◌, ◌↔◌, ℕ, ℤ, true, List, map, flat_map, Contains}
use Rattle.lists.specs.Distinct.{AreDistinct}
use Rattle.graphs.specs.Graphs.{IsAncestor}
use Rattle.graphs.specs.Closures.{Closure, is_ancestor, rate_of}
use Rattle.graph_model.specs.declared.names.Limits.{Limits}
use Rattle.graph_model.specs.Limits.{AreOver, bounds_of}
use Rattle.cluster.specs.Clusters.{Cluster}
use Rattle.links.specs.Links.{Links, AreLinks}
use Rattle.links.specs.Kept.{names_of}
use Rattle.record.specs.Kept.{unordered}
use Rattle.levels.specs.Oversize.{AreOfOneComponent}
use Rattle.levels.specs.Stays.{IsComponent}

-- Links of one component of a graph: they have its names, with the fees and sizes that the graph has, and walks along their pairs lead from
-- ancestors to descendants.
pub record IsLinksOf (graph : Closure) (l : Links) : Type 0 where
  pub whole : AreLinks l
  pub component : IsComponent graph (names_of l.txs)
  pub rates : (id : ℕ) (fee : ℤ) (size : ℕ) → Contains {X = ℕ × ℤ × ℕ} l.txs (id, fee, size) → rate_of graph id ≡ record { fee = fee; size = size }
  pub ancestors : (a d : ℕ) → Contains (names_of l.txs) d → IsAncestor l.pairs a d ↔ (is_ancestor graph a d ≡ true)

-- All components that are over the limits, each once.
pub record AreOvers (limits : Limits) (graph : Closure) (list : List Links) : Type 0 where
  pub links : (l : Links) → Contains list l → IsLinksOf graph l
  pub over : (l : Links) → Contains list l → AreOver (bounds_of limits) (λ id. (rate_of graph id).size) (names_of l.txs)
  pub once : AreDistinct (flat_map (λ l. names_of l.txs) list)
  pub all : (ids : List ℕ) → AreOfOneComponent graph ids → AreOver (bounds_of limits) (λ id. (rate_of graph id).size) ids
      → (l : Links) × Contains list l × ((id : ℕ) → Contains ids id → Contains (names_of l.txs) id)

-- Links with the names and the closures of these clusters, one for one: what a walk lends that shows these clusters.
pub record AreLent (coming : List Cluster) (list : List Links) : Type 0 where
  pub links : (l : Links) → Contains list l → AreLinks l
  pub told : map unordered list ≡ coming

-- What a walk lends that shows these clusters is every component that is over the limits, each once.
abbrev pub LendsOvers : Limits → Closure → List Cluster → Type 0
LendsOvers limits graph coming = (list : List Links) → AreLent coming list → AreOvers limits graph list
