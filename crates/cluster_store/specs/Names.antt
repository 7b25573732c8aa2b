-- The names and the clusters of a level, one cluster after the other.
use Rattle.std.specs.Prelude.{◌≡◌, ℕ, cond, List, [], ◌∷◌, flat_map, Contains, Option, None, Some, option_to_list}
use Rattle.lists.specs.Distinct.{AreDistinct}
use Rattle.graphs.specs.declared.names.Level.{Level}
use Rattle.chunk_index.specs.Items.{is_in}
use Rattle.cluster.specs.Clusters.{Cluster}
use Rattle.cluster_store.specs.Stores.{Stored, Numbered}
use Rattle.cluster_store.specs.Tops.{seen_at}

-- the names of what is stored, where it stands in the level
abbrev pub names_in : Level → Stored → List ℕ
names_in level s = cond (is_in level s.tag) s.cluster.names []

-- the names of a cluster, none where there is no cluster
abbrev pub names_seen : Option Cluster → List ℕ
names_seen None = []
names_seen (Some c) = c.names

-- The names of the clusters of some numbers that stand in the level, one cluster after the other. Each number is one alone, and every
-- cluster that stands in the level has one of them.
pub record AreNames (level : Level) (clusters : Numbered) (list : List ℕ) : Type 0 where
  pub numbers : List ℕ
  pub once : AreDistinct numbers
  pub all : (n : ℕ) (c : Cluster) → seen_at level clusters n ≡ Some c → Contains numbers n
  pub told : list ≡ flat_map (λ n. names_seen (seen_at level clusters n)) numbers

-- what is stored, where it stands in the level
abbrev pub clusters_in : Level → Stored → List Cluster
clusters_in level s = cond (is_in level s.tag) (s.cluster ∷ []) []

-- The clusters that stand in the level, each under a number of its own, one after the other.
pub record AreClusters (level : Level) (clusters : Numbered) (list : List Cluster) : Type 0 where
  pub numbers : List ℕ
  pub once : AreDistinct numbers
  pub all : (n : ℕ) (c : Cluster) → seen_at level clusters n ≡ Some c → Contains numbers n
  pub told : list ≡ flat_map (λ n. option_to_list (seen_at level clusters n)) numbers
