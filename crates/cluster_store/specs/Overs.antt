-- The clusters of a level that have no order, one after the other.
use Rattle.std.specs.Prelude.{◌≡◌, ◌↔◌, ℕ, cond, List, [], ◌∷◌, map, flat_map, Contains, Option, None, Some, slice_index_or}
use Rattle.std.specs.FinMap as finmap
use Rattle.lists.specs.Distinct.{AreDistinct}
use Rattle.graphs.specs.declared.names.Level.{Level}
use Rattle.graphs.specs.Certificates.{Part}
use Rattle.chunk_index.specs.Items.{is_in}
use Rattle.cluster.specs.Clusters.{Cluster}
use Rattle.cluster_store.specs.Stores.{Stored, Numbered}
use Rattle.cluster_store.specs.Held.{cluster_in}
use Rattle.cluster_store.specs.Unordered.{LacksOrderIn}

-- the cluster, where it has no parts
abbrev pub bare_of : List Part → Cluster → List Cluster
bare_of [] c = c ∷ []
bare_of (part ∷ parts) c = []

-- what is stored, where it stands in the level without an order
abbrev pub lacking_in : Level → Stored → List Cluster
lacking_in level s = cond (is_in level s.tag) (bare_of s.cluster.parts s.cluster) []

module _ {T : Type 0} (lacking : T → List Cluster) where
  -- what is seen so of what a slot has
  abbrev pub lacking_by : Option T → List Cluster
  lacking_by None = []
  lacking_by (Some s) = lacking s

  -- the same of the slots of some numbers
  abbrev pub lacking_of : List (Option T) → List ℕ → List Cluster
  lacking_of slots numbers = flat_map (λ n. lacking_by (slice_index_or slots n None)) numbers

-- All clusters that stand in the level without an order, each once, by some list of their numbers.
pub record AreLacking (level : Level) (clusters : Numbered) (list : List Cluster) : Type 0 where
  pub numbers : List ℕ
  pub once : AreDistinct numbers
  pub exact : (n : ℕ) → Contains numbers n ↔ LacksOrderIn level (finmap.get clusters n)
  pub told : list ≡ map (λ n. cluster_in (finmap.get clusters n)) numbers
