-- The components that some names of a level lie in, and names of one component side by side.
use Rattle.std.specs.Prelude.{◌≡◌, ◌↔◌, ℕ, ◌+◌, ◌<◌, ◌++◌, true, List, length, flat_map, Contains, Option, None, Some}
use Rattle.std.specs.FinMap as finmap
use Rattle.std.specs.List.Sorted.{IsNonDecreasingBy}
use Rattle.lists.specs.Distinct.{AreDistinct}
use Rattle.graphs.specs.Closures.{Closure, is_member}
use Rattle.graphs.specs.declared.names.Level.{Level}
use Rattle.cluster.specs.Clusters.{Cluster}
use Rattle.cluster_store.specs.Names.{names_seen}
use Rattle.levels.specs.Shelves.{Shelf, numbers_at, seen_at}
use Rattle.levels.specs.Views.{Numbers, IsClusterOf}

-- The components of a graph that have some of these names, each once. Names that aren't in the graph are passed over.
pub record LieIn (graph : Closure) (ids : List ℕ) (clusters : List Cluster) : Type 0 where
  pub each : (c : Cluster) → Contains clusters c
      → (id : ℕ) × Contains ids id × (is_member graph id ≡ true) × IsClusterOf graph id c
  pub once : AreDistinct (flat_map (λ c. c.names) clusters)
  pub all : (id : ℕ) → Contains ids id → is_member graph id ≡ true → (c : Cluster) × Contains clusters c × Contains c.names id

-- ---- by the numbers of clusters

-- One more than the number of a name's cluster, or 0 where the level hasn't the name: names of one component have one key.
abbrev pub key_of : Option ℕ → ℕ
key_of None = 0
key_of (Some number) = number + 1

abbrev pub key_in : Numbers → ℕ → ℕ
key_in numbers id = key_of (finmap.get numbers id)

-- names of one component stand side by side
abbrev pub AreGrouped : Numbers → List ℕ → Type 0
AreGrouped numbers ids = IsNonDecreasingBy (key_in numbers) ids

-- Of grouped names the first ones, of one component or of none, and the rest.
pub record IsFirstRun (numbers : Numbers) (ids run rest : List ℕ) (number : Option ℕ) : Type 0 where
  pub split : ids ≡ run ++ rest
  pub some : 0 < length run
  pub run_has : (id : ℕ) → Contains run id → finmap.get numbers id ≡ number
  pub rest_hasnt : (id : ℕ) → Contains rest id → finmap.get numbers id ≡ number → ⊥
  pub grouped : AreGrouped numbers rest

-- The numbers of the clusters that names lie in, each once.
pub record LieUnder (level : Level) (shelf : Shelf) (ids numbers : List ℕ) : Type 0 where
  pub once : AreDistinct numbers
  pub exact : (n : ℕ) → Contains numbers n ↔ ((id : ℕ) × Contains ids id × (finmap.get (numbers_at level shelf) id ≡ Some n))

-- all names of the clusters of some numbers
abbrev pub names_under : Level → Shelf → List ℕ → List ℕ
names_under level shelf numbers = flat_map (λ n. names_seen (seen_at level shelf.store.clusters n)) numbers
