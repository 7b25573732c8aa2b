-- The clusters of both levels, and for each level the number of each name's cluster.
use Rattle.std.specs.Prelude.{◌≡◌, ◌≢◌, ℕ, ◌*◌, ◌≤◌, [], Option, None, Some, option_map, unwrap_or, refl}
use Rattle.std.specs.Coded.{Coded, code_by, coded×, coded_option}
use Rattle.std.specs.FinMap as finmap
use Rattle.fee_rate.specs.declared.limits.TheConstants.{MAX_TOTAL}
use Rattle.graphs.specs.declared.names.Level.{Level}
use Rattle.graphs.specs.declared.names.Level.TheVariants.{Main, Top}
use Rattle.chunk_index.specs.declared.entry.Tag.TheVariants.{Both}
use Rattle.graph_model.specs.declared.names.Limits.{Limits}
use Rattle.graph_model.specs.Limits.{AreInRange, bounds_of, limits_code}
use Rattle.cluster.specs.Clusters.{Cluster}
use Rattle.record.specs.Records.{IsFitted}
use Rattle.cluster_store.specs.Changes.{most_least}
use Rattle.cluster_store.specs.Stores.{Store, store_code, IsStore, parts_of_level}
pub use Rattle.cluster_store.specs.Tops.{AllHave, StandsInTop, left_of, seen_in, seen_at, stored_at, tag_at, top_tag}
use Rattle.levels.specs.Views.{Numbers, numbers_code, View, IsIndexed, graph_of}
use Rattle.levels.specs.Levels.{OneLevel, Levels}

-- the limits of clusters, the number of each name's cluster in main, and in staging where there is one, and the store of the clusters
pub record Shelf : Type 0 where
  pub limits : Limits
  pub main : Numbers
  pub staging : Option Numbers
  pub store : Store

abbrev pub shelf_code : Coded Shelf
shelf_code =
    code_by (Limits × (Numbers × (Option Numbers × Store))) (coded× limits_code (coded× numbers_code (coded× (coded_option numbers_code) store_code)))
    (λ s. (s.limits, (s.main, (s.staging, s.store))))
    (λ p. record { limits = p.0; main = p.1.0; staging = p.1.1.0; store = p.1.1.1 }) (λ _. refl)

abbrev pub no_clusters : Limits → Shelf
no_clusters limits = record {
  limits = limits;
  main = finmap.empty;
  staging = None;
  store = record { clusters = finmap.empty; order = []; least = most_least };
}

-- the numbers in a level; the top level is staging where there is one, else main
abbrev pub numbers_at : Level → Shelf → Numbers
numbers_at Main shelf = shelf.main
numbers_at Top shelf = unwrap_or shelf.staging shelf.main

-- what is seen of a level
abbrev pub view_of : Level → Shelf → View
view_of level shelf = record { numbers = numbers_at level shelf; at = seen_at level shelf.store.clusters }

-- a level by its names and its parts
abbrev pub one_of : Level → Shelf → OneLevel
one_of level shelf = record { graph = graph_of (view_of level shelf); parts = parts_of_level level shelf.store }

abbrev pub levels_of : Shelf → ℕ → Levels
levels_of shelf issued = record {
  limits = shelf.limits;
  main = one_of Main shelf;
  staging = option_map (λ _. one_of Top shelf) shelf.staging;
  issued = issued;
}

-- What holds of every shelf for clusters of w words: a set of places has one word or two, and a cluster can have as many names as the
-- limits allow; in both levels the numbers are right; what is within the limits has its order, and what is over them has none; and
-- without a staging each cluster stands in both.
pub record IsInOrder (w : ℕ) (shelf : Shelf) : Type 0 where
  pub wide : 1 ≤ w
  pub narrow : w ≤ 2
  pub main : IsIndexed (64 * w) (view_of Main shelf)
  pub top : IsIndexed (64 * w) (view_of Top shelf)
  pub store : IsStore (64 * w) shelf.store
  pub in_range : AreInRange (64 * w) (bounds_of shelf.limits)
  pub fitted : (number : ℕ) (c : Cluster) → stored_at shelf.store.clusters number ≡ Some c → IsFitted (64 * w) shelf.limits c
  pub both : shelf.staging ≡ None → AllHave Both shelf.store.clusters

-- no level has more names than may be live
abbrev pub HaveFew : Shelf → Type 0
HaveFew shelf = (level : Level) → finmap.len (numbers_at level shelf) ≤ MAX_TOTAL

-- the cluster of a name differs between the levels, or only one of them has the name
abbrev pub IsTouched : Shelf → ℕ → Type 0
IsTouched shelf id = finmap.get (numbers_at Main shelf) id ≢ finmap.get (numbers_at Top shelf) id
