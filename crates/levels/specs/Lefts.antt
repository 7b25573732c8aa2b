-- What is left of clusters without some of their names.
use Rattle.std.specs.Prelude.{◌≡◌, ◌≢◌, ◌↔◌, ◌++◌, ℕ, ◌*◌, ◌+◌, ◌≤◌, List, [], ◌∷◌, map, flat_map, slice_get, Contains, Option, Some, option_to_list}
use Rattle.std.specs.List.Sorted.{IsPermutation}
use Rattle.std.specs.List.{AllPairs}
use Rattle.std.specs.FinMap as finmap
use Rattle.lists.specs.Distinct.{AreDistinct}
use Rattle.lists.specs.Walks.{Walk}
use Rattle.graphs.specs.Closures.{Closure, AreLinked}
use Rattle.graphs.specs.declared.names.Level.TheVariants.{Top}
use Rattle.cluster.specs.Changes.{IsLeft, AreNearLeft}
use Rattle.cluster.specs.Clusters.{Cluster, AreApart}
use Rattle.record.specs.Records.{IsFitted}
use Rattle.record.specs.Steps.{most_steps_fit_of}
use Rattle.graph_model.specs.declared.names.Limits.{Limits}
use Rattle.levels.specs.Changes.{AreAt, IsNamed}
use Rattle.levels.specs.Moves.{DropsIn}
use Rattle.levels.specs.Shelves.{Shelf, numbers_at, seen_at}

-- Lists of names, one for each component of what is left, without some names, of the components of a graph that have one of these.
pub record AreRests (g : Closure) (gone : List ℕ) (lists : List (List ℕ)) : Type 0 where
  pub once : AreDistinct (flat_map (λ ids. ids) lists)
  pub exact : (id : ℕ) → Contains (flat_map (λ ids. ids) lists) id ↔ (IsLeft g gone id × ((lost : ℕ) × Contains gone lost × AreLinked g lost id))
  pub whole : (ids : List ℕ) → Contains lists ids → (a b : ℕ) → Contains ids a → Contains ids b → Walk (AreNearLeft g gone) a b
  pub alone : (ids : List ℕ) → Contains lists ids → (a b : ℕ) → Contains ids a → AreNearLeft g gone a b → Contains ids b

-- What is left of the clusters of the top level that have some names, without these: the clusters of these numbers lose them, and what is left
-- of them are the others. The last of these is of the first cluster.
pub record AreLeft (w : ℕ) (gone outs : List ℕ) (rest : List Cluster) (last : Option Cluster) (shelf : Shelf) : Type 0 where
  pub olds : List Cluster
  pub once : AreDistinct outs
  pub at : AreAt (seen_at Top shelf.store.clusters) outs olds
  pub fitted : (c : Cluster) → Contains (rest ++ option_to_list last) c → IsFitted (64 * w) shelf.limits c
  pub apart : AllPairs AreApart (rest ++ option_to_list last)
  pub drops : DropsIn olds (rest ++ option_to_list last) gone
  pub all : (id : ℕ) → Contains gone id → IsNamed olds id
  pub own : (c d : Cluster) → last ≡ Some c → slice_get olds 0 ≡ Some d → (id : ℕ) → Contains c.names id → Contains d.names id

-- each of these names with the number of its cluster in the top level
pub record AreNumbered (shelf : Shelf) (ids : List ℕ) (listed : List (ℕ × ℕ)) : Type 0 where
  pub exact : (id : ℕ) → Contains ids id ↔ Contains (map (λ e. e.1) listed) id
  pub there : (e : ℕ × ℕ) → Contains listed e → finmap.get (numbers_at Top shelf) e.1 ≡ Some e.0

-- the same, by rising number
pub record AreListed (shelf : Shelf) (ids : List ℕ) (listed : List (ℕ × ℕ)) : Type 0 where
  pub numbered : AreNumbered shelf ids listed
  pub rising : AllPairs (λ d e. d.0 ≤ e.0) listed

-- some names, each with the one number of their cluster
pub record IsRun (shelf : Shelf) (number : ℕ) (run : List (ℕ × ℕ)) : Type 0 where
  pub some : run ≢ []
  pub there : (e : ℕ × ℕ) → Contains run e → (e.0 ≡ number) × (finmap.get (numbers_at Top shelf) e.1 ≡ Some number)

-- What is left of one cluster more: the first of them gives one of what is left of it as the last, and all else is put to the rest.
pub record Takes (number : ℕ) (pieces : List Cluster) (outs : List ℕ) (rest : List Cluster) (last : Option Cluster) (new_outs : List ℕ)
    (new_rest : List Cluster) (new_last : Option Cluster) : Type 0 where
  pub outs_are : new_outs ≡ outs ++ number ∷ []
  pub first : outs ≡ [] → IsPermutation pieces (new_rest ++ option_to_list new_last)
  pub later : outs ≢ [] → (new_rest ≡ rest ++ pieces) × (new_last ≡ last)

-- A count grew, and by no more than the orders take of what is left of the components that lose a name, where it is within the limits.
pub record DropsWithin (limits : Limits) (gone : List ℕ) (g : Closure) (before after : ℕ) : Type 0 where
  pub grew : before ≤ after
  pub few : (lists : List (List ℕ)) → AreRests g gone lists → after ≤ before + most_steps_fit_of limits g lists
