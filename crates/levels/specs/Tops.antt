-- What a change of the top level leaves of a shelf.
use Rattle.std.specs.Prelude.{◌≡◌, ◌==◌, ℕ, ◌*◌, ◌<◌, ◌≤◌, List, [], ◌∷◌, ◌++◌, length, slice_get, slice_index, Contains, Option, is_some, option_to_list, IfSome, IsSome, Some, None, if◌then◌else◌}
use Rattle.std.specs.FinMap as finmap
use Rattle.lists.specs.Distinct.{AreDistinct}
use Rattle.graphs.specs.declared.names.Level.TheVariants.{Main, Top}
use Rattle.cluster.specs.Clusters.{Cluster}
use Rattle.record.specs.Records.{IsFitted}
use Rattle.cluster_store.specs.Changes.{AreHeld}
use Rattle.cluster_store.specs.Stores.{Exchange}
pub use Rattle.cluster_store.specs.Tops.{Exchanged}
use Rattle.levels.specs.Changes.{AreAt, Covers, IsNamed, Rebuilds}
use Rattle.levels.specs.Shelves.{numbers_at, seen_at, Shelf, stored_at, view_of}
use Rattle.levels.specs.Views.{Numbers}

-- A whole change of the top level of a shelf. Where there is a staging, main is seen as before, and what comes in isn't of it.
pub record TopRebuilds (w : ℕ) (outs made : List ℕ) (olds news : List Cluster) (gone : List ℕ) (old new : Shelf) : Type 0 where
  pub top : Rebuilds (64 * w) outs made olds news gone (view_of Top old) (view_of Top new)
  pub staged : is_some new.staging ≡ is_some old.staging
  pub limits : new.limits ≡ old.limits
  pub base : IsSome old.staging → new.main ≡ old.main
  pub main : IsSome old.staging → (n : ℕ) → seen_at Main new.store.clusters n ≡ seen_at Main old.store.clusters n
  pub fresh : IsSome old.staging → (n : ℕ) → Contains made n → seen_at Main new.store.clusters n ≡ None

-- What is left of a change, by the numbers of what came in, that of the last apart.
pub record IsMade (w : ℕ) (outs made : List ℕ) (number : Option ℕ) (rest : List Cluster) (last : Option Cluster) (gone : List ℕ) (old new : Shelf) : Type 0 where
  pub olds : List Cluster
  pub rebuilds : TopRebuilds w outs (made ++ option_to_list number) olds (rest ++ option_to_list last) gone old new
  pub count : length made ≡ length rest

-- as many of the names, from the first, have the number of the first cluster that goes out
pub record HasFront (kept : ℕ) (outs names : List ℕ) (numbers : Numbers) : Type 0 where
  pub low : kept ≤ length names
  pub there : (number i : ℕ) → slice_get outs 0 ≡ Some number → i < kept → finmap.get numbers (slice_index names i) ≡ Some number

-- The clusters of some numbers may go out and others come in, of their names: the last of these has its first names, one or more, of the first that
-- goes out.
pub record Comes (w : ℕ) (outs : List ℕ) (rest : List Cluster) (last : Option Cluster) (kept : ℕ) (gone : List ℕ) (shelf : Shelf) : Type 0 where
  pub olds : List Cluster
  pub once : AreDistinct outs
  pub lost : AreDistinct gone
  pub at : AreAt (seen_at Top shelf.store.clusters) outs olds
  pub covers : Covers (64 * w) olds (rest ++ option_to_list last) gone (numbers_at Top shelf)
  pub fitted : (c : Cluster) → Contains (rest ++ option_to_list last) c → IsFitted (64 * w) shelf.limits c
  pub known : (id : ℕ) → IsNamed (rest ++ option_to_list last) id → IsNamed olds id
  pub front : IfSome last (λ c. HasFront kept outs c.names (numbers_at Top shelf))
  pub some : IsSome last → 1 ≤ kept

-- from which name on a cluster's names get its number: where it is that of the first that went out, the first names have it
abbrev pub fresh_from : ℕ → List ℕ → ℕ → ℕ
fresh_from kept [] number = 0
fresh_from kept (first ∷ others) number = if first == number then kept else 0

-- These clusters may stand under their numbers in the places of those that are there: each is told once and has the same names.
pub record HaveSameNames (w : ℕ) (exchanged : List Exchange) (shelf : Shelf) : Type 0 where
  pub held : AreHeld exchanged shelf.store.clusters
  pub fitted : (x : Exchange) → Contains exchanged x → IsFitted (64 * w) shelf.limits x.cluster
  pub names : (x : Exchange) (c : Cluster) → Contains exchanged x → stored_at shelf.store.clusters x.number ≡ Some c → x.cluster.names ≡ c.names
