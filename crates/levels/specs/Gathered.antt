-- The clusters of the top level that get a new parent, put together with the transactions that come in.
use Rattle.std.specs.Prelude.{◌≡◌, ◌⊎◌, ◌↔◌, ℕ, ◌*◌, ◌+◌, ◌++◌, ◌≤◌, Bool, true, List, [], flat_map, length, All, Contains, Option, None, Some, IsSome}
use Rattle.std.specs.FinSet as set
use Rattle.std.specs.FinMap as finmap
use Rattle.lists.specs.Distinct.{AreDistinct}
use Rattle.fee_rate.specs.declared.limits.TheConstants.{MAX_TOTAL}
use Rattle.graphs.specs.declared.names.Level.TheVariants.{Top}
use Rattle.graphs.specs.Certificates.{Txs}
use Rattle.graphs.specs.Graphs.{HasNoCycle}
use Rattle.graph_model.specs.Changes.{ids_of}
use Rattle.cluster.specs.Clusters.{Cluster}
use Rattle.cluster.specs.Changes.{IsSplit}
use Rattle.links.specs.Links.{Links, AreInRange, AreLinks}
use Rattle.links.specs.Closing.{closure}
use Rattle.record.specs.Leaving.{AreLike}
use Rattle.record.specs.Records.{IsFitted}
use Rattle.name_book.specs.Books.{IsNamed, IsMarked, Ringed, ShareMain}
use Rattle.levels.specs.Shelves.{Shelf, numbers_at, seen_at}
use Rattle.levels.specs.Tops.{TopRebuilds}
use Rattle.levels.specs.Changes.{AreAt}

-- Transactions may come into the top level with the pairs of a list: each name stands once and isn't there, fees and sizes are in range, each
-- parent is one of the names, the pairs have no cycle, and no more names are there then than may be live.
pub record MayReturn (shelf : Shelf) (txs : Txs) (pairs : List (ℕ × ℕ)) : Type 0 where
  pub once : AreDistinct (ids_of txs)
  pub absent : (id : ℕ) → Contains (ids_of txs) id → finmap.get (numbers_at Top shelf) id ≡ None
  pub in_range : AreInRange txs
  pub parents : (a b : ℕ) → Contains pairs (a, b) → Contains (ids_of txs) a
  pub acyclic : HasNoCycle pairs
  pub few : finmap.len (numbers_at Top shelf) + length txs ≤ MAX_TOTAL

-- The numbers of the clusters that have a child of some pair, each once.
pub record AreMet (shelf : Shelf) (pairs : List (ℕ × ℕ)) (outs : List ℕ) : Type 0 where
  pub once : AreDistinct outs
  pub exact : (n : ℕ) → Contains outs n ↔ ((a b : ℕ) × Contains pairs (a, b) × (finmap.get (numbers_at Top shelf) b ≡ Some n))

-- the name is one of the transactions, or in the top level
abbrev pub IsHere : Shelf → Txs → ℕ → Type 0
IsHere shelf txs id = Contains (ids_of txs) id ⊎ IsSome (finmap.get (numbers_at Top shelf) id)

-- the pairs whose child is here
abbrev pub AreHere : Shelf → Txs → List (ℕ × ℕ) → List (ℕ × ℕ) → Type 0
AreHere shelf txs pairs here = (a b : ℕ) → Contains here (a, b) ↔ (Contains pairs (a, b) × IsHere shelf txs b)

-- The clusters of some numbers, each told by links: their transactions and pairs were put behind others.
pub record PutsAll (shelf : Shelf) (outs : List ℕ) (txs : Txs) (pairs : List (ℕ × ℕ)) (new_txs : Txs) (new_pairs : List (ℕ × ℕ)) : Type 0 where
  pub olds : List Cluster
  pub told : List Links
  pub at : AreAt (seen_at Top shelf.store.clusters) outs olds
  pub like : AreLike olds told
  pub each : (links : Links) → Contains told links → AreLinks links
  pub txs_are : new_txs ≡ txs ++ flat_map (λ links. links.txs) told
  pub pairs_are : new_pairs ≡ pairs ++ flat_map (λ links. links.pairs) told

-- Links of the transactions and of these clusters, with the pairs of these and those that come in.
pub record Gathers (shelf : Shelf) (txs : Txs) (pairs : List (ℕ × ℕ)) (outs : List ℕ) (links : Links) : Type 0 where
  pub met : AreMet shelf pairs outs
  pub here : List (ℕ × ℕ)
  pub are_here : AreHere shelf txs pairs here
  pub all_pairs : List (ℕ × ℕ)
  pub puts : PutsAll shelf outs txs here links.txs all_pairs
  pub whole : AreLinks links
  pub same : (a b : ℕ) → Contains links.pairs (a, b) ↔ Contains all_pairs (a, b)

-- What may come in in the places of those clusters: the components of these links.
pub record ComesBack (w : ℕ) (txs : Txs) (pairs : List (ℕ × ℕ)) (outs : List ℕ) (news : List Cluster) (shelf : Shelf) : Type 0 where
  pub links : Links
  pub gathers : Gathers shelf txs pairs outs links
  pub split : IsSplit (closure links) [] news
  pub fitted : All (IsFitted (64 * w) shelf.limits) news

-- Transactions came into the top level: the clusters of some numbers went out, and they came in with these.
pub record RestoresTop (w : ℕ) (txs : Txs) (pairs : List (ℕ × ℕ)) (old new : Shelf) : Type 0 where
  pub outs : List ℕ
  pub made : List ℕ
  pub news : List Cluster
  pub comes : ComesBack w txs pairs outs news old
  pub rebuilds : TopRebuilds w outs made comes.gathers.puts.olds news [] old new

-- ---- one after the other

-- What a set has is what stands in the list, each number once.
pub record ListsSet (has : ℕ → Bool) (list : List ℕ) : Type 0 where
  pub once : AreDistinct list
  pub exact : (n : ℕ) → (has n ≡ true) ↔ Contains list n

-- the list has one number more, or had it, or there is none
abbrev pub HasMore : List ℕ → List ℕ → Option ℕ → Type 0
HasMore old new number = (n : ℕ) → Contains new n ↔ (Contains old n ⊎ (number ≡ Some n))

-- one more pair was looked at: it was put behind the others where its child is one of some names or in the top level
abbrev pub KeepsPair : Shelf → (ℕ → Bool) → List (ℕ × ℕ) → List (ℕ × ℕ) → ℕ → ℕ → Type 0
KeepsPair shelf has old new p q =
    (a b : ℕ) → Contains new (a, b)
    ↔ (Contains old (a, b) ⊎ ((a ≡ p) × (b ≡ q) × ((has q ≡ true) ⊎ IsSome (finmap.get (numbers_at Top shelf) q))))

-- a set has these names
abbrev pub HasNames : (ℕ → Bool) → List ℕ → Type 0
HasNames has ids = (id : ℕ) → (has id ≡ true) ↔ Contains ids id

-- Names came in, each alone in its cluster.
pub record GainsAll (ids : List ℕ) (old new : Ringed) : Type 0 where
  pub names : (x : ℕ) → IsNamed new.book x ↔ (IsNamed old.book x ⊎ Contains ids x)
  pub main : (x y : ℕ) → ShareMain new x y ↔ (ShareMain old x y ⊎ (Contains ids x × (x ≡ y)))
  pub touched : (x : ℕ) → IsMarked new x ↔ IsMarked old x
  pub len : set.len new.book.names ≡ set.len old.book.names + length ids
  pub issued : new.book.issued ≡ old.book.issued + length ids
