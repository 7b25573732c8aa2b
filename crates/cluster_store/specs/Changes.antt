-- What changes of a store leave of its clusters.
use Rattle.std.specs.Prelude.{◌≡◌, ◌≢◌, ℕ, ◌-◌, ◌^◌, List, [], ◌∷◌, map, Contains, Option, None, Some, IsSome, min}
use Rattle.std.specs.FinMap as finmap
use Rattle.lists.specs.Distinct.{AreDistinct}
use Rattle.graphs.specs.Closures.{rate_of}
use Rattle.graphs.specs.declared.names.Level.{Level}
use Rattle.graphs.specs.declared.names.Level.TheVariants.{Main, Top}
use Rattle.chunk_index.specs.declared.entry.Tag.{Tag}
use Rattle.chunk_index.specs.declared.entry.Tag.TheVariants.{Both, MainOnly, TopOnly}
use Rattle.cluster.specs.Clusters.{Cluster}
use Rattle.cluster_store.specs.Stores.{Stored, Exchange, Numbered}

-- under the number is this now, and under other numbers what there was
pub record Sets (number : ℕ) (o : Option Stored) (old new : Numbered) : Type 0 where
  pub changed : finmap.get new number ≡ o
  pub others : (other : ℕ) → other ≢ number → finmap.get new other ≡ finmap.get old other

-- what is left of a cluster that goes out, or stands in other levels
abbrev pub moved_to : Option Tag → Option Stored → Option Stored
moved_to None o = None
moved_to (Some tag) None = None
moved_to (Some tag) (Some s) = Some (record { cluster = s.cluster; tag = tag })

-- where a staging is closed and a level stays, the levels of what had a tag: both for what stood in that level, and none for the rest
abbrev pub settled_to : Level → Tag → Option Tag
settled_to stays Both = Some Both
settled_to Main MainOnly = Some Both
settled_to Main TopOnly = None
settled_to Top MainOnly = None
settled_to Top TopOnly = Some Both

-- and what stands under a number then
abbrev pub settled : Level → Option Stored → Option Stored
settled stays None = None
settled stays (Some s) = moved_to (settled_to stays s.tag) (Some s)

-- another cluster, in the same levels
abbrev pub with_cluster : Cluster → Option Stored → Option Stored
with_cluster c None = None
with_cluster c (Some s) = Some (record { cluster = c; tag = s.tag })

-- each of these stands under its number in the place of the one that was there, with its tag
abbrev pub Exchanges : List Exchange → Numbered → Numbered → Type 0
Exchanges exchanged old new =
    (x : Exchange) (s : Stored) → Contains exchanged x → finmap.get old x.number ≡ Some s
    → finmap.get new x.number ≡ with_cluster x.cluster (Some s)

-- the clusters that are exchanged are there, each once
pub record AreHeld (exchanged : List Exchange) (clusters : Numbered) : Type 0 where
  pub once : AreDistinct (map (λ x. x.number) exchanged)
  pub there : (number : ℕ) → Contains (map (λ x. x.number) exchanged) number → IsSome (finmap.get clusters number)

-- clusters are exchanged under their numbers, and all else stays
pub record ExchangesEach (exchanged : List Exchange) (old new : Numbered) : Type 0 where
  pub exchanges : Exchanges exchanged old new
  pub others : (number : ℕ) → (Contains (map (λ x. x.number) exchanged) number → ⊥) → finmap.get new number ≡ finmap.get old number

-- ---- the bound of sizes

-- the bound of no sizes
abbrev pub most_least : ℕ
most_least = 2 ^ 64 - 1

-- the least of a number and some sizes
abbrev pub lowest : (ℕ → ℕ) → List ℕ → ℕ → ℕ
lowest size [] least = least
lowest size (id ∷ ids) least = lowest size ids (min least (size id))

-- the least of a number and the sizes of the names of some clusters
abbrev pub lowest_in : List Cluster → ℕ → ℕ
lowest_in [] least = least
lowest_in (c ∷ cs) least = lowest_in cs (lowest (λ id. (rate_of c.graph id).size) c.names least)

-- where there is no cluster the bound begins anew, and else it is this one
pub record EndsAt (clusters : Numbered) (wanted least : ℕ) : Type 0 where
  pub none : ((number : ℕ) → finmap.get clusters number ≡ None) → least ≡ most_least
  pub some : (number : ℕ) (s : Stored) → finmap.get clusters number ≡ Some s → least ≡ wanted
