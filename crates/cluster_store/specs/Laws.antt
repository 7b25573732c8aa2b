-- What a reader would expect of the definitions.
use Rattle.std.specs.Prelude.{◌≡◌, ◌↔◌, ℕ, List, flat_map, Contains, true, Some, slice_get}
use Rattle.std.specs.FinMap as finmap
use Rattle.graphs.specs.Closures.{Closure, is_member, is_ancestor, rate_of}
use Rattle.graphs.specs.Certificates.{Part}
use Rattle.graphs.specs.Linearizations.{StandsBefore}
use Rattle.graphs.specs.Merges.{Precedes}
use Rattle.graphs.specs.declared.names.Level.{Level}
use Rattle.chunk_index.specs.Items.{is_in}
use Rattle.cluster.specs.Clusters.{Cluster, IsCluster, ArePicked, AreUncut}
use Rattle.cluster_store.specs.Stores.{Stored, Numbered, Store, IsOrdered, IsStore, shown_in, parts_of_level}

-- the cluster stands under the number, in the level
abbrev pub Stands : Level → Numbered → ℕ → Cluster → Type 0
Stands level clusters number c = (s : Stored) × (finmap.get clusters number ≡ Some s) × (s.cluster ≡ c) × (is_in level s.tag ≡ true)

-- One graph of all clusters of a level, which have no name in common: its members, their ancestors and their fees and sizes are theirs.
pub record IsLevel (level : Level) (clusters : Numbered) (g : Closure) : Type 0 where
  pub apart : (n m id : ℕ) (c d : Cluster) → Stands level clusters n c → Stands level clusters m d → Contains c.names id → Contains d.names id → n ≡ m
  pub members : (id : ℕ) → (is_member g id ≡ true) ↔ ((n : ℕ) × (c : Cluster) × Stands level clusters n c × Contains c.names id)
  pub ancestors : (a d : ℕ) → (is_ancestor g a d ≡ true) ↔ ((n : ℕ) × (c : Cluster) × Stands level clusters n c × (is_ancestor c.graph a d ≡ true))
  pub rates : (n id : ℕ) (c : Cluster) → Stands level clusters n c → Contains c.names id → rate_of g id ≡ rate_of c.graph id

-- Where each cluster of a level is one of at most so many names, the level's parts are a pick of the graph of the level, and none of them can
-- be cut further. Of clusters that don't stand there nothing is asked.
abbrev pub LevelsArePicked : Type 0
LevelsArePicked =
    (most : ℕ) (store : Store) (level : Level) (g : Closure) → IsOrdered store.clusters store.order
    → ((n : ℕ) (c : Cluster) → Stands level store.clusters n c → IsCluster most c) → IsLevel level store.clusters g
    → ArePicked g (parts_of_level level store) × AreUncut g (parts_of_level level store)

-- the cluster of a number, if it has one, stands under it still, whatever the levels
abbrev pub Stays : Numbered → Numbered → ℕ → Type 0
Stays old new number = (s : Stored) → finmap.get old number ≡ Some s → (t : Stored) × (finmap.get new number ≡ Some t) × (t.cluster ≡ s.cluster)

-- There is one order of the parts of a store's clusters. Where some clusters go out, come in or change their levels, the parts of those that
-- stay keep their order, also among equal rates.
pub record OrdersAreKept : Type 0 where
  pub one : (clusters : Numbered) (a b : List (ℕ × ℕ)) → IsOrdered clusters a → IsOrdered clusters b → a ≡ b
  pub kept : (old new : Store) → IsOrdered old.clusters old.order → IsOrdered new.clusters new.order → (x y : ℕ × ℕ)
      → Stays old.clusters new.clusters x.0 → Stays old.clusters new.clusters y.0 → Precedes old.order x y → Precedes new.order x y

-- the names of a level, in the order of its parts
abbrev pub names_in_order : Level → Store → List ℕ
names_in_order level store = flat_map (λ part. part.ids) (parts_of_level level store)

-- a part stands at a place, in the level
abbrev pub StandsAt : Level → Numbered → ℕ × ℕ → Part → Type 0
StandsAt level clusters place part = (c : Cluster) × Stands level clusters place.0 c × (slice_get c.parts place.1 ≡ Some part)

-- Each part of a cluster of a level is among the level's. The names of a cluster stand there in its order, and the names of one part stand
-- before those of another where the part does.
pub record PartsStandInOrder (level : Level) (store : Store) : Type 0 where
  pub there : (place : ℕ × ℕ) (part : Part) → StandsAt level store.clusters place part → Contains store.order place
  pub shown : (place : ℕ × ℕ) (part : Part) → StandsAt level store.clusters place part → Contains (parts_of_level level store) part
  pub inside : (n : ℕ) (c : Cluster) → Stands level store.clusters n c → (a b : ℕ) → StandsBefore (flat_map (λ part. part.ids) c.parts) a b
      → StandsBefore (names_in_order level store) a b
  pub before : (x y : ℕ × ℕ) (p q : Part) (a b : ℕ) → StandsAt level store.clusters x p → StandsAt level store.clusters y q → Precedes store.order x y
      → Contains p.ids a → Contains q.ids b → StandsBefore (names_in_order level store) a b

-- so it is in every store
abbrev pub AllStandInOrder : Type 0
AllStandInOrder = (most : ℕ) (level : Level) (store : Store) → IsStore most store → PartsStandInOrder level store

-- the same clusters stand under the same numbers, in a level of some and in a level of others, whatever their other levels
abbrev pub HaveSameClusters : Level → Numbered → Level → Numbered → Type 0
HaveSameClusters a one b two = (n : ℕ) (c : Cluster) → Stands a one n c ↔ Stands b two n c

-- The parts of a level are told by the clusters that stand in it: where those of two levels, of one store or of two, are the same under the
-- same numbers, the levels have the same parts in the same order, also among equal rates. What else the stores hold is free.
pub record PartsAreToldByClusters : Type 0 where
  pub shown : (a b : Level) (one two : Store) → IsOrdered one.clusters one.order → IsOrdered two.clusters two.order
      → HaveSameClusters a one.clusters b two.clusters → shown_in a one ≡ shown_in b two
  pub parts : (a b : Level) (one two : Store) → IsOrdered one.clusters one.order → IsOrdered two.clusters two.order
      → HaveSameClusters a one.clusters b two.clusters → parts_of_level a one ≡ parts_of_level b two
