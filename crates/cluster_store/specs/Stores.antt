-- What a store has: clusters under numbers, each with the levels that it stands in, and the parts of all of them in one order.
use Rattle.std.specs.Prelude.{◌≡◌, ℕ, ◌<◌, ◌≤◌, Bool, false, zero, suc, pos, List, [], map, length, Contains, ◌↔◌, Option, None, Some, slice_index_or, refl}
use Rattle.std.specs.List.{filter}
use Rattle.std.specs.Coded.{Coded, code_by, coded×, coded_ℕ, coded_list}
use Rattle.std.specs.Ordering.{nat_cmp}
use Rattle.std.specs.FinMap as finmap
use Rattle.graphs.specs.Closures.{rate_of}
use Rattle.graphs.specs.Certificates.{Part}
use Rattle.graphs.specs.declared.names.Level.{Level}
use Rattle.chunk_index.specs.declared.entry.Tag.{Tag}
use Rattle.chunk_index.specs.declared.entry.Tag.TheVariants.{Both, MainOnly, TopOnly}
use Rattle.chunk_index.specs.declared.key.Key.{Key}
use Rattle.chunk_index.specs.Items.{is_in, same_tag}
use Rattle.chunk_index.specs.Keys.{IsInOrder}
use Rattle.cluster.specs.Clusters.{Cluster, cluster_code, part_code}
use Rattle.record.specs.Records.{IsRecord}

-- ---- what is kept under a number

-- a tag as a number
abbrev pub tag_number : Tag → ℕ
tag_number Both = 0
tag_number MainOnly = 1
tag_number TopOnly = 2

abbrev pub tag_from : ℕ → Tag
tag_from zero = Both
tag_from (suc zero) = MainOnly
tag_from (suc (suc n)) = TopOnly

pub tag_back : (t : Tag) → tag_from (tag_number t) ≡ t
tag_back Both = refl
tag_back MainOnly = refl
tag_back TopOnly = refl

abbrev pub tag_code : Coded Tag
tag_code = code_by ℕ coded_ℕ tag_number tag_from tag_back

-- a cluster and the levels that it stands in
pub record Stored : Type 0 where
  pub cluster : Cluster
  pub tag : Tag

abbrev pub stored_code : Coded Stored
stored_code = code_by (Cluster × Tag) (coded× cluster_code tag_code) (λ s. (s.cluster, s.tag)) (λ p. record { cluster = p.0; tag = p.1 }) (λ _. refl)

-- a cluster that is to take the place of another under its number
pub record Exchange : Type 0 where
  pub number : ℕ
  pub cluster : Cluster

abbrev pub exchange_code : Coded Exchange
exchange_code = code_by (ℕ × Cluster) (coded× coded_ℕ cluster_code) (λ x. (x.number, x.cluster)) (λ p. record { number = p.0; cluster = p.1 }) (λ _. refl)

-- clusters with their tags under numbers
abbrev pub Numbered : Type 0
Numbered = finmap.FinMap nat_cmp Stored

-- The clusters, the parts of all of them, each told by the number of its cluster and its position there, and a bound of sizes.
pub record Store : Type 0 where
  pub clusters : Numbered
  pub order : List (ℕ × ℕ)
  pub least : ℕ

abbrev pub store_code : Coded Store
store_code =
    code_by (Numbered × (List (ℕ × ℕ) × ℕ)) (coded× (finmap.code coded_ℕ stored_code) (coded× (coded_list (coded× coded_ℕ coded_ℕ)) coded_ℕ))
    (λ s. (s.clusters, (s.order, s.least))) (λ p. record { clusters = p.0; order = p.1.0; least = p.1.1 }) (λ _. refl)

-- ---- the parts

abbrev pub no_part : Part
no_part = record { rate = record { fee = pos 0; size = 0 }; ids = []; flows = [] }

-- the parts under a number, none where there is nothing
abbrev pub parts_by : {T : Type 0} → (T → List Part) → Option T → List Part
parts_by parts None = []
parts_by parts (Some s) = parts s

abbrev pub parts_in : Option Stored → List Part
parts_in = parts_by (λ s. s.cluster.parts)

abbrev pub part_in : Option Stored → ℕ → Part
part_in o position = slice_index_or (parts_in o) position no_part

-- the part at a position of the cluster of a number
abbrev pub part_at : Numbered → ℕ × ℕ → Part
part_at clusters place = part_in (finmap.get clusters place.0) place.1

-- what orders it: its rate, the number of its cluster, its position
abbrev pub key_in : Option Stored → ℕ × ℕ → Key
key_in o place = record {
  rate = record { fee = (part_in o place.1).rate.fee; size = (part_in o place.1).rate.size };
  serial = place.0;
  position = place.1;
}

abbrev pub key_at : Numbered → ℕ × ℕ → Key
key_at clusters place = key_in (finmap.get clusters place.0) place

-- All parts of all clusters, each once, by falling rate, among equal rates by the number of the cluster, and then by position. There is one
-- such list.
pub record IsOrdered (clusters : Numbered) (order : List (ℕ × ℕ)) : Type 0 where
  pub exact : (place : ℕ × ℕ) → Contains order place ↔ (place.1 < length (parts_in (finmap.get clusters place.0)))
  pub sorted : IsInOrder (key_at clusters) order

-- ---- levels

-- whether the tag under a number passes a test
abbrev pub passes : (Tag → Bool) → Option Stored → Bool
passes test None = false
passes test (Some s) = test s.tag

-- the places of the parts whose clusters' tags pass a test, in their order
unfoldable pub places_by : (Tag → Bool) → Store → List (ℕ × ℕ)
places_by test store = filter (λ place. passes test (finmap.get store.clusters place.0)) store.order

abbrev pub places_in : Level → Store → List (ℕ × ℕ)
places_in level = places_by (is_in level)

-- a part with the number of its cluster
pub record Shown : Type 0 where
  pub number : ℕ
  pub part : Part

abbrev pub shown_code : Coded Shown
shown_code = code_by (ℕ × Part) (coded× coded_ℕ part_code) (λ s. (s.number, s.part)) (λ p. record { number = p.0; part = p.1 }) (λ _. refl)

abbrev pub shown_at : Numbered → ℕ × ℕ → Shown
shown_at clusters place = record { number = place.0; part = part_at clusters place }

abbrev pub shown_by : (Tag → Bool) → Store → List Shown
shown_by test store = map (shown_at store.clusters) (places_by test store)

-- a level's parts, merged
abbrev pub shown_in : Level → Store → List Shown
shown_in level = shown_by (is_in level)

-- the parts of the clusters of one tag, merged
abbrev pub shown_only : Tag → Store → List Shown
shown_only tag = shown_by (same_tag tag)

abbrev pub parts_of_level : Level → Store → List Part
parts_of_level level store = map (λ shown. shown.part) (shown_in level store)

-- ---- what holds of every store

-- every cluster is one of at most so many names, or has no order
abbrev pub AreWhole : ℕ → Numbered → Type 0
AreWhole most clusters = (number : ℕ) (s : Stored) → finmap.get clusters number ≡ Some s → IsRecord most s.cluster

-- no name of a cluster has a smaller size
abbrev pub IsLeast : Numbered → ℕ → Type 0
IsLeast clusters least =
    (number : ℕ) (s : Stored) → finmap.get clusters number ≡ Some s → (id : ℕ) → Contains s.cluster.names id → least ≤ (rate_of s.cluster.graph id).size

pub record IsStore (most : ℕ) (store : Store) : Type 0 where
  pub whole : AreWhole most store.clusters
  pub ordered : IsOrdered store.clusters store.order
  pub least : IsLeast store.clusters store.least
