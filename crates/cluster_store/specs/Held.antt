-- Parts with their clusters.
use Rattle.std.specs.Prelude.{ℕ, ◌≤◌, List, [], map, Option, None, Some, slice_index_or, refl}
use Rattle.std.specs.Borrow.{Bor}
use Rattle.std.specs.Coded.{Coded, code_by, coded×}
use Rattle.std.specs.FinMap as finmap
use Rattle.graphs.specs.declared.names.Level.{Level}
use Rattle.graphs.specs.Certificates.{Part}
use Rattle.chunk_index.specs.declared.entry.Entry.{Entry}
use Rattle.cluster.specs.Clusters.{Cluster, cluster_code, part_code}
use Rattle.cluster.specs.declared.cluster.PartRef.{PartRef}
use Rattle.cluster_store.specs.Lent.{lent}
use Rattle.cluster_store.specs.Stores.{Stored, Numbered, Store, part_at, places_in}
use Rattle.cluster_store.specs.Walks.{HasParts, shown_of}

-- a part with its cluster
pub record Held : Type 0 where
  pub part : Part
  pub cluster : Cluster

abbrev pub held_code : Coded Held
held_code = code_by (Part × Cluster) (coded× part_code cluster_code) (λ h. (h.part, h.cluster)) (λ p. record { part = p.0; cluster = p.1 }) (λ _. refl)

-- one that is lent
abbrev pub held_part : PartRef × Bor Cluster → Held
held_part p = record { part = lent p.0; cluster = p.1.now }

-- the cluster that is stored, one without names where there is none
abbrev pub cluster_in : Option Stored → Cluster
cluster_in None = record { names = []; graph = finmap.empty; parts = [] }
cluster_in (Some s) = s.cluster

-- the part that an entry stands for, with its cluster
abbrev pub held_at_entry : List (Option Stored) → Entry → Held
held_at_entry slots e = record { part = (shown_of (λ (s : Stored). s.cluster.parts) slots e).part; cluster = cluster_in (slice_index_or slots e.serial None) }

abbrev pub held_at : Numbered → ℕ × ℕ → Held
held_at clusters place = record { part = part_at clusters place; cluster = cluster_in (finmap.get clusters place.0) }

-- a level's parts, merged, with their clusters
abbrev pub held_in : Level → Store → List Held
held_in level store = map (held_at store.clusters) (places_in level store)

-- entries of parts that are stored, where a cluster is of at most so many words
pub record MayWalk (w : ℕ) (slots : List (Option Stored)) (entries : List Entry) : Type 0 where
  pub narrow : w ≤ 64
  pub parts : HasParts (λ (s : Stored). s.cluster.parts) slots entries
