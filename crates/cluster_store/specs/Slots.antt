-- What changes leave of the slots.
use Rattle.std.specs.Prelude.{◌≡◌, ◌≢◌, ℕ, List, [], ◌∷◌, ◌++◌, map, length, nat_eq, Contains, Option, None, Some, IsSome, slice_get, slice_index}
use Rattle.std.specs.List.{filter}
use Rattle.lists.specs.Distinct.{AreDistinct}
use Rattle.graphs.specs.Certificates.{Part}
use Rattle.graphs.specs.declared.names.Level.{Level}
use Rattle.graphs.specs.declared.names.Level.TheVariants.{Main, Top}
use Rattle.chunk_index.specs.declared.entry.Entry.{Entry}
use Rattle.chunk_index.specs.declared.entry.Tag.{Tag}
use Rattle.chunk_index.specs.declared.entry.Tag.TheVariants.{MainOnly, TopOnly}
use Rattle.chunk_index.specs.declared.key.Key.{Key}
use Rattle.chunk_index.specs.Items.{Items}
use Rattle.cluster.specs.Clusters.{Cluster}
use Rattle.cluster_store.specs.Stores.{Stored, Exchange}
use Rattle.cluster_store.specs.Changes.{moved_to, with_cluster}
use Rattle.cluster_store.specs.Kept.{Slots, at, found, tag_wide, StaysSorted}

-- the slot of the number has another content, and the others have what they had
pub record Writes (old new : Slots) (number : ℕ) (o : Option Stored) : Type 0 where
  pub changed : at new number ≡ o
  pub others : (other : ℕ) → other ≢ number → at new other ≡ at old other

abbrev pub MovesIn : Slots → Slots → ℕ → Option Tag → Type 0
MovesIn old new number to = Writes old new number (moved_to to (at old number))

-- ---- several numbers

-- the numbers are different ones, and under each of them stands a cluster
pub record AreStored (numbers : List ℕ) (slots : Slots) : Type 0 where
  pub once : AreDistinct numbers
  pub there : (number : ℕ) → Contains numbers number → IsSome (at slots number)

-- under the number of each of these is what the change f of it makes of what was there, and under other numbers what there was
pub record Done {X : Type 0} (number : X → ℕ) (f : X → Option Stored → Option Stored) (xs : List X) (old new : Slots) : Type 0 where
  pub each : (x : X) → Contains xs x → at new (number x) ≡ f x (at old (number x))
  pub others : (m : ℕ) → (Contains (map number xs) m → ⊥) → at new m ≡ at old m

-- nothing is under these numbers
abbrev pub AreOut : List ℕ → Slots → Slots → Type 0
AreOut = Done (λ n. n) (λ n o. None)

-- these stand under these numbers, one for one, which were free, and under others stands what there was
pub record AddsTo (added : List Stored) (numbers : List ℕ) (old new : Slots) : Type 0 where
  pub count : length numbers ≡ length added
  pub once : AreDistinct numbers
  pub free : (number : ℕ) → Contains numbers number → at old number ≡ None
  pub stand : (i : ℕ) (s : Stored) → slice_get added i ≡ Some s → at new (slice_index numbers i) ≡ Some s
  pub others : (number : ℕ) → (Contains numbers number → ⊥) → at new number ≡ at old number

abbrev pub Places : Slots → Slots → ℕ → Cluster → Type 0
Places old new number c = Writes old new number (with_cluster c (at old number))

-- each of these stands in the place of another
abbrev pub ExchangesAll : List Exchange → Slots → Slots → Type 0
ExchangesAll = Done (λ x. x.number) (λ x. with_cluster x.cluster)

-- under a number the index has the keys of the parts of its cluster, and of these parts beside
pub record IsBeside (slots : Slots) (number : ℕ) (beside : List Part) (items : Items) : Type 0 where
  pub tags : (k : Key) → k.serial ≡ number → found items k ≡ tag_wide (at slots number) beside k

-- under other numbers each key has what it had
pub record KeepsElsewhere (number : ℕ) (old new : Items) : Type 0 where
  pub sorted : StaysSorted old new
  pub tags : (k : Key) → k.serial ≢ number → found new k ≡ found old k

-- one more cluster stands under a number that was free, which is put behind others
pub record AddsOne (s : Stored) (before after : List ℕ) (old new : Slots) : Type 0 where
  pub number : ℕ
  pub listed : after ≡ before ++ number ∷ []
  pub free : at old number ≡ None
  pub writes : Writes old new number (Some s)

-- ---- where a staging is closed and a level stays

-- the tag of what stands in the other level alone
abbrev pub other_tag : Level → Tag
other_tag Main = TopOnly
other_tag Top = MainOnly

-- those of some entries that stand for the first parts of their clusters
unfoldable pub firsts : List Entry → List Entry
firsts entries = filter (λ e. nat_eq e.position 0) entries

-- each cluster whose first part is among those of some entries goes out, or stands in other levels
abbrev pub MovesFirsts : Option Tag → List Entry → Slots → Slots → Type 0
MovesFirsts to entries = Done (λ e. e.number) (λ e. moved_to to) (firsts entries)
