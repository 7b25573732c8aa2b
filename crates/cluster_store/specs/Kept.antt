-- How a store is kept: a slab of clusters, and an index of their parts, in which the serial of an entry is the number of its cluster.
use Rattle.std.specs.Prelude.{◌≡◌, ℕ, ◌*◌, ◌≤◌, Bool, false, ◌&&◌, not, cond, List, [], ◌∷◌, Contains, Option, None, Some, slice_get, slice_index_or, nat_eq}
use Rattle.std.specs.List.{AllByRecursion}
use Rattle.std.specs.Ordering.{int_eq, is_eq}
use Rattle.std.specs.FinMap as finmap
use Rattle.slab.specs.Slab.{entries_from}
use Rattle.fee_rate.specs.declared.rates.FeeRate.{FeeRate}
use Rattle.graphs.specs.Closures.{rate_of}
use Rattle.graphs.specs.Certificates.{Part}
use Rattle.chunk_index.specs.declared.entry.Entry.{Entry}
use Rattle.chunk_index.specs.declared.entry.Tag.{Tag}
use Rattle.chunk_index.specs.declared.key.Key.{Key}
use Rattle.chunk_index.specs.KeyOrder.{key_cmp}
use Rattle.chunk_index.specs.Items.{Items, item_key, AreInOrder}
use Rattle.cluster.specs.Clusters.{Cluster}
use Rattle.record.specs.Records.{IsRecord}
use Rattle.cluster_store.specs.Stores.{Stored, Exchange, Numbered}

abbrev pub Slots : Type 0
Slots = List (Option Stored)

-- the slots with a cluster, by their numbers
unfoldable pub shelved : Slots → Numbered
shelved slots = finmap.from_entries (entries_from 0 slots)

abbrev pub at : Slots → ℕ → Option Stored
at slots number = slice_index_or slots number None

-- the place that an entry stands for
abbrev pub place_of : Entry × Tag → ℕ × ℕ
place_of i = (i.0.serial, i.0.position)

-- ---- which keys are there

abbrev pub same_key : Key → Key → Bool
same_key k l = is_eq (key_cmp k l)

-- the tag under a key
unfoldable pub found : Items → Key → Option Tag
found [] k = None
found (i ∷ items) k = cond (same_key (item_key i) k) (Some i.1) (found items k)

abbrev pub is_rate : FeeRate → Option Part → Bool
is_rate rate None = false
is_rate rate (Some part) = int_eq part.rate.fee rate.fee && nat_eq part.rate.size rate.size

-- whether the part at the key's position has its rate
unfoldable pub has_rate : List Part → Key → Bool
has_rate parts k = is_rate k.rate (slice_get parts k.position)

abbrev pub tag_for : Option Stored → Key → Option Tag
tag_for None k = None
tag_for (Some s) k = cond (has_rate s.cluster.parts k) (Some s.tag) None

-- the serial of each entry is the number of its record
abbrev pub AreNumbered : Items → Type 0
AreNumbered items = AllByRecursion (λ i. i.0.number ≡ i.0.serial) items

-- entries in key order whose serials are their numbers
abbrev pub AreListed : Items → Type 0
AreListed items = AreInOrder items × AreNumbered items

-- the index has exactly the keys of the parts, with the tags of their clusters, in key order
pub record IsShown (slots : Slots) (items : Items) : Type 0 where
  pub sorted : AreListed items
  pub tags : (k : Key) → found items k ≡ tag_for (at slots k.serial) k

-- ---- what changes of a cluster's entries

-- An index that was in key order, by the numbers of clusters, is still.
abbrev pub StaysSorted : Items → Items → Type 0
StaysSorted old new = AreListed old → AreListed new

-- the parts of a cluster, none where there is no cluster
abbrev pub parts_of : Option Cluster → List Part
parts_of None = []
parts_of (Some c) = c.parts

-- whether a key is of one of some parts under a number, and of none of others
unfoldable pub fresh : ℕ → List Part → List Part → Key → Bool
fresh number parts others k = nat_eq k.serial number && (has_rate parts k && not (has_rate others k))

-- the keys of some parts under a number that others lack are in, with a tag
pub record Enters (number : ℕ) (tag : Tag) (parts others : List Part) (old new : Items) : Type 0 where
  pub sorted : StaysSorted old new
  pub tags : (k : Key) → found new k ≡ cond (fresh number parts others k) (Some tag) (found old k)

-- they are out
pub record Leaves (number : ℕ) (parts others : List Part) (old new : Items) : Type 0 where
  pub sorted : StaysSorted old new
  pub tags : (k : Key) → found new k ≡ cond (fresh number parts others k) None (found old k)

-- every key has what it had
pub record IsSameIndex (old new : Items) : Type 0 where
  pub sorted : StaysSorted old new
  pub tags : (k : Key) → found new k ≡ found old k

-- ---- while clusters are exchanged

-- the parts that wait under a number
abbrev pub waiting_at : List Exchange → ℕ → List Part
waiting_at [] number = []
waiting_at (x ∷ xs) number = cond (nat_eq x.number number) x.cluster.parts (waiting_at xs number)

-- the tag under a key where the parts of a cluster and others are in
abbrev pub tag_wide : Option Stored → List Part → Key → Option Tag
tag_wide None others k = None
tag_wide (Some s) others k = cond (has_rate s.cluster.parts k) (Some s.tag) (cond (has_rate others k) (Some s.tag) None)

-- the index has the keys of the parts, and those of the clusters that wait to be exchanged, in key order
pub record IsWide (slots : Slots) (waiting : List Exchange) (items : Items) : Type 0 where
  pub sorted : AreListed items
  pub tags : (k : Key) → found items k ≡ tag_wide (at slots k.serial) (waiting_at waiting k.serial) k

-- ---- what holds of every store

-- A set of places has at most 64 words, the index is right, each cluster is whole, and no name has a size below the bound.
pub record IsKept (w : ℕ) (slots : Slots) (items : Items) (least : ℕ) : Type 0 where
  pub narrow : w ≤ 64
  pub shown : IsShown slots items
  pub whole : (number : ℕ) (s : Stored) → at slots number ≡ Some s → IsRecord (64 * w) s.cluster
  pub floor : (number : ℕ) (s : Stored) → at slots number ≡ Some s → (id : ℕ) → Contains s.cluster.names id → least ≤ (rate_of s.cluster.graph id).size
