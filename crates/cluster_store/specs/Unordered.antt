-- Clusters without an order: those over the limits.
use Rattle.std.specs.Prelude.{◌≡◌, ℕ, ◌≤◌, true, nat_eq, List, [], ◌∷◌, Contains, Option, None, Some}
use Rattle.indexmap.specs.IndexSet.{IndexSet, contains, spare as room_of}
use Rattle.graphs.specs.declared.names.Level.{Level}
use Rattle.graphs.specs.Certificates.{Part}
use Rattle.chunk_index.specs.Items.{Items}
use Rattle.cluster.specs.Clusters.{Cluster}
use Rattle.cluster_store.specs.Stores.{Stored, Numbered}
use Rattle.cluster_store.specs.Changes.{settled}
use Rattle.cluster_store.specs.Kept.{Slots, at, IsKept}
use Rattle.cluster_store.specs.Tops.{seen_at, seen_in}

-- a cluster without an order stands in the level
abbrev pub LacksOrder : Level → Numbered → Type 0
LacksOrder level clusters = (n : ℕ) × (c : Cluster) × (seen_at level clusters n ≡ Some c) × (c.parts ≡ [])

-- what is stored has no order
abbrev pub IsUnordered : Option Stored → Type 0
IsUnordered o = (s : Stored) × (o ≡ Some s) × (s.cluster.parts ≡ [])

-- it has none, and stands in the level
abbrev pub LacksOrderIn : Level → Option Stored → Type 0
LacksOrderIn level o = (c : Cluster) × (seen_in level o ≡ Some c) × (c.parts ≡ [])

-- every number of a cluster without an order is one of these, and there may be more
abbrev pub ListsUnordered : {S : Type 0} → IndexSet ℕ S → Slots → Type 0
ListsUnordered over slots = (n : ℕ) → IsUnordered (at slots n) → contains nat_eq over n ≡ true

-- one of these has no order
abbrev pub HasUnordered : List Cluster → Type 0
HasUnordered clusters = (c : Cluster) × Contains clusters c × (c.parts ≡ [])

-- there is room for so many numbers where one of these has a cluster without an order
abbrev pub HasRoomFor : {S : Type 0} → ℕ → IndexSet ℕ S → Slots → List ℕ → Type 0
HasRoomFor count over slots numbers = (n : ℕ) → Contains numbers n → IsUnordered (at slots n) → count ≤ room_of over

-- What holds of every store: the slots and the index are kept, and the numbers of clusters without an order are listed.
pub record IsStored {S : Type 0} (w : ℕ) (slots : Slots) (items : Items) (over : IndexSet ℕ S) (least : ℕ) : Type 0 where
  pub kept : IsKept w slots items least
  pub unordered : ListsUnordered over slots

-- where a staging is closed and a level stays, what becomes of a cluster without an order; one with an order stays for now
abbrev pub settled_by : List Part → Level → Stored → Option Stored
settled_by [] stays s = settled stays (Some s)
settled_by (p ∷ ps) stays s = Some s

abbrev pub settled_unordered : Level → Option Stored → Option Stored
settled_unordered stays None = None
settled_unordered stays (Some s) = settled_by s.cluster.parts stays s
