-- What the names' book is, by the numbers of names in both levels.
use Rattle.std.specs.Prelude.{◌≡◌, ◌≢◌, ◌⊎◌, ◌↔◌, ◌≤◌, ℕ, List, drop, slice_index, Contains, Some, IsSome}
use Rattle.std.specs.FinMap as finmap
use Rattle.std.specs.FinSet as set
use Rattle.name_book.specs.Books.{IsNamed}
use Rattle.name_book.specs.Calls.{AreGathered}
use Rattle.chunk_index.specs.declared.entry.Tag.TheVariants.{MainOnly}
use Rattle.cluster.specs.Clusters.{Cluster}
use Rattle.levels.specs.Shelves.{Shelf}
use Rattle.levels.specs.Views.{Numbers}
pub use Rattle.name_book.specs.Books.{Ringed, IsMarked, ShareMain}

-- a name is in a level
abbrev pub IsHeld : Numbers → Numbers → ℕ → Type 0
IsHeld main top id = IsSome (finmap.get main id) ⊎ IsSome (finmap.get top id)

-- two names are of one cluster of main
abbrev pub AreOfOne : Numbers → ℕ → ℕ → Type 0
AreOfOne main a b = (n : ℕ) × (finmap.get main a ≡ Some n) × (finmap.get main b ≡ Some n)

-- The live names are those of the levels; those of one cluster of main share it, and a name that isn't in main is alone; the touched names
-- are those whose numbers differ.
pub record AreRight (rings : Ringed) (main top : Numbers) : Type 0 where
  pub names : (id : ℕ) → IsNamed rings.book id ↔ IsHeld main top id
  pub zero : (a b : ℕ) → ShareMain rings a b ↔ ((IsNamed rings.book a × (a ≡ b)) ⊎ AreOfOne main a b)
  pub touched : (id : ℕ) → IsMarked rings id ↔ (finmap.get main id ≢ finmap.get top id)

-- one of some clusters has both names
abbrev pub AreNamedOnce : List Cluster → ℕ → ℕ → Type 0
AreNamedOnce clusters x y = (c : Cluster) × Contains clusters c × Contains c.names x × Contains c.names y

-- main alone has the cluster of a number, and that has the name
abbrev pub LeftMain : Shelf → ℕ → ℕ → Type 0
LeftMain shelf number x = (c : Cluster) × (finmap.get shelf.store.clusters number ≡ Some (record { cluster = c; tag = MainOnly })) × Contains c.names x

-- main alone has one of the clusters of some numbers, and that has the name
abbrev pub LeftOf : Shelf → List ℕ → ℕ → Type 0
LeftOf shelf outs x = (n : ℕ) × Contains outs n × LeftMain shelf n x

-- some names went, and the others are as they were
pub record Forgets (These : ℕ → Type 0) (old new : Ringed) : Type 0 where
  pub names : (x : ℕ) → IsNamed new.book x ↔ (IsNamed old.book x × (These x → ⊥))
  pub main : (x y : ℕ) → ShareMain new x y ↔ (ShareMain old x y × (These x → ⊥) × (These y → ⊥))
  pub touched : (x : ℕ) → IsMarked new x ↔ (IsMarked old x × (These x → ⊥))

-- the names of a cluster, but for as many as kept from the first, join the ring of the first
pub record JoinsLast (kept : ℕ) (c : Cluster) (old new : Ringed) : Type 0 where
  pub names : new.book.names ≡ old.book.names
  pub main : AreGathered (slice_index c.names 0) (drop kept c.names) old new
  pub touched : (x : ℕ) → IsMarked new x ↔ IsMarked old x
  pub issued : new.book.issued ≡ old.book.issued

-- there are no more names than there were, and none was issued
abbrev pub Fewer : Ringed → Ringed → Type 0
Fewer old new = (set.len new.book.names ≤ set.len old.book.names) × (new.book.issued ≡ old.book.issued)
