-- How components are found one after the other.
use Rattle.std.specs.Prelude.{◌≡◌, ◌≢◌, ◌↔◌, ◌⊎◌, ℕ, ℤ, pos, ◌<◌, Bool, true, List, [], ◌++◌, length, map, slice_index, slice_index_or, Contains, AllPairs}
use Rattle.lists.specs.Distinct.{AreDistinct}
use Rattle.graphs.specs.Graphs.{AreConnected}
use Rattle.graphs.specs.Certificates.{Txs}
use Rattle.links.specs.Links.{Links, Has}
use Rattle.links.specs.Kept.{names_of}
use Rattle.links.specs.Pairs.{AreSplit}
use Rattle.links.specs.Parts.{StandsBefore}
use Rattle.places.specs.Chains.{pair_at, turned}
use Rattle.links.specs.Ways.{AreWays}
use Rattle.links.specs.Walkers.{IsReady, mark_at}
use Rattle.links.specs.declared.gathering.Search.{Search}

-- the transaction at a place
abbrev pub tx_at : Txs → ℕ → ℕ × ℤ × ℕ
tx_at txs place = slice_index_or txs place (0, pos 0, 0)

-- the steps, each both ways
abbrev pub both_ways : List (ℕ × ℕ) → List (ℕ × ℕ)
both_ways steps = map turned steps ++ steps

-- The places with a mark are those that had one and those of a list.
abbrev pub MarksMore : ℕ → List Bool → List ℕ → List Bool → Type 0
MarksMore count old places new =
    (place : ℕ) → place < count → (mark_at new place ≡ true) ↔ ((mark_at old place ≡ true) ⊎ Contains places place)

-- the pair of a step that leads from this place
abbrev pub IsFrom : List (ℕ × ℕ) → List (ℕ × ℕ) → ℕ → ℕ → ℕ → Type 0
IsFrom steps pairs place a b =
    (k : ℕ) × (k < length pairs) × ((pair_at steps k).1 ≡ place) × (◌≡◌ {A = ℕ × ℕ} (pair_at pairs k) (a, b))

-- the pair of a step that leads from one of these places
abbrev pub IsFromOne : List (ℕ × ℕ) → List (ℕ × ℕ) → List ℕ → ℕ → ℕ → Type 0
IsFromOne steps pairs places a b = (place : ℕ) × Contains places place × IsFrom steps pairs place a b

-- The new pairs are the old ones whose child is one of these names.
abbrev pub AreInto : List ℕ → List (ℕ × ℕ) → List (ℕ × ℕ) → Type 0
AreInto names old new =
    (a b : ℕ) → Contains {X = ℕ × ℕ} new (a, b) ↔ (Contains {X = ℕ × ℕ} old (a, b) × Contains names b)

-- Places, each once, where each step from one of them leads to one of them.
pub record AreClosed (count : ℕ) (steps : List (ℕ × ℕ)) (places : List ℕ) : Type 0 where
  pub within : (place : ℕ) → Contains places place → place < count
  pub once : AreDistinct places
  pub closed : (p q : ℕ) → Contains {X = ℕ × ℕ} steps (p, q) → Contains places q → Contains places p

-- Links of one component of others.
pub record IsComponent (old part : Links) : Type 0 where
  pub txs : (tx : ℕ × ℤ × ℕ) → Contains part.txs tx → Contains old.txs tx
  pub pairs : AreInto (names_of part.txs) old.pairs part.pairs
  pub filled : part.txs ≢ []
  pub closed : (a b : ℕ) → Has part b → AreConnected old.pairs a b → Has part a
  pub whole : (a b : ℕ) → Has part a → Has part b → AreConnected part.pairs a b

-- A search has ways and a mark for each of so many places, and is ready for a walk.
pub record IsSearch (count : ℕ) (search : Search) : Type 0 where
  pub around : AreWays count search.around
  pub ready : IsReady count search.walker
  pub sized : length search.taken.items ≡ count

-- The components of the first places were found: a place has a mark where one of them has its name.
pub record AreFound (old : Links) (at : ℕ) (taken : List Bool) (parts : List Links) : Type 0 where
  pub each : (part : Links) → Contains parts part → IsComponent old part
  pub exact : (place : ℕ) → place < length old.txs → (mark_at taken place ≡ true)
      ↔ ((part : Links) × Contains parts part × Has part (slice_index (names_of old.txs) place))
  pub all : (place : ℕ) → place < at → mark_at taken place ≡ true
  pub begun : (part : Links) → Contains parts part
      → (place : ℕ) × (place < at) × (place < length old.txs) × Has part (slice_index (names_of old.txs) place)
  pub apart : AllPairs (λ p q. AreSplit (names_of p.txs) (names_of q.txs)) parts
  pub order : AllPairs (λ p q. StandsBefore (names_of old.txs) (names_of p.txs) (names_of q.txs)) parts

-- A search goes along steps, each both ways, and has found the components of the first places.
pub record HasFound (old : Links) (steps : List (ℕ × ℕ)) (at : ℕ) (search : Search) (parts : List Links) : Type 0 where
  pub search_is : IsSearch (length old.txs) search
  pub steps_are : search.around.steps.items ≡ both_ways steps
  pub found : AreFound old at search.taken.items parts
