-- Components as groups of places, and groups as far as walks along pairs have come.
use Rattle.std.specs.Prelude.{◌≡◌, ◌≢◌, ◌⊎◌, ◌↔◌, ℕ, ◌+◌, ◌<◌, List, length, Contains, slice_index, nat_eq, cond, sum_by}
use Rattle.graphs.specs.Graphs.{AreConnected}
use Rattle.places.specs.Chains.{pair_at}

-- Two places have one group exactly where they are in one component.
pub record AreGroups (pairs : List (ℕ × ℕ)) (groups : List ℕ) : Type 0 where
  pub exact : (a b : ℕ) → a < length groups → b < length groups
      → (slice_index groups a ≡ slice_index groups b) ↔ AreConnected pairs a b

-- Each pair stands there the other way round too.
abbrev pub GoBothWays : List (ℕ × ℕ) → Type 0
GoBothWays steps = (a b : ℕ) → Contains {X = ℕ × ℕ} steps (a, b) → Contains {X = ℕ × ℕ} steps (b, a)

-- A place has a group. A group is a place, so the count of places stands for none.
abbrev pub HasGroup : ℕ → List ℕ → ℕ → Type 0
HasGroup count groups place = slice_index groups place ≢ count

-- These are places, and of this group.
abbrev pub AreOfGroup : ℕ → List ℕ → ℕ → List ℕ → Type 0
AreOfGroup count groups group places =
    (place : ℕ) → Contains places place → (place < count) × (slice_index groups place ≡ group)

-- Groups as far as walks have come: a place's group is a place that it is connected to, and what a pair leads from has
-- the group of the place that it leads to, unless that place has none, or still waits for a look at its pairs.
pub record IsGrouping (steps : List (ℕ × ℕ)) (count : ℕ) (groups waiting : List ℕ) : Type 0 where
  pub sized : length groups ≡ count
  pub sound : (place : ℕ) → place < count → HasGroup count groups place
      → AreConnected steps (slice_index groups place) place
  pub closed : (k : ℕ) → k < length steps → HasGroup count groups (pair_at steps k).1
      → Contains waiting (pair_at steps k).1
      ⊎ (slice_index groups (pair_at steps k).0 ≡ slice_index groups (pair_at steps k).1)

-- A walk of one group went on: all that waits is of that group, and each place that had a group keeps it.
pub record GoesOn (steps : List (ℕ × ℕ)) (count group : ℕ) (groups groups' waiting' : List ℕ) : Type 0 where
  pub grouping : IsGrouping steps count groups' waiting'
  pub together : AreOfGroup count groups' group waiting'
  pub kept : (place : ℕ) → HasGroup count groups place → slice_index groups' place ≡ slice_index groups place

-- The work that is left: two for a place without a group, one for a place that waits.
abbrev pub work_of : ℕ → List ℕ → List ℕ → ℕ
work_of count groups waiting = sum_by (λ group. cond (nat_eq group count) 2 0) groups + length waiting
