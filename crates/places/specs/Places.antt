-- Names as places: where each stands among the names.
use Rattle.std.specs.Prelude.{◌≡◌, ℕ, ◌<◌, List, length, Contains, Option, Some, slice_index}
use Rattle.places.specs.Chains.{pair_at}

-- A look-up finds a name at its place, and no other number.
pub record ArePlaces (names : List ℕ) (find : ℕ → Option ℕ) : Type 0 where
  pub sound : (id place : ℕ) → find id ≡ Some place → (place < length names) × (slice_index names place ≡ id)
  pub complete : (place : ℕ) → place < length names → find (slice_index names place) ≡ Some place

-- a look-up finds this name
abbrev pub Finds : (ℕ → Option ℕ) → ℕ → Type 0
Finds find id = (place : ℕ) × (find id ≡ Some place)

-- The pairs have both ends among names.
abbrev pub AreAmong : List ℕ → List (ℕ × ℕ) → Type 0
AreAmong names pairs = (parent child : ℕ) → Contains {X = ℕ × ℕ} pairs (parent, child) → Contains names parent × Contains names child

-- The pairs of names as steps between the places that a look-up finds.
pub record AreSteps (find : ℕ → Option ℕ) (pairs steps : List (ℕ × ℕ)) : Type 0 where
  pub sized : length steps ≡ length pairs
  pub ends : (k : ℕ) → k < length pairs
      → (find (pair_at pairs k).0 ≡ Some (pair_at steps k).0) × (find (pair_at pairs k).1 ≡ Some (pair_at steps k).1)
