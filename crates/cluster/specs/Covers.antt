-- Parents with nothing between, by places and by names.
use Rattle.std.specs.Prelude.{◌≡◌, ◌↔◌, ℕ, ◌≤◌, Bool, true, List, ◌∷◌, length, slice_index, Contains}
use Rattle.std.specs.List.{filter}
use Rattle.std.specs.Ordering.{nat_cmp}
use Rattle.std.specs.FinSet as set
use Rattle.lists.specs.Distinct.{AreDistinct}
use Rattle.bitset.specs.Places.{IsWithin}
use Rattle.cluster.specs.Named.{names_where}

-- whether the place of a name is chosen
unfoldable pub has_chosen : List ℕ → set.FinSet nat_cmp → ℕ → Bool
has_chosen names chosen id = set.contains (names_where names (λ p. set.contains chosen p) (length names)) id

-- What is to come of a list: the names whose places are chosen. Each name of the list has one place, of at most n, and stands in the list
-- once; each place that is chosen is that of a name of the list.
pub record AreToCome (n : ℕ) (names ids : List ℕ) (chosen : set.FinSet nat_cmp) : Type 0 where
  pub few : length names ≤ n
  pub once : AreDistinct names
  pub apart : AreDistinct ids
  pub there : (id : ℕ) → Contains ids id → Contains names id
  pub within : IsWithin (length names) chosen
  pub stand : (p : ℕ) → set.contains chosen p ≡ true → Contains ids (slice_index names p)

-- the first of a list whose place is chosen: the place, and the part of the list in which the others are to come
pub record IsFirst (n : ℕ) (names ids : List ℕ) (chosen : set.FinSet nat_cmp) (place : ℕ) (rest : List ℕ) : Type 0 where
  pub here : set.contains chosen place ≡ true
  pub first : filter (has_chosen names chosen) ids ≡ slice_index names place ∷ filter (has_chosen names (set.remove chosen place)) rest
  pub others : AreToCome n names rest (set.remove chosen place)

-- exactly the names with a property, in an order
pub record ListsInOrder (P : ℕ → Type 0) (order ids : List ℕ) : Type 0 where
  pub exact : (id : ℕ) → Contains ids id ↔ P id
  pub in_order : (keep : ℕ → Bool) × (ids ≡ filter keep order)
