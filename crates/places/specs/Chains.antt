-- For each place the pairs that have it second, from the last to the first.
use Rattle.std.specs.Prelude.{◌≡◌, ◌≢◌, ℕ, ◌-◌, ◌<◌, ◌≤◌, List, length, All, slice_index, slice_index_or}

abbrev pub pair_at : List (ℕ × ℕ) → ℕ → ℕ × ℕ
pair_at pairs k = slice_index_or pairs k (0, 0)

-- Both ends of each pair are among so many places.
abbrev pub AreWithin : ℕ → List (ℕ × ℕ) → Type 0
AreWithin count pairs = All (λ pair. (pair.0 < count) × (pair.1 < count)) pairs

-- Of the first pairs, the last one with this second place stands before position `last`; where that is 0, none has it.
pub record IsLast (pairs : List (ℕ × ℕ)) (place count last : ℕ) : Type 0 where
  pub below : last ≤ count
  pub into : 0 < last → (pair_at pairs (last - 1)).1 ≡ place
  pub later : (k : ℕ) → last ≤ k → k < count → (pair_at pairs k).1 ≢ place

-- The last pair of each place, and for each pair the one before it with the same second place.
pub record AreChains (pairs : List (ℕ × ℕ)) (last before : List ℕ) : Type 0 where
  pub sized : length before ≡ length pairs
  pub ends : (place : ℕ) → place < length last → IsLast pairs place (length pairs) (slice_index last place)
  pub links : (k : ℕ) → k < length pairs → IsLast pairs (pair_at pairs k).1 k (slice_index before k)

-- the pair the other way round
abbrev pub turned : ℕ × ℕ → ℕ × ℕ
turned pair = (pair.1, pair.0)
