-- Edges of names as pairs of places.
use Rattle.std.specs.Prelude.{◌≡◌, ℕ, List, length, map, slice_index}
use Rattle.places.specs.Chains.{AreWithin}

-- The edge of two places.
abbrev pub named : List ℕ → ℕ × ℕ → ℕ × ℕ
named names pair = (slice_index names pair.0, slice_index names pair.1)

-- The edges as pairs of places.
pub record ArePairs (names : List ℕ) (edges pairs : List (ℕ × ℕ)) : Type 0 where
  pub within : AreWithin (length names) pairs
  pub same : edges ≡ map (named names) pairs
