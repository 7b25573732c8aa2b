-- Where names stand in a list, by their positions.
use Rattle.std.specs.Prelude.{◌≡◌, ◌≢◌, ℕ, ◌<◌, ◌≤◌, List, slice_index}

-- a name stands at a position from one on and below another
abbrev pub StandsWithin : List ℕ → ℕ → ℕ → ℕ → Type 0
StandsWithin ids from to id = (at : ℕ) × (from ≤ at) × (at < to) × (slice_index ids at ≡ id)

-- No name of a position below a bound stands earlier too, at a position from one on and below another.
abbrev pub NoneAgain : List ℕ → ℕ → ℕ → ℕ → Type 0
NoneAgain ids from to bound = (i j : ℕ) → from ≤ i → i < to → i < j → j < bound → slice_index ids i ≢ slice_index ids j
