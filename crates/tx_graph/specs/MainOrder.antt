-- Names as they stand in an order.
use Rattle.std.specs.Prelude.{◌≡◌, ◌⊎◌, ℕ, ◌+◌, ◌<◌, cond, nat_eq, List, [], ◌∷◌, length, slice_index, Contains}
use Rattle.graphs.specs.Linearizations.{StandsBefore}

-- Of two names of a list the first stands before the second in an order, or is the same; names that the order hasn't come last.
abbrev pub StandInOrder : List ℕ → List ℕ → Type 0
StandInOrder order ids =
    (i j : ℕ) → i < j → j < length ids → Contains order (slice_index ids j)
    → StandsBefore order (slice_index ids i) (slice_index ids j) ⊎ (slice_index ids i ≡ slice_index ids j)

-- How many names of an order stand before one; all of them, where the order hasn't it.
unfoldable pub place_in : List ℕ → ℕ → ℕ
place_in [] id = 0
place_in (x ∷ xs) id = cond (nat_eq x id) 0 (place_in xs id + 1)
