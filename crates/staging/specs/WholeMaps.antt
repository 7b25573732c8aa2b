-- How the plain program of the tests keeps two maps.
use Rattle.std.specs.Prelude.{ℕ, Bool, true, false, List, Option, Some, None}
use Rattle.staging.specs.Maps.{Map, Maps}
use Rattle.staging.specs.Changes.{map_of_entries}

-- the second map, where something is staged
abbrev pub second_map : List (ℕ × ℕ) → Bool → Option (Map ℕ)
second_map top true = Some (map_of_entries top)
second_map top false = None

abbrev pub whole_maps : List (ℕ × ℕ) → List (ℕ × ℕ) → Bool → ℕ → Maps ℕ
whole_maps base top staged spare = record { base = map_of_entries base; top = second_map top staged; spare = spare }
