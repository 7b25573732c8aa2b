-- Places of names.
use Rattle.std.specs.Prelude.{◌≡◌, ℕ, List, Contains, Option, Some}

-- a look-up finds this place for one of these names
abbrev pub IsPlaceOf : (ℕ → Option ℕ) → List ℕ → ℕ → Type 0
IsPlaceOf find ids place = (id : ℕ) × Contains ids id × (find id ≡ Some place)
