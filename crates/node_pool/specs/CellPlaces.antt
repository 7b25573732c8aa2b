-- How the items of a block lie in its places.
use Rattle.std.specs.Prelude.{◌≡◌, ℕ, ◌-◌, get_or, List, [], ◌∷◌, ◌++◌, map, length, replicate, Option, Some, None}

module _ {X : Type 0} where
  -- the values that are there
  abbrev pub somes : List (Option X) → List X
  somes [] = []
  somes (None ∷ cs) = somes cs
  somes (Some x ∷ cs) = x ∷ somes cs

  -- the place at the index holds a value
  abbrev pub IsFilled : List (Option X) → ℕ → Type 0
  IsFilled cs i = (x : X) × (get_or cs i None ≡ Some x)

  -- n places that begin with the items
  abbrev pub filled : List X → ℕ → List (Option X)
  filled xs n = map Some xs ++ replicate (n - length xs) None
