-- Corners of a level, as an iterator gives them. A point is a size and the fee there.
use Rattle.std.specs.Prelude.{◌≡◌, ℕ, ◌<◌, ℤ, pos, List, [], ◌∷◌, Contains, Option}
use Rattle.std.specs.Iterator.{AlwaysYields}
use Rattle.fee_rate.specs.Limits.{InRange}

-- sizes rise strictly
abbrev pub Rises : List (ℕ × ℤ) → Type 0
Rises [] = Unit {0}
Rises (p ∷ []) = Unit {0}
Rises (p ∷ q ∷ rest) = (p.0 < q.0) × Rises (q ∷ rest)

-- Points of rising size from (0, 0) on, in the range of a level's sums. Slopes may be any.
pub record AreLevelCorners (corners : List (ℕ × ℤ)) : Type 0 where
  pub begins : (rest : List (ℕ × ℤ)) × (corners ≡ (0, pos 0) ∷ rest)
  pub rising : Rises corners
  pub ranged : (point : ℕ × ℤ) → Contains corners point → InRange point.1 point.0

-- Every run of calls from s gives these corners, which are those of a level, and then none.
pub record YieldsCorners {S : Type 0} (steps : S → Option (ℕ × ℤ) → S → Type 0) (s : S) (corners : List (ℕ × ℤ)) : Type 0 where
  pub yields : AlwaysYields steps (λ corner. corner) s corners
  pub level : AreLevelCorners corners
