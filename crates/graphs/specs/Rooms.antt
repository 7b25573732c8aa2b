-- A list of names with room for more.
use Rattle.std.specs.Prelude.{ℕ, List}

-- The names held, and how many more can be added.
pub record Room : Type 0 where
  pub ids : List ℕ
  pub room : ℕ
