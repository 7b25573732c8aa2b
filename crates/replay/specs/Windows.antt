-- What is seen of a window.
use Rattle.std.specs.Prelude.{ℕ, List}

-- the line that was cut off last, the bytes that are held, and how many more fit behind them
pub record Sight : Type 0 where
  pub line : List ℕ
  pub held : List ℕ
  pub room : ℕ
