-- A reader or a writer of std, taken as a source or a sink.
use Rattle.std.specs.Prelude.{ℕ}

-- the object of std, and the faults so far
pub record Adapter (T : Type 0) : Type 0 where
  pub inner : T
  pub faults : ℕ
