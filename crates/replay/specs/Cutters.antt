-- What is seen of lines that are cut off a source.
use Rattle.std.specs.Prelude.{ℕ, List, Bool}
use Rattle.replay.specs.declared.lines.Stage.{Stage}

-- The line that was cut off last; the bytes that are held and weren't given; whether more bytes of their line than one may
-- have went before them; how many bytes were taken within the limit; how far the reading has come.
pub record Cutter : Type 0 where
  pub line : List ℕ
  pub held : List ℕ
  pub long : Bool
  pub taken : ℕ
  pub stage : Stage
