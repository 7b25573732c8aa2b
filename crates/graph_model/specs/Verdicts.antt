-- How staging stands to main.
use Rattle.std.specs.Prelude.{ℕ, ℤ, List}
use Rattle.graphs.specs.declared.names.Level.TheVariants.{Main, Top}
use Rattle.graphs.specs.declared.names.Verdict.{Verdict}
use Rattle.graphs.specs.Diagrams.{AreCorners, Compares}
use Rattle.graph_model.specs.States.{PlainState, level_of, rate_of}

-- This is the verdict of the top level's diagram over main's.
abbrev pub VerdictIs : PlainState → Verdict → Type 0
VerdictIs state verdict =
    (top main : List (ℕ × ℤ)) × AreCorners (rate_of state.table) (level_of state Top) top
    × AreCorners (rate_of state.table) (level_of state Main) main × Compares top main verdict
