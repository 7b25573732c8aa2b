-- The refusals of additions, told by the levels that are kept.
use Rattle.std.specs.Prelude.{◌≡◌, ℕ, ℤ, ◌<◌, ◌≤◌, List, length, Option}
use Rattle.fee_rate.specs.Limits.{IsFee, IsSize}
use Rattle.graphs.specs.Graphs.{Lists}
use Rattle.graph_model.specs.declared.names.Refusal.{Refusal}
use Rattle.graph_model.specs.Refusals.{AddRow}
use Rattle.levels.specs.Levels.{Levels, IsLive}

-- so many names are in a level
abbrev pub CountsLive : Levels → ℕ → Type 0
CountsLive levels live = (ids : List ℕ) → Lists (IsLive levels) ids → live ≡ length ids

-- the refusal that an addition meets where so many names are live
abbrev pub AddRefusalIs : Levels → ℕ → ℕ → ℤ → ℕ → Option Refusal → Type 0
AddRefusalIs levels live id fee size =
    AddRow (IsFee fee → ⊥) (IsSize size → ⊥) (IsLive levels id) (levels.limits.size < size) (levels.limits.total ≤ live) size
