-- Levels over their limits, which stand only where dependencies may bring a cluster over them for a while.
use Rattle.std.specs.Prelude.{ℕ, List, Contains}
use Rattle.lists.specs.Distinct.{AreDistinct}
use Rattle.graphs.specs.declared.names.Level.{Level}
use Rattle.graphs.specs.Graphs.{Graph}
use Rattle.graphs.specs.Linearizations.{IsTogether}
use Rattle.graph_model.specs.Limits.{Bounds, AreOver}
use Rattle.graph_model.specs.States.{PlainState, level_of, size_of}

-- names of a graph, each once, all in one component
pub record AreOfOneComponent (graph : Graph) (ids : List ℕ) : Type 0 where
  pub once : AreDistinct ids
  pub inside : (id : ℕ) → Contains ids id → Contains graph.names id
  pub together : IsTogether graph.pairs ids

-- some names of one component are over the limits, and so the component is
abbrev pub HasOver : Bounds → (ℕ → ℕ) → Graph → Type 0
HasOver bounds size graph = (ids : List ℕ) × AreOfOneComponent graph ids × AreOver bounds size ids

-- the level is oversized
abbrev pub IsOversized : PlainState → Level → Type 0
IsOversized state level = HasOver state.limits (size_of state.table) (level_of state level)
