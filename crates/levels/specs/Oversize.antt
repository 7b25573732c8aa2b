-- Levels that are over the limits.
use Rattle.std.specs.Prelude.{◌≡◌, ℕ, true, List, Contains}
use Rattle.lists.specs.Distinct.{AreDistinct}
use Rattle.graphs.specs.Closures.{Closure, is_member, rate_of, AreLinked}
use Rattle.graph_model.specs.declared.names.Limits.{Limits}
use Rattle.graph_model.specs.Limits.{AreOver, bounds_of}

-- names of a graph, each once, all in one component
pub record AreOfOneComponent (graph : Closure) (ids : List ℕ) : Type 0 where
  pub once : AreDistinct ids
  pub inside : (id : ℕ) → Contains ids id → is_member graph id ≡ true
  pub together : (a b : ℕ) → Contains ids a → Contains ids b → AreLinked graph a b

-- some names of one component are over the limits, and so the component is
abbrev pub IsOversized : Limits → Closure → Type 0
IsOversized limits graph = (ids : List ℕ) × AreOfOneComponent graph ids × AreOver (bounds_of limits) (λ id. (rate_of graph id).size) ids
