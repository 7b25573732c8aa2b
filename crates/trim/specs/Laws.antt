-- Trimming goes by components.
use Rattle.std.specs.Prelude.{◌≡◌, ◌↔◌, ℕ, List, Contains}
use Rattle.fee_rate.specs.declared.rates.Sum.{Sum}
use Rattle.graphs.specs.Graphs.{Graph, IsGraph}
use Rattle.graph_model.specs.Limits.{Bounds, AreOver}
use Rattle.graph_model.specs.Oversize.{AreOfOneComponent}
use Rattle.graph_model.specs.Trims.{IsTrimmed}
use Rattle.trim.specs.Parts.{HasComponentsOf}

-- What trimming drops of a graph, it drops of each of its components by itself: where some components are taken as a graph of their own, with
-- the same fees and sizes, the same of their names are dropped. And each name that is dropped is of a component over the limits. So what
-- trimming drops is what it drops of each component over the limits, together.
pub record TrimGoesByComponents : Type 0 where
  pub same : (bounds : Bounds) (rate own : ℕ → Sum) (whole part : Graph) (all some : List ℕ) → IsGraph whole → IsGraph part → HasComponentsOf whole part
      → ((id : ℕ) → Contains part.names id → own id ≡ rate id) → IsTrimmed bounds rate whole all → IsTrimmed bounds own part some
      → (id : ℕ) → Contains some id ↔ (Contains part.names id × Contains all id)
  pub over : (bounds : Bounds) (rate : ℕ → Sum) (graph : Graph) (dropped : List ℕ) → IsGraph graph → IsTrimmed bounds rate graph dropped
      → (id : ℕ) → Contains dropped id → (ids : List ℕ) × AreOfOneComponent graph ids × AreOver bounds (λ q. (rate q).size) ids × Contains ids id
