-- Trimming drops one set of names, after which no component is over the limits.
use Rattle.std.specs.Prelude.{◌≡◌, ℕ, List, []}
use Rattle.fee_rate.specs.declared.rates.Sum.{Sum}
use Rattle.graphs.specs.Graphs.{Graph, IsGraph}
use Rattle.graphs.specs.Rates.{HasSizes}
use Rattle.graphs.specs.Drops.{DropsNames, IsDescendantSet}
use Rattle.graph_model.specs.Limits.{Bounds}
use Rattle.graph_model.specs.Oversize.{HasOver}
use Rattle.graph_model.specs.Trims.{IsTrimmed}
use Rattle.graph_model.specs.SameLaws.{IsSameGraph}

-- However the names and pairs of a graph are listed, there is one set of names that trimming drops, with all their descendants. Without
-- them no component is over the limits; and where none was before, none is dropped.
pub record TrimDropsOneSet : Type 0 where
  pub some : (bounds : Bounds) (rate : ℕ → Sum) (graph : Graph) → IsGraph graph → HasSizes rate graph.names → (ids : List ℕ) × IsTrimmed bounds rate graph ids
  pub one : (bounds : Bounds) (rate : ℕ → Sum) (a b : Graph) (xs ys : List ℕ) → IsSameGraph a b → IsTrimmed bounds rate a xs → IsTrimmed bounds rate b ys
      → xs ≡ ys
  pub descendants : (bounds : Bounds) (rate : ℕ → Sum) (graph : Graph) (ids : List ℕ) → IsGraph graph → IsTrimmed bounds rate graph ids
      → IsDescendantSet graph ids
  pub within : (bounds : Bounds) (rate : ℕ → Sum) (old new : Graph) (ids : List ℕ) → IsGraph old → IsTrimmed bounds rate old ids
      → DropsNames old ids new → HasOver bounds (λ id. (rate id).size) new → ⊥
  pub nothing : (bounds : Bounds) (rate : ℕ → Sum) (graph : Graph) (ids : List ℕ) → IsGraph graph → (HasOver bounds (λ id. (rate id).size) graph → ⊥)
      → IsTrimmed bounds rate graph ids → ids ≡ []
