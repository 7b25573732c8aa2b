-- What a graph's fields keep.
use Rattle.graph_model.specs.States.{State}
use Rattle.levels.specs.Levels.{HavePicks}
use Rattle.tx_graph.specs.Kept.{Kept, StandsFor}

-- The parts of each level that isn't over the limits are a pick, none of which can be cut further, and there is a state that the graph stands
-- for.
pub record IsSound (kept : Kept) : Type 0 where
  pub picked : HavePicks kept.levels
  pub stands : (state : State) × StandsFor kept state
