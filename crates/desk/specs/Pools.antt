-- A graph with its blocks.
use Rattle.std.specs.Prelude.{◌≡◌, ◌+◌, ◌≤◌, [], length}
use Rattle.graphs.specs.Rooms.{Room}
use Rattle.graph_model.specs.declared.names.Limits.{Limits}
use Rattle.graph_model.specs.States.{State}
use Rattle.tx_graph.specs.Kept as graphs
use Rattle.reorg.specs.Kept.{Kept, StandsFor}

-- There is a state that they stand for, and room for the transactions of a cluster.
pub record IsPool (kept : Kept) (found : Room) : Type 0 where
  pub stands : (state : State) × StandsFor kept state
  pub room : 128 ≤ length found.ids + found.room

-- A new graph stands for the state at the start under these limits, without blocks. Nothing was added to it.
pub record IsNew (limits : Limits) (kept : Kept) : Type 0 where
  pub start : graphs.StandsFor kept.graph (graphs.start_within 128 limits)
  pub blocks : kept.blocks ≡ []
  pub none : kept.graph.levels.issued ≡ 0
