-- The room that levels and a component take, where the graph that has them fits in memory.
use Rattle.std.proofs.Common.{ℕ, lit<}
use Rattle.std.specs.Mem.{FitsInMemory}
use Rattle.component.specs.contracts.component.Component as component
use Rattle.levels.specs.contracts.levels.Levels as levels
use Rattle.tx_graph.specs.contracts.graph.TxGraph as graph
use denote.Param.{param, number}

pub levels_fit : (w : ℕ) → FitsInMemory (graph.the_row (param 0 (number w))) → FitsInMemory (levels.the_row (param 0 (number w)))
levels_fit w fits = lit< tt

pub cluster_fits : (w : ℕ) → FitsInMemory (graph.the_row (param 0 (number w))) → FitsInMemory (component.the_row (param 0 (number w)))
cluster_fits w fits = lit< tt
