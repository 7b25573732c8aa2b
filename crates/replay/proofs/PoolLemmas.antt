-- Readings of a graph beside its mined blocks.
use Rattle.std.proofs.Common.{◌≡◌, subst}
use Rattle.graph_model.specs.Commands.{Command}
use Rattle.graph_model.specs.Runs as runs
use Rattle.tx_graph.specs.Kept as graphs
use Rattle.reorg.specs.Kept.{Kept}
use Rattle.reorg.specs.Laws.{LeavesBlocks}
use Rattle.reorg.proofs.Lifted.{lifted}
use Rattle.replay.specs.declared.reading.Reading.TheVariants as readings
use Rattle.replay.specs.Answers.{IsReadOf, IsReadOfGraph}

-- how a reading of the graph is answered
pub pool_is_read : (graph : graphs.Kept) (kept : Kept) (command : Command) (answer : runs.Answer) → LeavesBlocks command → graph ≡ kept.graph
    → IsReadOfGraph graph command answer → IsReadOf kept command answer
pool_is_read graph kept command answer leaves is (reply, steps, told) =
    (reply, lifted kept.graph kept.graph command reply kept.blocks leaves (subst (λ (g : graphs.Kept). graphs.MakesStep g g command reply) is steps), told)
