use Rattle.std.proofs.Common.{subst}
use Rattle.graph_model.specs.States.{State}
use Rattle.tx_graph.specs.Kept as graphs
use Rattle.desk.specs.Facts.{AreNoSmaller}
use Rattle.desk.proofs.FactLemmas.{none_smaller}
use Rattle.desk.proofs.reading.least_size.Goals as goal

pub returns : goal.returns
returns c = λ state stands.
    subst (λ (g : graphs.Kept). (s : State) → graphs.StandsFor g s → AreNoSmaller s c.least.result) c.graph.ensures
    (none_smaller c.graph.result.now c.least.result c.least.ensures.names c.least.ensures.parts) state stands.graph
