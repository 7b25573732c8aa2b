use Rattle.tx_graph.proofs.graph.TxGraph.components.Goals as goal

pub returns-clause-narrow : goal.returns-clause-narrow
returns-clause-narrow g c = c.components.ensures.narrow
