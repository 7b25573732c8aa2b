use Rattle.tx_graph.proofs.graph.is_live.Goals as goal

pub has-requires : goal.has-requires
has-requires g c = assumption
