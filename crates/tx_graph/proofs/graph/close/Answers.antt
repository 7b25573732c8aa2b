use Rattle.tx_graph.proofs.graph.close.Goals as goal

pub commit-requires : goal.commit-requires
commit-requires g c = (assumption, c.requires)
