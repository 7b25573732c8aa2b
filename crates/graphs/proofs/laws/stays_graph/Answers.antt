use Rattle.graphs.proofs.RemovalLemmas.{graph_left}
use Rattle.graphs.proofs.laws.stays_graph.Goals as goal

pub returns : goal.returns
returns c = graph_left
