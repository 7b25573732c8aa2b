use Rattle.tx_graph.proofs.Rooms.{levels_fit}
use Rattle.tx_graph.proofs.graph.TxGraph.staged.Goals as goal

pub is_staged-requires : goal.is_staged-requires
is_staged-requires g c = levels_fit g.row.W assumption
