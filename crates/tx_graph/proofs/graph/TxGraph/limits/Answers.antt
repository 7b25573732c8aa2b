use Rattle.std.proofs.Common.{ap, ◌∙◌}
use Rattle.tx_graph.specs.Kept.{Kept}
use Rattle.tx_graph.proofs.Rooms.{levels_fit}
use Rattle.tx_graph.proofs.graph.TxGraph.limits.Goals as goal

pub limits-requires : goal.limits-requires
limits-requires g c = levels_fit g.row.W assumption

pub returns : goal.returns
returns g c = c.limits.ensures.limits ∙ ap (λ (k : Kept). k.levels.limits) c.self.view_is
