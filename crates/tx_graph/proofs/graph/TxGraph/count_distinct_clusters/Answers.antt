-- What the level tells holds in every state.
use Rattle.std.proofs.Common.{◌*◌, subst}
use Rattle.graph_model.specs.States.{State, level_of}
use Rattle.levels.specs.Levels.{level_at}
use Rattle.tx_graph.specs.Kept.{Kept, StandsFor}
use Rattle.tx_graph.specs.Unions.{LieInComponents}
use Rattle.tx_graph.proofs.Calls.{kept_of}
use Rattle.tx_graph.proofs.Kins.{count_told}
use Rattle.tx_graph.proofs.Rooms.{levels_fit}
use Rattle.tx_graph.proofs.Standing.{graph_at}
use Rattle.tx_graph.proofs.graph.TxGraph.count_distinct_clusters.Goals as goal

pub count_clusters-requires : goal.count_clusters-requires
count_clusters-requires g c = levels_fit g.row.W assumption

pub returns-clause-count : goal.returns-clause-count
returns-clause-count g c =
    let kept = kept_of (64 * g.row.W) c.self.inside.begun c.self.inside.levels in
    subst (λ (k : Kept). (state : State) → StandsFor k state → LieInComponents (level_of state.plain c.args.level) c.args.ids.now c.count_clusters.result)
    c.self.view_is
    (λ state stands. count_told (level_at kept.levels c.args.level) (level_of state.plain c.args.level)
    (graph_at kept state.plain stands.plain c.args.level) c.args.ids.now c.count_clusters.result c.count_clusters.ensures.count)
