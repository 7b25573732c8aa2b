-- A level is over the limits exactly where it is in every state.
use Rattle.std.proofs.Common.{◌*◌, ◌↔◌, subst}
use Rattle.std.specs.Prelude.{IsTrue}
use Rattle.graph_model.specs.Oversize as model
use Rattle.graph_model.specs.States.{State}
use Rattle.levels.specs.Levels.{level_at}
use Rattle.levels.specs.Oversize.{IsOversized}
use Rattle.tx_graph.specs.Kept.{Kept, StandsFor}
use Rattle.tx_graph.proofs.Calls.{kept_of}
use Rattle.tx_graph.proofs.Oversizing.{oversized_at}
use Rattle.tx_graph.proofs.Rooms.{levels_fit}
use Rattle.tx_graph.proofs.graph.TxGraph.oversized.Goals as goal

pub oversized-requires : goal.oversized-requires
oversized-requires g c = levels_fit g.row.W assumption

pub returns-clause-exact : goal.returns-clause-exact
returns-clause-exact g c =
    subst (λ (k : Kept). IsTrue c.oversized.result ↔ IsOversized k.levels.limits (level_at k.levels c.args.level).graph) c.self.view_is c.oversized.ensures

pub returns-clause-state : goal.returns-clause-state
returns-clause-state g c =
    let kept = kept_of (64 * g.row.W) c.self.inside.begun c.self.inside.levels in
    subst (λ (k : Kept). (state : State) → StandsFor k state → IsTrue c.oversized.result ↔ model.IsOversized state.plain c.args.level) c.self.view_is
    (λ state stands.
    let told = oversized_at kept state.plain stands.plain c.args.level in
    (λ is. told.0 (c.oversized.ensures.0 is), λ over. c.oversized.ensures.1 (told.1 over)))
