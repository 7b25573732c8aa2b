-- What the level tells holds in every state.
use Rattle.std.proofs.Common.{◌*◌, subst}
use Rattle.std.specs.Prelude.{IfErr, IfOk}
use Rattle.graphs.specs.Graphs.{Lists}
use Rattle.graphs.specs.declared.names.Kin.TheVariants.{Descendants}
use Rattle.graph_model.specs.States.{State, level_of}
use Rattle.tx_graph.specs.Kept.{Kept, StandsFor}
use Rattle.tx_graph.specs.Unions.{HaveComponentsOf, IsKinIn}
use Rattle.tx_graph.proofs.Calls.{kept_of}
use Rattle.tx_graph.proofs.Kins.{needs_in, unions_in}
use Rattle.tx_graph.proofs.Rooms.{levels_fit}
use Rattle.tx_graph.proofs.graph.TxGraph.descendants_union.Goals as goal

pub kin-requires : goal.kin-requires
kin-requires g c = levels_fit g.row.W assumption

pub returns-clause-lists : goal.returns-clause-lists
returns-clause-lists g c =
    subst (λ (k : Kept). IfOk c.kin.result (λ _. (state : State) → StandsFor k state
    → Lists (IsKinIn Descendants (level_of state.plain c.args.level) c.args.ids.now) c.kin.new.out.ids)) c.self.view_is
    (unions_in (kept_of (64 * g.row.W) c.self.inside.begun c.self.inside.levels) c.args.level Descendants c.args.ids.now c.kin.new.out.ids c.kin.result
    c.kin.ensures.lists)

pub returns-clause-needs : goal.returns-clause-needs
returns-clause-needs g c =
    subst (λ (k : Kept). IfErr c.kin.result (λ needs. (state : State) → StandsFor k state
    → HaveComponentsOf (level_of state.plain c.args.level) c.args.ids.now needs)) c.self.view_is
    (needs_in (kept_of (64 * g.row.W) c.self.inside.begun c.self.inside.levels) c.args.level c.args.ids.now c.kin.result c.kin.ensures.needs)
