-- The parts are the picks of every state.
use Rattle.std.proofs.Common.{◌≡◌, ◌*◌, List, Some, subst}
use Rattle.graphs.specs.Certificates.{Part}
use Rattle.graphs.specs.declared.names.Level.TheVariants.{Main, Top}
use Rattle.graph_model.specs.States.{State, pick_of}
use Rattle.levels.specs.Levels.{level_at}
use Rattle.levels.specs.Orders.{AreApart, sums_of}
use Rattle.tx_graph.specs.Kept.{Kept, StandsFor}
use Rattle.tx_graph.specs.Readings.{CompareRefusalIs}
use Rattle.tx_graph.proofs.Asked.{handed}
use Rattle.tx_graph.proofs.Calls.{kept_of}
use Rattle.tx_graph.proofs.Picked.{pick_is}
use Rattle.tx_graph.proofs.Rooms.{levels_fit}
use Rattle.tx_graph.proofs.graph.TxGraph.main_staging_diagrams.Goals as goal

pub needs_orders-requires : goal.needs_orders-requires
needs_orders-requires g c = levels_fit g.row.W assumption

pub alone-requires : goal.alone-requires
alone-requires g c = levels_fit g.row.W assumption

pub returns-in_err-needs_orders : goal.returns-in_err-needs_orders
returns-in_err-needs_orders g c =
    let why = c.in_err-needs_orders.field-0.0 in
    handed _ _ c.from_residual.result why c.from_residual.ensures.1
    (subst (λ (k : Kept). CompareRefusalIs k.levels (Some why)) c.self.view_is c.in_err-needs_orders.ensures)

pub returns : goal.returns
returns g c =
    let kept = kept_of (64 * g.row.W) c.self.inside.begun c.self.inside.levels in
    let (mains, tops, apart, main_rates, top_rates) = c.alone.ensures in
    subst (λ (k : Kept). (state : State) → StandsFor k state → (main top main_alone top_alone : List Part)
    × (pick_of state.picks Main ≡ Some main) × (pick_of state.picks Top ≡ Some top) × AreApart main top main_alone top_alone
    × (c.alone.result.0 ≡ sums_of main_alone) × (c.alone.result.1 ≡ sums_of top_alone)) c.self.view_is
    (λ state stands. (
      kept.levels.main.parts,
      (level_at kept.levels Top).parts,
      mains,
      tops,
      pick_is kept state Main stands c.in_ok-needs_orders.ensures.1,
      pick_is kept state Top stands c.in_ok-needs_orders.ensures.2,
      apart,
      main_rates,
      top_rates,
    ))
