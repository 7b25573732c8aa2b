use Rattle.std.proofs.Common.{◌*◌}
-- The walk over the rates of the parts gives the corners of every state's graph.
use Rattle.graphs.specs.Diagrams.{corners_of}
use Rattle.graphs.proofs.CornerLemmas.{joins_some}
use Rattle.graph_model.specs.Commands.{Diagram}
use Rattle.graph_model.specs.Replies.{Points}
use Rattle.levels.specs.Levels.{level_at}
use Rattle.diagram.specs.Parts.{sums_of}
use Rattle.tx_graph.proofs.Calls.{kept_of, both_views, within_view}
use Rattle.tx_graph.proofs.Drawn.{steps_drawn}
use Rattle.tx_graph.proofs.Rooms.{levels_fit}
use Rattle.tx_graph.proofs.graph.TxGraph.diagram.Goals as goal

pub corners-requires-clause-level : goal.corners-requires-clause-level
corners-requires-clause-level g c = (sums_of (level_at c.self.inside.levels c.args.level).parts, c.rates.ensures.yields)

pub returns-clause-step : goal.returns-clause-step
returns-clause-step g c =
    let kept = kept_of (64 * g.row.W) c.self.inside.begun c.self.inside.levels in
    let parts = sums_of (level_at kept.levels c.args.level).parts in
    let level = c.rates.ensures.yields.level in
    let segments = joins_some parts level.some level.falling in (
      corners_of segments.0,
      c.corners.ensures.corners parts segments.0 c.rates.ensures.yields segments.1,
      both_views kept c.args.self.now (Diagram c.args.level) (Points (corners_of segments.0)) c.self.view_is
          (steps_drawn kept c.args.level segments.0 c.self.invariant.picked
          (within_view kept c.args.self.now c.args.level c.self.view_is c.requires.within) c.rates.ensures.names segments.1),
    )

pub rates-requires : goal.rates-requires
rates-requires g c =
    let kept = kept_of (64 * g.row.W) c.self.inside.begun c.self.inside.levels in
    (levels_fit g.row.W assumption, within_view kept c.args.self.now c.args.level c.self.view_is c.requires.within)
