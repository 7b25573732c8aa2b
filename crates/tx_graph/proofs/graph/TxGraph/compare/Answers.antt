use Rattle.std.proofs.Common.{◌*◌, Some, sym, subst}
use Rattle.graph_model.specs.Commands.{Compare}
use Rattle.graph_model.specs.Replies.{Compared, Refused}
use Rattle.tx_graph.proofs.Calls.{error_is, kept_of, both_views}
use Rattle.tx_graph.proofs.Rows.{uncompared_row}
use Rattle.tx_graph.proofs.Settled.{steps_compared}
use Rattle.tx_graph.proofs.Standing.{steps_refused}
use Rattle.tx_graph.specs.Kept.{MakesStep}
use Rattle.tx_graph.specs.Readings.{compare_reply}
use Rattle.tx_graph.proofs.Rooms.{levels_fit}
use Rattle.tx_graph.proofs.graph.TxGraph.compare.Goals as goal

pub returns-in_err-needs_orders : goal.returns-in_err-needs_orders
returns-in_err-needs_orders g c =
    let kept = kept_of (64 * g.row.W) c.self.inside.begun c.self.inside.levels in
    let why = c.in_err-needs_orders.field-0.0 in
    record {
      step = subst (λ r. MakesStep c.args.self.now c.args.self.now Compare (compare_reply r))
          (sym (error_is c.from_residual.result why c.from_residual.ensures.1))
          (both_views kept c.args.self.now Compare (Refused why) c.self.view_is
          (steps_refused kept Compare why (uncompared_row kept (Some why) c.in_err-needs_orders.ensures)));
    }

pub returns : goal.returns
returns g c =
    let kept = kept_of (64 * g.row.W) c.self.inside.begun c.self.inside.levels in
    record {
      step = both_views kept c.args.self.now Compare (Compared c.compare-found.result) c.self.view_is
          (steps_compared kept c.compare-found.result c.self.invariant.picked c.compare-found.ensures.rates
          (c.in_ok-needs_orders.ensures.1, c.in_ok-needs_orders.ensures.2) c.compare-found.ensures.verdict c.in_ok-needs_orders.ensures.0);
    }

pub needs_orders-requires : goal.needs_orders-requires
needs_orders-requires g c = levels_fit g.row.W assumption

pub compare-found-requires : goal.compare-found-requires
compare-found-requires g c =
    let may = c.in_ok-needs_orders.ensures in
    (levels_fit g.row.W assumption, (may.0, (may.1, may.2)))
