use Rattle.std.proofs.Common.{◌*◌, Some, true, sym, ◌∙◌, ap, refl, subst}
use Rattle.graph_model.specs.Commands.{Settle}
use Rattle.graph_model.specs.Replies.{Settled, Refused}
use Rattle.tx_graph.proofs.Calls.{error_is, kept_of, from_view, both_views, sound_after, settle_step, picks_settled}
use Rattle.tx_graph.proofs.Rows.{uncompared_row}
use Rattle.tx_graph.proofs.Standing.{steps_refused}
use Rattle.tx_graph.specs.Readings.{settle_reply}
use Rattle.tx_graph.proofs.Rooms.{levels_fit}
use Rattle.tx_graph.specs.Kept.{Kept, MakesStep}
use Rattle.tx_graph.proofs.Unchanged.{issued_settled}
use Rattle.tx_graph.proofs.graph.TxGraph.settle.Goals as goal

pub returns-in_err-needs_orders-clause-step : goal.returns-in_err-needs_orders-clause-step
returns-in_err-needs_orders-clause-step g c =
    let kept = kept_of (64 * g.row.W) c.self.inside.begun c.self.inside.levels in
    let why = c.in_err-needs_orders.field-0.0 in
    subst (λ r. MakesStep c.args.self.now c.args.self.now Settle (settle_reply r))
    (sym (error_is c.from_residual.result why c.from_residual.ensures.1))
    (both_views kept c.args.self.now Settle (Refused why) c.self.view_is
    (steps_refused kept Settle why (uncompared_row kept (Some why) c.in_err-needs_orders.ensures)))

pub invariant_of-self : goal.invariant_of-self
invariant_of-self g c =
    sound_after (kept_of (64 * g.row.W) c.self.inside.begun c.self.inside.levels)
    (kept_of (64 * g.row.W) true c.close.new.levels) Settle (Settled c.compare-verdict.result) c.self.invariant
    (picks_settled c.self.inside.levels c.close.new.levels c.compare-verdict.result c.close.ensures.better c.close.ensures.other c.self.invariant.picked)
    (settle_step (64 * g.row.W) c.self.inside.begun c.self.inside.levels c.close.new.levels c.compare-verdict.result
    c.self.invariant.picked
    c.compare-verdict.ensures.rates (c.in_ok-needs_orders.ensures.1, c.in_ok-needs_orders.ensures.2) c.compare-verdict.ensures.verdict
    c.in_ok-needs_orders.ensures.0
    c.close.ensures.better c.close.ensures.other)

pub returns-clause-step : goal.returns-clause-step
returns-clause-step g c =
    from_view (kept_of (64 * g.row.W) c.self.inside.begun c.self.inside.levels)
    c.args.self.now (kept_of (64 * g.row.W) true c.close.new.levels) Settle (Settled c.compare-verdict.result) c.self.view_is
    (settle_step (64 * g.row.W) c.self.inside.begun c.self.inside.levels c.close.new.levels c.compare-verdict.result
    c.self.invariant.picked
    c.compare-verdict.ensures.rates (c.in_ok-needs_orders.ensures.1, c.in_ok-needs_orders.ensures.2) c.compare-verdict.ensures.verdict
    c.in_ok-needs_orders.ensures.0
    c.close.ensures.better c.close.ensures.other)

pub needs_orders-requires : goal.needs_orders-requires
needs_orders-requires g c = levels_fit g.row.W assumption

pub compare-verdict-requires : goal.compare-verdict-requires
compare-verdict-requires g c =
    let may = c.in_ok-needs_orders.ensures in
    (levels_fit g.row.W assumption, (may.0, (may.1, may.2)))

pub close-requires : goal.close-requires
close-requires g c = (levels_fit g.row.W assumption, c.in_ok-needs_orders.ensures.0)

pub returns-in_err-needs_orders-clause-additions : goal.returns-in_err-needs_orders-clause-additions
returns-in_err-needs_orders-clause-additions g c = refl

pub returns-clause-additions : goal.returns-clause-additions
returns-clause-additions g c =
    issued_settled c.self.inside.levels c.close.new.levels c.compare-verdict.result c.close.ensures.better c.close.ensures.other
    ∙ ap (λ (k : Kept). k.levels.issued) c.self.view_is
