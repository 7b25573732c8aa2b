use Rattle.std.proofs.Common.{◌*◌, true, sym, ◌∙◌, ap, refl, subst, is_some, Err}
use Rattle.graph_model.specs.Commands.{Abort}
use Rattle.graph_model.specs.declared.names.Refusal.TheVariants.{NoStaging}
use Rattle.graph_model.specs.Replies.{Done, Refused, change_reply}
use Rattle.tx_graph.proofs.Calls.{error_is, kept_of, from_view, both_views, sound_after, abort_step, picks_aborted}
use Rattle.tx_graph.proofs.Rows.{unstaged_row}
use Rattle.tx_graph.proofs.Standing.{steps_refused}
use Rattle.tx_graph.proofs.Rooms.{levels_fit}
use Rattle.tx_graph.specs.Kept.{Kept, MakesStep}
use Rattle.levels.specs.Levels.{Levels}
use Rattle.tx_graph.proofs.graph.TxGraph.abort.Goals as goal

pub returns-in_err-needs_staging-clause-step : goal.returns-in_err-needs_staging-clause-step
returns-in_err-needs_staging-clause-step g c =
    let kept = kept_of (64 * g.row.W) c.self.inside.begun c.self.inside.levels in
    subst (λ r. MakesStep c.args.self.now c.args.self.now Abort (change_reply r))
    (sym (error_is c.from_residual.result _ c.from_residual.ensures.1 ∙ ap Err c.in_err-needs_staging.ensures.0))
    (both_views kept c.args.self.now Abort (Refused NoStaging) c.self.view_is
    (steps_refused kept Abort NoStaging (unstaged_row kept (ap is_some c.in_err-needs_staging.ensures.1))))

pub invariant_of-self : goal.invariant_of-self
invariant_of-self g c =
    sound_after (kept_of (64 * g.row.W) c.self.inside.begun c.self.inside.levels)
    (kept_of (64 * g.row.W) true c.abort.new.self) Abort Done c.self.invariant
    (picks_aborted c.self.inside.levels c.abort.new.self c.abort.ensures c.self.invariant.picked)
    (abort_step (64 * g.row.W) c.self.inside.begun c.self.inside.levels c.abort.new.self c.self.invariant.picked
    c.in_ok-needs_staging.ensures c.abort.ensures)

pub returns-clause-step : goal.returns-clause-step
returns-clause-step g c =
    from_view (kept_of (64 * g.row.W) c.self.inside.begun c.self.inside.levels)
    c.args.self.now (kept_of (64 * g.row.W) true c.abort.new.self) Abort Done c.self.view_is
    (abort_step (64 * g.row.W) c.self.inside.begun c.self.inside.levels c.abort.new.self c.self.invariant.picked
    c.in_ok-needs_staging.ensures c.abort.ensures)

pub needs_staging-requires : goal.needs_staging-requires
needs_staging-requires g c = levels_fit g.row.W assumption

pub returns-in_err-needs_staging-clause-additions : goal.returns-in_err-needs_staging-clause-additions
returns-in_err-needs_staging-clause-additions g c = refl

pub returns-clause-additions : goal.returns-clause-additions
returns-clause-additions g c = ap (λ (l : Levels). l.issued) c.abort.ensures ∙ ap (λ (k : Kept). k.levels.issued) c.self.view_is

pub abort-requires : goal.abort-requires
abort-requires g c = (levels_fit g.row.W assumption, c.in_ok-needs_staging.ensures)
