use Rattle.std.proofs.Common.{◌*◌, true, sym, ◌∙◌, ap, refl}
use Rattle.graph_model.specs.Commands.{Stage}
use Rattle.graph_model.specs.declared.names.Refusal.TheVariants.{Staging}
use Rattle.graph_model.specs.Replies.{Done, Refused}
use Rattle.tx_graph.proofs.Calls.{kept_of, from_view, both_views, sound_after, stage_step, picks_opened}
use Rattle.tx_graph.proofs.Rows.{staged_row}
use Rattle.tx_graph.proofs.Standing.{steps_refused}
use Rattle.tx_graph.proofs.Rooms.{levels_fit}
use Rattle.tx_graph.specs.Kept.{Kept}
use Rattle.levels.specs.Levels.{Levels}
use Rattle.lists.proofs.Cases.{none_of}
use Rattle.tx_graph.proofs.graph.TxGraph.stage.Goals as goal

pub returns-then-is_staged-clause-step : goal.returns-then-is_staged-clause-step
returns-then-is_staged-clause-step g c =
    let kept = kept_of (64 * g.row.W) c.self.inside.begun c.self.inside.levels in
    both_views kept c.args.self.now Stage (Refused Staging) c.self.view_is
    (steps_refused kept Stage Staging (staged_row kept (sym c.is_staged.ensures ∙ c.if-is_staged.true)))

pub invariant_of-self : goal.invariant_of-self
invariant_of-self g c =
    sound_after (kept_of (64 * g.row.W) c.self.inside.begun c.self.inside.levels)
    (kept_of (64 * g.row.W) true c.stage.new.self) Stage Done c.self.invariant
    (picks_opened c.self.inside.levels c.stage.new.self c.stage.ensures c.self.invariant.picked)
    (stage_step (64 * g.row.W) c.self.inside.begun c.self.inside.levels c.stage.new.self
    (sym c.is_staged.ensures ∙ c.if-is_staged.false) c.stage.ensures)

pub returns-clause-step : goal.returns-clause-step
returns-clause-step g c =
    from_view (kept_of (64 * g.row.W) c.self.inside.begun c.self.inside.levels)
    c.args.self.now (kept_of (64 * g.row.W) true c.stage.new.self) Stage Done c.self.view_is
    (stage_step (64 * g.row.W) c.self.inside.begun c.self.inside.levels c.stage.new.self
    (sym c.is_staged.ensures ∙ c.if-is_staged.false) c.stage.ensures)

pub is_staged-requires : goal.is_staged-requires
is_staged-requires g c = levels_fit g.row.W assumption

pub returns-then-is_staged-clause-additions : goal.returns-then-is_staged-clause-additions
returns-then-is_staged-clause-additions g c = refl

pub returns-clause-additions : goal.returns-clause-additions
returns-clause-additions g c = ap (λ (l : Levels). l.issued) c.stage.ensures ∙ ap (λ (k : Kept). k.levels.issued) c.self.view_is

pub stage-requires : goal.stage-requires
stage-requires g c = (levels_fit g.row.W assumption, none_of c.self.inside.levels.staging (sym c.is_staged.ensures ∙ c.if-is_staged.false))
