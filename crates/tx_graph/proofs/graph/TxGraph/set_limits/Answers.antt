use Rattle.std.proofs.Common.{◌*◌, subst, true, sym, refl, ◌∙◌, true≢false, ap}
use Rattle.graph_model.specs.Limits.{AreInRange, bounds_of}
use Rattle.graph_model.specs.Commands.{SetLimits}
use Rattle.graph_model.specs.declared.names.Refusal.TheVariants.{Late, Range}
use Rattle.graph_model.specs.Replies.{Done, Refused}
use Rattle.tx_graph.proofs.Calls.{kept_of, from_view, both_views, sound_after, none_yet, limits_step}
use Rattle.tx_graph.proofs.Rows.{late_row, range_row}
use Rattle.tx_graph.proofs.Standing.{steps_refused}
use Rattle.levels.specs.Levels.{Levels}
use Rattle.tx_graph.proofs.Rooms.{levels_fit}
use Rattle.tx_graph.specs.Kept.{Kept}
use Rattle.tx_graph.proofs.graph.TxGraph.set_limits.Goals as goal

pub returns-then-self-clause-step : goal.returns-then-self-clause-step
returns-then-self-clause-step g c =
    let kept = kept_of (64 * g.row.W) c.self.inside.begun c.self.inside.levels in
    let command = SetLimits (bounds_of c.args.limits) in
    both_views kept c.args.self.now command (Refused Late) c.self.view_is
    (steps_refused kept command Late (late_row kept c.args.limits c.if-self.true))

pub returns-then-not-are_in_range-clause-step : goal.returns-then-not-are_in_range-clause-step
returns-then-not-are_in_range-clause-step g c =
    let kept = kept_of (64 * g.row.W) c.self.inside.begun c.self.inside.levels in
    let command = SetLimits (bounds_of c.args.limits) in
    both_views kept c.args.self.now command (Refused Range) c.self.view_is
    (steps_refused kept command Range
    (range_row kept c.args.limits c.if-self.false (λ fine. true≢false
    (sym (c.are_in_range.ensures.1 (subst (λ n. AreInRange n (bounds_of c.args.limits)) (sym c.most_names.ensures) fine)) ∙ c.if-not-are_in_range.true))))

pub set_limits-requires : goal.set_limits-requires
set_limits-requires g c =
    let kept = kept_of (64 * g.row.W) c.self.inside.begun c.self.inside.levels in
    let blank = none_yet kept c.self.invariant c.if-self.false in (
      levels_fit g.row.W assumption,
      (
        blank.0,
        (blank.1, subst (λ n. AreInRange n (bounds_of c.args.limits)) c.most_names.ensures (c.are_in_range.ensures.0 c.if-not-are_in_range.false)),
      ),
    )

pub invariant_of-self : goal.invariant_of-self
invariant_of-self g c =
    let in_range = subst (λ n. AreInRange n (bounds_of c.args.limits)) c.most_names.ensures (c.are_in_range.ensures.0 c.if-not-are_in_range.false) in
    sound_after (kept_of (64 * g.row.W) c.self.inside.begun c.self.inside.levels) (kept_of (64 * g.row.W) true c.set_limits.new.self)
    (SetLimits (bounds_of c.args.limits)) Done c.self.invariant c.set_limits.ensures.picks
    (limits_step (64 * g.row.W) c.args.limits c.self.inside.begun c.self.inside.levels c.set_limits.new.self c.self.invariant c.set_limits.ensures.picks
    c.if-self.false in_range c.set_limits.ensures.set)

pub returns-clause-step : goal.returns-clause-step
returns-clause-step g c =
    let in_range = subst (λ n. AreInRange n (bounds_of c.args.limits)) c.most_names.ensures (c.are_in_range.ensures.0 c.if-not-are_in_range.false) in
    from_view (kept_of (64 * g.row.W) c.self.inside.begun c.self.inside.levels) c.args.self.now (kept_of (64 * g.row.W) true c.set_limits.new.self)
    (SetLimits (bounds_of c.args.limits)) Done c.self.view_is
    (limits_step (64 * g.row.W) c.args.limits c.self.inside.begun c.self.inside.levels c.set_limits.new.self c.self.invariant c.set_limits.ensures.picks
    c.if-self.false in_range c.set_limits.ensures.set)

pub returns-then-self-clause-additions : goal.returns-then-self-clause-additions
returns-then-self-clause-additions g c = refl

pub returns-then-not-are_in_range-clause-additions : goal.returns-then-not-are_in_range-clause-additions
returns-then-not-are_in_range-clause-additions g c = refl

pub returns-clause-additions : goal.returns-clause-additions
returns-clause-additions g c = ap (λ (l : Levels). l.issued) c.set_limits.ensures.set ∙ ap (λ (k : Kept). k.levels.issued) c.self.view_is

pub most_names-requires : goal.most_names-requires
most_names-requires g c = levels_fit g.row.W assumption
