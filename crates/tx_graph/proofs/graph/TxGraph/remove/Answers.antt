use Rattle.std.proofs.Common.{◌*◌, true, sym, ◌∙◌, subst, refl, ap}
use Rattle.graphs.specs.declared.names.Level.TheVariants.{Top}
use Rattle.graph_model.specs.declared.names.Refusal.TheVariants.{Memory, Unknown}
use Rattle.graph_model.specs.Commands.{Remove}
use Rattle.graph_model.specs.Replies.{Done, Refused}
use Rattle.tx_graph.proofs.Calls.{kept_of, same_levels, from_view, both_views, sound_after, sound_still, when_ok, when_err, remove_step, GrowsForParts}
use Rattle.tx_graph.proofs.Rows.{unknown_here, known_here}
use Rattle.tx_graph.proofs.Standing.{steps_refused, steps_without_memory}
use Rattle.tx_graph.proofs.Rooms.{levels_fit}
use Rattle.tx_graph.proofs.Unchanged.{all_stay, within_one, not_larger, issued_topped}
use Rattle.tx_graph.specs.Kept.{Kept}
use Rattle.levels.specs.Levels.{Levels}
use Rattle.levels.specs.Stays.{AllStay}
use Rattle.tx_graph.proofs.graph.TxGraph.remove.Goals as goal

pub returns-then-not-has-clause-step : goal.returns-then-not-has-clause-step
returns-then-not-has-clause-step g c =
    let kept = kept_of (64 * g.row.W) c.self.inside.begun c.self.inside.levels in
    both_views kept c.args.self.now (Remove c.args.id) (Refused (Unknown c.args.id)) c.self.view_is
    (steps_refused kept (Remove c.args.id) (Unknown c.args.id) (unknown_here kept Top c.args.id (sym c.has.ensures ∙ c.if-not-has.true)))

pub invariant_of-self : goal.invariant_of-self
invariant_of-self g c =
    sound_still (64 * g.row.W) c.self.inside.begun c.self.inside.levels c.remove.new.self
    (when_err c.remove.result (sym c.is_err.ensures.value ∙ c.if-is_err.true) c.remove.ensures.err) c.self.invariant

pub returns-then-is_err-clause-step : goal.returns-then-is_err-clause-step
returns-then-is_err-clause-step g c =
    let kept = kept_of (64 * g.row.W) c.self.inside.begun c.self.inside.levels in
    same_levels (64 * g.row.W) c.self.inside.begun c.self.inside.levels c.remove.new.self c.args.self.now (Remove c.args.id)
    (Refused Memory)
    (when_err c.remove.result (sym c.is_err.ensures.value ∙ c.if-is_err.true) c.remove.ensures.err) c.self.view_is
    (steps_without_memory kept (Remove c.args.id) tt (known_here kept Top c.args.id (sym c.has.ensures ∙ c.if-not-has.false)))

pub returns-then-is_err-clause-steps : goal.returns-then-is_err-clause-steps
returns-then-is_err-clause-steps g c =
    subst (GrowsForParts c.args.id c.args.steps.now c.remove.new.steps) c.self.view_is c.remove.ensures.steps

pub invariant_of-self-2 : goal.invariant_of-self-2
invariant_of-self-2 g c =
    let done = sym c.is_err.ensures.value ∙ c.if-is_err.false in
    sound_after (kept_of (64 * g.row.W) c.self.inside.begun c.self.inside.levels)
    (kept_of (64 * g.row.W) true c.remove.new.self) (Remove c.args.id) Done
    c.self.invariant c.remove.ensures.kept.0
    (remove_step (64 * g.row.W) c.self.inside.begun c.self.inside.levels c.remove.new.self c.remove.ensures.kept.0
    c.args.id (sym c.has.ensures ∙ c.if-not-has.false) (when_ok c.remove.result done c.remove.ensures.dropped))

pub returns-clause-step : goal.returns-clause-step
returns-clause-step g c =
    let done = sym c.is_err.ensures.value ∙ c.if-is_err.false in
    from_view (kept_of (64 * g.row.W) c.self.inside.begun c.self.inside.levels)
    c.args.self.now (kept_of (64 * g.row.W) true c.remove.new.self) (Remove c.args.id) Done c.self.view_is
    (remove_step (64 * g.row.W) c.self.inside.begun c.self.inside.levels c.remove.new.self c.remove.ensures.kept.0
    c.args.id (sym c.has.ensures ∙ c.if-not-has.false) (when_ok c.remove.result done c.remove.ensures.dropped))

pub returns-clause-steps : goal.returns-clause-steps
returns-clause-steps g c =
    subst (GrowsForParts c.args.id c.args.steps.now c.remove.new.steps) c.self.view_is c.remove.ensures.steps

pub has-requires : goal.has-requires
has-requires g c = levels_fit g.row.W assumption

pub remove-requires : goal.remove-requires
remove-requires g c = (levels_fit g.row.W assumption, sym c.has.ensures ∙ c.if-not-has.false)

pub returns-then-not-has-clause-stays : goal.returns-then-not-has-clause-stays
returns-then-not-has-clause-stays g c = all_stay c.args.self.now.levels

pub returns-then-not-has-clause-additions : goal.returns-then-not-has-clause-additions
returns-then-not-has-clause-additions g c = refl

pub returns-then-not-has-clause-refused : goal.returns-then-not-has-clause-refused
returns-then-not-has-clause-refused g c lacks = refl

pub returns-then-not-has-clause-steps : goal.returns-then-not-has-clause-steps
returns-then-not-has-clause-steps g c =
    record { grew = not_larger c.args.steps.now; few = λ lists are. within_one c.args.steps.now _ }

pub returns-then-is_err-clause-stays : goal.returns-then-is_err-clause-stays
returns-then-is_err-clause-stays g c = subst (λ (k : Kept). AllStay k.levels c.remove.new.self) c.self.view_is c.remove.ensures.kept.1

pub returns-then-is_err-clause-additions : goal.returns-then-is_err-clause-additions
returns-then-is_err-clause-additions g c =
    ap (λ (l : Levels). l.issued) (when_err c.remove.result (sym c.is_err.ensures.value ∙ c.if-is_err.true) c.remove.ensures.err)
    ∙ ap (λ (k : Kept). k.levels.issued) c.self.view_is

pub returns-then-is_err-clause-refused : goal.returns-then-is_err-clause-refused
returns-then-is_err-clause-refused g c lacks = absurd (lacks refl)

pub returns-clause-stays : goal.returns-clause-stays
returns-clause-stays g c = subst (λ (k : Kept). AllStay k.levels c.remove.new.self) c.self.view_is c.remove.ensures.kept.1

pub returns-clause-additions : goal.returns-clause-additions
returns-clause-additions g c =
    let change = when_ok c.remove.result (sym c.is_err.ensures.value ∙ c.if-is_err.false) c.remove.ensures.dropped in
    issued_topped c.self.inside.levels c.remove.new.self change.0 change.2 ∙ ap (λ (k : Kept). k.levels.issued) c.self.view_is

pub returns-clause-refused : goal.returns-clause-refused
returns-clause-refused g c = tt
