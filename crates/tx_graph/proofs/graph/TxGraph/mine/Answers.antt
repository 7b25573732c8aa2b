use Rattle.std.proofs.Common.{arith, ◌*◌, ◌≡◌, true, sym, ◌∙◌, subst, refl, ap, None, Some}
use Rattle.graphs.specs.declared.names.Level.TheVariants.{Top}
use Rattle.graphs.specs.Closures.{is_member}
use Rattle.graph_model.specs.declared.names.Refusal.TheVariants.{Memory, Staging}
use Rattle.graph_model.specs.Commands.{Mine}
use Rattle.graph_model.specs.Replies.{Done, Refused}
use Rattle.lists.proofs.Cases.{none_of}
use Rattle.levels.specs.Levels.{OneLevel, Levels, ChangesTop, LosesNames, level_at}
use Rattle.levels.specs.Lefts.{DropsWithin}
use Rattle.levels.specs.Stays.{AllStay}
use Rattle.tx_graph.specs.Kept.{Kept}
use Rattle.tx_graph.proofs.Calls.{kept_of, same_levels, from_view, both_views, sound_after, sound_still, when_ok, when_err}
use Rattle.tx_graph.proofs.Mined.{all_small, mine_row, mine_staged, may_mine, mine_step, top_main}
use Rattle.tx_graph.proofs.Standing.{steps_refused, steps_without_memory}
use Rattle.tx_graph.proofs.Rooms.{levels_fit}
use Rattle.tx_graph.proofs.Unchanged.{all_stay, within_one, not_larger, issued_topped}
use Rattle.tx_graph.proofs.graph.TxGraph.mine.Goals as goal

pub is_staged-requires : goal.is_staged-requires
is_staged-requires g c = levels_fit g.row.W assumption

pub returns-then-is_staged-clause-step : goal.returns-then-is_staged-clause-step
returns-then-is_staged-clause-step g c =
    let kept = kept_of (64 * g.row.W) c.self.inside.begun c.self.inside.levels in
    both_views kept c.args.self.now (Mine c.args.ids.now) (Refused Staging) c.self.view_is
    (steps_refused kept (Mine c.args.ids.now) Staging (mine_staged kept c.args.ids.now (sym c.is_staged.ensures ∙ c.if-is_staged.true)))

pub returns-then-is_staged-clause-stays : goal.returns-then-is_staged-clause-stays
returns-then-is_staged-clause-stays g c = all_stay c.args.self.now.levels

pub returns-then-is_staged-clause-additions : goal.returns-then-is_staged-clause-additions
returns-then-is_staged-clause-additions g c = refl

pub returns-then-is_staged-clause-refused : goal.returns-then-is_staged-clause-refused
returns-then-is_staged-clause-refused g c lacks = refl

pub returns-then-is_staged-clause-steps : goal.returns-then-is_staged-clause-steps
returns-then-is_staged-clause-steps g c =
    record { grew = not_larger c.args.steps.now; few = λ lists are. within_one c.args.steps.now _ }

pub refused_mine-requires : goal.refused_mine-requires
refused_mine-requires g c = (levels_fit g.row.W assumption, none_of c.self.inside.levels.staging (sym c.is_staged.ensures ∙ c.if-is_staged.false))

pub invariant_of-self : goal.invariant_of-self
invariant_of-self g c =
    sound_still (64 * g.row.W) c.self.inside.begun c.self.inside.levels c.refused_mine.new.self c.refused_mine.ensures.same
    c.self.invariant

pub returns-in-Some-clause-step : goal.returns-in-Some-clause-step
returns-in-Some-clause-step g c =
    let kept = kept_of (64 * g.row.W) c.self.inside.begun c.self.inside.levels in
    same_levels (64 * g.row.W) c.self.inside.begun c.self.inside.levels c.refused_mine.new.self c.args.self.now
    (Mine c.args.ids.now) (Refused c.in-Some.why) c.refused_mine.ensures.same c.self.view_is
    (steps_refused kept (Mine c.args.ids.now) c.in-Some.why
    (mine_row kept c.args.ids.now (Some c.in-Some.why) (sym c.is_staged.ensures ∙ c.if-is_staged.false) c.in-Some.ensures.row))

pub returns-in-Some-clause-stays : goal.returns-in-Some-clause-stays
returns-in-Some-clause-stays g c =
    subst (λ (k : Kept). AllStay k.levels c.refused_mine.new.self) c.self.view_is
    (subst (AllStay c.self.inside.levels) (sym c.refused_mine.ensures.same) (all_stay c.self.inside.levels))

pub returns-in-Some-clause-additions : goal.returns-in-Some-clause-additions
returns-in-Some-clause-additions g c =
    ap (λ (l : Levels). l.issued) c.refused_mine.ensures.same ∙ ap (λ (k : Kept). k.levels.issued) c.self.view_is

pub returns-in-Some-clause-refused : goal.returns-in-Some-clause-refused
returns-in-Some-clause-refused g c lacks = refl

pub returns-in-Some-clause-steps : goal.returns-in-Some-clause-steps
returns-in-Some-clause-steps g c =
    record { grew = not_larger c.args.steps.now; few = λ lists are. within_one c.args.steps.now _ }

pub drop_names-requires : goal.drop_names-requires
drop_names-requires g c =
    let kept = kept_of (64 * g.row.W) c.self.inside.begun c.self.inside.levels in
    let alone = sym c.is_staged.ensures ∙ c.if-is_staged.false in
    let may = may_mine kept c.args.ids.now c.self.invariant alone c.in_default.ensures.row in (
      levels_fit g.row.W assumption,
      (
        (λ id here.
            subst (λ (l : Levels). is_member (level_at l Top).graph id ≡ true) (sym c.refused_mine.ensures.same)
            (subst (λ (one : OneLevel). is_member one.graph id ≡ true) (sym (top_main c.self.inside.levels alone)) (may.1 id here))),
        may.0,
      ),
    )

pub invariant_of-self-then-is_err : goal.invariant_of-self-then-is_err
invariant_of-self-then-is_err g c =
    sound_still (64 * g.row.W) c.self.inside.begun c.self.inside.levels c.drop_names.new.self
    (when_err c.drop_names.result (sym c.is_err.ensures.value ∙ c.if-is_err.true) c.drop_names.ensures.err ∙ c.refused_mine.ensures.same) c.self.invariant

pub returns-then-is_err-clause-step : goal.returns-then-is_err-clause-step
returns-then-is_err-clause-step g c =
    let kept = kept_of (64 * g.row.W) c.self.inside.begun c.self.inside.levels in
    same_levels (64 * g.row.W) c.self.inside.begun c.self.inside.levels c.drop_names.new.self c.args.self.now
    (Mine c.args.ids.now) (Refused Memory)
    (when_err c.drop_names.result (sym c.is_err.ensures.value ∙ c.if-is_err.true) c.drop_names.ensures.err ∙ c.refused_mine.ensures.same) c.self.view_is
    (steps_without_memory kept (Mine c.args.ids.now) tt
    (mine_row kept c.args.ids.now None (sym c.is_staged.ensures ∙ c.if-is_staged.false) c.in_default.ensures.row))

pub returns-then-is_err-clause-stays : goal.returns-then-is_err-clause-stays
returns-then-is_err-clause-stays g c =
    subst (λ (k : Kept). AllStay k.levels c.drop_names.new.self) c.self.view_is
    (subst (λ (l : Levels). AllStay l c.drop_names.new.self) c.refused_mine.ensures.same c.drop_names.ensures.kept.1)

pub returns-then-is_err-clause-additions : goal.returns-then-is_err-clause-additions
returns-then-is_err-clause-additions g c =
    ap (λ (l : Levels). l.issued)
    (when_err c.drop_names.result (sym c.is_err.ensures.value ∙ c.if-is_err.true) c.drop_names.ensures.err ∙ c.refused_mine.ensures.same)
    ∙ ap (λ (k : Kept). k.levels.issued) c.self.view_is

pub returns-then-is_err-clause-refused : goal.returns-then-is_err-clause-refused
returns-then-is_err-clause-refused g c lacks = absurd (lacks refl)

pub returns-then-is_err-clause-steps : goal.returns-then-is_err-clause-steps
returns-then-is_err-clause-steps g c =
    subst (λ (k : Kept). DropsWithin k.levels.limits c.args.ids.now k.levels.main.graph c.args.steps.now c.drop_names.new.steps) c.self.view_is
    (subst (λ (one : OneLevel). DropsWithin c.self.inside.levels.limits c.args.ids.now one.graph c.args.steps.now c.drop_names.new.steps)
    (top_main c.self.inside.levels (sym c.is_staged.ensures ∙ c.if-is_staged.false))
    (subst (λ (l : Levels). DropsWithin l.limits c.args.ids.now (level_at l Top).graph c.args.steps.now c.drop_names.new.steps) c.refused_mine.ensures.same
    c.drop_names.ensures.steps))

pub invariant_of-self-2 : goal.invariant_of-self-2
invariant_of-self-2 g c =
    let kept = kept_of (64 * g.row.W) c.self.inside.begun c.self.inside.levels in
    let done = sym c.is_err.ensures.value ∙ c.if-is_err.false in
    sound_after kept (kept_of (64 * g.row.W) true c.drop_names.new.self) (Mine c.args.ids.now) Done
    c.self.invariant c.drop_names.ensures.kept.0
    (mine_step (64 * g.row.W) c.self.inside.begun c.self.inside.levels c.drop_names.new.self c.drop_names.ensures.kept.0
    (sym c.is_staged.ensures ∙ c.if-is_staged.false) c.args.ids.now c.self.invariant (c.requires, all_small c.args.ids.now (λ i. omega (arith, c.type_inv.ids i))) c.in_default.ensures.row
    (subst (λ (l : Levels). ChangesTop (λ a b. LosesNames a b c.args.ids.now) l c.drop_names.new.self) c.refused_mine.ensures.same
    (when_ok c.drop_names.result done c.drop_names.ensures.dropped)))

pub returns-clause-step : goal.returns-clause-step
returns-clause-step g c =
    let kept = kept_of (64 * g.row.W) c.self.inside.begun c.self.inside.levels in
    let done = sym c.is_err.ensures.value ∙ c.if-is_err.false in
    from_view kept c.args.self.now (kept_of (64 * g.row.W) true c.drop_names.new.self) (Mine c.args.ids.now) Done c.self.view_is
    (mine_step (64 * g.row.W) c.self.inside.begun c.self.inside.levels c.drop_names.new.self c.drop_names.ensures.kept.0
    (sym c.is_staged.ensures ∙ c.if-is_staged.false) c.args.ids.now c.self.invariant (c.requires, all_small c.args.ids.now (λ i. omega (arith, c.type_inv.ids i))) c.in_default.ensures.row
    (subst (λ (l : Levels). ChangesTop (λ a b. LosesNames a b c.args.ids.now) l c.drop_names.new.self) c.refused_mine.ensures.same
    (when_ok c.drop_names.result done c.drop_names.ensures.dropped)))

pub returns-clause-stays : goal.returns-clause-stays
returns-clause-stays g c =
    subst (λ (k : Kept). AllStay k.levels c.drop_names.new.self) c.self.view_is
    (subst (λ (l : Levels). AllStay l c.drop_names.new.self) c.refused_mine.ensures.same c.drop_names.ensures.kept.1)

pub returns-clause-additions : goal.returns-clause-additions
returns-clause-additions g c =
    let change = when_ok c.drop_names.result (sym c.is_err.ensures.value ∙ c.if-is_err.false) c.drop_names.ensures.dropped in
    issued_topped c.refused_mine.new.self c.drop_names.new.self change.0 change.2
    ∙ ap (λ (l : Levels). l.issued) c.refused_mine.ensures.same ∙ ap (λ (k : Kept). k.levels.issued) c.self.view_is

pub returns-clause-refused : goal.returns-clause-refused
returns-clause-refused g c = tt

pub returns-clause-steps : goal.returns-clause-steps
returns-clause-steps g c =
    subst (λ (k : Kept). DropsWithin k.levels.limits c.args.ids.now k.levels.main.graph c.args.steps.now c.drop_names.new.steps) c.self.view_is
    (subst (λ (one : OneLevel). DropsWithin c.self.inside.levels.limits c.args.ids.now one.graph c.args.steps.now c.drop_names.new.steps)
    (top_main c.self.inside.levels (sym c.is_staged.ensures ∙ c.if-is_staged.false))
    (subst (λ (l : Levels). DropsWithin l.limits c.args.ids.now (level_at l Top).graph c.args.steps.now c.drop_names.new.steps) c.refused_mine.ensures.same
    c.drop_names.ensures.steps))
