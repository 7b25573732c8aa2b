use Rattle.std.proofs.Common.{◌*◌, ◌≡◌, ℕ, List, true, sym, ◌∙◌, subst, refl, ap}
use Rattle.std.specs.Prelude.{Contains}
use Rattle.lists.specs.Distinct.{AreDistinct}
use Rattle.graphs.specs.Closures.{is_member}
use Rattle.graphs.specs.Certificates.{Part}
use Rattle.graph_model.specs.declared.names.Refusal.TheVariants.{Memory, Staging}
use Rattle.graph_model.specs.Changes.{IsLast}
use Rattle.graph_model.specs.Commands.{Evict}
use Rattle.graph_model.specs.Replies.{Reply, Evicted, Refused, evicted_reply}
use Rattle.levels.specs.Levels.{OneLevel, Levels, ChangesTop, LosesNames}
use Rattle.levels.specs.Lefts.{DropsWithin}
use Rattle.levels.specs.Stays.{AllStay}
use Rattle.tx_graph.specs.Kept.{Kept, MakesStep}
use Rattle.tx_graph.proofs.Calls.{kept_of, same_levels, from_view, both_views, sound_after, sound_still, when_ok, when_err, error_is}
use Rattle.tx_graph.proofs.Mined.{picked_told, evict_staged, evict_row, evict_step, last_in, last_refused, top_main, dropped_last}
use Rattle.tx_graph.proofs.Standing.{steps_refused, steps_without_memory}
use Rattle.tx_graph.proofs.Rooms.{levels_fit}
use Rattle.tx_graph.proofs.Unchanged.{all_stay, within_one, not_larger, issued_topped}
use Rattle.tx_graph.proofs.graph.TxGraph.drop_last.Goals as goal

pub is_staged-requires : goal.is_staged-requires
is_staged-requires g c = levels_fit g.row.W assumption

pub last_part-requires : goal.last_part-requires
last_part-requires g c = levels_fit g.row.W assumption

pub returns-then-is_staged-clause-step : goal.returns-then-is_staged-clause-step
returns-then-is_staged-clause-step g c =
    let kept = kept_of (64 * g.row.W) c.self.inside.begun c.self.inside.levels in
    both_views kept c.args.self.now Evict (Refused Staging) c.self.view_is
    (steps_refused kept Evict Staging (evict_staged kept (sym c.is_staged.ensures ∙ c.if-is_staged.true)))

pub returns-then-is_staged-clause-stays : goal.returns-then-is_staged-clause-stays
returns-then-is_staged-clause-stays g c = all_stay c.args.self.now.levels

pub returns-then-is_staged-clause-additions : goal.returns-then-is_staged-clause-additions
returns-then-is_staged-clause-additions g c = refl

pub returns-then-is_staged-clause-refused : goal.returns-then-is_staged-clause-refused
returns-then-is_staged-clause-refused g c lacks = refl

pub returns-then-is_staged-clause-steps : goal.returns-then-is_staged-clause-steps
returns-then-is_staged-clause-steps g c part last =
    record { grew = not_larger c.args.steps.now; few = λ lists are. within_one c.args.steps.now _ }

pub returns-in_err-picked-clause-step : goal.returns-in_err-picked-clause-step
returns-in_err-picked-clause-step g c =
    let kept = kept_of (64 * g.row.W) c.self.inside.begun c.self.inside.levels in
    let why = c.in_err-picked.field-0.0 in
    subst (λ r. MakesStep c.args.self.now c.args.self.now Evict (evicted_reply r)) (sym (error_is c.from_residual.result why c.from_residual.ensures.1))
    (both_views kept c.args.self.now Evict (Refused why) c.self.view_is
    (last_refused kept c.self.invariant (sym c.is_staged.ensures ∙ c.if-is_staged.false) why c.in_err-picked.ensures))

pub returns-in_err-picked-clause-stays : goal.returns-in_err-picked-clause-stays
returns-in_err-picked-clause-stays g c = all_stay c.args.self.now.levels

pub returns-in_err-picked-clause-additions : goal.returns-in_err-picked-clause-additions
returns-in_err-picked-clause-additions g c = refl

pub returns-in_err-picked-clause-steps : goal.returns-in_err-picked-clause-steps
returns-in_err-picked-clause-steps g c part last =
    record { grew = not_larger c.args.steps.now; few = λ lists are. within_one c.args.steps.now _ }

pub drop_names-requires : goal.drop_names-requires
drop_names-requires g c =
    let kept = kept_of (64 * g.row.W) c.self.inside.begun c.self.inside.levels in
    let row = c.in_ok-picked.ensures in
    let in_main = last_in kept c.self.invariant row.1.best.pick row.0 row.1.last in
    let ids : c.as_slice.result.now ≡ row.0.ids = c.as_slice.ensures ∙ row.1.told.ids in (
      levels_fit g.row.W assumption,
      (
        (λ id here.
            subst (λ (one : OneLevel). is_member one.graph id ≡ true) (sym (top_main c.self.inside.levels (sym c.is_staged.ensures ∙ c.if-is_staged.false)))
            (in_main.live id (subst (λ ns. Contains ns id) ids here))),
        subst AreDistinct (sym ids) in_main.once,
      ),
    )

pub invariant_of-self : goal.invariant_of-self
invariant_of-self g c =
    sound_still (64 * g.row.W) c.self.inside.begun c.self.inside.levels c.drop_names.new.self
    (when_err c.drop_names.result (sym c.is_err.ensures.value ∙ c.if-is_err.true) c.drop_names.ensures.err) c.self.invariant

pub returns-then-is_err-clause-step : goal.returns-then-is_err-clause-step
returns-then-is_err-clause-step g c =
    let kept = kept_of (64 * g.row.W) c.self.inside.begun c.self.inside.levels in
    let row = c.in_ok-picked.ensures in
    let in_main = last_in kept c.self.invariant row.1.best.pick row.0 row.1.last in
    same_levels (64 * g.row.W) c.self.inside.begun c.self.inside.levels c.drop_names.new.self c.args.self.now Evict (Refused Memory)
    (when_err c.drop_names.result (sym c.is_err.ensures.value ∙ c.if-is_err.true) c.drop_names.ensures.err) c.self.view_is
    (steps_without_memory kept Evict tt
    (evict_row kept in_main.some.0 row.1.within (sym c.is_staged.ensures ∙ c.if-is_staged.false) (in_main.live in_main.some.0 in_main.some.1)))

pub returns-then-is_err-clause-stays : goal.returns-then-is_err-clause-stays
returns-then-is_err-clause-stays g c = subst (λ (k : Kept). AllStay k.levels c.drop_names.new.self) c.self.view_is c.drop_names.ensures.kept.1

pub returns-then-is_err-clause-additions : goal.returns-then-is_err-clause-additions
returns-then-is_err-clause-additions g c =
    ap (λ (l : Levels). l.issued) (when_err c.drop_names.result (sym c.is_err.ensures.value ∙ c.if-is_err.true) c.drop_names.ensures.err)
    ∙ ap (λ (k : Kept). k.levels.issued) c.self.view_is

pub returns-then-is_err-clause-refused : goal.returns-then-is_err-clause-refused
returns-then-is_err-clause-refused g c lacks = absurd (lacks refl)

pub returns-then-is_err-clause-steps : goal.returns-then-is_err-clause-steps
returns-then-is_err-clause-steps g c =
    let row = c.in_ok-picked.ensures in
    subst (λ (k : Kept). (part : Part) → IsLast k.levels.main.parts part
    → DropsWithin k.levels.limits part.ids k.levels.main.graph c.args.steps.now c.drop_names.new.steps) c.self.view_is
    (dropped_last c.self.inside.levels c.args.steps.now c.drop_names.new.steps c.as_slice.result.now row.0 row.1.last
    (sym c.is_staged.ensures ∙ c.if-is_staged.false) (c.as_slice.ensures ∙ row.1.told.ids) c.drop_names.ensures.steps)

pub invariant_of-self-2 : goal.invariant_of-self-2
invariant_of-self-2 g c =
    let kept = kept_of (64 * g.row.W) c.self.inside.begun c.self.inside.levels in
    let row = c.in_ok-picked.ensures in
    let in_main = last_in kept c.self.invariant row.1.best.pick row.0 row.1.last in
    sound_after kept (kept_of (64 * g.row.W) true c.drop_names.new.self) Evict (Evicted row.0.rate row.0.ids)
    c.self.invariant c.drop_names.ensures.kept.0
    (evict_step (64 * g.row.W) c.self.inside.begun c.self.inside.levels c.drop_names.new.self c.drop_names.ensures.kept.0
    (sym c.is_staged.ensures ∙ c.if-is_staged.false) row.0 row.1.within row.1.best row.1.last in_main.some.0 in_main.some.1
    (in_main.live in_main.some.0 in_main.some.1)
    (subst (λ (ns : List ℕ). ChangesTop (λ a b. LosesNames a b ns) c.self.inside.levels c.drop_names.new.self) (c.as_slice.ensures ∙ row.1.told.ids)
    (when_ok c.drop_names.result (sym c.is_err.ensures.value ∙ c.if-is_err.false) c.drop_names.ensures.dropped)))

pub returns-clause-step : goal.returns-clause-step
returns-clause-step g c =
    let kept = kept_of (64 * g.row.W) c.self.inside.begun c.self.inside.levels in
    let row = c.in_ok-picked.ensures in
    let in_main = last_in kept c.self.invariant row.1.best.pick row.0 row.1.last in
    let new = kept_of (64 * g.row.W) true c.drop_names.new.self in
    subst (λ (reply : Reply). MakesStep c.args.self.now new Evict reply) (picked_told row.0 _ row.1.told)
    (from_view kept c.args.self.now new Evict (Evicted row.0.rate row.0.ids) c.self.view_is
    (evict_step (64 * g.row.W) c.self.inside.begun c.self.inside.levels c.drop_names.new.self c.drop_names.ensures.kept.0
    (sym c.is_staged.ensures ∙ c.if-is_staged.false) row.0 row.1.within row.1.best row.1.last in_main.some.0 in_main.some.1
    (in_main.live in_main.some.0 in_main.some.1)
    (subst (λ (ns : List ℕ). ChangesTop (λ a b. LosesNames a b ns) c.self.inside.levels c.drop_names.new.self) (c.as_slice.ensures ∙ row.1.told.ids)
    (when_ok c.drop_names.result (sym c.is_err.ensures.value ∙ c.if-is_err.false) c.drop_names.ensures.dropped))))

pub returns-clause-stays : goal.returns-clause-stays
returns-clause-stays g c = subst (λ (k : Kept). AllStay k.levels c.drop_names.new.self) c.self.view_is c.drop_names.ensures.kept.1

pub returns-clause-additions : goal.returns-clause-additions
returns-clause-additions g c =
    let change = when_ok c.drop_names.result (sym c.is_err.ensures.value ∙ c.if-is_err.false) c.drop_names.ensures.dropped in
    issued_topped c.self.inside.levels c.drop_names.new.self change.0 change.2 ∙ ap (λ (k : Kept). k.levels.issued) c.self.view_is

pub returns-clause-refused : goal.returns-clause-refused
returns-clause-refused g c = tt

pub returns-clause-steps : goal.returns-clause-steps
returns-clause-steps g c =
    let row = c.in_ok-picked.ensures in
    subst (λ (k : Kept). (part : Part) → IsLast k.levels.main.parts part
    → DropsWithin k.levels.limits part.ids k.levels.main.graph c.args.steps.now c.drop_names.new.steps) c.self.view_is
    (dropped_last c.self.inside.levels c.args.steps.now c.drop_names.new.steps c.as_slice.result.now row.0 row.1.last
    (sym c.is_staged.ensures ∙ c.if-is_staged.false) (c.as_slice.ensures ∙ row.1.told.ids) c.drop_names.ensures.steps)
