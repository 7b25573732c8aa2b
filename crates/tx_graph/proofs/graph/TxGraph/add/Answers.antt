use Rattle.std.proofs.Common.{◌*◌, ◌≤◌, ◌<◌, ◌+◌, true, None, Some, sym, ap, ◌∙◌, subst, length, arith, refl, ◌^◌, ◌-◌}
use Rattle.std.proofs.lemmas.Int.{to_z-of_z}
use Rattle.std.specs.Int.{w64}
use Rattle.fee_rate.specs.Limits.{IsRate}
use Rattle.graph_model.specs.declared.names.Refusal.TheVariants.{Memory}
use Rattle.graph_model.specs.Commands.{Add}
use Rattle.graph_model.specs.Replies.{Done, Refused}
use Rattle.tx_graph.proofs.Calls.{kept_of, same_levels, from_view, both_views, sound_after, sound_still, when_ok, when_err, in_range, AddRowIs, add_met, may_add, add_step, IsAddedTo}
use Rattle.tx_graph.proofs.Counting.{live_listed, counted}
use Rattle.tx_graph.proofs.Standing.{steps_refused, steps_without_memory}
use Rattle.tx_graph.proofs.Rooms.{levels_fit}
use Rattle.tx_graph.specs.Kept.{Kept}
use Rattle.levels.specs.Levels.{Levels}
use Rattle.levels.specs.Stays.{AllStay}
use Rattle.tx_graph.proofs.Unchanged.{all_stay, plus_none}
use Rattle.tx_graph.proofs.graph.TxGraph.add.Goals as goal

pub returns-in-Some-clause-step : goal.returns-in-Some-clause-step
returns-in-Some-clause-step g c =
    let kept = kept_of (64 * g.row.W) c.self.inside.begun c.self.inside.levels in
    both_views kept c.args.self.now (Add c.args.id c.args.fee c.args.size) (Refused c.in-Some.why) c.self.view_is
    (steps_refused kept (Add c.args.id c.args.fee c.args.size) c.in-Some.why
    (add_met kept c.args.id c.args.fee c.args.size (Some c.in-Some.why)
    (subst (λ fee. AddRowIs kept c.args.id fee c.args.size (Some c.in-Some.why)) (to_z-of_z w64 c.args.fee c.ranges.fee) c.in-Some.ensures.row)))

pub add-requires : goal.add-requires
add-requires g c =
    let kept = kept_of (64 * g.row.W) c.self.inside.begun c.self.inside.levels in
    let fee = to_z-of_z w64 c.args.fee c.ranges.fee in
    let names = live_listed c.self.inside.levels in
    let row = subst (λ fee. AddRowIs kept c.args.id fee c.args.size None) fee c.in_default.ensures.row in
    let may = may_add c.self.inside.levels (length names.0) c.args.id c.args.fee c.args.size
    (row (length names.0) (counted c.self.inside.levels names.0 names.1)) in
    let room : length names.0 < c.self.inside.levels.limits.total = may.room in
    let total : c.self.inside.levels.limits.total ≤ 1048576 = (in_range kept c.self.invariant).total_high in (
      levels_fit g.row.W assumption,
      record {
        absent = may.absent;
        in_range = subst (λ fee. IsRate (record { fee = fee; size = c.args.size })) (sym fee)
            (record { fee = may.pays; some = may.measures.0; size = may.measures.1 });
        fits = may.fits;
        few = (names.0, names.1, omega arith);
        issued = subst (λ (k : Kept). k.levels.issued < 2 ^ 64 - 1) (sym c.self.view_is) c.requires;
      },
    )

pub invariant_of-self : goal.invariant_of-self
invariant_of-self g c =
    sound_still (64 * g.row.W) c.self.inside.begun c.self.inside.levels c.add.new.self
    (when_err c.add.result (sym c.is_err.ensures.value ∙ c.if-is_err.true) c.add.ensures.err) c.self.invariant

pub returns-then-is_err-clause-step : goal.returns-then-is_err-clause-step
returns-then-is_err-clause-step g c =
    let kept = kept_of (64 * g.row.W) c.self.inside.begun c.self.inside.levels in
    same_levels (64 * g.row.W) c.self.inside.begun c.self.inside.levels c.add.new.self c.args.self.now
    (Add c.args.id c.args.fee c.args.size) (Refused Memory)
    (when_err c.add.result (sym c.is_err.ensures.value ∙ c.if-is_err.true) c.add.ensures.err) c.self.view_is
    (steps_without_memory kept (Add c.args.id c.args.fee c.args.size) tt
    (add_met kept c.args.id c.args.fee c.args.size None
    (subst (λ fee. AddRowIs kept c.args.id fee c.args.size None) (to_z-of_z w64 c.args.fee c.ranges.fee) c.in_default.ensures.row)))

pub invariant_of-self-2 : goal.invariant_of-self-2
invariant_of-self-2 g c =
    let kept = kept_of (64 * g.row.W) c.self.inside.begun c.self.inside.levels in
    let done = sym c.is_err.ensures.value ∙ c.if-is_err.false in
    sound_after kept (kept_of (64 * g.row.W) true c.add.new.self)
    (Add c.args.id c.args.fee c.args.size) Done c.self.invariant c.add.ensures.kept.0
    (add_step (64 * g.row.W) c.self.inside.begun c.self.inside.levels c.add.new.self c.add.ensures.kept.0
    c.args.id c.args.fee c.args.size c.ranges.id.fits
    (subst (λ fee. AddRowIs kept c.args.id fee c.args.size None) (to_z-of_z w64 c.args.fee c.ranges.fee) c.in_default.ensures.row)
    (subst (λ fee. IsAddedTo c.args.id fee c.args.size c.self.inside.levels c.add.new.self) (to_z-of_z w64 c.args.fee c.ranges.fee)
    (when_ok c.add.result done c.add.ensures.added)))

pub returns-clause-step : goal.returns-clause-step
returns-clause-step g c =
    let kept = kept_of (64 * g.row.W) c.self.inside.begun c.self.inside.levels in
    let done = sym c.is_err.ensures.value ∙ c.if-is_err.false in
    from_view kept c.args.self.now (kept_of (64 * g.row.W) true c.add.new.self) (Add c.args.id c.args.fee c.args.size) Done c.self.view_is
    (add_step (64 * g.row.W) c.self.inside.begun c.self.inside.levels c.add.new.self c.add.ensures.kept.0
    c.args.id c.args.fee c.args.size c.ranges.id.fits
    (subst (λ fee. AddRowIs kept c.args.id fee c.args.size None) (to_z-of_z w64 c.args.fee c.ranges.fee) c.in_default.ensures.row)
    (subst (λ fee. IsAddedTo c.args.id fee c.args.size c.self.inside.levels c.add.new.self) (to_z-of_z w64 c.args.fee c.ranges.fee)
    (when_ok c.add.result done c.add.ensures.added)))

pub refused_add-requires : goal.refused_add-requires
refused_add-requires g c = levels_fit g.row.W assumption

pub returns-in-Some-clause-stays : goal.returns-in-Some-clause-stays
returns-in-Some-clause-stays g c = all_stay c.args.self.now.levels

pub returns-in-Some-clause-additions : goal.returns-in-Some-clause-additions
returns-in-Some-clause-additions g c = plus_none c.args.self.now.levels.issued

pub returns-in-Some-clause-steps : goal.returns-in-Some-clause-steps
returns-in-Some-clause-steps g c = refl

pub returns-then-is_err-clause-stays : goal.returns-then-is_err-clause-stays
returns-then-is_err-clause-stays g c = subst (λ (k : Kept). AllStay k.levels c.add.new.self) c.self.view_is c.add.ensures.kept.1

pub returns-then-is_err-clause-additions : goal.returns-then-is_err-clause-additions
returns-then-is_err-clause-additions g c =
    ap (λ (l : Levels). l.issued) (when_err c.add.result (sym c.is_err.ensures.value ∙ c.if-is_err.true) c.add.ensures.err)
    ∙ ap (λ (k : Kept). k.levels.issued) c.self.view_is ∙ plus_none c.args.self.now.levels.issued

pub returns-then-is_err-clause-steps : goal.returns-then-is_err-clause-steps
returns-then-is_err-clause-steps g c = c.add.ensures.steps

pub returns-clause-stays : goal.returns-clause-stays
returns-clause-stays g c = subst (λ (k : Kept). AllStay k.levels c.add.new.self) c.self.view_is c.add.ensures.kept.1

pub returns-clause-additions : goal.returns-clause-additions
returns-clause-additions g c =
    let done = sym c.is_err.ensures.value ∙ c.if-is_err.false in
    ap (λ (l : Levels). l.issued) (when_ok c.add.result done c.add.ensures.added).2 ∙ ap (λ (k : Kept). k.levels.issued + 1) c.self.view_is

pub returns-clause-steps : goal.returns-clause-steps
returns-clause-steps g c = c.add.ensures.steps
