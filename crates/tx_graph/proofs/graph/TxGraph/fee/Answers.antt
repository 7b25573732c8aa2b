use Rattle.std.proofs.Common.{◌*◌, true, sym, ap, ◌∙◌, subst, true≢false, refl}
use Rattle.std.proofs.lemmas.Int.{to_z-of_z}
use Rattle.std.specs.Int.{w64}
use Rattle.fee_rate.specs.Limits.{IsFee}
use Rattle.graph_model.specs.declared.names.Refusal.TheVariants.{Fee, Unknown, Memory}
use Rattle.graph_model.specs.Commands.{SetFee}
use Rattle.graph_model.specs.Replies.{Done, Refused}
use Rattle.tx_graph.specs.Kept.{Kept}
use Rattle.levels.specs.Levels.{Levels, GrowsForFee, SetsFeeIn}
use Rattle.levels.specs.Stays.{AllStay}
use Rattle.tx_graph.proofs.Calls.{kept_of, same_levels, from_view, both_views, sound_after, sound_still, when_ok, when_err, rates_agree, fee_step, FreeForFee}
use Rattle.tx_graph.proofs.Rows.{fee_out_row, fee_unknown_row, fee_row}
use Rattle.tx_graph.proofs.Standing.{steps_refused, steps_without_memory}
use Rattle.tx_graph.proofs.Rooms.{levels_fit}
use Rattle.tx_graph.proofs.Unchanged.{all_stay, grows_by_none, not_larger}
use Rattle.tx_graph.proofs.graph.TxGraph.fee.Goals as goal

pub returns-then-not-is_fee-clause-step : goal.returns-then-not-is_fee-clause-step
returns-then-not-is_fee-clause-step g c =
    steps_refused c.args.self.now (SetFee c.args.id c.args.fee) Fee
    (fee_out_row c.args.self.now c.args.id c.args.fee
    (λ fine. true≢false (sym (c.is_fee.ensures.1 (subst IsFee (sym (to_z-of_z w64 c.args.fee c.ranges.fee)) fine)) ∙ c.if-not-is_fee.true)))

pub returns-then-not-is_live-clause-step : goal.returns-then-not-is_live-clause-step
returns-then-not-is_live-clause-step g c =
    let kept = kept_of (64 * g.row.W) c.self.inside.begun c.self.inside.levels in
    let fine = subst IsFee (to_z-of_z w64 c.args.fee c.ranges.fee) (c.is_fee.ensures.0 c.if-not-is_fee.false) in
    both_views kept c.args.self.now (SetFee c.args.id c.args.fee) (Refused (Unknown c.args.id)) c.self.view_is
    (steps_refused kept (SetFee c.args.id c.args.fee) (Unknown c.args.id)
    (fee_unknown_row kept c.args.id c.args.fee fine (λ live. true≢false (sym (c.is_live.ensures.1 live) ∙ c.if-not-is_live.true))))

pub set_fee-requires : goal.set_fee-requires
set_fee-requires g c =
    let kept = kept_of (64 * g.row.W) c.self.inside.begun c.self.inside.levels in (
      levels_fit g.row.W assumption,
      (
        c.is_live.ensures.0 c.if-not-is_live.false,
        (c.is_fee.ensures.0 c.if-not-is_fee.false, rates_agree kept c.self.invariant c.args.id),
      ),
    )

pub invariant_of-self : goal.invariant_of-self
invariant_of-self g c =
    sound_still (64 * g.row.W) c.self.inside.begun c.self.inside.levels c.set_fee.new.self
    (when_err c.set_fee.result (sym c.is_err.ensures.value ∙ c.if-is_err.true) c.set_fee.ensures.err) c.self.invariant

pub returns-then-is_err-clause-step : goal.returns-then-is_err-clause-step
returns-then-is_err-clause-step g c =
    let kept = kept_of (64 * g.row.W) c.self.inside.begun c.self.inside.levels in
    let fine = subst IsFee (to_z-of_z w64 c.args.fee c.ranges.fee) (c.is_fee.ensures.0 c.if-not-is_fee.false) in
    same_levels (64 * g.row.W) c.self.inside.begun c.self.inside.levels c.set_fee.new.self
    c.args.self.now (SetFee c.args.id c.args.fee) (Refused Memory)
    (when_err c.set_fee.result (sym c.is_err.ensures.value ∙ c.if-is_err.true) c.set_fee.ensures.err) c.self.view_is
    (steps_without_memory kept (SetFee c.args.id c.args.fee) tt
    (fee_row kept c.args.id c.args.fee fine (c.is_live.ensures.0 c.if-not-is_live.false)))

pub returns-then-is_err-clause-additions : goal.returns-then-is_err-clause-additions
returns-then-is_err-clause-additions g c =
    ap (λ (l : Levels). l.issued) (when_err c.set_fee.result (sym c.is_err.ensures.value ∙ c.if-is_err.true) c.set_fee.ensures.err)
    ∙ ap (λ (k : Kept). k.levels.issued) c.self.view_is

pub returns-then-is_err-clause-nothing : goal.returns-then-is_err-clause-nothing
returns-then-is_err-clause-nothing g c =
    let fee = to_z-of_z w64 c.args.fee c.ranges.fee in
    subst (FreeForFee c.args.id c.args.fee c.args.steps.now c.set_fee.new.steps) c.self.view_is
    (λ same. (c.set_fee.ensures.still (λ level member. same level member ∙ sym fee)).1)

pub invariant_of-self-2 : goal.invariant_of-self-2
invariant_of-self-2 g c =
    let fee = to_z-of_z w64 c.args.fee c.ranges.fee in
    let done = sym c.is_err.ensures.value ∙ c.if-is_err.false in
    sound_after (kept_of (64 * g.row.W) c.self.inside.begun c.self.inside.levels)
    (kept_of (64 * g.row.W) true c.set_fee.new.self)
    (SetFee c.args.id c.args.fee) Done c.self.invariant c.set_fee.ensures.kept.0
    (fee_step (64 * g.row.W) c.self.inside.begun c.self.inside.levels c.set_fee.new.self c.set_fee.ensures.kept.0
    c.args.id c.args.fee (subst IsFee fee (c.is_fee.ensures.0 c.if-not-is_fee.false)) (c.is_live.ensures.0 c.if-not-is_live.false)
    (subst (λ f. SetsFeeIn c.args.id f c.self.inside.levels c.set_fee.new.self) fee (when_ok c.set_fee.result done c.set_fee.ensures.fee))
    (λ same. (c.set_fee.ensures.still (λ level member. same level member ∙ sym fee)).0))

pub returns-clause-step : goal.returns-clause-step
returns-clause-step g c =
    let fee = to_z-of_z w64 c.args.fee c.ranges.fee in
    let done = sym c.is_err.ensures.value ∙ c.if-is_err.false in
    from_view (kept_of (64 * g.row.W) c.self.inside.begun c.self.inside.levels)
    c.args.self.now (kept_of (64 * g.row.W) true c.set_fee.new.self) (SetFee c.args.id c.args.fee) Done c.self.view_is
    (fee_step (64 * g.row.W) c.self.inside.begun c.self.inside.levels c.set_fee.new.self c.set_fee.ensures.kept.0
    c.args.id c.args.fee (subst IsFee fee (c.is_fee.ensures.0 c.if-not-is_fee.false)) (c.is_live.ensures.0 c.if-not-is_live.false)
    (subst (λ f. SetsFeeIn c.args.id f c.self.inside.levels c.set_fee.new.self) fee (when_ok c.set_fee.result done c.set_fee.ensures.fee))
    (λ same. (c.set_fee.ensures.still (λ level member. same level member ∙ sym fee)).0))

pub returns-clause-additions : goal.returns-clause-additions
returns-clause-additions g c =
    let done = sym c.is_err.ensures.value ∙ c.if-is_err.false in
    (when_ok c.set_fee.result done c.set_fee.ensures.fee).issued ∙ ap (λ (k : Kept). k.levels.issued) c.self.view_is

pub returns-clause-nothing : goal.returns-clause-nothing
returns-clause-nothing g c =
    let fee = to_z-of_z w64 c.args.fee c.ranges.fee in
    subst (FreeForFee c.args.id c.args.fee c.args.steps.now c.set_fee.new.steps) c.self.view_is
    (λ same. (c.set_fee.ensures.still (λ level member. same level member ∙ sym fee)).1)

pub returns-then-is_err-clause-stays : goal.returns-then-is_err-clause-stays
returns-then-is_err-clause-stays g c = subst (λ (k : Kept). AllStay k.levels c.set_fee.new.self) c.self.view_is c.set_fee.ensures.kept.1

pub returns-clause-stays : goal.returns-clause-stays
returns-clause-stays g c = subst (λ (k : Kept). AllStay k.levels c.set_fee.new.self) c.self.view_is c.set_fee.ensures.kept.1

pub is_live-requires : goal.is_live-requires
is_live-requires g c = levels_fit g.row.W assumption

pub returns-then-not-is_fee-clause-stays : goal.returns-then-not-is_fee-clause-stays
returns-then-not-is_fee-clause-stays g c = all_stay c.args.self.now.levels

pub returns-then-not-is_fee-clause-additions : goal.returns-then-not-is_fee-clause-additions
returns-then-not-is_fee-clause-additions g c = refl

pub returns-then-not-is_fee-clause-nothing : goal.returns-then-not-is_fee-clause-nothing
returns-then-not-is_fee-clause-nothing g c same = refl

pub returns-then-not-is_fee-clause-refused : goal.returns-then-not-is_fee-clause-refused
returns-then-not-is_fee-clause-refused g c lacks = refl

pub returns-then-not-is_fee-clause-grew : goal.returns-then-not-is_fee-clause-grew
returns-then-not-is_fee-clause-grew g c = not_larger c.args.steps.now

pub returns-then-not-is_fee-clause-steps : goal.returns-then-not-is_fee-clause-steps
returns-then-not-is_fee-clause-steps g c mains tops one two = grows_by_none _ c.args.steps.now

pub returns-then-not-is_live-clause-stays : goal.returns-then-not-is_live-clause-stays
returns-then-not-is_live-clause-stays g c = all_stay c.args.self.now.levels

pub returns-then-not-is_live-clause-additions : goal.returns-then-not-is_live-clause-additions
returns-then-not-is_live-clause-additions g c = refl

pub returns-then-not-is_live-clause-nothing : goal.returns-then-not-is_live-clause-nothing
returns-then-not-is_live-clause-nothing g c same = refl

pub returns-then-not-is_live-clause-refused : goal.returns-then-not-is_live-clause-refused
returns-then-not-is_live-clause-refused g c lacks = refl

pub returns-then-not-is_live-clause-grew : goal.returns-then-not-is_live-clause-grew
returns-then-not-is_live-clause-grew g c = not_larger c.args.steps.now

pub returns-then-not-is_live-clause-steps : goal.returns-then-not-is_live-clause-steps
returns-then-not-is_live-clause-steps g c mains tops one two = grows_by_none _ c.args.steps.now

pub returns-then-is_err-clause-refused : goal.returns-then-is_err-clause-refused
returns-then-is_err-clause-refused g c lacks = absurd (lacks refl)

pub returns-then-is_err-clause-grew : goal.returns-then-is_err-clause-grew
returns-then-is_err-clause-grew g c = c.set_fee.ensures.grew

pub returns-then-is_err-clause-steps : goal.returns-then-is_err-clause-steps
returns-then-is_err-clause-steps g c =
    subst (λ (k : Kept). GrowsForFee c.args.id c.args.steps.now c.set_fee.new.steps k.levels) c.self.view_is c.set_fee.ensures.steps

pub returns-clause-refused : goal.returns-clause-refused
returns-clause-refused g c = tt

pub returns-clause-grew : goal.returns-clause-grew
returns-clause-grew g c = c.set_fee.ensures.grew

pub returns-clause-steps : goal.returns-clause-steps
returns-clause-steps g c = subst (λ (k : Kept). GrowsForFee c.args.id c.args.steps.now c.set_fee.new.steps k.levels) c.self.view_is c.set_fee.ensures.steps
