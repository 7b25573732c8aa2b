-- One part more.
use Rattle.std.proofs.Common.{◌≡◌, ◌<◌, ◌≤◌, ◌+◌, ◌-◌, ◌*◌, ◌+ℤ◌, ℤ, true, false, unsigned_abs, rules, sym, ap, ◌∙◌, subst, arith, SFits, to_z, of_z}
use Rattle.std.specs.Int.{w64, w128}
use Rattle.std.proofs.lemmas.Int.{to_z-of_z}
use Rattle.fee_rate.specs.declared.limits.TheConstants.{MAX_FEE}
use Rattle.cluster_store.specs.Walks.{shown_part}
use Rattle.block_builder.specs.Building.{is_marked}
use Rattle.block_builder.proofs.Drafting.{drafts_passed, drafts_large, drafts_taken, fee_within, ok_then}
use Rattle.block_builder.proofs.draft.Draft.offer.Goals as goal

pub returns-then-has_mark-clause-offers : goal.returns-then-has_mark-clause-offers
returns-then-has_mark-clause-offers c gone draft =
    let d = c.args.self.now in (
      false,
      drafts_passed d.limit d.ids.items d.fee d.left gone (shown_part c.args.shown) d.marks.items draft
          (sym (ap (λ marks. is_marked marks c.args.shown.number) c.as_slice.ensures.value) ∙ sym c.has_mark.ensures ∙ c.if-has_mark.true),
    )

pub returns-then-rate-self-clause-offers : goal.returns-then-rate-self-clause-offers
returns-then-rate-self-clause-offers c =
    let d = c.args.self.now in
    let over : d.left < c.args.shown.part.rate.size = search rules in
    ok_then c.mark.result c.mark.ensures.marked (λ adds gone draft. (
      false,
      drafts_large d.limit d.ids.items d.fee d.left gone (shown_part c.args.shown) d.marks.items draft c.mark.new.marks.items adds over,
    ))

pub plus-self-requires : goal.plus-self-requires
plus-self-requires c =
    let d = c.args.self.now in
    let fine : SFits w128 d.fee = search rules in
    subst (λ (fee : ℤ). unsigned_abs fee ≤ MAX_FEE * d.limit) (sym (to_z-of_z w128 d.fee fine))
    (fee_within d.limit d.ids.items d.fee d.left d.marks.items c.requires.draft.0 c.requires.draft.1)

pub returns-clause-offers : goal.returns-clause-offers
returns-clause-offers c gone draft =
    let d = c.args.self.now in
    let rate = c.args.shown.part.rate in
    let fits : rate.size ≤ d.left = search rules in
    let rest : d.left - rate.size + rate.size ≡ d.left = omega (arith, fits) in
    let fine : SFits w128 d.fee = search rules in
    let fine_more : SFits w64 rate.fee = search rules in
    let paid : c.plus-self.result ≡ d.fee +ℤ rate.fee = c.plus-self.ensures ∙ (λ i. to_z-of_z w128 d.fee fine i +ℤ to_z-of_z w64 rate.fee fine_more i) in
    let fine_paid : SFits w128 c.plus-self.result = search rules in (
      true,
      drafts_taken d.limit d.ids.items d.fee d.left gone (shown_part c.args.shown) d.marks.items draft c.extend_from_slice.new.self.items
          (to_z w128 (of_z w128 c.plus-self.result)) (d.left - rate.size)
          (sym (ap (λ marks. is_marked marks c.args.shown.number) c.as_slice.ensures.value) ∙ sym c.has_mark.ensures ∙ c.if-has_mark.false) fits
          c.requires.pays c.in_ok-extend_from_slice.ensures.items (to_z-of_z w128 c.plus-self.result fine_paid ∙ paid) rest,
    )
