use Rattle.std.proofs.Common.{◌<◌, ◌^◌, arith, refl, sym, subst, ap, ◌∙◌, inl, inr}
use Rattle.std.specs.Prelude.{Contains}
use Rattle.std.proofs.lemmas.Bool.{cases_eq}
use Rattle.fee_rate.specs.Limits.{IsSum}
use Rattle.graphs.specs.Rates.{sums}
use Rattle.graphs.specs.Certificates.{Certifies, rate_in}
use Rattle.certificate.specs.declared.owned.Part.{Part}
use Rattle.certificate.specs.Accounts.{IsEdge, amount_of}
use Rattle.certificate.specs.Parts.{ids_at, flows_at}
use Rattle.certificate.proofs.FallingLemmas.{rate_read}
use Rattle.certificate.proofs.FlowLemmas.{IsCertified, flows_here, all_certified, certified_part}
use Rattle.certificate.proofs.PartLemmas.{ids_here, order_has}
use Rattle.certificate.proofs.flows.check_parts.Goals as goal

pub is_certified-requires-clause-members : goal.is_certified-requires-clause-members
is_certified-requires-clause-members c id here =
    let ids = c.as_slice-ids.ensures ∙ ids_here c.args.parts.now c.loop-at.at c.index-parts-at.result c.loop-at-test.true c.index-parts-at.is in
    c.requires.members id (order_has c.args.parts.now c.loop-at.at id c.loop-at-test.true (subst (λ l. Contains l id) ids here))

pub is_certified-requires-clause-rate : goal.is_certified-requires-clause-rate
is_certified-requires-clause-rate c =
    let rate = rate_read c.args.parts.now c.loop-at.at c.index-parts-at.result c.loop-at-test.true ∙ sym (ap (λ (p : Part). p.rate) c.index-parts-at.is) in
    subst (λ s. IsSum s) rate (c.requires.rates c.loop-at.at c.loop-at-test.true).0

pub is_certified-requires-clause-summed : goal.is_certified-requires-clause-summed
is_certified-requires-clause-summed c =
    let ids = c.as_slice-ids.ensures ∙ ids_here c.args.parts.now c.loop-at.at c.index-parts-at.result c.loop-at-test.true c.index-parts-at.is in
    let rate = rate_read c.args.parts.now c.loop-at.at c.index-parts-at.result c.loop-at-test.true ∙ sym (ap (λ (p : Part). p.rate) c.index-parts-at.is) in
    sym rate ∙ c.requires.summed c.loop-at.at c.loop-at-test.true ∙ ap (sums (rate_in c.args.txs.now)) (sym ids)

pub is_certified-requires-clause-some : goal.is_certified-requires-clause-some
is_certified-requires-clause-some c flow here =
    let flows = c.as_slice-flows.ensures ∙ flows_here c.args.parts.now c.loop-at.at c.index-parts-at.result c.loop-at-test.true c.index-parts-at.is in
    c.requires.payable.some c.loop-at.at flow c.loop-at-test.true (subst (λ l. Contains l flow) flows here)

pub is_certified-requires-clause-total : goal.is_certified-requires-clause-total
is_certified-requires-clause-total c =
    let flows = c.as_slice-flows.ensures ∙ flows_here c.args.parts.now c.loop-at.at c.index-parts-at.result c.loop-at-test.true c.index-parts-at.is in
    subst (λ l. amount_of l < 2 ^ 127) (sym flows) (c.requires.payable.total c.loop-at.at c.loop-at-test.true)

pub returns-then-not-is_certified : goal.returns-then-not-is_certified
returns-then-not-is_certified c =
    let ids = c.as_slice-ids.ensures ∙ ids_here c.args.parts.now c.loop-at.at c.index-parts-at.result c.loop-at-test.true c.index-parts-at.is in
    let flows = c.as_slice-flows.ensures ∙ flows_here c.args.parts.now c.loop-at.at c.index-parts-at.result c.loop-at-test.true c.index-parts-at.is in (
      refl,
      λ h. c.if-not-is_certified.ensures.certified
          (subst (λ l. Certifies (rate_in c.args.txs.now) (IsEdge c.args.tables.now) l c.as_slice-flows.result.now) (sym ids)
          (subst (λ f. Certifies (rate_in c.args.txs.now) (IsEdge c.args.tables.now) (ids_at c.args.parts.now c.loop-at.at) f)
          (sym flows) (certified_part _ _ c.args.parts.now c.loop-at.at c.loop-at-test.true h))),
    )

pub loop-at-preserved : goal.loop-at-preserved
loop-at-preserved c =
    let ids = c.as_slice-ids.ensures ∙ ids_here c.args.parts.now c.loop-at.at c.index-parts-at.result c.loop-at-test.true c.index-parts-at.is in
    let flows = c.as_slice-flows.ensures ∙ flows_here c.args.parts.now c.loop-at.at c.index-parts-at.result c.loop-at-test.true c.index-parts-at.is in
    let here : IsCertified (rate_in c.args.txs.now) (IsEdge c.args.tables.now) c.args.parts.now c.loop-at.at =
    subst (λ l. Certifies (rate_in c.args.txs.now) (IsEdge c.args.tables.now) l (flows_at c.args.parts.now c.loop-at.at)) ids
    (subst (λ f. Certifies (rate_in c.args.txs.now) (IsEdge c.args.tables.now) c.as_slice-ids.result.now f) flows c.if-not-is_certified.ensures.certified)
    in (
      c.is_certified.ensures.bound,
      λ k less.
          elim (cases_eq k c.loop-at.at) [
            | inl same ↦ subst (λ i. IsCertified (rate_in c.args.txs.now) (IsEdge c.args.tables.now) c.args.parts.now i) (sym same) here
            | inr other ↦ c.loop-at.invariant.1 k (omega arith)
          ],
    )

pub returns : goal.returns
returns c = all_certified _ _ c.args.parts.now (λ k less. c.loop-at.invariant.1 k (omega arith))
